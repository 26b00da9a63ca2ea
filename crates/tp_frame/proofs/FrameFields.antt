-- The fields of a frame: what is read is spelled so, what is spelled is read again, and a fault stays.
use Rattle.std.proofs.Common.{◌≡◌, ℕ, zero, suc, ◌+◌, ◌-◌, ◌^◌, ◌<◌, ◌≤◌, Bool, true, false, cond, eqb, ltb, leb, List, [], ◌∷◌, ◌++◌, length, Result, Ok, Err, refl, sym, ap, subst, ◌∙◌, append_assoc, append-nil, arith, eqb-true, eq-eqb, ltb-true, lt-ltb, le-leb, leb-true}
use Rattle.std.specs.Int.{w32, to_be_bytes}
use Rattle.tp_codec.specs.Prefix.{byte_at, bytes_at, number_at}
use Rattle.tp_codec.specs.Reading.{Reads, give, and_then, or_fail, require}
use Rattle.tp_codec.proofs.Fields.{AreBytes, AreBytes-cons, AreBytes-rest, IsField, as_field, give_field, fail_field, then_field, require_field, byte_field, bytes_field, AreSoMany, number_field, wide32}
use Rattle.tp_frame.specs.declared.error.FrameError.{FrameError}
use Rattle.tp_frame.specs.declared.error.FrameError.TheVariants.{TooLong, BadKind, BadHello}
use Rattle.tp_frame.specs.declared.frame.Frame.{Frame}
use Rattle.tp_frame.specs.declared.frame.Frame.TheVariants.{Hello, Sync, Done, Refusal}
use Rattle.tp_frame.specs.declared.reading.Head.{Head}
use Rattle.tp_frame.specs.declared.reading.NoFrame.{NoFrame}
use Rattle.tp_frame.specs.declared.reading.NoFrame.TheVariants.{Missing, Fault}
use Rattle.tp_frame.specs.Frame.{Body, body_of, body_len, spelling_of_body, frame_spelling, IsTypedFrame, IsFrame}
use Rattle.tp_frame.specs.Reading.{head_at, body_at, hello_of, done_of, refusal_frame_of, frame_after, frame_or_fault, frame_at}

-- ---- the head

abbrev headed : ℕ → ℕ → Head
headed kind len = record { kind = kind; len = len }

-- the bytes before the content: the length of the body and the kind
abbrev pub spelling_of_head : Head → List ℕ
spelling_of_head h = to_be_bytes w32 (h.len + 1) ++ h.kind ∷ []

-- what is after the length
abbrev kind_after : ℕ → Reads NoFrame Head
kind_after len = and_then (or_fail Missing byte_at) (λ kind. and_then (require (ltb kind 4) (Fault BadKind)) (λ _. give (headed kind (len - 1))))

abbrev spell_kind : Head → List ℕ
spell_kind h = (h.kind ∷ []) ++ []

abbrev KindFits : ℕ → Head → Type 0
KindFits len h = (h.kind < 256) × ((ltb h.kind 4 ≡ true) × (h ≡ headed h.kind (len - 1)))

kind_field : (len : ℕ) → IsField Missing (kind_after len) spell_kind (KindFits len)
kind_field len =
    then_field Missing (or_fail Missing byte_at) (λ kind. and_then (require (ltb kind 4) (Fault BadKind)) (λ _. give (headed kind (len - 1)))) (λ b. b ∷ []) (λ b. b < 256)
    (λ (h : Head). h.kind) (λ _. []) (λ kind h. (ltb kind 4 ≡ true) × (h ≡ headed kind (len - 1)))
    (byte_field Missing)
    (λ kind lt. require_field Missing (ltb kind 4) (Fault BadKind) (give (headed kind (len - 1))) (λ _. []) (λ h. h ≡ headed kind (len - 1)) (λ _. give_field Missing (headed kind (len - 1))))
    (λ kind h fit. ap (λ (x : Head). x.kind) fit.1)

abbrev LenFits : ℕ → Head → Type 0
LenFits len h = (leb len 16777216 ≡ true) × ((leb 1 len ≡ true) × KindFits len h)

len_is : (len : ℕ) (h : Head) → LenFits len h → h.len + 1 ≡ len
len_is len h fit =
    let some : 1 ≤ len = leb-true 1 len fit.1.0 in
    let same : h.len ≡ len - 1 = ap (λ (x : Head). x.len) fit.1.1.1.1 in
    omega arith

-- a known kind, and a length within the limit
pub record IsHead (h : Head) : Type 0 where
  pub kind : h.kind < 4
  pub size : h.len + 1 ≤ 16777216

head_is : (h : Head) → LenFits (h.len + 1) h → IsHead h
head_is h fit = record { kind = ltb-true h.kind 4 fit.1.1.1.0; size = leb-true (h.len + 1) 16777216 fit.0 }

head_fits : (h : Head) → IsHead h → LenFits (h.len + 1) h
head_fits h is =
    let same : headed h.kind (h.len + 1 - 1) ≡ h = ap (λ (n : ℕ). headed h.kind n) (let e : h.len + 1 - 1 ≡ h.len = omega arith in e) in
    (le-leb (h.len + 1) 16777216 is.size, (le-leb 1 (h.len + 1) (omega arith), (omega (arith, is.kind), (lt-ltb h.kind 4 is.kind, sym same))))

pub head_field : IsField Missing head_at spelling_of_head IsHead
unfolding head_at
head_field =
    as_field Missing head_at (λ h. to_be_bytes w32 (h.len + 1) ++ spell_kind h) spelling_of_head (λ h. (h.len + 1 < 2 ^ 32) × LenFits (h.len + 1) h) IsHead
    (then_field Missing (or_fail Missing (number_at w32))
    (λ len. and_then (require (leb len 16777216) (Fault TooLong)) (λ _. and_then (require (leb 1 len) (Fault BadKind)) (λ _. kind_after len)))
    (to_be_bytes w32) (λ n. n < 2 ^ 32) (λ (h : Head). h.len + 1) spell_kind LenFits
    (number_field Missing w32 (2 ^ 32) wide32)
    (λ len lt. require_field Missing (leb len 16777216) (Fault TooLong) (and_then (require (leb 1 len) (Fault BadKind)) (λ _. kind_after len)) spell_kind (λ h. (leb 1 len ≡ true) × KindFits len h)
    (λ _. require_field Missing (leb 1 len) (Fault BadKind) (kind_after len) spell_kind (KindFits len) (λ _. kind_field len)))
    len_is)
    (λ h fit. refl)
    (λ h fit. head_is h fit.1)
    (λ h is. (omega (arith, is.size), head_fits h is))

-- ---- the body

abbrev pub made : ℕ → List ℕ → Body
made kind content = record { kind = kind; content = content }

-- the head that a body has
abbrev head_of : Body → Head
head_of b = headed b.kind (length b.content)

-- what is after the head
abbrev content_after : Head → Reads NoFrame Body
content_after h = and_then (or_fail Missing (bytes_at h.len)) (λ content. give (made h.kind content))

abbrev spell_content : Body → List ℕ
spell_content b = b.content ++ []

abbrev ContentFits : Head → Body → Type 0
ContentFits h b = AreSoMany h.len b.content × (b ≡ made h.kind b.content)

content_field : (h : Head) → IsField Missing (content_after h) spell_content (ContentFits h)
content_field h =
    then_field Missing (or_fail Missing (bytes_at h.len)) (λ content. give (made h.kind content)) (λ c. c) (AreSoMany h.len)
    (λ (b : Body). b.content) (λ _. []) (λ content b. b ≡ made h.kind content)
    (bytes_field Missing h.len)
    (λ content fit. give_field Missing (made h.kind content))
    (λ content b e. ap (λ (x : Body). x.content) e)

head_of_content : (h : Head) (b : Body) → ContentFits h b → head_of b ≡ h
head_of_content h b fit =
    let kind : b.kind ≡ h.kind = ap (λ (x : Body). x.kind) fit.1 in
    ap (λ (k : ℕ). headed k (length b.content)) kind ∙ ap (λ (n : ℕ). headed h.kind n) fit.0.count

-- a body of a known kind, of bytes, and within the limit
pub record IsBody (b : Body) : Type 0 where
  pub kind : b.kind < 4
  pub content : AreBytes b.content
  pub size : body_len b ≤ 16777216

pub body_field : IsField Missing body_at spelling_of_body IsBody
unfolding body_at
body_field =
    as_field Missing body_at (λ b. spelling_of_head (head_of b) ++ spell_content b) spelling_of_body (λ b. IsHead (head_of b) × ContentFits (head_of b) b) IsBody
    (then_field Missing head_at content_after spelling_of_head IsHead head_of spell_content ContentFits head_field (λ h fit. content_field h) head_of_content)
    (λ b fit. ap (λ (c : List ℕ). spelling_of_head (head_of b) ++ c) (append-nil b.content) ∙ append_assoc (to_be_bytes w32 (body_len b)) (b.kind ∷ []) b.content)
    (λ b fit. record { kind = fit.0.kind; content = fit.1.0.each; size = fit.0.size })
    (λ b is. (record { kind = is.kind; size = is.size }, (record { count = refl; each = is.content }, refl)))

-- ---- the frame

judged_field : (r : Result Frame FrameError) → IsField Missing (frame_or_fault r) (λ _. []) (λ f. r ≡ Ok f)
unfolding frame_or_fault
judged_field (Ok g) =
    as_field Missing (give g) (λ _. []) (λ _. []) (λ f. f ≡ g) (λ f. (let r : Result Frame FrameError = Ok g in r) ≡ Ok f) (give_field Missing g)
    (λ f fit. refl) (λ f fit. ap (λ (x : Frame). Ok x) (sym fit)) (λ f fit. cc)
judged_field (Err e) =
    as_field Missing (frame_or_fault (Err e)) (λ _. []) (λ _. []) (λ _. ⊥) (λ f. (let r : Result Frame FrameError = Err e in r) ≡ Ok f) (fail_field Missing (Fault e) (λ _. []))
    (λ f fit. refl) (λ f fit. absurd fit) (λ f fit. absurd cc)

-- A frame that is after a kind has that kind and content, and is typed where the content is bytes.
abbrev pub StandsBehind : ℕ → List ℕ → Frame → Type 0
StandsBehind kind content f = (body_of f ≡ made kind content) × (AreBytes content → IsTypedFrame f)

is_ok_of : (kind : ℕ) (content : List ℕ) (g f : Frame) → (let r : Result Frame FrameError = Ok g in r) ≡ Ok f → StandsBehind kind content g → StandsBehind kind content f
is_ok_of kind content g f e s = let same : g ≡ f = cc in subst (StandsBehind kind content) same s

hello_present : (content : List ℕ) (f : Frame) → hello_of content ≡ Ok f → StandsBehind 0 content f
hello_present [] f e = absurd cc
hello_present (version ∷ id) f e = by_test (eqb (length id) 16) refl e
  where
    by_test : (test : Bool) → eqb (length id) 16 ≡ test → (let r : Result Frame FrameError = cond test (Ok (Hello version (record { 0 = id }))) (Err BadHello) in r) ≡ Ok f → StandsBehind 0 (version ∷ id) f
    by_test true t e = is_ok_of 0 (version ∷ id) (Hello version (record { 0 = id })) f e (refl, λ fits. (fits 0, eqb-true _ _ t, AreBytes-rest (version ∷ []) (version ∷ id) id refl fits))
    by_test false t e = absurd cc

done_present : (content : List ℕ) (f : Frame) → done_of content ≡ Ok f → StandsBehind 2 content f
done_present [] f e = is_ok_of 2 [] Done f e (refl, λ fits. tt)
done_present (b ∷ bytes) f e = absurd cc

refusal_present : (content : List ℕ) (f : Frame) → refusal_frame_of content ≡ Ok f → StandsBehind 3 content f
refusal_present [] f e = absurd cc
refusal_present (code ∷ []) f e = is_ok_of 3 (code ∷ []) (Refusal code) f e (refl, λ fits. fits 0)
refusal_present (code ∷ b ∷ bytes) f e = absurd cc

pub present : (kind : ℕ) (content : List ℕ) (f : Frame) → frame_after kind content ≡ Ok f → StandsBehind kind content f
present zero content f e = hello_present content f e
present (suc zero) content f e = is_ok_of 1 content (Sync content) f e (refl, λ fits. fits)
present (suc (suc zero)) content f e = done_present content f e
present (suc (suc (suc zero))) content f e = refusal_present content f e
present (suc (suc (suc (suc kind)))) content f e = absurd cc

-- a frame is after its kind
after_own : (f : Frame) → IsTypedFrame f → frame_after (body_of f).kind (body_of f).content ≡ Ok f
after_own (Hello version id) typed = rw (eq-eqb (length id.0) 16 typed.1) refl
after_own (Sync bytes) typed = refl
after_own Done typed = refl
after_own (Refusal code) typed = refl

no_bytes : AreBytes []
no_bytes i = omega arith

own_body : (f : Frame) → IsTypedFrame f → body_len (body_of f) ≤ 16777216 → IsBody (body_of f)
own_body (Hello version id) typed size = record { kind = omega arith; content = AreBytes-cons version id.0 typed.0 typed.2; size = size }
own_body (Sync bytes) typed size = record { kind = omega arith; content = typed; size = size }
own_body Done typed size = record { kind = omega arith; content = no_bytes; size = size }
own_body (Refusal code) typed size = record { kind = omega arith; content = AreBytes-cons code [] typed no_bytes; size = size }

pub frame_field : IsField Missing frame_at frame_spelling IsFrame
unfolding frame_at frame_spelling
frame_field =
    as_field Missing frame_at (λ f. spelling_of_body (body_of f) ++ []) frame_spelling (λ f. IsBody (body_of f) × (frame_after (body_of f).kind (body_of f).content ≡ Ok f)) IsFrame
    (then_field Missing body_at (λ body. frame_or_fault (frame_after body.kind body.content)) spelling_of_body IsBody
    body_of (λ _. []) (λ body f. frame_after body.kind body.content ≡ Ok f)
    body_field
    (λ body fit. judged_field (frame_after body.kind body.content))
    (λ body f e. (present body.kind body.content f e).0))
    (λ f fit. append-nil (spelling_of_body (body_of f)))
    (λ f fit. record { typed = (present (body_of f).kind (body_of f).content f fit.1).1 fit.0.content; size = fit.0.size })
    (λ f is. (own_body f is.typed is.size, after_own f is.typed))
