-- What is at the front of bytes once the head of a frame is there.
use Rattle.std.proofs.Common.{◌≡◌, ℕ, zero, suc, ◌+◌, ◌-◌, ◌<◌, ◌≤◌, inl, inr, Bool, true, false, cond, ltb, leb, eqb-true, List, [], ◌∷◌, ◌++◌, length, take, drop, slice_get, Option, Some, None, Result, Ok, Err, refl, sym, ap, ◌∙◌, append_assoc, arith, length-append, eqb, ltb-true, lt-ltb, le-ltb}
use Rattle.std.specs.Int.{w32, to_be_bytes, from_be_bytes}
use Rattle.std.proofs.lemmas.Bool.{cases_lt}
use Rattle.std.proofs.lemmas.List.{drop_at, length-take-le, length-drop}
use Rattle.std.proofs.lemmas.Option.{slice_get_within}
use Rattle.tp_codec.specs.Prefix.{byte_at, bytes_at, number_at}
use Rattle.tp_codec.specs.Reading.{Reads, and_next, and_then, found_or, or_fail, pass_or_fail, require, give}
use Rattle.tp_codec.proofs.Fields.{AreBytes, reads_more}
use Rattle.tp_frame.specs.declared.error.FrameError.{FrameError}
use Rattle.tp_frame.specs.declared.error.FrameError.TheVariants.{TooLong, BadKind, BadHello, OutOfMemory}
use Rattle.tp_frame.specs.declared.frame.Frame.{Frame}
use Rattle.tp_frame.specs.declared.frame.Frame.TheVariants.{Hello, Sync, Done, Refusal}
use Rattle.tp_frame.specs.declared.reading.Head.{Head}
use Rattle.tp_frame.specs.declared.reading.NoFrame.{NoFrame}
use Rattle.tp_frame.specs.declared.reading.NoFrame.TheVariants.{Missing, Fault}
use Rattle.tp_frame.specs.Frame.{Body, body_of}
use Rattle.tp_frame.specs.Openings.{right_len, fault_of, IsNotSync, IsDue}
use Rattle.tp_frame.specs.Parts.{HasSyncKind}
use Rattle.tp_frame.specs.Reading.{head_at, body_at, frame_after, frame_at, IsUnfinishedFrame, ShowsFault}
use Rattle.tp_frame.proofs.FrameFields.{spelling_of_head, IsHead, head_field, made, present}
use Rattle.tp_frame.proofs.StreamLaws.{fault_stays}
use Rattle.tp_frame.proofs.FrontSteps.{none_is, other_front, fault_is}

-- ---- a head and what comes after it

-- the content is there
pub body_there : (bytes : List ℕ) (h : Head) (rest content back : List ℕ) → head_at bytes ≡ Ok (h, rest) → or_fail Missing (bytes_at h.len) rest ≡ Ok (content, back) → body_at bytes ≡ Ok (made h.kind content, back)
unfolding body_at and_then and_next give
body_there bytes h rest content back e f = rw (e, f) refl

-- the content is missing
pub body_missing : (bytes : List ℕ) (h : Head) (rest : List ℕ) (d : NoFrame) → head_at bytes ≡ Ok (h, rest) → or_fail Missing (bytes_at h.len) rest ≡ Err d → body_at bytes ≡ Err d
unfolding body_at and_then and_next
body_missing bytes h rest d e f = rw (e, f) refl

-- no head, no body
pub body_none : (bytes : List ℕ) (d : NoFrame) → head_at bytes ≡ Err d → body_at bytes ≡ Err d
unfolding body_at and_then and_next
body_none bytes d e = rw e refl

content_short : (n : ℕ) (rest : List ℕ) → length rest < n → or_fail Missing (bytes_at n) rest ≡ Err Missing
unfolding or_fail found_or bytes_at
content_short n rest lt = rw (lt-ltb _ _ lt) refl

pub content_long : (n : ℕ) (rest : List ℕ) → n ≤ length rest → or_fail Missing (bytes_at n) rest ≡ Ok (take n rest, drop n rest)
unfolding or_fail found_or bytes_at
content_long n rest le = rw (le-ltb _ _ le) refl

-- A content that is missing is short.
pub short_content : (n : ℕ) (rest : List ℕ) (d : NoFrame) → or_fail Missing (bytes_at n) rest ≡ Err d → length rest < n
short_content n rest d e =
    elim (cases_lt (length rest) n) [
      | inl lt ↦ lt
      | inr le ↦ absurd (let long = content_long n rest le in cc)
    ]

pub waits_after : (bytes : List ℕ) (h : Head) (rest : List ℕ) → head_at bytes ≡ Ok (h, rest) → length rest < h.len → IsUnfinishedFrame bytes
waits_after bytes h rest e lt = none_is bytes Missing (body_missing bytes h rest Missing e (content_short h.len rest lt))

pub missing_apart : (d : NoFrame) → d ≡ Missing → d ≡ Fault OutOfMemory → ⊥
missing_apart d missing fault = let same : Missing ≡ Fault OutOfMemory = sym missing ∙ fault in cc

-- ---- frames of a wrong length

hello_wrong : (content : List ℕ) → (length content ≡ 17 → ⊥) → frame_after 0 content ≡ Err BadHello
hello_wrong [] apart = refl
hello_wrong (version ∷ id) apart = by_test (eqb (length id) 16) refl
  where
    by_test : (test : Bool) → eqb (length id) 16 ≡ test → cond test (let r : Result Frame FrameError = Ok (Hello version (record { 0 = id })) in r) (Err BadHello) ≡ Err BadHello
    by_test true t = absurd (apart (ap suc (eqb-true _ _ t)))
    by_test false t = refl

done_wrong : (content : List ℕ) → (length content ≡ 0 → ⊥) → frame_after 2 content ≡ Err BadKind
done_wrong [] apart = absurd (apart refl)
done_wrong (b ∷ bytes) apart = refl

refusal_wrong : (content : List ℕ) → (length content ≡ 1 → ⊥) → frame_after 3 content ≡ Err BadKind
refusal_wrong [] apart = refl
refusal_wrong (code ∷ []) apart = absurd (apart refl)
refusal_wrong (code ∷ b ∷ bytes) apart = refl

wrong_len : (kind : ℕ) (content : List ℕ) → (kind ≡ 1 → ⊥) → (length content ≡ right_len kind → ⊥) → frame_after kind content ≡ Err (fault_of kind)
wrong_len zero content other apart = hello_wrong content apart
wrong_len (suc zero) content other apart = absurd (other refl)
wrong_len (suc (suc zero)) content other apart = done_wrong content apart
wrong_len (suc (suc (suc zero))) content other apart = refusal_wrong content apart
wrong_len (suc (suc (suc (suc kind)))) content other apart = refl

no_memory : (kind : ℕ) → fault_of kind ≡ OutOfMemory → ⊥
no_memory zero e = cc
no_memory (suc kind) e = cc

-- A frame of a wrong length has its fault once as many bytes came as its length says.
shows_after : (bytes : List ℕ) (h : Head) (rest : List ℕ) → head_at bytes ≡ Ok (h, rest) → (h.kind ≡ 1 → ⊥) → (h.len ≡ right_len h.kind → ⊥) → h.len ≤ length rest → ShowsFault bytes (fault_of h.kind)
shows_after bytes h rest e other apart le =
    let body = body_there bytes h rest (take h.len rest) (drop h.len rest) e (content_long h.len rest le) in
    fault_is bytes (made h.kind (take h.len rest)) (drop h.len rest) (fault_of h.kind) body
    (wrong_len h.kind (take h.len rest) other (λ same. apart (sym (length-take-le h.len rest le) ∙ same)))

pub wrong_is_due : (bytes : List ℕ) (h : Head) (rest : List ℕ) → AreBytes bytes → head_at bytes ≡ Ok (h, rest) → (h.kind ≡ 1 → ⊥) → (h.len ≡ right_len h.kind → ⊥) → IsDue bytes (h.len - length rest) (fault_of h.kind)
wrong_is_due bytes h rest fits e other apart = record {
  waits = λ more lt. waits_after (bytes ++ more) h (rest ++ more) (with more) (omega (arith, length-append rest more));
  shows = λ more le. shows_after (bytes ++ more) h (rest ++ more) (with more) other apart (omega (arith, length-append rest more));
  memory = no_memory h.kind;
}
  where
    with : (more : List ℕ) → head_at (bytes ++ more) ≡ Ok (h, rest ++ more)
    with more = reads_more Missing head_at spelling_of_head IsHead head_field bytes more h rest fits e

-- A fault that shows is due at once.
pub fault_is_due : (bytes : List ℕ) (d : FrameError) → AreBytes bytes → ShowsFault bytes d → (d ≡ OutOfMemory → ⊥) → IsDue bytes 0 d
fault_is_due bytes d fits shows apart = record {
  waits = λ more lt. absurd (omega arith);
  shows = λ more le. fault_stays bytes more d fits shows;
  memory = apart;
}

-- ---- the other frames

sync_apart : (kind : ℕ) (content : List ℕ) (f : Frame) → (kind ≡ 1 → ⊥) → body_of f ≡ made kind content → IsNotSync f
sync_apart kind content (Hello version id) other e = tt
sync_apart kind content (Sync bytes) other e = other (sym (ap (λ (b : Body). b.kind) e))
sync_apart kind content Done other e = tt
sync_apart kind content (Refusal code) other e = tt

pub other_is : (kind : ℕ) (content : List ℕ) (f : Frame) → (kind ≡ 1 → ⊥) → frame_after kind content ≡ Ok f → IsNotSync f
other_is kind content f other e = sync_apart kind content f other (present kind content f e).0

content_len : (n : ℕ) (rest content back : List ℕ) → or_fail Missing (bytes_at n) rest ≡ Ok (content, back) → length content ≡ n
content_len n rest content back e =
    elim (cases_lt (length rest) n) [
      | inl lt ↦ absurd (let short = content_short n rest lt in cc)
      | inr le ↦ (let long = content_long n rest le in let pair : (take n rest, drop n rest) ≡ (content, back) = cc in
          ap length (sym (ap (λ (p : List ℕ × List ℕ). p.0) pair)) ∙ length-take-le n rest le)
    ]

pub whole_is : (bytes : List ℕ) (h : Head) (rest content back : List ℕ) (f : Frame) → AreBytes bytes → head_at bytes ≡ Ok (h, rest) → or_fail Missing (bytes_at h.len) rest ≡ Ok (content, back) → (h.kind ≡ 1 → ⊥)
    → frame_after h.kind content ≡ Ok f → (5 + h.len ≤ length bytes) × (frame_at bytes ≡ Ok (f, drop (5 + h.len) bytes)) × IsNotSync f
whole_is bytes h rest content back f fits e there other beyond =
    let len = content_len h.len rest content back there in
    let front = other_front bytes (made h.kind content) back f fits (body_there bytes h rest content back e there) beyond in
    let all = rw len at front in
    (all.0, all.1, other_is h.kind content f other beyond)

-- ---- where bytes are missing

by_kind : (test : Bool) (rest : List ℕ) (h : Head) → and_next (pass_or_fail test (Fault BadKind) rest) (λ _. give {E = NoFrame} h) ≡ Err Missing → ⊥
unfolding and_next pass_or_fail give
by_kind true rest h e = cc
by_kind false rest h e = cc

kind_short : (len : ℕ) (rest : List ℕ) → and_then (or_fail Missing byte_at) (λ kind. and_then (require (ltb kind 4) (Fault BadKind)) (λ _. give {E = NoFrame} (let h : Head = record { kind = kind; len = len - 1 } in h))) rest ≡ Err Missing → length rest < 1
unfolding and_then and_next or_fail found_or byte_at require
kind_short len [] e = omega arith
kind_short len (kind ∷ rest) e = absurd (by_kind (ltb kind 4) rest (record { kind = kind; len = len - 1 }) e)

abbrev kinds : ℕ → Reads NoFrame Head
kinds len = and_then (or_fail Missing byte_at) (λ kind. and_then (require (ltb kind 4) (Fault BadKind)) (λ _. give (record { kind = kind; len = len - 1 })))

least_short : (test : Bool) (len : ℕ) (rest : List ℕ) → and_next (pass_or_fail test (Fault BadKind) rest) (λ _. kinds len) ≡ Err Missing → length rest < 1
unfolding and_next pass_or_fail
least_short true len rest e = kind_short len rest e
least_short false len rest e = absurd cc

most_short : (test : Bool) (len : ℕ) (rest : List ℕ) → and_next (pass_or_fail test (Fault TooLong) rest) (λ _. and_then (require (leb 1 len) (Fault BadKind)) (λ _. kinds len)) ≡ Err Missing → length rest < 1
unfolding and_next pass_or_fail and_then require
most_short true len rest e = least_short (leb 1 len) len rest e
most_short false len rest e = absurd cc

len_short : (test : Bool) (bytes : List ℕ) → ltb (length bytes) 4 ≡ test
    → and_next (found_or Missing (cond test None (Some (from_be_bytes w32 (take 4 bytes), drop 4 bytes)))) (λ n. and_then (require (leb n 16777216) (Fault TooLong)) (λ _. and_then (require (leb 1 n) (Fault BadKind)) (λ _. kinds n))) ≡ Err Missing → length bytes < 5
unfolding and_next found_or and_then require
len_short true bytes t e = let lt = ltb-true _ _ t in omega (arith, lt)
len_short false bytes t e =
    let less = most_short (leb (from_be_bytes w32 (take 4 bytes)) 16777216) (from_be_bytes w32 (take 4 bytes)) (drop 4 bytes) e in
    omega (arith, less, length-drop 4 bytes)

pub head_short : (bytes : List ℕ) → head_at bytes ≡ Err Missing → length bytes < 5
unfolding head_at and_then or_fail number_at
head_short bytes e = len_short (ltb (length bytes) 4) bytes refl e

-- Where the content of a right length is missing, few bytes are there.
pub few_bytes : (bytes : List ℕ) (h : Head) (rest : List ℕ) (n : ℕ) → AreBytes bytes → head_at bytes ≡ Ok (h, rest) → length rest < h.len → h.len ≤ n → length bytes ≤ 4 + n
few_bytes bytes h rest n fits e lt le =
    let t = head_field.takes bytes h rest fits e in
    omega (arith, ap length t.0, length-append (spelling_of_head h) rest)

-- ---- where the kind of a sync frame is there

fifth : (a bytes : List ℕ) (k : ℕ) (rest : List ℕ) → length a ≡ 4 → bytes ≡ (a ++ k ∷ []) ++ rest → HasSyncKind bytes → k ≡ 1
fifth a bytes k rest four e has =
    let same : slice_get bytes 4 ≡ Some k =
    ap (λ (b : List ℕ). slice_get b 4) (e ∙ append_assoc a (k ∷ []) rest) ∙ ap (λ (n : ℕ). slice_get (a ++ k ∷ rest) n) (sym four) ∙ seam a in
    let both : (let o : Option ℕ = Some k in o) ≡ Some 1 = sym same ∙ has in
    cc
  where
    seam : (xs : List ℕ) → slice_get (xs ++ k ∷ rest) (length xs) ≡ Some k
    seam [] = refl
    seam (x ∷ xs) = seam xs

-- A head whose kind is there is read.
pub kind_is_read : (bytes : List ℕ) → head_at bytes ≡ Err Missing → HasSyncKind bytes → ⊥
kind_is_read bytes e has = let few = head_short bytes e in let within = slice_get_within bytes 4 1 has in omega (arith, few, within)

-- A head that was read has the kind that is there.
pub kind_is_sync : (bytes : List ℕ) (h : Head) (rest : List ℕ) → AreBytes bytes → head_at bytes ≡ Ok (h, rest) → HasSyncKind bytes → h.kind ≡ 1
kind_is_sync bytes h rest fits e has =
    let t = head_field.takes bytes h rest fits e in
    fifth (to_be_bytes w32 (h.len + 1)) bytes h.kind rest (omega arith) t.0 has

-- a sync frame at the front
pub sync_is : (bytes : List ℕ) (h : Head) (rest : List ℕ) → AreBytes bytes → head_at bytes ≡ Ok (h, rest) → h.kind ≡ 1 → (5 ≤ length bytes) × (h.len < 16777216) × (bytes ≡ to_be_bytes w32 (h.len + 1) ++ 1 ∷ drop 5 bytes)
sync_is bytes h rest fits e kind =
    let t = head_field.takes bytes h rest fits e in
    let back : drop 5 bytes ≡ rest = ap (λ (b : List ℕ). drop 5 b) t.0 ∙ drop_at (spelling_of_head h) rest 5 (omega arith) in
    let spelled : bytes ≡ to_be_bytes w32 (h.len + 1) ++ h.kind ∷ drop 5 bytes = t.0 ∙ append_assoc (to_be_bytes w32 (h.len + 1)) (h.kind ∷ []) rest ∙ ap (λ (b : List ℕ). to_be_bytes w32 (h.len + 1) ++ h.kind ∷ b) (sym back) in
    (omega (arith, ap length t.0, length-append (spelling_of_head h) rest), omega (arith, t.1.size), spelled ∙ ap (λ (k : ℕ). to_be_bytes w32 (h.len + 1) ++ k ∷ drop 5 bytes) kind)
