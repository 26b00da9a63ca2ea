-- Joining parts to frames.
use Rattle.std.proofs.Common.{◌≡◌, ℕ, ◌+◌, ◌<◌, ◌≤◌, ◌⊎◌, inl, inr, List, [], ◌∷◌, ◌++◌, length, Option, Some, None, Result, Ok, Err, IfOk, IfSome, refl, sym, ap, subst, ◌∙◌, arith, length-append}
use Rattle.std.specs.Int.{w32, to_be_bytes}
use Rattle.tp_codec.proofs.Fields.{AreBytes, AreBytes-rest}
use Rattle.tp_frame.specs.declared.error.FrameError.{FrameError}
use Rattle.tp_frame.specs.declared.error.FrameError.TheVariants.{TooLong, BadKind, BadHello, OutOfMemory}
use Rattle.tp_frame.specs.declared.frame.Frame.{Frame}
use Rattle.tp_frame.specs.declared.frame.Frame.TheVariants.{Sync}
use Rattle.tp_frame.specs.declared.parts.Part.{Part}
use Rattle.tp_frame.specs.declared.parts.Part.TheVariants.{Begin, Piece, End, Whole}
use Rattle.tp_frame.specs.declared.parts.Stage.{Stage}
use Rattle.tp_frame.specs.declared.parts.Stage.TheVariants.{Front, Inside, Refused}
use Rattle.tp_frame.specs.Frame.{frame_spelling, IsFrame}
use Rattle.tp_frame.specs.Joining.{with_given, between, led_by, PartsMatchBytes, EndAnswers, BodyAnswers}
use Rattle.tp_frame.specs.PartState.{PartState}
use Rattle.tp_frame.specs.Parts.{OpenedFrame, PartsBefore, IsInside, StandsIn, IsPartStateOf, PartAnswers}
use Rattle.tp_frame.specs.Reading.{after_frame, after_read, frame_at, IsUnfinishedFrame}
use Rattle.tp_frame.specs.Stream.{NextFrame}
use Rattle.tp_frame.proofs.FrameFields.{frame_field}
use Rattle.tp_frame.proofs.PartLaws.{inside_waits, inside_there, inside_ends, none_some}

-- ---- a frame is given

pub follows_frame : (came : List ℕ) (f : Frame) (rest left : List ℕ) (s : PartState) → AreBytes came → frame_at came ≡ Ok (f, rest) → left ≡ after_frame came → IsPartStateOf (between rest) s
    → PartsMatchBytes None left s × (frame_at came ≡ Ok (f, left))
follows_frame came f rest left s fits e left-is present =
    let same : left ≡ rest = left-is ∙ ap (after_read came) e in
    let t = frame_field.takes came f rest fits e in
    subst (λ (b : List ℕ). PartsMatchBytes None b s × (frame_at came ≡ Ok (f, b))) (sym same)
    (record { present = present; bytes = AreBytes-rest (frame_spelling f) came rest t.0 fits }, e)

pub framed : (old : List ℕ) (r : Result (Option Frame) FrameError) (new : List ℕ) → AreBytes old → NextFrame old r new → IfOk r (λ next. IfSome next (λ f. IsFrame f × (old ≡ frame_spelling f ++ new)))
framed old (Ok (Some f)) new fits answers = let t = frame_field.takes old f new fits answers in (t.1, t.0)
framed old (Ok None) new fits answers = tt
framed old (Err e) new fits answers = tt

-- ---- what parts answer between frames

answers_whole : (came : List ℕ) (f : Frame) (left : List ℕ) (s : PartState) → AreBytes came → left ≡ after_frame came → PartAnswers (between came) (Ok (Some (Whole f))) s → PartsMatchBytes None left s × (frame_at came ≡ Ok (f, left))
answers_whole came f left s fits left-is answers =
    let none = answers.1.3 in
    follows_frame came f answers.0.came left s fits answers.1.2 left-is
    (subst (λ (o : Option OpenedFrame). StandsIn o answers.0.came s.stage s.held) none answers.2)

-- ---- inside a sync frame

left_is : (m n : ℕ) → Inside m ≡ Inside n → m ≡ n
left_is m n e = cc

some_is : (a b : OpenedFrame) → (let o : Option OpenedFrame = Some a in o) ≡ Some b → a ≡ b
some_is a b e = cc

-- What is known of a sync frame that has begun.
record IsBegun (o : OpenedFrame) (came : List ℕ) (s : PartState) : Type 0 where
  left : ℕ
  stage : s.stage ≡ Inside left
  inside : IsInside o came left s.held

is_begun : (o : OpenedFrame) (came : List ℕ) (stage : Stage) (held : List ℕ) → StandsIn (Some o) came stage held → IsBegun o came (record { stage = stage; held = held })
is_begun o came Front held never = absurd never
is_begun o came (Inside left) held is = record { left = left; stage = refl; inside = is }
is_begun o came (Refused left e) held never = absurd never

begun_is : (o : OpenedFrame) (came : List ℕ) (s : PartState) → StandsIn (Some o) came s.stage s.held → IsBegun o came s
begun_is o came s present = is_begun o came s.stage s.held present

-- Less than the frame came.
pub body_waits : (came : List ℕ) (len : ℕ) (s : PartState) → IsPartStateOf (with_given came len []) s → length s.held < len → IsUnfinishedFrame came
body_waits came len s present lt =
    let b = begun_is (record { len = len; given = [] }) came s present in
    inside_waits (record { len = len; given = [] }) came b.left s.held b.inside (omega (arith, b.inside.count))

-- The whole frame came.
body_there : (came : List ℕ) (len : ℕ) (s : PartState) → IsPartStateOf (with_given came len []) s → len ≤ length s.held → (body : List ℕ) × (rest : List ℕ) × (frame_at came ≡ Ok (Sync body, rest))
body_there came len s present le =
    let b = begun_is (record { len = len; given = [] }) came s present in
    inside_there (record { len = len; given = [] }) came b.left s.held b.inside (omega (arith, b.inside.count))

-- All of the frame was given.
all_there : (came body : List ℕ) (s : PartState) → IsPartStateOf (with_given came (length body) body) s → frame_at came ≡ Ok (Sync body, s.held)
all_there came body s present =
    let o : OpenedFrame = record { len = length body; given = body } in
    let b = begun_is o came s present in
    inside_ends o came s.held (subst (λ (n : ℕ). IsInside o came n s.held) (let none : b.left ≡ 0 = omega (arith, b.inside.count) in none) b.inside)

all_given : (came : List ℕ) (len : ℕ) (body held : List ℕ) (new : PartState) (m left : ℕ) → len ≤ length held → IsInside (record { len = len; given = [] }) came m held → new.stage ≡ Inside left → IsInside (record { len = len; given = body }) came left new.held
    → (new.stage ≡ Inside 0) ⊎ (new.held ≡ []) → length body ≡ len
all_given came len body held new m left le before stage inside (inl ends) = let none : left ≡ 0 = left_is left 0 (sym stage ∙ ends) in omega (arith, inside.count)
all_given came len body held new m left le before stage inside (inr none) =
    let front : came ≡ to_be_bytes w32 (len + 1) ++ 1 ∷ held = before.spelled in
    let back : came ≡ to_be_bytes w32 (len + 1) ++ 1 ∷ (body ++ new.held) = inside.spelled in
    let all : length (to_be_bytes w32 (len + 1) ++ 1 ∷ held) ≡ 5 + length held = omega arith in
    let some : length (to_be_bytes w32 (len + 1) ++ 1 ∷ (body ++ new.held)) ≡ 5 + length (body ++ new.held) = omega arith in
    let lens : length held ≡ length (body ++ new.held) = omega (arith, ap length (sym front ∙ back)) in
    omega (arith, inside.count, ap length none, length-append body new.held)

-- A piece of a whole frame is its body.
pub piece_all : (came : List ℕ) (len : ℕ) (body : List ℕ) (old new : PartState) → IsPartStateOf (with_given came len []) old → len ≤ length old.held → PartAnswers (with_given came len []) (Ok (Some (Piece body))) new → IsPartStateOf (with_given came (length body) body) new
piece_all came len body old new present le answers =
    let o : OpenedFrame = record { len = len; given = [] } in
    let same : o ≡ answers.1.0 = some_is o answers.1.0 answers.1.1 in
    let after : answers.0 ≡ with_given came len body = answers.1.3 ∙ ap (λ (f : OpenedFrame). with_given came f.len (f.given ++ body)) (sym same) in
    let given : IsPartStateOf (with_given came len body) new = subst (λ (l : PartsBefore). IsPartStateOf l new) after answers.2 in
    let b = begun_is o came old present in
    let d = begun_is (record { len = len; given = body }) came new given in
    let count : length body ≡ len = all_given came len body old.held new b.left d.left le b.inside d.stage d.inside answers.3 in
    subst (λ (n : ℕ). IsPartStateOf (with_given came n body) new) (sym count) given

-- What else is answered inside a whole sync frame can't be.
pub never_none : (came : List ℕ) (len : ℕ) (old new : PartState) → IsPartStateOf (with_given came len []) old → len ≤ length old.held → PartAnswers (with_given came len []) (Ok None) new → ⊥
never_none came len old new present le answers = let there = body_there came len old present le in let read = there.2 in let rest = answers.0 in cc

pub never_begin : (came : List ℕ) (len : ℕ) (given : List ℕ) (n : ℕ) (new : PartState) → PartAnswers (with_given came len given) (Ok (Some (Begin n))) new → ⊥
never_begin came len given n new answers = none_some (Some (record { len = len; given = given })) (record { len = len; given = given }) answers.1.0 refl

pub never_whole : (came : List ℕ) (len : ℕ) (given : List ℕ) (f : Frame) (new : PartState) → PartAnswers (with_given came len given) (Ok (Some (Whole f))) new → ⊥
never_whole came len given f new answers = none_some (Some (record { len = len; given = given })) (record { len = len; given = given }) answers.1.0 refl

pub never_end : (came : List ℕ) (len : ℕ) (new : PartState) → (len ≡ 0 → ⊥) → PartAnswers (with_given came len []) (Ok (Some End)) new → ⊥
never_end came len new some answers =
    let same : record { len = len; given = [] } ≡ answers.1.0 = some_is (record { len = len; given = [] }) answers.1.0 answers.1.1 in
    some (sym (subst (λ (f : OpenedFrame). length f.given ≡ f.len) (sym same) answers.1.2))

pub body_err : (came : List ℕ) (len : ℕ) (e : FrameError) (old new : PartState) → IsPartStateOf (with_given came len []) old → len ≤ length old.held → PartAnswers (with_given came len []) (Err e) new → BodyAnswers came len (Err e) new
body_err came len TooLong old new present le answers = absurd (none_some (Some (record { len = len; given = [] })) (record { len = len; given = [] }) answers.0 refl)
body_err came len BadKind old new present le answers = absurd (none_some (Some (record { len = len; given = [] })) (record { len = len; given = [] }) answers.0 refl)
body_err came len BadHello old new present le answers = absurd (none_some (Some (record { len = len; given = [] })) (record { len = len; given = [] }) answers.0 refl)
body_err came len OutOfMemory old new present le answers = (refl, body_there came len old present le, answers.3)

-- ---- the end

end_given : (came body : List ℕ) (new : PartState) → PartAnswers (with_given came (length body) body) (Ok (Some End)) new → EndAnswers came body new
end_given came body new answers =
    let o : OpenedFrame = record { len = length body; given = body } in
    let same : o ≡ answers.1.0 = some_is o answers.1.0 answers.1.1 in
    let read : frame_at came ≡ Ok (Sync body, answers.0.came) = subst (λ (f : OpenedFrame). frame_at came ≡ Ok (Sync f.given, answers.0.came)) (sym same) answers.1.3 in
    (answers.0.came, read, subst (λ (p : Option OpenedFrame). StandsIn p answers.0.came new.stage new.held) answers.1.4 answers.2)

end_never_none : (came body : List ℕ) (old new : PartState) → IsPartStateOf (with_given came (length body) body) old → PartAnswers (with_given came (length body) body) (Ok None) new → ⊥
end_never_none came body old new present answers = let read = all_there came body old present in let rest = answers.0 in cc

end_never_piece : (came body bytes : List ℕ) (new : PartState) → PartAnswers (with_given came (length body) body) (Ok (Some (Piece bytes))) new → ⊥
end_never_piece came body bytes new answers =
    let o : OpenedFrame = record { len = length body; given = body } in
    let same : o ≡ answers.1.0 = some_is o answers.1.0 answers.1.1 in
    let after : answers.0 ≡ with_given came (length body) (body ++ bytes) = answers.1.3 ∙ ap (λ (f : OpenedFrame). with_given came f.len (f.given ++ bytes)) (sym same) in
    let b = begun_is (record { len = length body; given = body ++ bytes }) came new (subst (λ (l : PartsBefore). IsPartStateOf l new) after answers.2) in
    let some : 0 < length bytes = answers.1.2 in
    omega (arith, b.inside.count, length-append body bytes)

end_never_err : (came body : List ℕ) (e : FrameError) (new : PartState) → PartAnswers (with_given came (length body) body) (Err e) new → ⊥
end_never_err came body TooLong new answers = none_some (Some (record { len = length body; given = body })) (record { len = length body; given = body }) answers.0 refl
end_never_err came body BadKind new answers = none_some (Some (record { len = length body; given = body })) (record { len = length body; given = body }) answers.0 refl
end_never_err came body BadHello new answers = none_some (Some (record { len = length body; given = body })) (record { len = length body; given = body }) answers.0 refl
end_never_err came body OutOfMemory new answers =
    let same : record { len = length body; given = body } ≡ answers.0 = some_is (record { len = length body; given = body }) answers.0 answers.1 in
    let less : length body < length body = subst (λ (f : OpenedFrame). length f.given < f.len) (sym same) answers.2 in
    omega arith

-- Where all was given, the next answer is the end.
pub end_any : (came body : List ℕ) (r : Result (Option Part) FrameError) (old new : PartState) → IsPartStateOf (with_given came (length body) body) old → PartAnswers (with_given came (length body) body) r new → EndAnswers came body new
end_any came body (Ok None) old new present answers = absurd (end_never_none came body old new present answers)
end_any came body (Ok (Some (Begin n))) old new present answers = absurd (never_begin came (length body) body n new answers)
end_any came body (Ok (Some (Piece bytes))) old new present answers = absurd (end_never_piece came body bytes new answers)
end_any came body (Ok (Some End)) old new present answers = end_given came body new answers
end_any came body (Ok (Some (Whole f))) old new present answers = absurd (never_whole came (length body) body f new answers)
end_any came body (Err e) old new present answers = absurd (end_never_err came body e new answers)

pub whole_joined : (begun : Option ℕ) (came : List ℕ) (f : Frame) (left : List ℕ) (s : PartState) → AreBytes came → left ≡ after_frame came → PartAnswers (led_by begun came) (Ok (Some (Whole f))) s → PartsMatchBytes begun left s × (frame_at came ≡ Ok (f, left))
whole_joined None came f left s fits left-is answers = answers_whole came f left s fits left-is answers
whole_joined (Some len) came f left s fits left-is answers = absurd (never_whole came len [] f s answers)
