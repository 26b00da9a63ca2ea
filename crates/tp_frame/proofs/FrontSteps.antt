-- What a framer's buffer has at its front, and what it answers.
use Rattle.std.proofs.Common.{◌≡◌, ℕ, ◌+◌, ◌≤◌, List, length, take, drop, Result, Ok, Err, refl, ap, arith, length-append}
use Rattle.std.proofs.lemmas.List.{take_at, drop_at}
use Rattle.tp_codec.specs.Reading.{and_next, and_then, give, fail}
use Rattle.tp_codec.proofs.Fields.{AreBytes}
use Rattle.tp_frame.specs.declared.error.FrameError.{FrameError}
use Rattle.tp_frame.specs.declared.frame.Frame.{Frame}
use Rattle.tp_frame.specs.declared.frame.Frame.TheVariants.{Sync}
use Rattle.tp_frame.specs.declared.reading.NoFrame.{NoFrame}
use Rattle.tp_frame.specs.declared.reading.NoFrame.TheVariants.{Fault}
use Rattle.tp_frame.specs.Frame.{Body, spelling_of_body}
use Rattle.tp_frame.specs.Reading.{body_at, frame_after, frame_or_fault, frame_at}
use Rattle.tp_frame.proofs.FrameFields.{body_field}

-- where a body is
record IsCut (bytes : List ℕ) (b : Body) (back : List ℕ) : Type 0 where
  within : 5 + length b.content ≤ length bytes
  content : drop 5 (take (5 + length b.content) bytes) ≡ b.content
  beyond : drop (5 + length b.content) bytes ≡ back

cut_is : (bytes : List ℕ) (b : Body) (rest : List ℕ) → AreBytes bytes → body_at bytes ≡ Ok (b, rest) → IsCut bytes b rest
cut_is bytes b rest fits e =
    let t = body_field.takes bytes b rest fits e in
    let len : length (spelling_of_body b) ≡ 5 + length b.content = omega arith in
    rw t.0 (record {
      within = omega (arith, length-append (spelling_of_body b) rest);
      content = ap (λ (xs : List ℕ). drop 5 xs) (take_at (spelling_of_body b) rest (5 + length b.content) len);
      beyond = drop_at (spelling_of_body b) rest (5 + length b.content) len;
    })

-- a body that is a frame or has a fault
judged_is : (bytes : List ℕ) (b : Body) (rest : List ℕ) (r : Result Frame FrameError) → body_at bytes ≡ Ok (b, rest) → frame_after b.kind b.content ≡ r → frame_at bytes ≡ frame_or_fault r rest
unfolding frame_at and_then and_next
judged_is bytes b rest r e f = rw (e, f) refl

read_is : (bytes : List ℕ) (b : Body) (rest : List ℕ) (f : Frame) → body_at bytes ≡ Ok (b, rest) → frame_after b.kind b.content ≡ Ok f → frame_at bytes ≡ Ok (f, rest)
unfolding frame_or_fault give
read_is bytes b rest f e r = judged_is bytes b rest (Ok f) e r

pub other_front : (bytes : List ℕ) (b : Body) (rest : List ℕ) (f : Frame) → AreBytes bytes → body_at bytes ≡ Ok (b, rest) → frame_after b.kind b.content ≡ Ok f
    → (5 + length b.content ≤ length bytes) × (frame_at bytes ≡ Ok (f, drop (5 + length b.content) bytes))
other_front bytes b rest f fits e beyond =
    let cut = cut_is bytes b rest fits e in
    (cut.within, rw cut.beyond (read_is bytes b rest f e beyond))

pub fault_is : (bytes : List ℕ) (b : Body) (rest : List ℕ) (d : FrameError) → body_at bytes ≡ Ok (b, rest) → frame_after b.kind b.content ≡ Err d → frame_at bytes ≡ Err (Fault d)
unfolding frame_or_fault fail
fault_is bytes b rest d e r = judged_is bytes b rest (Err d) e r

-- no body, no frame
pub none_is : (bytes : List ℕ) (d : NoFrame) → body_at bytes ≡ Err d → frame_at bytes ≡ Err d
unfolding frame_at and_then and_next
none_is bytes d e = rw e refl

-- a body that is a sync frame
pub sync_read : (bytes : List ℕ) (b : Body) (rest : List ℕ) → body_at bytes ≡ Ok (b, rest) → b.kind ≡ 1 → frame_at bytes ≡ Ok (Sync b.content, rest)
sync_read bytes b rest e kind =
    let beyond : frame_after b.kind b.content ≡ Ok (Sync b.content) = rw kind refl in
    read_is bytes b rest (Sync b.content) e beyond
