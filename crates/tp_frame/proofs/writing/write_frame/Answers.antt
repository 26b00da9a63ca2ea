use Rattle.std.proofs.Common.{◌≡◌, ◌≤◌, refl, arith}
use Rattle.tp_frame.specs.Frame.{body_of, body_len, frame_spelling}
use Rattle.tp_frame.proofs.writing.write_frame.Goals as goal

pub returns-clause-bytes : goal.returns-clause-bytes
unfolding frame_spelling
returns-clause-bytes c =
    let size : body_len (body_of c.args.frame.now) ≤ 16777216 = omega (arith, c.if-len-gt-MAX_BODY.false, c.len_of-len.ensures.len) in
    let bytes : c.put_body.new.out.items ≡ frame_spelling c.args.frame.now = rw (c.in_ok-put_body.ensures, c.in_ok-extend_from_slice.ensures.items, c.in_ok-out.ensures.items, ← c.len_of-len.ensures.len) (rw c.to_be_bytes.ensures refl) in
    (record { typed = c.len_of-len.ensures.typed; size = size }, bytes)
