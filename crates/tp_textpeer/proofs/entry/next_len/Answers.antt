use Rattle.std.proofs.Common.{◌∙◌, ap, inr, sym, arith}
use Rattle.std.specs.Int.{w32, from_be_bytes}
use Rattle.tp_textpeer.proofs.Entries.{bad_short, bad_sized, bad_zero, bad_limit, some_by_test}
use Rattle.tp_textpeer.proofs.entry.next_len.Goals as goal

pub returns-then-len-lt4-clause-err : goal.returns-then-len-lt4-clause-err
returns-then-len-lt4-clause-err g c =
    let buffer = c.read_up_to.new.buffer in
    let size = buffer.ok.0 in
    inr (bad_short _ _ buffer.items c.in_ok-read_up_to.ensures.bytes (c.in_ok-read_up_to.ensures.end (omega arith)) (some_by_test _ _ c.if-is_empty.ensures size) (omega arith))

pub returns-then-len-eq0-clause-err : goal.returns-then-len-eq0-clause-err
returns-then-len-eq0-clause-err g c =
    let buffer = c.read_up_to.new.buffer in
    let size = buffer.ok.0 in
    let within = c.in_ok-read_up_to.ensures.within in
    inr (bad_sized _ _ buffer.items 0 _ c.in_ok-read_up_to.ensures.bytes (omega arith) (sym c.if-len-eq0.true ∙ c.number_in-len.ensures.number ∙ ap (from_be_bytes w32) c.as_slice.ensures.value) (bad_zero _))

pub returns-then-len-gt-MAX_BYTES-clause-err : goal.returns-then-len-gt-MAX_BYTES-clause-err
returns-then-len-gt-MAX_BYTES-clause-err g c =
    let buffer = c.read_up_to.new.buffer in
    let size = buffer.ok.0 in
    let within = c.in_ok-read_up_to.ensures.within in
    inr (bad_sized _ _ buffer.items c.number_in-len.result _ c.in_ok-read_up_to.ensures.bytes (omega arith) (c.number_in-len.ensures.number ∙ ap (from_be_bytes w32) c.as_slice.ensures.value) (bad_limit _ c.number_in-len.result (omega arith)))
