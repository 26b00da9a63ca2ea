use Rattle.std.proofs.Common.{arith}
use Rattle.tp_store.proofs.PieceSteps.{u32_len, bytes_len}
use Rattle.tp_store.proofs.layout.piece_of.Goals as goal

pub returns-in-Some-clause-len : goal.returns-in-Some-clause-len
returns-in-Some-clause-len c =
    let number = u32_len c.args.reader.now c.in_ok-count.field-0 c.u32_of.new.reader c.in_ok-count.ensures in
    let piece = bytes_len c.in_ok-count.field-0 c.u32_of.new.reader c.in-Some.bytes.now c.bytes.new.self c.in-Some.ensures.found in
    omega arith
