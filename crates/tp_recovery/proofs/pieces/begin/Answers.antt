use Rattle.std.proofs.Common.{◌++◌}
use Rattle.tp_recovery.specs.Layout.{header_of}
use Rattle.tp_recovery.proofs.PieceLaws.{read_more}
use Rattle.tp_recovery.proofs.pieces.begin.Goals as goal

pub returns-in-Ok-enter_records-clause-rest : goal.returns-in-Ok-enter_records-clause-rest
returns-in-Ok-enter_records-clause-rest g c =
    let read = c.in-Ok-enter_records.ensures.rest in
    (header_of c.in-Ok.id ++ read.0, read_more c.args.bytes.now (header_of c.in-Ok.id) c.in-Ok.beyond.now read.0 c.in-Ok-enter_records.rest.now c.in-Ok.ensures.found.1 read.1)
