use Rattle.std.proofs.Common.{sym, ◌∙◌}
use Rattle.tp_opid.proofs.HexDigits.{read_is, is_read}
use Rattle.tp_opid.proofs.hex_text.read_hex.Goals as goal

pub returns-in-Ok-clause-found : goal.returns-in-Ok-clause-found
returns-in-Ok-clause-found g c = read_is c.args.text.now c.in-Ok.bytes g.row.N (sym c.in-Ok.ensures)

pub returns-in-Ok-clause-only : goal.returns-in-Ok-clause-only
returns-in-Ok-clause-only g c bytes count h =
    let e = c.in-Ok.ensures ∙ is_read c.args.text.now bytes g.row.N count h in cc

pub returns-in-Err-clause-only : goal.returns-in-Err-clause-only
returns-in-Err-clause-only g c bytes count h =
    let e = c.in-Err.ensures ∙ is_read c.args.text.now bytes g.row.N count h in cc
