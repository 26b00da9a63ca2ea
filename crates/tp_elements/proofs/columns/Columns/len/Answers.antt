use Rattle.std.proofs.Common.{ap, length, arith}
use Rattle.tp_elements.specs.Columns.{ColumnsState}
use Rattle.tp_elements.proofs.Columning.{length-entries_of}
use Rattle.tp_elements.proofs.columns.Columns.len.Goals as goal

pub returns : goal.returns
returns c =
    let s = c.self.inside in
    let size = length-entries_of s.rows.items s.chars.items c.self.invariant in
    let same = ap (λ (v : ColumnsState). length v.items) c.self.view_is in
    omega (arith, size, same, c.len.ensures)
