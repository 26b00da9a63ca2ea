use Rattle.std.proofs.Common.{◌∙◌, ap, arith}
use Rattle.tp_elements.specs.declared.entry.Entry.{Entry}
use Rattle.tp_elements.specs.Columns.{ColumnsState}
use Rattle.tp_elements.proofs.Columning.{column_within, row_read}
use Rattle.tp_elements.proofs.columns.Columns.after.Goals as goal

pub index-requires : goal.index-requires
index-requires c =
    let s = c.self.inside in
    let within = column_within s.rows.items s.chars.items c.args.self.now.items c.args.number c.self.invariant (ap (λ (v : ColumnsState). v.items) c.self.view_is) c.requires in
    omega (arith, within.0)

pub returns : goal.returns
returns c =
    let s = c.self.inside in
    c.reference_kept_as.ensures ∙ ap (λ (w : Entry). w.after) (row_read s.rows.items s.chars.items c.args.self.now.items c.args.number c.index.result.now c.self.invariant (ap (λ (v : ColumnsState). v.items) c.self.view_is) c.requires c.index.ensures)
