use Rattle.std.proofs.Common.{refl, sym, ap, ◌∙◌}
use Rattle.tp_change.specs.Operations.{ops_of}
use Rattle.tp_change.proofs.OpsBegin.{ops_begin, walk_begin}
use Rattle.tp_change.proofs.change.Change.ops.Goals as goal

pub invariant_of-result : goal.invariant_of-result
invariant_of-result c =
    let is = c.self-inside.view_is in
    walk_begin c.self.inside.body _ c.self.invariant.0 refl (ap (λ i. i.body.start) is) refl refl c.records.ensures

pub returns : goal.returns
returns c =
    let is = c.self-inside.view_is in
    ops_begin _ _ (record { counter = 0; actor = c.self-inside.inside.0.1.0.actor }) _ (c.records.ensures ∙ sym (ap (λ i. i.body.records) is)) ∙ ap (λ i. ops_of i.body) is ∙ ap ops_of c.self.view_is
