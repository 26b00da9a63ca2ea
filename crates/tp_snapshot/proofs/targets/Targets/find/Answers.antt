use Rattle.tp_snapshot.proofs.Common.{length, sym, ap, ◌∙◌, subst, List, StretchPrecedes, is_in_stretches, stretch_cmp}
use Rattle.std.proofs.Common.{rules}
use Rattle.std.specs.List.{AllAdjacentBelow}
use Rattle.std.proofs.lemmas.Fn.{always_returns_same}
use Rattle.tp_snapshot.specs.declared.targets.Stretch.{Stretch}
use Rattle.tp_snapshot.proofs.TargetLaws.{one_found, none_found}
use Rattle.tp_snapshot.proofs.targets.Targets.find.Goals as goal

pub returns-in-Ok : goal.returns-in-Ok
returns-in-Ok c =
    let x = c.args.id.now in
    let stretches = c.deref-2.result.now in
    let at = c.in-Ok.ensures.position (λ s. stretch_cmp s x) (always_returns_same _ _ _ (λ a r f called. search rules)) in
    sym (one_found stretches c.in-Ok.found x c.in-Ok.ensures.bound at)
    ∙ ap (λ (l : List Stretch). is_in_stretches l x) (c.deref-2.ensures.value ∙ c.self.view_is)

pub returns-in-Err : goal.returns-in-Err
returns-in-Err c =
    let x = c.args.id.now in
    let stretches = c.deref-2.result.now in
    let order = subst (λ (l : List Stretch). AllAdjacentBelow StretchPrecedes l (length l)) (sym c.deref-2.ensures.value) c.self.invariant in
    let search_result = c.in-Err.ensures.position (λ s. stretch_cmp s x) (always_returns_same _ _ _ (λ a r f called. search rules)) in
    sym (none_found stretches c.in-Err.field-0 x order search_result)
    ∙ ap (λ (l : List Stretch). is_in_stretches l x) (c.deref-2.ensures.value ∙ c.self.view_is)
