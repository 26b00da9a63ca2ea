use Rattle.tp_snapshot.proofs.Common.{◌≡◌, ◌∙◌, sym, ap, subst, arith, List, length, take_all, list_any-IsPermutation, is_in_stretches, is_within, StartsBefore, StretchPrecedes}
use Rattle.std.specs.List.{AllAdjacentBelow, dedup}
use Rattle.std.proofs.lemmas.List.{take-append-le}
use Rattle.std.proofs.lemmas.List.Filters.{dedup_is}
use Rattle.tp_snapshot.specs.declared.targets.Stretch.{Stretch}
use Rattle.tp_snapshot.proofs.RepeatLaws.{any_dedup, adjacent_dedup}
use Rattle.tp_snapshot.proofs.TargetLaws.{sorted_starts, is_same, one_stretch}
use Rattle.tp_snapshot.proofs.targets.Targets.new.Goals as goal
use Rattle.tp_snapshot.proofs.targets.Targets.new.Goals.{After-dedup}

pub raise_ends-requires : goal.raise_ends-requires
raise_ends-requires c =
    subst (λ (l : List Stretch). AllAdjacentBelow StartsBefore l (length l)) (sym c.deref_mut.ensures.value)
    (sorted_starts c.sort_unstable.new.self.items c.sort_unstable.ensures.sorted)

-- one of each is left
left_is : (c : After-dedup) → c.dedup.new.self.items ≡ dedup is_same c.raise_ends.new.stretches
left_is c =
    let sorted = c.sort_unstable.new.self in
    let raised = c.raise_ends.new.stretches in
    let long : length raised ≡ sorted.len = omega (arith, c.raise_ends.auto.stretches, c.deref_mut.ensures.len) in
    dedup_is is_same _ _ c.dedup.ensures.filtered
    ∙ ap (λ (l : List Stretch). dedup is_same l) (take-append-le sorted.len raised _ (omega (arith, long)) ∙ take_all sorted.len raised (omega (arith, long)))

pub invariant_of-result : goal.invariant_of-result
invariant_of-result c =
    subst (λ (l : List Stretch). AllAdjacentBelow StretchPrecedes l (length l)) (sym (left_is c))
    (adjacent_dedup is_same one_stretch StretchPrecedes c.raise_ends.new.stretches c.raise_ends.ensures.order)

pub returns : goal.returns
returns c = λ x.
    ap (λ (l : List Stretch). is_in_stretches l x) (left_is c)
    ∙ any_dedup is_same one_stretch (λ s. is_within s x) c.raise_ends.new.stretches
    ∙ c.raise_ends.ensures.covers x
    ∙ ap (λ (l : List Stretch). is_in_stretches l x) c.deref_mut.ensures.value
    ∙ sym (list_any-IsPermutation (λ s. is_within s x) c.args.stretches.items c.sort_unstable.new.self.items c.sort_unstable.ensures.permutation)
