use Rattle.tp_snapshot.proofs.Common.{[], ◌∷◌, subst, hash_of, past, string_bytes, refl, IsClockOf}
use Rattle.tp_snapshot.proofs.PastElements.{past-bytes}
use Rattle.tp_snapshot.proofs.VisibleLaws.{are_of}
use Rattle.tp_snapshot.proofs.EffectLaws.{effect_is, effect_leads, targets_removed}
use Rattle.tp_snapshot.proofs.effects.effect_of_change.Goals as goal

pub effect_over-requires-clause-change : goal.effect_over-requires-clause-change
effect_over-requires-clause-change g c =
    let S = g.S.Sequence in
    targets_removed c.args.graph.now.applied (S.placed c.args.sequence.now) (S.removals c.args.sequence.now) c.args.change.now c.in_ok-elements.elements c.requires.holds c.requires.there c.in_ok-elements.ensures

pub returns : goal.returns
returns g c =
    let S = g.S.Sequence in
    let C = c.args.graph.now.applied in
    let L = S.placed c.args.sequence.now in
    let R = S.removals c.args.sequence.now in
    let change = c.args.change.now in
    let old = c.in_ok-old.old in
    let H = change.deps in
    let G = hash_of change ∷ [] in
    let m = c.in_ok-effect_over.field-0 in
    let ds = m.differences.items in
    let h = c.requires.holds in
    let clock = subst (λ hs. IsClockOf old.clock (past C hs)) c.deps.ensures c.in_ok-old.ensures.ends in
    let found = effect_is C L R old change c.in_ok-elements.elements ds h c.requires.there clock c.in_ok-elements.ensures c.in_ok-effect_over.ensures.differences in
    record {
      change = change;
      there = c.requires.there;
      hash = refl;
      text = past-bytes C L R H old.clock (string_bytes m.text) h clock c.in_ok-effect_over.ensures.text;
      each = are_of C (past C H) (past C G) L ds h.order found;
      leads = effect_leads C L R H G old.clock ds h clock found;
    }
