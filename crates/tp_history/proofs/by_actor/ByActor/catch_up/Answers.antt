use Rattle.tp_history.proofs.Common.{◌≡◌, ◌+◌, ◌<◌, ◌++◌, ◌∷◌, [], Some, cond, length, refl, sym, subst, arith, slice_get, take_all, slice_get_read, same_actor, listed_places, ArePlacesBy}
use Rattle.tp_history.proofs.ActorChangesLaws.{unlisted}
use Rattle.tp_history.proofs.by_actor.ByActor.catch_up.Goals as goal

pub returns-clause-by_actor : goal.returns-clause-by_actor
returns-clause-by_actor c =
    let C = c.args.changes.now in
    let b = c.args.self.now in
    let x = c.index-changes-place.result in
    let small : b.listed < length C = omega (arith, c.requires.by_actor.within, c.if-place-changes.false) in
    let near = c.requires.by_actor.near in
    let there : slice_get C b.listed ≡ Some x = slice_get_read C (length C) b.listed x refl small c.index-changes-place.is in
    record {
      within = omega arith;
      near = omega arith;
      below = c.in_ok-put.ensures.below c.requires.by_actor.below;
      own = λ a. rw (take_all (b.listed + 1) C near) (subst (ArePlacesBy C a) (sym (c.in_ok-put.ensures.ok C x a there (sym c.actor.ensures)))
          (subst (λ d. ArePlacesBy C a (listed_places C b a ++ cond (same_actor d a) (b.listed ∷ []) [])) (sym c.actor.ensures) (unlisted C b a x c.requires.sound c.requires.by_actor small c.index-changes-place.is)));
    }
