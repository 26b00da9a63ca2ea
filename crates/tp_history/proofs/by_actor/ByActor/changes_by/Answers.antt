use Rattle.tp_history.proofs.Common.{◌≡◌, ◌<◌, ◌++◌, ◌∷◌, [], cond, length, subst, arith, true, false, append-nil, same_actor, listed_places, ArePlacesBy}
use Rattle.tp_history.proofs.ActorChangesLaws.{unlisted}
use Rattle.tp_history.proofs.by_actor.ByActor.changes_by.Goals as goal

pub returns-then-is : goal.returns-then-is
returns-then-is c =
    let b = c.args.self.now in
    let a = c.args.actor.now in
    let d = c.index-changes-self.result in
    let small : b.listed < length c.args.changes.now = omega (arith, c.requires.by_actor.within, c.if-self-changes.false) in
    let mine : same_actor d.actor a ≡ true = cc in
    rw (c.with_last.ensures, c.places-places.ensures)
    (subst (λ t. ArePlacesBy c.args.changes.now a (listed_places c.args.changes.now b a ++ cond t (b.listed ∷ []) [])) mine (unlisted c.args.changes.now b a d c.requires.sound c.requires.by_actor small c.index-changes-self.is))

pub returns-else-is : goal.returns-else-is
returns-else-is c =
    let b = c.args.self.now in
    let a = c.args.actor.now in
    let d = c.index-changes-self.result in
    let small : b.listed < length c.args.changes.now = omega (arith, c.requires.by_actor.within, c.if-self-changes.false) in
    let other : same_actor d.actor a ≡ false = cc in
    rw (c.new-else-is.ensures, c.places-places.ensures, ← append-nil (listed_places c.args.changes.now b a))
    (subst (λ t. ArePlacesBy c.args.changes.now a (listed_places c.args.changes.now b a ++ cond t (b.listed ∷ []) [])) other (unlisted c.args.changes.now b a d c.requires.sound c.requires.by_actor small c.index-changes-self.is))
