use Rattle.tp_history.proofs.ListedLaws.{all_there}
use Rattle.tp_history.proofs.by_actor.ByActor.actors.Goals as goal

pub returns : goal.returns
returns c =
    let more = c.in_ok-add_at.ensures.before in
    let last = c.in_ok-add_listed.ensures.before in
    all_there c.args.changes.now c.args.self.now c.add_at.new.actors.items c.requires.sound c.requires.by_actor
    (λ p i d at. more d.actor (last d.actor (c.in_ok-add_noted.ensures.noted p i d at)))
    (λ a i. more a (c.in_ok-add_listed.ensures.listed a i)) c.in_ok-add_at.ensures.at
