use Rattle.tp_peer.proofs.Common.{◌≡◌, drop}
use Rattle.tp_peer.specs.Actors as actors
use Rattle.tp_peer.proofs.actors.has_actor.Given as goal

abbrev pub invariant-loop-change : goal.invariant-loop-change
invariant-loop-change l = actors.has_actor (drop l.change-index l.changes) l.fn.actor ≡ actors.has_actor l.changes l.fn.actor
