use Rattle.tp_event.proofs.Common.{◌<◌, List, length, inl, refl, sym, ◌∙◌, subst, PeerState, world_of}
use Rattle.tp_headline.specs.Event as events
use Rattle.tp_event.proofs.ThereLaws.{there_below}
use Rattle.tp_event.proofs.state.State.fork.Goals as goal

pub fork_at-forked-requires : goal.fork_at-forked-requires
fork_at-forked-requires c =
    subst (λ (l : List PeerState). c.args.of < length l) (sym (c.deref.ensures.value ∙ c.reserve.ensures.items)) (there_below (world_of c.args.self.now) (events.Fork c.args.of c.args.actor) c.args.of c.requires (inl refl))
