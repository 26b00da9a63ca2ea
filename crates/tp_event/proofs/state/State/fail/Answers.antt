use Rattle.tp_event.proofs.Common.{inl, inr, refl, ap, world_of}
use Rattle.tp_headline.specs.Event as events
use Rattle.tp_event.proofs.ThereLaws.{runs_there}
use Rattle.tp_event.proofs.state.State.fail.Goals as goal

pub arm_at-requires : goal.arm_at-requires
arm_at-requires c = runs_there (world_of c.args.self.now) (events.Fail c.args.n c.args.kept) c.args.n c.requires (inl refl) (inl refl)

pub returns : goal.returns
returns c =
    let a = c.arm_at.ensures in
    inr (a.before, a.present, refl, ap (λ l. record (world_of c.args.self.now) { peers = l }) a.left)
