use Rattle.std.proofs.Common.{ℕ, Ok, subst}
use Rattle.tp_net.specs.Sessions.{AttemptsSessionAlone}
use Rattle.tp_session.specs.declared.session.Role.TheVariants.{Client}
use Rattle.tp_online.proofs.FollowLaws.{idle_still, met_idle}
use Rattle.tp_online.proofs.idling.meet_idle.Goals as goal

-- nothing entered: the peer is kept
pub returns-then-applied-eq0-clause-idle : goal.returns-then-applied-eq0-clause-idle
returns-then-applied-eq0-clause-idle g c =
    idle_still (g.R.Folders.saw c.args.rt.now) c.args.file.now c.args.key c.args.peer c.hold_alone_on.new.peer c.requires.idle
    (subst (λ (n : ℕ). AttemptsSessionAlone Client c.args.peer (Ok n) c.hold_alone_on.new.peer) c.if-applied-eq0.true c.in-Ok-hold_alone_on.ensures)

pub returns-then-applied-eq0-clause-met : goal.returns-then-applied-eq0-clause-met
returns-then-applied-eq0-clause-met g c =
    met_idle (g.R.Folders.saw c.args.rt.now) c.args.file.now c.args.key c.args.peer c.hold_alone_on.new.peer c.in-Ok-hold_alone_on.applied c.requires.idle c.in-Ok-hold_alone_on.ensures

-- something entered
pub returns-else-applied-eq0-clause-met : goal.returns-else-applied-eq0-clause-met
returns-else-applied-eq0-clause-met g c =
    met_idle (g.R.Folders.saw c.args.rt.now) c.args.file.now c.args.key c.args.peer c.hold_alone_on.new.peer c.in-Ok-hold_alone_on.applied c.requires.idle c.in-Ok-hold_alone_on.ensures
