use Rattle.std.proofs.Common.{ap, refl, ◌∙◌}
use Rattle.tp_mirror.specs.declared.state.State.{State}
use Rattle.tp_mirror.proofs.Keeping.{can-intend, kept-state, knows-pushed, watches-pushed}
use Rattle.tp_mirror.proofs.placing.intend.Goals as goal

pub save-requires-clause-can : goal.save-requires-clause-can
save-requires-clause-can g c = can-intend _ c.args.state.now (record c.args.state.now { moved = c.push.new.self }) c.begin_generation.new.state _ c.in_ok-begin_generation.ensures.0 c.args.now c.args.moved c.requires.kept c.requires.now c.in_ok-begin_generation.ensures.1 c.requires.made refl c.in_ok-push.ensures c.in_ok-begin_generation.ensures.3 refl refl refl

pub returns-clause-kept : goal.returns-clause-kept
returns-clause-kept g c = kept-state _ _ _ c.in_ok-save.ensures (can-intend _ c.args.state.now (record c.args.state.now { moved = c.push.new.self }) c.begin_generation.new.state _ c.in_ok-begin_generation.ensures.0 c.args.now c.args.moved c.requires.kept c.requires.now c.in_ok-begin_generation.ensures.1 c.requires.made refl c.in_ok-push.ensures c.in_ok-begin_generation.ensures.3 refl refl refl)

pub returns-clause-watches : goal.returns-clause-watches
returns-clause-watches g c = watches-pushed _ c.args.state.now.moved c.args.moved (ap (λ (x : State). x.moved) c.in_ok-begin_generation.ensures.3 ∙ c.in_ok-push.ensures)

pub returns-clause-knows : goal.returns-clause-knows
returns-clause-knows g c = knows-pushed _ _ c.in_ok-begin_generation.ensures.0 c.args.now (ap (λ (x : State). x.texts) c.in_ok-begin_generation.ensures.3) c.in_ok-begin_generation.ensures.1
