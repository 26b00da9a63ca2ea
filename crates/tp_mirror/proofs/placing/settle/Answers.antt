use Rattle.std.proofs.Common.{refl}
use Rattle.tp_mirror.proofs.Keeping.{can-settle, kept-state}
use Rattle.tp_mirror.proofs.Resulting.{in-step, in-step-state}
use Rattle.tp_mirror.proofs.placing.settle.Goals as goal

pub save-requires-clause-can : goal.save-requires-clause-can
save-requires-clause-can g c = can-settle _ c.args.state.now c.begin_generation.new.state _ c.in_ok-begin_generation.ensures.0 c.args.now c.requires.kept c.requires.now c.in_ok-begin_generation.ensures.1 c.in_ok-begin_generation.ensures.3 refl refl c.requires.there

pub returns-clause-kept : goal.returns-clause-kept
returns-clause-kept g c = kept-state _ _ _ c.in_ok-save.ensures (can-settle _ c.args.state.now c.begin_generation.new.state _ c.in_ok-begin_generation.ensures.0 c.args.now c.requires.kept c.requires.now c.in_ok-begin_generation.ensures.1 c.in_ok-begin_generation.ensures.3 refl refl c.requires.there)

pub returns-clause-outcome : goal.returns-clause-outcome
returns-clause-outcome g c = in-step-state _ _ _ _ c.args.now c.in_ok-save.ensures c.requires.read c.requires.now c.requires.whole

pub returns-then-not-state-clause-outcome : goal.returns-then-not-state-clause-outcome
returns-then-not-state-clause-outcome g c = in-step _ _ c.args.now c.requires.read c.requires.now c.requires.whole
