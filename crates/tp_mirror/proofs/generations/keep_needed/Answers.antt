use Rattle.std.proofs.Common.{rules}
use Rattle.std.proofs.lemmas.Fn.{filter_same}
use Rattle.tp_mirror.specs.Generations.{stays_known}
use Rattle.tp_mirror.proofs.generations.keep_needed.Goals as goal

pub returns : goal.returns
returns c = filter_same _ (stays_known c.args.begun c.args.moved.now) _ (λ x b g k. search rules) _ _ c.retain.ensures.filtered
