use Rattle.tp_ancestry.proofs.Common.{◌∙◌, ap, ℕ, List, Some, cond, lookup, unwrap_or, Actor}
use Rattle.tp_opid.specs.Order.{actor_cmp}
use Rattle.tp_opid.specs.Same.{same_actor}
use Rattle.tp_ancestry.proofs.ClockLaws.{end_set}
use Rattle.tp_ancestry.proofs.clock.Clock.set.Goals as goal

pub returns : goal.returns
unfolding same_actor actor_cmp
returns c = λ other.
    ap (λ o. unwrap_or o 0) (c.in_ok-insert.ensures.updates.0 other)
    ∙ ap (λ (es : List (Actor × ℕ)). unwrap_or (cond (same_actor c.args.actor other) (Some c.args.end) (lookup (same_actor other) es)) 0) c.self.view_is
    ∙ end_set (same_actor c.args.actor other) c.args.end (lookup (same_actor other) c.args.self.now)
