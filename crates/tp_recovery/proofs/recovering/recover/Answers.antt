use Rattle.std.proofs.Common.{List, ℕ, ◌++◌, subst, sym, ap, ◌∙◌}
use Rattle.tp_recovery.specs.Recovery.{Recovers}
use Rattle.tp_recovery.proofs.recovering.recover.Goals as goal

pub returns-clause-only : goal.returns-clause-only
returns-clause-only g c id C keep recovers =
    c.finish.ensures.only id C keep
    (subst (λ (l : List ℕ). Recovers l id C keep) (sym (c.feed.ensures ∙ ap (λ l. l ++ c.args.bytes.now) c.new-recovering.ensures)) recovers)
