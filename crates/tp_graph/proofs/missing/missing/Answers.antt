use Rattle.tp_graph.proofs.Common.{◌≡◌, ◌↔◌, ◌∙◌, sym, ap, subst, List, [], drop_all, In, IsRising, hash_cmp, Hash, gather_all, IsMissing}
use Rattle.tp_graph.proofs.WaitingLaws.{missing-rises, missing-In}
use Rattle.tp_graph.proofs.missing.missing.Goals as goal

pub returns-clause-rising : goal.returns-clause-rising
returns-clause-rising c =
    let all : c.loop-change.found.items ≡ gather_all c.args.ancestry.now.changes c.args.waiting.now c.args.waiting.now [] =
    ap (λ l. gather_all c.args.ancestry.now.changes c.args.waiting.now l c.loop-change.found.items) (sym (drop_all c.loop-change.change-index c.args.waiting.now c.loop-change-test.false)) ∙ c.loop-change.invariant in
    subst (λ l. IsRising hash_cmp l) (sym all) (missing-rises c.args.ancestry.now.changes c.args.waiting.now)

pub returns-clause-there : goal.returns-clause-there
returns-clause-there c =
    let all : c.loop-change.found.items ≡ gather_all c.args.ancestry.now.changes c.args.waiting.now c.args.waiting.now [] =
    ap (λ l. gather_all c.args.ancestry.now.changes c.args.waiting.now l c.loop-change.found.items) (sym (drop_all c.loop-change.change-index c.args.waiting.now c.loop-change-test.false)) ∙ c.loop-change.invariant in
    λ h. subst (λ (l : List Hash). In h l ↔ IsMissing c.args.ancestry.now.changes c.args.waiting.now h) (sym all) (missing-In c.args.ancestry.now.changes c.args.waiting.now h)
