use Rattle.tp_graph.proofs.Common.{MatchOption, IsBehind, ◌≡◌, ◌∙◌, ap, subst, sym, true, false, hash_of, has, has_all, AncestryState}
use Rattle.tp_graph.proofs.AnswersLaws.{MatchesCause-after}
use Rattle.tp_graph.proofs.applied.Applied.judge.Goals as goal

pub returns-in_err-past_set-clause-answers : goal.returns-in_err-past_set-clause-answers
returns-in_err-past_set-clause-answers c =
    let C = c.args.self.now.changes in
    let x = c.args.change.now in
    let D = c.ancestry-ancestry.result.now.changes in
    let same = c.ancestry-ancestry.ensures in
    let asked : c.contains.result ≡ has C c.hash.result = subst (λ (s : AncestryState). c.contains.result ≡ has s.changes c.hash.result) same c.contains.ensures in
    let new : has C (hash_of x) ≡ false = ap (has C) (sym c.hash.ensures.hash) ∙ sym asked ∙ c.if-contains.false in
    let beyond = subst (λ o. MatchOption o (has_all D c.deps.result.now ≡ false) (IsBehind D c.deps.result.now)) c.in-Ok-Some.field-0-is c.in-Ok-Some.ensures.beyond in
    let there : has_all C x.deps ≡ true = ap (has_all C) (sym c.deps.ensures) ∙ subst (λ (s : AncestryState). has_all s.changes c.deps.result.now ≡ true) same beyond.there in
    MatchesCause-after C x c.in_err-past_set.field-0.0 c.from_residual.result new there c.in_err-past_set.ensures.answers c.from_residual.ensures.1
