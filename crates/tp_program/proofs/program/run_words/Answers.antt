use Rattle.std.proofs.Common.{Bor, List, ℕ, subst}
use Rattle.std.specs.Prelude.{map}
use Rattle.tp_program.specs.Words.{WereAtFault}
use Rattle.tp_program.proofs.program.run_words.Goals as goal

pub returns-after-asked-clause-misused : goal.returns-after-asked-clause-misused
returns-after-asked-clause-misused g c misused =
    let P : List (Bor (List ℕ)) → Type 0 = λ words. WereAtFault (map (λ (t : Bor (List ℕ)). t.now) words) in
    subst WereAtFault c.in-Ok.ensures.words (subst P c.deref-in-Ok.ensures.value (c.run_words_on.ensures.misused misused).0)
