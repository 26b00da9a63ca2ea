-- Lists of changes in an order in which each fitted when it entered.
use Rattle.std.specs.Prelude.{◌≡◌, ◌+◌, List, [], ◌∷◌, ◌++◌, false, None, IsTrue}
use Rattle.tp_history.specs.Common.{ChangeParts, hash_of, ops_of, inserts, refers, next_counter}
use Rattle.tp_history.specs.Named.{has, has_all}
use Rattle.tp_history.specs.Past.{past}
use Rattle.tp_history.specs.Fit.{defect, count_by, clashes}

-- Each change fits after those of `before` and those of the list before it.
abbrev pub SoundAfter : List ChangeParts → List ChangeParts → Type 0
SoundAfter before [] = Unit {0}
SoundAfter before (c ∷ C) = (defect before c ≡ None) × SoundAfter (before ++ c ∷ []) C

-- Each change fits after those before it.
abbrev pub Sound : List ChangeParts → Type 0
Sound C = SoundAfter [] C

-- What it takes to fit: c has no defect after C.
pub record Fits (C : List ChangeParts) (c : ChangeParts) : Type 0 where
  pub new : has C (hash_of c) ≡ false
  pub deps : IsTrue (has_all C c.deps)
  pub seq : c.seq ≡ count_by c.actor (past C c.deps) + 1
  pub start : c.start ≡ next_counter (past C c.deps)
  pub refs : IsTrue (refers (inserts (past C c.deps)) (ops_of c))
  pub free : clashes C c ≡ false
