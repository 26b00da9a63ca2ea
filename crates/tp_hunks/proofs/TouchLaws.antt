-- What replacements touch is within one group of lines.
use Rattle.std.proofs.Common.{◌≡◌, ◌≤◌, suc, List, [], ◌∷◌, Bool, true, false, refl, arith}
use Rattle.std.specs.Prelude.{Any, nat_le, if◌then◌else◌}
use Rattle.tp_hunks.specs.declared.replacing.Step.{Step}
use Rattle.tp_hunks.specs.declared.touching.Touched.{Touched}
use Rattle.tp_hunks.specs.Touching.{AllAmong, IsAmongLines, lines_at_start, joined_with, touched_after, touched_from, touched_lines}

here : (t g : Touched) (gs : List Touched) → IsAmongLines t g → Any (IsAmongLines t) (g ∷ gs)
here t g gs is = (0, g, omega arith, refl, is)

there : (t g : Touched) (gs : List Touched) → Any (IsAmongLines t) gs → Any (IsAmongLines t) (g ∷ gs)
there t g gs w = (suc w.0, w.1, omega (arith, w.2), w.3, w.4)

-- what is within the open group is within one of those that it leads to
within : (ss : List Step) (t g : Touched) → IsAmongLines t g → Any (IsAmongLines t) (touched_from g ss)
within [] t g is = here t g [] is
within (s ∷ ss) t g is = go (nat_le s.stay 1) (within ss t (joined_with g (touched_after g s)) wider)
  where
    wider : IsAmongLines t (joined_with g (touched_after g s))
    wider = record {
      old_from = is.old_from;
      old_to = omega (arith, is.old_to);
      new_from = is.new_from;
      new_to = omega (arith, is.new_to);
    }

    go : (b : Bool) → Any (IsAmongLines t) (touched_from (joined_with g (touched_after g s)) ss)
        → Any (IsAmongLines t) (if b then touched_from (joined_with g (touched_after g s)) ss else g ∷ touched_from (touched_after g s) ss)
    go true rest = rest
    go false rest = here t g (touched_from (touched_after g s) ss) is

-- what is within the later groups is within all of them
all_there : (ss : List Step) (t g : Touched) (gs : List Touched) → AllAmong t ss gs → AllAmong t ss (g ∷ gs)
all_there [] t g gs all = tt
all_there (s ∷ ss) t g gs all = (there (touched_after t s) g gs all.0, all_there ss (touched_after t s) g gs all.1)

-- each replacement after those that the open group is of
all_from : (ss : List Step) (t g : Touched) → t.old_last ≡ g.old_last → t.new_last ≡ g.new_last → g.old_first ≤ g.old_last → g.new_first ≤ g.new_last
    → AllAmong t ss (touched_from g ss)
all_from [] t g old new low low' = tt
all_from (s ∷ ss) t g old new low low' =
    go (nat_le s.stay 1)
    (all_from ss (touched_after t s) (joined_with g (touched_after g s)) (omega (arith, old)) (omega (arith, new)) (omega (arith, low)) (omega (arith, low')))
    (all_from ss (touched_after t s) (touched_after g s) (omega (arith, old)) (omega (arith, new)) (omega arith) (omega arith))
  where
    in_joined : IsAmongLines (touched_after t s) (joined_with g (touched_after g s))
    in_joined = record { old_from = omega (arith, old, low); old_to = omega (arith, old); new_from = omega (arith, new, low'); new_to = omega (arith, new) }

    in_apart : IsAmongLines (touched_after t s) (touched_after g s)
    in_apart = record { old_from = omega (arith, old); old_to = omega (arith, old); new_from = omega (arith, new); new_to = omega (arith, new) }

    go : (b : Bool) → AllAmong (touched_after t s) ss (touched_from (joined_with g (touched_after g s)) ss)
        → AllAmong (touched_after t s) ss (touched_from (touched_after g s) ss)
        → AllAmong t (s ∷ ss) (if b then touched_from (joined_with g (touched_after g s)) ss else g ∷ touched_from (touched_after g s) ss)
    go true near far = (within ss (touched_after t s) (joined_with g (touched_after g s)) in_joined, near)
    go false near far = (
      there (touched_after t s) g (touched_from (touched_after g s) ss) (within ss (touched_after t s) (touched_after g s) in_apart),
      all_there ss (touched_after t s) g (touched_from (touched_after g s) ss) far,
    )

-- each replacement is within one of the groups
pub all_among : (ss : List Step) → AllAmong lines_at_start ss (touched_lines ss)
all_among [] = tt
all_among (s ∷ ss) = (
  within ss (touched_after lines_at_start s) (touched_after lines_at_start s)
      (record { old_from = omega arith; old_to = omega arith; new_from = omega arith; new_to = omega arith }),
  all_from ss (touched_after lines_at_start s) (touched_after lines_at_start s) refl refl (omega arith) (omega arith),
)
