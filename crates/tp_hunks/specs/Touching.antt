-- Which lines replacements touch.
use Rattle.std.specs.Prelude.{◌+◌, ◌≤◌, List, [], ◌∷◌, Any, nat_le, if◌then◌else◌}
use Rattle.tp_hunks.specs.declared.replacing.Step.{Step}
use Rattle.tp_hunks.specs.declared.touching.Touched.{Touched}

-- no line yet: the first of both texts
abbrev pub lines_at_start : Touched
lines_at_start = record { old_first = 0; old_last = 0; new_first = 0; new_last = 0 }

-- the lines that a replacement touches, after those that the one before it touched
abbrev pub touched_after : Touched → Step → Touched
touched_after g s = record {
  old_first = g.old_last + s.stay;
  old_last = g.old_last + s.stay + s.gone;
  new_first = g.new_last + s.stay;
  new_last = g.new_last + s.stay + s.come;
}

-- the lines that were touched, and these too
abbrev pub joined_with : Touched → Touched → Touched
joined_with g t = record g { old_last = t.old_last; new_last = t.new_last }

-- The groups of lines that are touched. One of them is g: where no line is between, it is one group.
abbrev pub touched_from : Touched → List Step → List Touched
touched_from g [] = g ∷ []
touched_from g (s ∷ ss) =
    if nat_le s.stay 1 then touched_from (joined_with g (touched_after g s)) ss else g ∷ touched_from (touched_after g s) ss

abbrev pub touched_lines : List Step → List Touched
touched_lines [] = []
touched_lines (s ∷ ss) = touched_from (touched_after lines_at_start s) ss

-- the lines are among those of the group
pub record IsAmongLines (t g : Touched) : Type 0 where
  pub old_from : g.old_first ≤ t.old_first
  pub old_to : t.old_last ≤ g.old_last
  pub new_from : g.new_first ≤ t.new_first
  pub new_to : t.new_last ≤ g.new_last

-- What each replacement touches, after g, is within one group.
abbrev pub AllAmong : Touched → List Step → List Touched → Type 0
AllAmong g [] gs = Unit {0}
AllAmong g (s ∷ ss) gs = Any (IsAmongLines (touched_after g s)) gs × AllAmong (touched_after g s) ss gs
