-- Where the files beside NOTE are.
use Rattle.std.specs.Prelude.{List, ℕ, ◌++◌, codes}
use Rattle.hex.specs.Hex.{encode_lower}
use Rattle.tp_mirror.specs.declared.state.Name.{Name}
use Rattle.tp_mirror.specs.declared.workspace.Source.{Source}
use Rattle.tp_mirror.specs.declared.workspace.Source.TheVariants.{Note, Away}

-- the path of a file that was NOTE and was moved away
abbrev pub moved_path : List ℕ → Name → List ℕ
moved_path note name = note ++ (codes ".mirror-" ++ encode_lower name.0)

-- the path of a file that is read
abbrev pub source_path : List ℕ → Source → List ℕ
source_path note Note = note
source_path note (Away name) = moved_path note name
