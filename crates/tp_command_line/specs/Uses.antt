-- What words without a fault give the arguments of a subcommand of `textpeer`.
use Rattle.std.specs.Prelude.{◌≡◌, ◌&&◌, ◌||◌, Bool, false, not, List, [], Option, Some, find}
use Rattle.std.specs.List.{list_any}
use Rattle.std.specs.Option.{option_map_or}
use Rattle.std.specs.Str.{bytes_eq}
use Rattle.clap.specs.Faults.{level_fault}
use Rattle.clap.specs.Simple.{built}
use Rattle.clap.specs.Walk.{Rule, is_empty, nothing_held, rows_after}
use Rattle.clap.specs.Words.{Row, Shape, Text}
use Rattle.tp_command_line.specs.Commands.{textpeer_app}

-- the subcommand of `textpeer` with this name, as it is built
abbrev pub shape_named : Text → Option Shape
shape_named name = find (λ s. bytes_eq s.name name) (built textpeer_app).subs

-- the rows are what some words without a fault give the arguments of the subcommand with this name
pub record IsUse (name : Text) (rows : List Row) : Type 0 where
  pub shape : Shape
  pub words : List Text
  pub named : shape_named name ≡ Some shape
  pub passed : level_fault shape [] nothing_held words false [] ≡ []
  pub found : rows ≡ rows_after shape.rules [] words

-- the argument with this identifier has to be given
abbrev pub is_required : Text → List Rule → Bool
is_required id c = list_any (λ a. bytes_eq a.id id && a.required) c

-- the argument with this identifier has a default
abbrev pub has_default : Text → List Rule → Bool
has_default id c = list_any (λ a. bytes_eq a.id id && not (is_empty a.defaults)) c

-- the subcommand with this name requires the argument, or has a default for it
abbrev pub always_has : Text → Text → Bool
always_has name id = option_map_or (λ s. is_required id s.rules || has_default id s.rules) (shape_named name) false
