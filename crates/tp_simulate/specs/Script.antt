-- What a whole script prints.
use Rattle.std.specs.Prelude.{◌≡◌, ℕ, ◌+◌, List, ◌++◌, length, Option}
use Rattle.std.specs.Io.KnownBytes.{Appends}
use Rattle.tp_opid.specs.declared.op_id.OpId.{OpId}
use Rattle.tp_headline.specs.World.{World}
use Rattle.tp_textpeer.specs.Output.{AppendsPart}
use Rattle.tp_world.specs.Order.{IsOneList}
use Rattle.tp_simulate.specs.declared.asked.Asked.{Asked}
use Rattle.tp_simulate.specs.Playing.{PlaysTo}
use Rattle.tp_simulate.specs.Telling.{order_line}

-- The bytes are what some lines print, and after it the one list of all elements of the world that they led to.
pub record IsScriptOutput (bytes : List ℕ) : Type 0 where
  pub asked : List Asked
  pub printed : List ℕ
  pub world : World
  pub pairs : List (OpId × ℕ)
  pub played : PlaysTo asked printed world
  pub one_list : IsOneList world.made pairs
  pub spelled : bytes ≡ printed ++ order_line pairs

-- What the writer holds grew by what a script prints.
abbrev pub Prints : Option (List ℕ) → Option (List ℕ) → Type 0
Prints before after = (printed : List ℕ) × IsScriptOutput printed × Appends before after printed

-- What the writer holds grew by a beginning of what a script prints.
abbrev pub PrintsPart : Option (List ℕ) → Option (List ℕ) → Type 0
PrintsPart before after = (printed : List ℕ) × IsScriptOutput printed × AppendsPart before after printed

-- What the writer holds grew by what is printed of all lines before the one with this number, from 1, and by nothing else.
pub record StopsAtLine (number : ℕ) (before after : Option (List ℕ)) : Type 0 where
  pub asked : List Asked
  pub printed : List ℕ
  pub world : World
  pub played : PlaysTo asked printed world
  pub count : length asked + 1 ≡ number
  pub written : Appends before after printed
