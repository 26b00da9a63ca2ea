-- What a mirror that goes on says of its turns.
use Rattle.std.specs.Prelude.{◌≡◌, Bool, true, false, List, [], ◌∷◌, ℕ, Option, Some, None}
use Rattle.tp_commands.specs.declared.error.CommandError.{CommandError}
use Rattle.tp_commands.specs.declared.error.CommandError.TheVariants.{Busy, Io, NotQuiet, NotText}
use Rattle.tp_disk.specs.DiskView.{DiskView}
use Rattle.tp_disk.specs.Opening.{MayCutFile}
use Rattle.tp_report.specs.declared.error.JobError.{JobError}
use Rattle.tp_report.specs.declared.error.JobError.TheVariants.{Command}
use Rattle.tp_report.specs.Telling.{GrowsPart, IsLineOf, Reports}
use Rattle.tp_online.specs.Sessions.{ReportsEach}

-- whether a later turn may be done all the same: another has the journal, or the text file isn't quiet, is gone or is no text
abbrev pub is_waited_out : CommandError → Bool
is_waited_out Io = true
is_waited_out Busy = true
is_waited_out NotQuiet = true
is_waited_out (NotText at) = true
is_waited_out _ = false

-- What a turn said: what was cut off the journal, and why it was refused, where that may pass and wasn't said before.
pub record MirrorTurn : Type 0 where
  pub cut : Option ℕ
  pub told : Option CommandError

-- the line of a refusal that may pass, or nothing
abbrev pub TellsPassing : Option CommandError → Option (List ℕ) → Option (List ℕ) → Type 0
TellsPassing None before after = before ≡ after
TellsPassing (Some e) before after = (is_waited_out e ≡ true) × GrowsPart (IsLineOf (Command e)) before after

-- what the error stream holds of the turns
abbrev pub TellsTurns : (DiskView → Type 0) → List ℕ → List MirrorTurn → Option (List ℕ) → Option (List ℕ) → Type 0
TellsTurns saw file [] before after = before ≡ after
TellsTurns saw file (t ∷ ts) before after =
    (mid : Option (List ℕ)) × (next : Option (List ℕ)) × MayCutFile saw file t.cut × Reports file t.cut None before mid
    × TellsPassing t.told mid next × TellsTurns saw file ts next after

-- some turns said what was written between the two
abbrev pub TellsSome : (DiskView → Type 0) → List ℕ → Option (List ℕ) → Option (List ℕ) → Type 0
TellsSome saw file before after = (turns : List MirrorTurn) × TellsTurns saw file turns before after

-- What a turn and a session after it said: the turn, and what was cut off where the session opened the journal.
pub record SharedTurn : Type 0 where
  pub turns : List MirrorTurn
  pub cuts : List (Option ℕ)

-- what the error stream holds of turns and sessions
abbrev pub TellsSharedTurns : (DiskView → Type 0) → List ℕ → List SharedTurn → Option (List ℕ) → Option (List ℕ) → Type 0
TellsSharedTurns saw file [] before after = before ≡ after
TellsSharedTurns saw file (t ∷ ts) before after =
    (mid : Option (List ℕ)) × (next : Option (List ℕ)) × TellsTurns saw file t.turns before mid × ReportsEach saw file t.cuts mid next
    × TellsSharedTurns saw file ts next after

-- some of them said what was written between the two
abbrev pub TellsShared : (DiskView → Type 0) → List ℕ → Option (List ℕ) → Option (List ℕ) → Type 0
TellsShared saw file before after = (shared : List SharedTurn) × TellsSharedTurns saw file shared before after
