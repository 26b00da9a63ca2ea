-- Why words ask for no job.
use Rattle.std.proofs.Common.{◌⊎◌, [], List, Option, inl, inr, subst}
use Rattle.std.specs.Prelude.{◌≢◌}
use Rattle.clap.specs.Words.{IsAmong, Kinds, Row, Text, kind_of}
use Rattle.tp_command_line.specs.LineError.{AskForNotOne, AsksForHelp, RefusesLine}
use Rattle.tp_command_line.specs.declared.error.ValueError.TheVariants.{NotOneText, NotOneOutput, BadTake}
use Rattle.tp_command_line.specs.declared.error.LineError.{LineError}
use Rattle.tp_command_line.specs.declared.error.LineError.TheVariants.{Request, Fault, Value}
use Rattle.tp_program.specs.Words.{IsMisuse, IsRequest}

-- a request for help is one of the words' faults
pub help_asked : (kinds : Kinds) (found : Option (Text × List Row)) (e : LineError) → RefusesLine kinds found e → IsRequest e → AsksForHelp kinds
help_asked kinds found (Request e) cause is = cause
help_asked kinds found (Fault e) cause is = absurd is
help_asked kinds found (Value e) cause is = absurd is

-- a fault is one of theirs
pub at_fault : (kinds : Kinds) (found : Option (Text × List Row)) (e : LineError) → RefusesLine kinds found e → IsMisuse e → (kinds ≢ []) ⊎ AskForNotOne kinds found
at_fault kinds found (Request e) cause is = absurd is
at_fault kinds found (Fault e) cause is = inl (λ none. subst (λ (k : Kinds). IsAmong (kind_of e) k) none cause)
at_fault kinds found (Value NotOneText) cause is = inr (inl cause)
at_fault kinds found (Value NotOneOutput) cause is = inr (inr (inl cause))
at_fault kinds found (Value BadTake) cause is = inr (inr (inr cause))
at_fault kinds found (Value e) cause is = absurd is
