-- What a verdict says, where a cause says whether a change can enter.
use Rattle.std.specs.Prelude.{◌≡◌, Option, Some, None, Result, IsOk, IsTrue}
use Rattle.tp_receive.specs.Common.{GraphError, MissingDeps}
use Rattle.tp_receive.specs.declared.verdict.Verdict.{Verdict}
use Rattle.tp_receive.specs.declared.verdict.Verdict.TheVariants.{Enters, Waits, Refused}
use Rattle.tp_receive.specs.Receiving.{is_refusal}

-- the verdict is that of the cause
abbrev pub GivesVerdict : Verdict → Option GraphError → Type 0
GivesVerdict Enters o = o ≡ None
GivesVerdict Waits o = o ≡ Some MissingDeps
GivesVerdict (Refused e) o = (o ≡ Some e) × IsTrue (is_refusal (Some e))

-- where the verdict is that the change can enter, the answer was Ok
abbrev pub IsEntry : Verdict → Result (Unit {0}) GraphError → Type 0
IsEntry Enters answer = IsOk answer
IsEntry Waits answer = Unit {0}
IsEntry (Refused e) answer = Unit {0}
