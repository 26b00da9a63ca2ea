-- The refusals of jobs: their numbers, and which refusal of a layer below is which.
use Rattle.std.specs.Prelude.{◌≡◌, ◌⊎◌, ℕ, ◌+◌, Option, None, Some}
use Rattle.tp_commands.specs.CommandError.{code_of as code_of_command, refusal_of_peer}
use Rattle.tp_commands.specs.declared.error.CommandError.{CommandError}
use Rattle.tp_commands.specs.declared.error.CommandError.TheVariants as command
use Rattle.tp_commands.specs.declared.error.UpdateError.{UpdateError}
use Rattle.tp_session.specs.declared.error.NetError.{NetError}
use Rattle.tp_session.specs.declared.error.NetError.TheVariants as net
use Rattle.tp_simulate.specs.declared.error.SimError.{SimError}
use Rattle.tp_simulate.specs.declared.error.SimError.TheVariants as script
use Rattle.tp_textpeer.specs.declared.error.ShowError.{ShowError}
use Rattle.tp_textpeer.specs.declared.error.ShowFault.{ShowFault}
use Rattle.tp_textpeer.specs.declared.error.ShowFault.TheVariants as show
use Rattle.tp_report.specs.declared.error.JobError.{JobError}
use Rattle.tp_report.specs.declared.error.JobError.TheVariants.{Command, Show, Line, Session, Unreached, Closed, Unsaid, HalfWay}
use Rattle.tp_report.specs.declared.error.Made.{Made}

-- a file or the output failed
abbrev pub io_failure : JobError
io_failure = Command command.Io

-- The output failed, or was closed by who read it.
abbrev pub IsOutputFault : JobError → Type 0
IsOutputFault e = (e ≡ io_failure) ⊎ (e ≡ Closed)

-- so it was, or what was made before isn't said
abbrev pub IsOfOutput : JobError → Type 0
IsOfOutput e = IsOutputFault e ⊎ ((made : Made) × (e ≡ Unsaid made))

-- nothing was made that isn't said
abbrev pub IsAllSaid : JobError → Type 0
IsAllSaid (Unsaid made) = ⊥
IsAllSaid e = Unit {0}

-- a growth was refused
abbrev pub no_memory : JobError
no_memory = Command command.OutOfMemory

-- the number of a refusal
abbrev pub code_of : JobError → ℕ
code_of (Command e) = 1 + code_of_command e
code_of (Show e) = 8
code_of (Line number) = 9
code_of (Session e) = 10
code_of (Unreached cause) = 2
code_of Closed = 2
code_of (Unsaid made) = 2
code_of (HalfWay e place) = 1 + code_of_command e

-- a refusal of a text's changes: with the place, where some were made before it
abbrev pub refusal_at : CommandError → Option ℕ → JobError
refusal_at e (Some place) = HalfWay e place
refusal_at e None = Command e

abbrev pub refusal_of_update : UpdateError → JobError
refusal_of_update e = refusal_at e.error e.place

-- a refusal of a log, unless the log isn't at fault
abbrev pub refusal_by : ShowFault → ShowError → JobError
refusal_by show.Io e = io_failure
refusal_by show.OutOfMemory e = no_memory
refusal_by fault e = Show (record { 0 = e })

abbrev pub refusal_of_log : ShowError → JobError
refusal_of_log e = refusal_by e.fault e

abbrev pub refusal_of_script : SimError → JobError
refusal_of_script (script.Line number) = Line number
refusal_of_script script.Io = io_failure
refusal_of_script script.OutOfMemory = no_memory

abbrev pub refusal_of_session : NetError → JobError
refusal_of_session net.Io = io_failure
refusal_of_session net.OutOfMemory = no_memory
refusal_of_session (net.Peer e) = Command (refusal_of_peer e)
refusal_of_session e = Session e
