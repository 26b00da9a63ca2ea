-- What the words of a command line ask for, and what the streams hold afterwards.
use Rattle.std.specs.Prelude.{◌≡◌, ◌≢◌, ◌⊎◌, ℕ, Bool, List, [], Option, None}
use Rattle.std.specs.Io.KnownBytes.{Keeps}
use Rattle.clap.specs.Words.{Text, fault_of, subcommand_of}
use Rattle.tp_command_line.specs.Commands.{IsFoundAs, subject_of, textpeer_app}
use Rattle.tp_command_line.specs.LineError.{AskForNotOne, AsksForHelp, RefusesReading, value_line}
use Rattle.tp_command_line.specs.declared.error.LineError.{LineError}
use Rattle.tp_command_line.specs.declared.error.LineError.TheVariants.{Request, Fault, Value}
use Rattle.tp_command_line.specs.declared.error.ValueError.{ValueError}
use Rattle.tp_command_line.specs.declared.error.ValueError.TheVariants.{NotOneText, NotOneOutput, BadTake}
use Rattle.tp_command_line.specs.declared.job.Job.{Job}
use Rattle.tp_report.specs.declared.error.JobError.{JobError}
use Rattle.tp_disk.specs.DiskView.{DiskView}
use Rattle.tp_report.specs.JobError.{IsOutputFault, no_memory}
use Rattle.tp_report.specs.Notes.{IsNote}
use Rattle.tp_program.specs.Output.{CutsForJob, IsJobOutput, RefusesOutput, MayCutForJob, ReportsEarly, ReportsApplied}
use Rattle.tp_report.specs.Telling.{GrowsBy, GrowsPart}

-- What the streams hold: the error stream as a job begins, and before what is written of it in the end; the output
-- before and after.
pub record Streams : Type 0 where
  pub early : Option (List ℕ)
  pub mid : Option (List ℕ)
  pub before : Option (List ℕ)
  pub after : Option (List ℕ)

abbrev pub as_streams : Option (List ℕ) → Option (List ℕ) → Option (List ℕ) → Option (List ℕ) → Streams
as_streams early mid before after = record { early = early; mid = mid; before = before; after = after }

-- the error is a request for help or for the version
abbrev pub IsRequest : LineError → Type 0
IsRequest (Request e) = Unit {0}
IsRequest e = ⊥

-- the error is that the words are at fault
abbrev pub IsMisuse : LineError → Type 0
IsMisuse (Fault e) = Unit {0}
IsMisuse (Value NotOneText) = Unit {0}
IsMisuse (Value NotOneOutput) = Unit {0}
IsMisuse (Value BadTake) = Unit {0}
IsMisuse e = ⊥

-- the words are at fault: the parser finds one, or they ask for an edit with not one text, for a recovery with not one output, or
-- for a mirror with another word at `--take`
abbrev pub WereAtFault : List Text → Type 0
WereAtFault words = (fault_of textpeer_app words ≢ []) ⊎ AskForNotOne (fault_of textpeer_app words) (subcommand_of textpeer_app words)

-- What help for the words could not be printed for: the output failed, or memory ran out and it stayed.
abbrev pub RefusesHelp : JobError → Option (List ℕ) → Option (List ℕ) → Type 0
RefusesHelp e before after = IsOutputFault e ⊎ ((e ≡ no_memory) × Keeps before after)

-- the words are at no fault, and ask for the job
abbrev pub AskFor : List Text → Job → Type 0
AskFor words job = (fault_of textpeer_app words ≡ []) × IsFoundAs (subcommand_of textpeer_app words) job

-- The job was done: the output grew by what is printed of it; the error stream by what was reported meanwhile, and what
-- is reported at the end is known.
pub record IsDone (saw : DiskView → Type 0) (job : Job) (cut reported : Option ℕ) (s : Streams) : Type 0 where
  pub reports : ReportsEarly saw job s.early s.mid
  pub cuts : CutsForJob saw job cut
  pub tells : ReportsApplied job reported
  pub prints : GrowsBy (IsJobOutput saw job) s.before s.after

-- The job was refused: the output holds what is left of it, and the error stream what was reported meanwhile.
pub record RefusesJob (saw : DiskView → Type 0) (job : Job) (cut : Option ℕ) (e : JobError) (s : Streams) : Type 0 where
  pub reports : ReportsEarly saw job s.early s.mid
  pub cuts : MayCutForJob saw job cut
  pub leaves_out : RefusesOutput saw job s.before e s.after

-- The words asked for help or the version; or for a job on the file, and it was done.
abbrev pub WasDone : (DiskView → Type 0) → List Text → List ℕ → Option ℕ → Option ℕ → Streams → Type 0
WasDone saw words file cut reported s = (AsksForHelp (fault_of textpeer_app words) × (cut ≡ None) × (reported ≡ None) × Keeps s.early s.mid)
    ⊎ ((job : Job) × AskFor words job × (file ≡ (subject_of job).file.now) × IsDone saw job cut reported s)

-- The words asked for help, which could not be printed, and the output may hold a part of it; or the job that they ask for was
-- refused.
abbrev pub RefusesHelpOrJob : (DiskView → Type 0) → List Text → Bool → List ℕ → List ℕ → Option ℕ → JobError → Streams → Type 0
RefusesHelpOrJob saw words explains note file cut e s = (AsksForHelp (fault_of textpeer_app words) × (note ≡ []) × (cut ≡ None) × Keeps s.early s.mid × RefusesHelp e s.before s.after)
    ⊎ ((job : Job) × AskFor words job × (file ≡ (subject_of job).file.now) × IsNote explains (subject_of job) e note × RefusesJob saw job cut e s)

-- No job was read of the words: a value isn't what it is to be, or memory ran out. The error stream grew by the line of that, or
-- a beginning of it, and the output stayed.
abbrev pub WasUnread : List Text → Bool → Option (List ℕ) → Option (List ℕ) → Option (List ℕ) → Option (List ℕ) → Type 0
WasUnread words explains early late before after = (e : ValueError) × RefusesReading (fault_of textpeer_app words) (subcommand_of textpeer_app words) e
    × GrowsPart (λ printed. printed ≡ value_line explains e) early late × Keeps before after
