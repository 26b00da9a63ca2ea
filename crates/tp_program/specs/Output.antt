-- What is printed of a job, where it was done and where it was refused.
use Rattle.std.specs.Prelude.{◌≡◌, ◌⊎◌, ℕ, Bool, true, false, List, [], map, Option, Some, None}
use Rattle.std.specs.Borrow.{Bor}
use Rattle.std.specs.Io.KnownBytes.{Keeps}
use Rattle.std.specs.Str.{chars}
use Rattle.tp_simulate.specs.Script.{IsScriptOutput as IsScriptPrinted, PrintsPart, StopsAtLine}
use Rattle.tp_textpeer.specs.Show.{IsLogOfText, utf8_line as text_line}
use Rattle.tp_commands.specs.Diff.{IsDiff}
use Rattle.tp_commands.specs.declared.diff.DiffForm.{DiffForm}
use Rattle.tp_commands.specs.declared.diff.DiffForm.TheVariants.{Lines, Unified, Words}
use Rattle.tp_commands.specs.Graph.{IsChangeGraph}
use Rattle.tp_commands.specs.Log.{AreChangeLines}
use Rattle.tp_commands.specs.Pretty.{IsPrettyLog}
use Rattle.tp_commands.specs.Reading.{AreHeadLines, IsCursorLine, IsTextPrinted}
use Rattle.tp_commands.specs.Status.{IsStatus}
use Rattle.tp_commands.specs.declared.status.Lock.{Lock}
use Rattle.tp_report.specs.declared.error.JobError.{JobError}
use Rattle.tp_report.specs.declared.error.JobError.TheVariants.{Command, Line}
use Rattle.tp_peer.specs.PeerState.{PeerState}
use Rattle.tp_session.specs.declared.session.Role.{Role}
use Rattle.tp_session.specs.declared.session.Role.TheVariants.{Client, Server}
use Rattle.tp_store.specs.declared.error.StoreError.{StoreError}
use Rattle.tp_commands.specs.CommandError.{command_refusal_of_bytes}
use Rattle.tp_command_line.specs.declared.job.FileJob.{FileJob}
use Rattle.tp_command_line.specs.declared.job.FileJob.TheVariants.{New, Edit, Update, Import, Mirror, Text, Heads, Log, Graph, Diff, Status, Cursor, Check, Merge, Save, Load, Recover, Show, Simulate}
use Rattle.tp_command_line.specs.declared.job.Job.{Job}
use Rattle.tp_command_line.specs.declared.job.Job.TheVariants.{Files, Follow, Keep, Serve, Session, Share, Sync, Web}
use Rattle.tp_disk.specs.DiskView.{DiskView, ChangesFile, OfFile}
use Rattle.tp_disk.specs.Opening.{CutsFile, MayCutFile}
use Rattle.tp_program.specs.Files.{IsLoaded, IsRecoveryOutput, OfGiven, OfInserted, SavesTo}
use Rattle.tp_program.specs.Lines.{AreImportLines, AreUpdateLines, IsEditLine, IsMergeLine, IsNewLine}
use Rattle.tp_program.specs.Rescuing.{IsChecked}
use Rattle.tp_mirroring.specs.Taking.{Mirrors}
use Rattle.tp_report.specs.JobError.{IsOfOutput, io_failure}
use Rattle.tp_report.specs.Telling.{GrowsBy, GrowsPart, RefusesPrinting}
use Rattle.tp_online.specs.Mirroring.{MirrorTurn, SharedTurn, TellsSharedTurns, TellsTurns}
use Rattle.tp_online.specs.Network.{AreFrames, IsPageShown, IsServeOutput, IsSynced}
use Rattle.tp_online.specs.Sessions.{HasMet, IsFollowed, ReportsEach}

-- the bytes are the text of a log, and a newline
abbrev pub IsShown : List ℕ → Type 0
IsShown printed = (log : List ℕ) × (text : List ℕ) × IsLogOfText log text × (printed ≡ text_line text)

-- the bytes are the lines of a journal's newest changes, for people or not
abbrev pub IsLogPrinted : Bool → ℕ → List ℕ → List ℕ → Type 0
IsLogPrinted true most journal printed = IsPrettyLog journal most printed
IsLogPrinted false most journal printed = AreChangeLines journal most printed

-- how `diff` prints: the lines that differ, or these with others for `patch`, or with marks within them
abbrev pub form_of : Bool → Bor (List ℕ) → Option ℕ → DiffForm
form_of false file None = Lines
form_of false file (Some n) = Unified file n
form_of true file None = Words 0
form_of true file (Some n) = Words n

-- The bytes are what is printed of the job where it was done: of `text`, `heads`, `log`, `graph`, `diff`, `status` and `cursor`
-- what the bytes say that were read of the file; of `show` the text of a log; of `new` the identifier that is drawn; of `edit` the
-- hash of the change that was made, or `nothing`; of `update` and `import` those of the changes that made the text that of a
-- file; of `mirror` nothing; of `merge` how many changes of the other file entered; of `save` and `load`
-- nothing; of `check` what is in the bytes, of `recover` what could be had of them, or what their records inserted; of `simulate` the replies to the lines of a
-- script, and the one list of its world. And the file that a job writes was left as it says.
abbrev pub IsFilesPrinted : (DiskView → Type 0) → FileJob → List ℕ → Type 0
IsFilesPrinted saw (New file key) printed = ChangesFile saw file.now (λ before after. IsNewLine key before after printed)
IsFilesPrinted saw (Edit file at del text time message key) printed =
    OfInserted saw text (λ inserted. ChangesFile saw file.now (λ before after.
    IsEditLine key (record { at = at; del = del; text = inserted }) time (chars message.now) before after printed))
IsFilesPrinted saw (Update file source since time message key) printed = OfGiven saw source.now (λ bytes.
    ChangesFile saw file.now (λ before after. AreUpdateLines key since.items (chars bytes) time (chars message.now) before after printed))
IsFilesPrinted saw (Import file source time message key) printed = OfGiven saw source.now (λ bytes.
    ChangesFile saw file.now (λ before after. AreImportLines key (chars bytes) time (chars message.now) before after printed))
IsFilesPrinted saw (Mirror file note take key) printed = (printed ≡ []) × ((place : List ℕ) × ChangesFile saw file.now (Mirrors saw place))
IsFilesPrinted saw (Text file is_raw heads) printed = OfFile saw file.now (λ journal. IsTextPrinted is_raw journal heads.items printed)
IsFilesPrinted saw (Heads file) printed = OfFile saw file.now (λ journal. AreHeadLines journal printed)
IsFilesPrinted saw (Log file pretty most) printed = OfFile saw file.now (λ journal. IsLogPrinted pretty most journal printed)
IsFilesPrinted saw (Graph file) printed = OfFile saw file.now (λ journal. IsChangeGraph journal printed)
IsFilesPrinted saw (Diff file from to context is_worded) printed =
    OfFile saw file.now (λ journal. IsDiff (form_of is_worded file context) journal from.items to.items printed)
IsFilesPrinted saw (Status file) printed = OfFile saw file.now (λ journal. (lock : Lock) × IsStatus journal lock printed)
IsFilesPrinted saw (Cursor file at heads) printed = OfFile saw file.now (λ journal. IsCursorLine journal at heads.items printed)
IsFilesPrinted saw (Check file) printed = OfFile saw file.now (λ bytes. IsChecked bytes None printed)
IsFilesPrinted saw (Merge file other key) printed =
    ChangesFile saw file.now (λ before after. OfFile saw other.now (λ bytes. IsMergeLine key before bytes after printed))
IsFilesPrinted saw (Save file out) printed = (printed ≡ []) × OfFile saw file.now (λ journal. SavesTo saw out.now journal)
IsFilesPrinted saw (Load saved file) printed = (printed ≡ []) × OfFile saw saved.now (λ bytes. ChangesFile saw file.now (IsLoaded bytes))
IsFilesPrinted saw (Recover file out others) printed = IsRecoveryOutput saw file.now out (map (λ p. p.now) others.items) None printed
IsFilesPrinted saw (Show log) printed = IsShown printed
IsFilesPrinted saw (Simulate script) printed = IsScriptPrinted printed

-- The bytes are what is printed of the job where it was done: of `serve` the port and how many sessions were held; of `sync`
-- how many changes entered, by each session where it follows; of `session` the frames of its side; of `web` where the page is, and the
-- port of sessions beside it. A mirror that goes on is never done.
abbrev pub IsJobOutput : (DiskView → Type 0) → Job → List ℕ → Type 0
IsJobOutput saw (Files job) printed = IsFilesPrinted saw job printed
IsJobOutput saw (Serve file addr sessions workers patience is_verbose text take key) printed = IsServeOutput sessions printed
IsJobOutput saw (Session file is_client key) printed = AreFrames printed
IsJobOutput saw (Sync file addr patience key) printed = IsSynced printed
IsJobOutput saw (Follow file addr every sessions patience key) printed = IsFollowed saw file.now key sessions printed
IsJobOutput saw (Keep file note take every key) printed = ⊥
IsJobOutput saw (Share file note take addr every sessions patience key) printed = IsFollowed saw file.now key sessions printed
IsJobOutput saw (Web file hosting text take key) printed = IsPageShown hosting printed

-- What the error stream says of the job, where bytes were cut off the journal that it opened: from which offset on.
abbrev pub CutsFor : (DiskView → Type 0) → FileJob → Option ℕ → Type 0
CutsFor saw (Edit file at del text time message key) cut = CutsFile saw file.now cut
CutsFor saw (Update file source since time message key) cut = CutsFile saw file.now cut
CutsFor saw (Import file source time message key) cut = CutsFile saw file.now cut
CutsFor saw (Mirror file note take key) cut = CutsFile saw file.now cut
CutsFor saw (Merge file other key) cut = CutsFile saw file.now cut
CutsFor saw job cut = cut ≡ None

abbrev pub MayCutFor : (DiskView → Type 0) → FileJob → Option ℕ → Type 0
MayCutFor saw job cut = (cut ≡ None) ⊎ CutsFor saw job cut

-- what the error stream says of each job in the end, where bytes were cut off: a server and a page have said it before
-- they served, and one that follows after each session
abbrev pub CutsForJob : (DiskView → Type 0) → Job → Option ℕ → Type 0
CutsForJob saw (Files job) cut = CutsFor saw job cut
CutsForJob saw (Serve file addr sessions workers patience is_verbose text take key) cut = cut ≡ None
CutsForJob saw (Session file is_client key) cut = CutsFile saw file.now cut
CutsForJob saw (Sync file addr patience key) cut = CutsFile saw file.now cut
CutsForJob saw (Follow file addr every sessions patience key) cut = cut ≡ None
CutsForJob saw (Keep file note take every key) cut = ⊥
CutsForJob saw (Share file note take addr every sessions patience key) cut = cut ≡ None
CutsForJob saw (Web file hosting text take key) cut = cut ≡ None

abbrev pub MayCutForJob : (DiskView → Type 0) → Job → Option ℕ → Type 0
MayCutForJob saw (Files job) cut = MayCutFor saw job cut
MayCutForJob saw (Serve file addr sessions workers patience is_verbose text take key) cut = MayCutFile saw file.now cut
MayCutForJob saw (Session file is_client key) cut = MayCutFile saw file.now cut
MayCutForJob saw (Sync file addr patience key) cut = MayCutFile saw file.now cut
MayCutForJob saw (Follow file addr every sessions patience key) cut = MayCutFile saw file.now cut
MayCutForJob saw (Keep file note take every key) cut = MayCutFile saw file.now cut
MayCutForJob saw (Share file note take addr every sessions patience key) cut = MayCutFile saw file.now cut
MayCutForJob saw (Web file hosting text take key) cut = MayCutFile saw file.now cut

-- What the error stream says of the job where it was done: of `session` how many changes entered.
abbrev pub ReportsApplied : Job → Option ℕ → Type 0
ReportsApplied (Files job) reported = reported ≡ None
ReportsApplied (Serve file addr sessions workers patience is_verbose text take key) reported = reported ≡ None
ReportsApplied (Session file is_client key) reported = (applied : ℕ) × (reported ≡ Some applied)
ReportsApplied (Sync file addr patience key) reported = reported ≡ None
ReportsApplied (Follow file addr every sessions patience key) reported = reported ≡ None
ReportsApplied (Keep file note take every key) reported = reported ≡ None
ReportsApplied (Share file note take addr every sessions patience key) reported = reported ≡ None
ReportsApplied (Web file hosting text take key) reported = reported ≡ None

-- the side that a session is held as
abbrev pub side_of : Bool → Role
side_of true = Client
side_of false = Server

-- The session that is reported was held, as the side that was asked for. Of other jobs nothing is said.
abbrev pub WasHeld : (DiskView → Type 0) → Job → Option ℕ → Type 0
WasHeld saw (Session file is_client key) reported = (n : ℕ) × (reported ≡ Some n) × (p' : PeerState) × HasMet saw file.now key (side_of is_client) n p'
WasHeld saw job reported = Unit {0}

-- What the error stream holds of what a job reports before it ends: of a server and a page what was cut off, each time that the
-- journal was opened; of one that follows, what was cut off, after each session; of a mirror that goes on, what was cut off, and why a
-- turn was refused.
abbrev pub ReportsEarly : (DiskView → Type 0) → Job → Option (List ℕ) → Option (List ℕ) → Type 0
ReportsEarly saw (Serve file addr sessions workers patience is_verbose text take key) before after =
    (cuts : List (Option ℕ)) × ReportsEach saw file.now cuts before after
ReportsEarly saw (Web file hosting text take key) before after =
    (cuts : List (Option ℕ)) × ReportsEach saw file.now cuts before after
ReportsEarly saw (Keep file note take every key) before after = (turns : List MirrorTurn) × TellsTurns saw file.now turns before after
ReportsEarly saw (Share file note take addr every sessions patience key) before after =
    (shared : List SharedTurn) × TellsSharedTurns saw file.now shared before after
ReportsEarly saw (Follow file addr every sessions patience key) before after =
    (cuts : List (Option ℕ)) × ReportsEach saw file.now cuts before after
ReportsEarly saw job before after = Keeps before after

-- What the output holds after the refusal of a script: where a line is at fault just what is printed of the lines before
-- it, and else what it held, or a beginning of what a script prints.
abbrev pub RefusesScriptOutput : Option (List ℕ) → JobError → Option (List ℕ) → Type 0
RefusesScriptOutput before (Line number) after = StopsAtLine number before after
RefusesScriptOutput before e after = Keeps before after ⊎ PrintsPart before after

-- What the output holds after the refusal of a check: as of others; or all that is printed of what is in the bytes, and
-- the refusal is for what is at fault there.
abbrev pub RefusesCheckOutput : (DiskView → Type 0) → List ℕ → Option (List ℕ) → JobError → Option (List ℕ) → Type 0
RefusesCheckOutput saw file before e after = Keeps before after ⊎ ((IsOfOutput e × GrowsPart (λ printed. OfFile saw file (λ bytes. (fault : Option StoreError) × IsChecked bytes fault printed)) before after)
    ⊎ ((fault : StoreError) × (e ≡ Command (command_refusal_of_bytes fault)) × GrowsBy (λ printed. OfFile saw file (λ bytes. IsChecked bytes (Some fault) printed)) before after))

-- What the output holds after the refusal of a recovery: as of others; or all that is printed of what could be had, and the
-- refusal is for what the journal that was made lacks.
abbrev pub RefusesRecoveryOutput : (DiskView → Type 0) → List ℕ → Option (Bor (List ℕ)) → List (List ℕ) → Option (List ℕ) → JobError → Option (List ℕ) → Type 0
RefusesRecoveryOutput saw file out paths before e after = Keeps before after
    ⊎ ((IsOfOutput e × GrowsPart (λ printed. (lacking : Option StoreError) × IsRecoveryOutput saw file out paths lacking printed) before after)
    ⊎ ((lacking : StoreError) × (e ≡ Command (command_refusal_of_bytes lacking)) × GrowsBy (IsRecoveryOutput saw file out paths (Some lacking)) before after))

-- What the output holds after the refusal of what is done to files. A script is printed as it goes on, all else at the end.
abbrev pub RefusesFilesOutput : (DiskView → Type 0) → FileJob → Option (List ℕ) → JobError → Option (List ℕ) → Type 0
RefusesFilesOutput saw (Simulate script) before e after = RefusesScriptOutput before e after
RefusesFilesOutput saw (Check file) before e after = RefusesCheckOutput saw file.now before e after
RefusesFilesOutput saw (Recover file out others) before e after = RefusesRecoveryOutput saw file.now out (map (λ p. p.now) others.items) before e after
RefusesFilesOutput saw job before e after = RefusesPrinting (IsFilesPrinted saw job) before e after

-- What the output holds after the refusal of a job. A server prints its port once it listens, and a page its address. A session has written frames,
-- and the last one may have been cut where the output failed. One that follows has printed what came by sessions
-- before.
abbrev pub RefusesOutput : (DiskView → Type 0) → Job → Option (List ℕ) → JobError → Option (List ℕ) → Type 0
RefusesOutput saw (Files job) before e after = RefusesFilesOutput saw job before e after
RefusesOutput saw (Serve file addr sessions workers patience is_verbose text take key) before e after = Keeps before after ⊎ GrowsPart (IsServeOutput sessions) before after
RefusesOutput saw (Keep file note take every key) before e after = Keeps before after
RefusesOutput saw (Web file hosting text take key) before e after = Keeps before after ⊎ GrowsPart (IsPageShown hosting) before after
RefusesOutput saw (Session file is_client key) before e after = Keeps before after ⊎ ((e ≡ io_failure) ⊎ GrowsBy AreFrames before after)
RefusesOutput saw (Sync file addr patience key) before e after = RefusesPrinting IsSynced before e after
RefusesOutput saw (Follow file addr every sessions patience key) before e after =
    GrowsPart (λ printed. (held : ℕ) × IsFollowed saw file.now key held printed) before after
RefusesOutput saw (Share file note take addr every sessions patience key) before e after =
    GrowsPart (λ printed. (held : ℕ) × IsFollowed saw file.now key held printed) before after
