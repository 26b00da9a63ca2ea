-- The commands of `textpeer`: the shape of each, as clap's definition for simple commands reads it, and the job that it asks for.
use Rattle.std.specs.Prelude.{◌≡◌, ◌≢◌, ◌⊎◌, ℕ, List, [], ◌∷◌, ◌++◌, Option, Some, None, true, false, codes, option_map, slice_get, unwrap_or}
use Rattle.tp_command_line.specs.declared.address.Address.{Address}
use Rattle.std.specs.Borrow.{Bor}
use Rattle.clap.specs.Simple.{new_shape as named_shape}
use Rattle.clap.specs.Words.{App, Row, Rule, Shape, Text, app_of, first_of}
use Rattle.clap.specs.declared.builder.command.Command.{Command}
use Rattle.clap.specs.declared.builder.command.Command.TheViews.{out-Command}
use Rattle.tp_command_line.specs.declared.job.FileJob.TheVariants.{New, Edit, Update, Import, Mirror, Text as ReadText, Heads, Log, Graph, Diff, Status, Cursor, Check, Merge, Save, Load, Recover, Show, Simulate}
use Rattle.tp_command_line.specs.declared.job.Beside.{Beside}
use Rattle.tp_command_line.specs.declared.job.Beside.TheVariants.{Here, Loaded, Made, NoJournal, Nothing, Page, Read, Rescued, Shared, Shown, Streams, Text as ReadBeside, There}
use Rattle.tp_command_line.specs.declared.job.Hosting.{Hosting}
use Rattle.tp_command_line.specs.declared.job.Inserted.{Inserted}
use Rattle.tp_command_line.specs.declared.job.Inserted.TheVariants.{Given, InFile}
use Rattle.tp_command_line.specs.declared.job.Job.{Job}
use Rattle.tp_command_line.specs.declared.job.Subject.{Subject}
use Rattle.tp_command_line.specs.declared.job.Job.TheVariants.{Files, Follow, Keep, Serve, Session, Share, Sync, Web}
use Rattle.tp_command_line.specs.Rules.{every_rule, file_rule, flag_rule, follow_rule, key_rule, list_rule, mandatory, message_rule, most_rule, numeric, option_rule, optional_rule, options_rule, page_rule, patience_rule, required_rule, server_rule, sessions_rule, several, time_rule, workers_rule, wait_rule, context_rule}
use Rattle.tp_command_line.specs.Values.{HasAddress, HasFlag, HasHashes, HasHeads, HasHosting, HasKey, HasNumber, HasTake, HasTexts, MayHaveAddress, MayHaveNumber}

-- ---- shapes

-- a command with these arguments
abbrev pub with_rules : Text → List Rule → Shape
with_rules name rules = record (named_shape name) { rules = rules }

-- `new FILE [--wait SECONDS] [--key HEX]`
abbrev pub new_shape : Shape
new_shape = with_rules (codes "new") (file_rule ∷ wait_rule ∷ key_rule ∷ [])

-- `edit FILE --at N --del N`
abbrev pub edit_at_shape : Shape
edit_at_shape = with_rules (codes "edit")
    (file_rule ∷ mandatory (numeric (option_rule (codes "at")))
    ∷ mandatory (numeric (option_rule (codes "del"))) ∷ [])

-- `edit FILE --at N --del N`, and `--text T` or `--text-file F`, `[--time N] [--message M] [--wait SECONDS]
-- [--key HEX]`; of the texts the rules ask for none
abbrev pub edit_shape : Shape
edit_shape = with_rules (codes "edit") (edit_at_shape.rules
    ++ option_rule (codes "text") ∷ option_rule (codes "text-file") ∷ time_rule ∷ message_rule ∷ wait_rule ∷ key_rule ∷ [])

-- `FILE TEXT [--time N] [--message M] [--wait SECONDS] [--key HEX]`
abbrev pub whole_text_shape : Text → Shape
whole_text_shape name = with_rules name
    (file_rule ∷ required_rule (codes "TEXT") ∷ time_rule ∷ message_rule ∷ wait_rule ∷ key_rule ∷ [])

-- `update` with these, and `[--since HASH ..]`
abbrev pub update_shape : Shape
update_shape = with_rules (codes "update") ((whole_text_shape (codes "update")).rules ++ list_rule (codes "since") ∷ [])

-- `import` with these
abbrev pub import_shape : Shape
import_shape = whole_text_shape (codes "import")

-- `mirror FILE NOTE [--take SIDE] [--every [SECONDS]] [--follow ADDR] [--wait SECONDS] [--key HEX]`
abbrev pub mirror_shape : Shape
mirror_shape = with_rules (codes "mirror")
    (file_rule ∷ required_rule (codes "NOTE") ∷ option_rule (codes "take") ∷ every_rule ∷ server_rule ∷ wait_rule ∷ key_rule ∷ [])

-- `text FILE [--raw] [HASH ..]`
abbrev pub text_shape : Shape
text_shape = with_rules (codes "text") (file_rule ∷ flag_rule (codes "raw") ∷ several (codes "HASH") ∷ [])

-- `heads FILE`
abbrev pub heads_shape : Shape
heads_shape = with_rules (codes "heads") (file_rule ∷ [])

-- `log FILE [--pretty] [--most N]`
abbrev pub log_shape : Shape
log_shape = with_rules (codes "log") (file_rule ∷ flag_rule (codes "pretty") ∷ most_rule ∷ [])

-- `graph FILE`
abbrev pub graph_shape : Shape
graph_shape = with_rules (codes "graph") (file_rule ∷ [])

-- `diff FILE [HASH ..] [--to HASH ..] [--unified N] [--words]`
abbrev pub diff_shape : Shape
diff_shape = with_rules (codes "diff")
    (file_rule ∷ several (codes "HASH") ∷ options_rule (codes "to") ∷ context_rule ∷ flag_rule (codes "words") ∷ [])

-- `status FILE`
abbrev pub status_shape : Shape
status_shape = with_rules (codes "status") (file_rule ∷ [])

-- `cursor FILE AT HASH ..`
abbrev pub cursor_shape : Shape
cursor_shape = with_rules (codes "cursor")
    (file_rule ∷ numeric (required_rule (codes "AT")) ∷ mandatory (several (codes "HASH")) ∷ [])

-- `check FILE`
abbrev pub check_shape : Shape
check_shape = with_rules (codes "check") (file_rule ∷ [])

-- `merge FILE OTHER [--wait SECONDS] [--key HEX]`
abbrev pub merge_shape : Shape
merge_shape = with_rules (codes "merge") (file_rule ∷ required_rule (codes "OTHER") ∷ wait_rule ∷ key_rule ∷ [])

-- `save FILE OUT`
abbrev pub save_shape : Shape
save_shape = with_rules (codes "save") (file_rule ∷ required_rule (codes "OUT") ∷ [])

-- `load SAVED FILE [--wait SECONDS]`
abbrev pub load_shape : Shape
load_shape = with_rules (codes "load") (required_rule (codes "SAVED") ∷ file_rule ∷ wait_rule ∷ [])

-- `recover FILE`, and `OUT` or `--texts`, `[--with OTHER]`, also several times; of the two the rules ask for none
abbrev pub recover_shape : Shape
recover_shape = with_rules (codes "recover")
    (file_rule ∷ optional_rule (codes "OUT") ∷ options_rule (codes "with") ∷ flag_rule (codes "texts") ∷ [])

-- `show LOG`
abbrev pub show_shape : Shape
show_shape = with_rules (codes "show") (required_rule (codes "LOG") ∷ [])

-- `simulate SCRIPT`
abbrev pub simulate_shape : Shape
simulate_shape = with_rules (codes "simulate") (required_rule (codes "SCRIPT") ∷ [])

-- `serve FILE ADDR [--sessions N] [--workers N] [--patience SECONDS] [--verbose] [--mirror NOTE] [--take SIDE]
-- [--wait SECONDS] [--key HEX]`
abbrev pub serve_shape : Shape
serve_shape = with_rules (codes "serve") (file_rule ∷ required_rule (codes "ADDR") ∷ sessions_rule ∷ workers_rule ∷ patience_rule
    ∷ flag_rule (codes "verbose") ∷ option_rule (codes "mirror") ∷ option_rule (codes "take") ∷ wait_rule ∷ key_rule ∷ [])

-- `sync FILE ADDR [--follow [SECONDS]] [--sessions N] [--patience SECONDS] [--mirror NOTE] [--take SIDE] [--wait SECONDS] [--key HEX]`
abbrev pub sync_shape : Shape
sync_shape = with_rules (codes "sync") (file_rule ∷ required_rule (codes "ADDR") ∷ follow_rule ∷ sessions_rule ∷ patience_rule
    ∷ option_rule (codes "mirror") ∷ option_rule (codes "take") ∷ wait_rule ∷ key_rule ∷ [])

-- `session FILE [--client] [--wait SECONDS] [--key HEX]`
abbrev pub session_shape : Shape
session_shape = with_rules (codes "session") (file_rule ∷ flag_rule (codes "client") ∷ wait_rule ∷ key_rule ∷ [])

-- `web FILE [PAGE] [--serve ADDR] [--follow ADDR] [--mirror NOTE] [--take SIDE] [--wait SECONDS] [--key HEX]`
abbrev pub web_shape : Shape
web_shape = with_rules (codes "web") (file_rule ∷ page_rule ∷ option_rule (codes "serve") ∷ server_rule
    ∷ option_rule (codes "mirror") ∷ option_rule (codes "take") ∷ wait_rule ∷ key_rule ∷ [])

-- the command has this shape, and no subcommand and no argument that subcommands have too
pub record IsLeaf (s : Shape) (c : Command) : Type 0 where
  pub app : app_of c ≡ record { top = s; subs = [] }
  pub local : (out-Command c).has_globals ≡ false

-- `textpeer` has a version, no subcommand `help`, and wants a subcommand; here it has none
abbrev pub bare_app : App
bare_app = record {
  top = record (named_shape (codes "textpeer")) {
    has_version = true;
    disable_help_subcommand = true;
    subcommand_required = true;
  };
  subs = [];
}

-- `textpeer` with the subcommands on one journal alone
abbrev pub journals_app : App
journals_app = record {
  top = record bare_app.top { is_leaf = false };
  subs = new_shape ∷ edit_shape ∷ update_shape ∷ import_shape ∷ mirror_shape ∷ text_shape ∷ heads_shape ∷ log_shape ∷ graph_shape ∷ diff_shape ∷ status_shape
      ∷ cursor_shape ∷ check_shape ∷ [];
}

-- `textpeer` with the subcommands that need no network
abbrev pub files_app : App
files_app = record journals_app {
  subs = journals_app.subs ++ merge_shape ∷ save_shape ∷ load_shape ∷ recover_shape ∷ show_shape ∷ simulate_shape ∷ [];
}

-- `textpeer` with all its subcommands
abbrev pub textpeer_app : App
textpeer_app = record files_app { subs = files_app.subs ++ serve_shape ∷ sync_shape ∷ session_shape ∷ web_shape ∷ [] }

-- ---- jobs

-- the first value of an argument is the text
abbrev pub HasText : Text → List Row → Bor Text → Type 0
HasText id rows text = first_of id rows ≡ Some text.now

-- one text is given, or one file, and not the other
abbrev pub HasInserted : List Row → Inserted → Type 0
HasInserted rows (Given text) = HasText (codes "text") rows text × (first_of (codes "text-file") rows ≡ None)
HasInserted rows (InFile path) = HasText (codes "text-file") rows path × (first_of (codes "text") rows ≡ None)

-- a journal is to be made at the path, or none, and the texts of the records are to be printed
abbrev pub HasOutput : List Row → Option (Bor Text) → Type 0
HasOutput rows (Some out) = HasText (codes "OUT") rows out × HasFlag (codes "texts") rows false
HasOutput rows None = (first_of (codes "OUT") rows ≡ None) × HasFlag (codes "texts") rows true

-- so often as an option says, or as often as is usual where it isn't given
abbrev pub HasPause : Text → List Row → ℕ → ℕ → Type 0
HasPause id rows usual every = (given : Option ℕ) × MayHaveNumber id rows given × (every ≡ unwrap_or given usual)

-- the text file that is kept beside a journal, where one is given
abbrev pub MayHaveNote : List Row → Option (Bor Text) → Type 0
MayHaveNote rows note = option_map (λ (text : Bor Text). text.now) note ≡ first_of (codes "mirror") rows

-- what `mirror --follow` says of a text file and a server
pub record IsMirrorShared (name : Text) (rows : List Row) (note : Bor Text) (addr : Address) (every sessions patience : ℕ) : Type 0 where
  pub named : name ≡ codes "mirror"
  pub note_is : HasText (codes "NOTE") rows note
  pub server : MayHaveAddress (codes "server") rows (Some addr)
  pub pause : HasPause (codes "every") rows 1 every
  pub unbounded : sessions ≡ 18446744073709551615
  pub usual : patience ≡ 30

-- and `sync --mirror`
pub record IsSyncShared (name : Text) (rows : List Row) (note : Bor Text) (addr : Address) (every sessions patience : ℕ) : Type 0 where
  pub named : name ≡ codes "sync"
  pub note_is : HasText (codes "mirror") rows note
  pub server : HasAddress rows addr
  pub pause : HasPause (codes "follow") rows 5 every
  pub counted : HasNumber (codes "sessions") rows sessions
  pub patient : HasNumber (codes "patience") rows patience

-- the job is that of the subcommand with this name, and its values are those of the arguments
abbrev pub IsJobOf : Text → List Row → Job → Type 0
IsJobOf name rows (Files (New file key)) = (name ≡ codes "new") × HasText (codes "FILE") rows file × HasKey rows key
IsJobOf name rows (Files (Edit file at del text time message key)) = (name ≡ codes "edit")
    × HasText (codes "FILE") rows file × HasNumber (codes "at") rows at
    × HasNumber (codes "del") rows del × HasInserted rows text
    × HasNumber (codes "time") rows time × HasText (codes "message") rows message × HasKey rows key
IsJobOf name rows (Files (Update file source since time message key)) = (name ≡ codes "update")
    × HasText (codes "FILE") rows file × HasText (codes "TEXT") rows source × HasHashes (codes "since") rows since.items
    × HasNumber (codes "time") rows time × HasText (codes "message") rows message × HasKey rows key
IsJobOf name rows (Files (Import file source time message key)) = (name ≡ codes "import")
    × HasText (codes "FILE") rows file × HasText (codes "TEXT") rows source
    × HasNumber (codes "time") rows time × HasText (codes "message") rows message × HasKey rows key
IsJobOf name rows (Files (Mirror file note take key)) = (name ≡ codes "mirror")
    × HasText (codes "FILE") rows file × HasText (codes "NOTE") rows note × HasTake rows take × HasKey rows key
    × MayHaveNumber (codes "every") rows None × MayHaveAddress (codes "server") rows None
IsJobOf name rows (Files (ReadText file is_raw heads)) = (name ≡ codes "text")
    × HasText (codes "FILE") rows file × HasFlag (codes "raw") rows is_raw × HasHeads rows heads.items
IsJobOf name rows (Files (Heads file)) = (name ≡ codes "heads") × HasText (codes "FILE") rows file
IsJobOf name rows (Files (Log file pretty most)) = (name ≡ codes "log") × HasText (codes "FILE") rows file
    × HasFlag (codes "pretty") rows pretty × HasNumber (codes "most") rows most
IsJobOf name rows (Files (Graph file)) = (name ≡ codes "graph") × HasText (codes "FILE") rows file
IsJobOf name rows (Files (Diff file from to context is_worded)) = (name ≡ codes "diff")
    × HasText (codes "FILE") rows file × HasHeads rows from.items × HasHashes (codes "to") rows to.items
    × MayHaveNumber (codes "unified") rows context × HasFlag (codes "words") rows is_worded
IsJobOf name rows (Files (Status file)) = (name ≡ codes "status") × HasText (codes "FILE") rows file
IsJobOf name rows (Files (Cursor file at heads)) = (name ≡ codes "cursor")
    × HasText (codes "FILE") rows file × HasNumber (codes "AT") rows at × HasHeads rows heads.items
IsJobOf name rows (Files (Check file)) = (name ≡ codes "check") × HasText (codes "FILE") rows file
IsJobOf name rows (Files (Merge file other key)) = (name ≡ codes "merge")
    × HasText (codes "FILE") rows file × HasText (codes "OTHER") rows other × HasKey rows key
IsJobOf name rows (Files (Save file out)) = (name ≡ codes "save") × HasText (codes "FILE") rows file × HasText (codes "OUT") rows out
IsJobOf name rows (Files (Load saved file)) = (name ≡ codes "load") × HasText (codes "SAVED") rows saved × HasText (codes "FILE") rows file
IsJobOf name rows (Files (Recover file out others)) = (name ≡ codes "recover") × HasText (codes "FILE") rows file × HasOutput rows out
    × HasTexts (codes "with") rows others.items
IsJobOf name rows (Files (Show log)) = (name ≡ codes "show") × HasText (codes "LOG") rows log
IsJobOf name rows (Files (Simulate script)) = (name ≡ codes "simulate") × HasText (codes "SCRIPT") rows script
IsJobOf name rows (Serve file addr sessions workers patience is_verbose note take key) = (name ≡ codes "serve") × HasText (codes "FILE") rows file
    × HasAddress rows addr × HasNumber (codes "sessions") rows sessions
    × HasNumber (codes "workers") rows workers × HasNumber (codes "patience") rows patience
    × HasFlag (codes "verbose") rows is_verbose × MayHaveNote rows note × HasTake rows take × HasKey rows key
IsJobOf name rows (Session file is_client key) = (name ≡ codes "session") × HasText (codes "FILE") rows file
    × HasFlag (codes "client") rows is_client × HasKey rows key
IsJobOf name rows (Sync file addr patience key) = (name ≡ codes "sync") × HasText (codes "FILE") rows file × HasAddress rows addr
    × HasNumber (codes "patience") rows patience × MayHaveNumber (codes "follow") rows None × HasKey rows key
    × (first_of (codes "mirror") rows ≡ None)
IsJobOf name rows (Follow file addr every sessions patience key) = (name ≡ codes "sync") × HasText (codes "FILE") rows file
    × HasAddress rows addr × MayHaveNumber (codes "follow") rows (Some every) × HasNumber (codes "sessions") rows sessions
    × HasNumber (codes "patience") rows patience × HasKey rows key × (first_of (codes "mirror") rows ≡ None)
IsJobOf name rows (Keep file note take every key) = (name ≡ codes "mirror") × HasText (codes "FILE") rows file × HasText (codes "NOTE") rows note
    × HasTake rows take × HasKey rows key × MayHaveNumber (codes "every") rows (Some every) × MayHaveAddress (codes "server") rows None
IsJobOf name rows (Share file note take addr every sessions patience key) = HasText (codes "FILE") rows file × HasTake rows take × HasKey rows key
    × (IsMirrorShared name rows note addr every sessions patience ⊎ IsSyncShared name rows note addr every sessions patience)
IsJobOf name rows (Web file hosting note take key) = (name ≡ codes "web") × HasText (codes "FILE") rows file × HasHosting rows hosting
    × MayHaveNote rows note × HasTake rows take × HasKey rows key

-- the job is that of the subcommand that was found
abbrev pub IsFoundAs : Option (Text × List Row) → Job → Type 0
IsFoundAs found job = (name : Text) × (rows : List Row) × (found ≡ Some (name, rows)) × IsJobOf name rows job

-- for that many seconds the lock of a journal is waited for: as the subcommand that was found says, where it has that option
abbrev pub WaitsAs : Option (Text × List Row) → Option ℕ → Type 0
WaitsAs found wait = (name : Text) × (rows : List Row) × (found ≡ Some (name, rows)) × MayHaveNumber (codes "wait") rows wait

-- the job shows the log at the path
abbrev pub IsShow : Text → Job → Type 0
IsShow path job = (log : Bor Text) × (job ≡ Files (Show log)) × (log.now ≡ path)

-- the words are `show` and a path, which doesn't begin with a hyphen
pub record AskToShow (path : Text) (words : List Text) : Type 0 where
  pub name : Text
  pub words_are : words ≡ name ∷ codes "show" ∷ path ∷ []
  pub no_flag : slice_get path 0 ≢ Some 45

-- ---- what a job is about

-- what is beside a journal that is served, with the text file that is kept in step with it, or shown on a page
abbrev pub served_beside : Option (Bor Text) → Address → Beside
served_beside None addr = Here addr
served_beside (Some note) addr = Shared note addr

abbrev pub shown_beside : Option (Bor Text) → Hosting → Beside
shown_beside None hosting = Page hosting
shown_beside (Some note) hosting = Shown note hosting

-- the file that is judged first, and the one that is read or made beside it, or where its server or its page is
abbrev pub subject_of : Job → Subject
subject_of (Files (Merge file other key)) = record { file = file; beside = Read other }
subject_of (Files (Save file out)) = record { file = file; beside = Made out }
subject_of (Files (Load saved file)) = record { file = saved; beside = Loaded file }
subject_of (Files (Recover file out others)) = record { file = file; beside = Rescued out (slice_get others.items 0) }
subject_of (Files (New file key)) = record { file = file; beside = Made file }
subject_of (Files (Edit file at del (Given text) time message key)) = record { file = file; beside = Nothing }
subject_of (Files (Edit file at del (InFile source) time message key)) = record { file = file; beside = ReadBeside source }
subject_of (Files (Update file source since time message key)) = record { file = file; beside = ReadBeside source }
subject_of (Files (Import file source time message key)) = record { file = file; beside = ReadBeside source }
subject_of (Files (Mirror file note take key)) = record { file = file; beside = ReadBeside note }
subject_of (Files (ReadText file is_raw heads)) = record { file = file; beside = Nothing }
subject_of (Files (Heads file)) = record { file = file; beside = Nothing }
subject_of (Files (Log file pretty most)) = record { file = file; beside = Nothing }
subject_of (Files (Graph file)) = record { file = file; beside = Nothing }
subject_of (Files (Diff file from to context is_worded)) = record { file = file; beside = Nothing }
subject_of (Files (Status file)) = record { file = file; beside = Nothing }
subject_of (Files (Cursor file at heads)) = record { file = file; beside = Nothing }
subject_of (Files (Check file)) = record { file = file; beside = Nothing }
subject_of (Files (Show log)) = record { file = log; beside = NoJournal }
subject_of (Files (Simulate script)) = record { file = script; beside = NoJournal }
subject_of (Serve file addr sessions workers patience is_verbose note take key) = record { file = file; beside = served_beside note addr }
subject_of (Session file is_client key) = record { file = file; beside = Streams }
subject_of (Sync file addr patience key) = record { file = file; beside = There addr }
subject_of (Follow file addr every sessions patience key) = record { file = file; beside = There addr }
subject_of (Keep file note take every key) = record { file = file; beside = ReadBeside note }
subject_of (Share file note take addr every sessions patience key) = record { file = file; beside = Shared note addr }
subject_of (Web file hosting note take key) = record { file = file; beside = shown_beside note hosting }
