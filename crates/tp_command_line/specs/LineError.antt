-- Why a command line gave no job.
use Rattle.std.specs.Prelude.{Bool, true, false, ◌≡◌, ◌≢◌, ◌⊎◌, ℕ, List, [], Option, Some, None, Result, MatchResult, Any, codes, IsTrue}
use Rattle.clap.specs.Words.{IsAmong, Kinds, Row, Text, first_of, kind_of}
use Rattle.clap.specs.declared.error.Error.{Error}
use Rattle.clap.specs.declared.error.kind.ErrorKind.{ErrorKind}
use Rattle.clap.specs.declared.error.kind.ErrorKind.TheVariants as kind
use Rattle.tp_opid.specs.declared.hex_text.HexError.{HexError}
use Rattle.tp_opid.specs.declared.hex_text.HexError.TheVariants as hex
use Rattle.tp_command_line.specs.Values.{HasFlag, HasNumber, HasValue, IsNoAddress, IsNoHash, IsNoPage, all_hashes, is_of_address}
use Rattle.tp_command_line.specs.declared.error.LineError.{LineError}
use Rattle.tp_command_line.specs.declared.error.LineError.TheVariants.{Request, Fault, Value}
use Rattle.tp_command_line.specs.declared.error.ValueError.{ValueError}
use Rattle.tp_command_line.specs.declared.error.ValueError.TheVariants.{BadHex, BadAddress, BadPage, OutOfMemory, NotOneText, NotOneOutput, BadTake}

-- ---- values

-- the number of a refusal
abbrev pub code_of_value : ValueError → ℕ
code_of_value BadHex = 1
code_of_value BadAddress = 2
code_of_value BadPage = 2
code_of_value OutOfMemory = 3
code_of_value NotOneText = 13
code_of_value NotOneOutput = 13
code_of_value BadTake = 13

-- the line that is printed of it, and below it what was expected, where that is asked for
abbrev pub value_line : Bool → ValueError → List ℕ
value_line false BadHex = codes "textpeer: BadHex\n"
value_line true BadHex = codes "textpeer: BadHex\n  a hash or a key is 64 hexadecimal digits; textpeer log has whole hashes\n"
value_line false BadAddress = codes "textpeer: Io\n"
value_line true BadAddress = codes "textpeer: Io\n  an address is IP:PORT or HOST:PORT, as 127.0.0.1:7000\n"
value_line false BadPage = codes "textpeer: Io\n"
value_line true BadPage = codes "textpeer: Io\n  the address of a page is IP:PORT of this machine, as 127.0.0.1:7117, since nobody else is to have it\n"
value_line explains OutOfMemory = codes "textpeer: OutOfMemory\n"
value_line explains NotOneText = codes "error: one of --text <T> and --text-file <F> has to be given\n\nFor more information, try '--help'.\n"
value_line explains NotOneOutput = codes "error: one of <OUT> and --texts has to be given\n\nFor more information, try '--help'.\n"
value_line explains BadTake = codes "error: --take is text or journal\n\nFor more information, try '--help'.\n"

abbrev pub refusal_of_hex : HexError → ValueError
refusal_of_hex hex.BadHex = BadHex
refusal_of_hex hex.OutOfMemory = OutOfMemory

-- a damaged journal is to be recovered, with neither a journal to make nor `--texts`, or with both
abbrev pub HasNotOneOutput : List Row → Type 0
HasNotOneOutput rows = (HasFlag (codes "texts") rows true × HasValue (codes "OUT") rows)
    ⊎ (HasFlag (codes "texts") rows false × (first_of (codes "OUT") rows ≡ None))

-- an edit is asked for, with no text and no file of one, or with both
abbrev pub HasNotOneText : List Row → Type 0
HasNotOneText rows = ((n : ℕ) × HasNumber (codes "at") rows n)
    × (((first_of (codes "text") rows ≡ None) × (first_of (codes "text-file") rows ≡ None)) ⊎ (HasValue (codes "text") rows × HasValue (codes "text-file") rows))

-- `--take` was given, with neither word
abbrev pub HasBadTake : List Row → Type 0
HasBadTake rows = (text : Text) × (first_of (codes "take") rows ≡ Some text) × (text ≢ codes "text") × (text ≢ codes "journal")

-- Why a value of the arguments isn't read: a hash or the key isn't 64 hexadecimal digits, the address isn't one, or a page's not
-- of this machine, memory ran out, an edit has not one text, `recover` neither a journal to make nor `--texts`, or both, or
-- `--take` neither `text` nor `journal`.
abbrev pub RefusesValue : List Row → ValueError → Type 0
RefusesValue rows BadHex = Any IsNoHash (all_hashes rows) ⊎ ((text : Text) × (first_of (codes "key") rows ≡ Some text) × IsNoHash text)
RefusesValue rows BadAddress = (id text : Text) × IsTrue (is_of_address id) × (first_of id rows ≡ Some text) × IsNoAddress text
RefusesValue rows BadPage = (text : Text) × (first_of (codes "PAGE") rows ≡ Some text) × IsNoPage text
RefusesValue rows OutOfMemory = Unit {0}
RefusesValue rows NotOneText = HasNotOneText rows
RefusesValue rows NotOneOutput = HasNotOneOutput rows
RefusesValue rows BadTake = HasBadTake rows

-- ---- words

-- the parser was asked for help or for the version
abbrev pub IsForHelp : ErrorKind → Type 0
IsForHelp k = (k ≡ kind.DisplayHelp) ⊎ (k ≡ kind.DisplayVersion)

-- what the parser said, as it is passed on
abbrev pub IsPassedAs : Error → LineError → Type 0
IsPassedAs said (Request e) = (e ≡ said) × IsForHelp (kind_of said)
IsPassedAs said (Fault e) = (e ≡ said) × (kind_of said ≢ kind.OutOfMemory) × (kind_of said ≢ kind.DisplayHelp) × (kind_of said ≢ kind.DisplayVersion)
IsPassedAs said (Value e) = (e ≡ OutOfMemory) × (kind_of said ≡ kind.OutOfMemory)

-- among the words' faults is that they ask for help or for the version
abbrev pub AsksForHelp : Kinds → Type 0
AsksForHelp kinds = IsAmong kind.DisplayHelp kinds ⊎ IsAmong kind.DisplayVersion kinds

-- the words are at no fault, or ask for help or the version
abbrev pub MayBeDone : Kinds → Type 0
MayBeDone kinds = (kinds ≡ []) ⊎ AsksForHelp kinds

-- The words are at no fault, but a value of the subcommand that they name isn't read; or memory ran out.
abbrev pub RefusesReading : Kinds → Option (Text × List Row) → ValueError → Type 0
RefusesReading kinds found OutOfMemory = Unit {0}
RefusesReading kinds found e = (name : Text) × (rows : List Row) × (kinds ≡ []) × (found ≡ Some (name, rows)) × RefusesValue rows e

-- The words are at no fault, but ask for an edit with not one text, for `recover` with not one of `OUT` and `--texts`, or for
-- `mirror` with another word at `--take`.
abbrev pub AskForNotOne : Kinds → Option (Text × List Row) → Type 0
AskForNotOne kinds found = RefusesReading kinds found NotOneText ⊎ (RefusesReading kinds found NotOneOutput ⊎ RefusesReading kinds found BadTake)

-- Why there is no job: help or the version is asked for, the words have that fault, or a value isn't read.
abbrev pub RefusesLine : Kinds → Option (Text × List Row) → LineError → Type 0
RefusesLine kinds found (Request e) = AsksForHelp kinds
RefusesLine kinds found (Fault e) = IsAmong (kind_of e) kinds
RefusesLine kinds found (Value e) = RefusesReading kinds found e

-- an `Ok` comes only where there is no fault, and an `Err` is for its cause
abbrev pub FailsAs : {T : Type 0} → Kinds → Option (Text × List Row) → Result T LineError → Type 0
FailsAs kinds found r = MatchResult r (λ _. kinds ≡ []) (RefusesLine kinds found)
