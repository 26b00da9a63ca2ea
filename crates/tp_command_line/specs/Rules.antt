-- The rules of the arguments, as clap's definition for simple commands reads them.
use Rattle.std.specs.Prelude.{[], ◌∷◌, Some, true, codes}
use Rattle.clap.specs.Lexer.{usize_max}
use Rattle.clap.specs.Words.{Rule, Text, new_rule}
use Rattle.clap.specs.declared.builder.action.ArgAction.TheVariants.{Append, Set, SetTrue}
use Rattle.clap.specs.declared.builder.value_parser.ValueParser.{ValueParser}
use Rattle.clap.specs.declared.builder.value_parser.ValueParser.TheVariants.{Unsigned}

-- one value, by its place, which has to be given
abbrev pub required_rule : Text → Rule
required_rule id = record (new_rule id) { required = true; action = Some Set }

-- one value, by its place, which may be left out
abbrev pub optional_rule : Text → Rule
optional_rule id = record (new_rule id) { action = Some Set }

-- `--id VALUE`
abbrev pub option_rule : Text → Rule
option_rule id = record (new_rule id) { long = Some id; action = Some Set; value_names = 1 }

-- `--id`
abbrev pub flag_rule : Text → Rule
flag_rule id = record (new_rule id) { long = Some id; action = Some SetTrue }

-- an argument that has to be given
abbrev pub mandatory : Rule → Rule
mandatory r = record r { required = true }

-- the decimal numbers up to 2^64 - 1
abbrev pub numbers : ValueParser
numbers = Unsigned 0 18446744073709551615

-- an argument whose value is a number
abbrev pub numeric : Rule → Rule
numeric r = record r { parser = Some numbers }

-- values by their place, one or more, where any are given
abbrev pub several : Text → Rule
several id = record (new_rule id) {
  action = Some Append;
  range = Some (record { start_inclusive = 1; end_inclusive = usize_max });
}

-- `--id VALUE`, which may be given several times
abbrev pub options_rule : Text → Rule
options_rule id = record (option_rule id) { action = Some Append }

-- `--id VALUE ..`, with one value or more
abbrev pub list_rule : Text → Rule
list_rule id = record (option_rule id) {
  action = Some Append;
  range = Some (record { start_inclusive = 1; end_inclusive = usize_max });
}

abbrev pub file_rule : Rule
file_rule = required_rule (codes "FILE")

abbrev pub key_rule : Rule
key_rule = option_rule (codes "key")

-- how many sessions a server holds at once: 1 to 64
abbrev pub few : ValueParser
few = Unsigned 1 64

-- a server holds the most that there may be where `--sessions` is left out
abbrev pub sessions_rule : Rule
sessions_rule = record (numeric (option_rule (codes "sessions"))) { defaults = codes "18446744073709551615" ∷ [] }

-- two at once where `--workers` is left out
abbrev pub workers_rule : Rule
workers_rule = record (option_rule (codes "workers")) { parser = Some few; defaults = codes "2" ∷ [] }

-- how many seconds one side waits for the other: up to a day, and for ever where it is 0
abbrev pub waiting : ValueParser
waiting = Unsigned 0 86400

-- half a minute where `--patience` is left out
abbrev pub patience_rule : Rule
patience_rule = record (option_rule (codes "patience")) { parser = Some waiting; defaults = codes "30" ∷ [] }

-- five seconds for a lock where `--wait` is left out
abbrev pub wait_rule : Rule
wait_rule = record (option_rule (codes "wait")) { parser = Some waiting; defaults = codes "5" ∷ [] }

-- the address of a page, by its place; this one where it is left out
abbrev pub page_rule : Rule
page_rule = record (new_rule (codes "PAGE")) { action = Some Set; defaults = codes "127.0.0.1:7117" ∷ [] }

-- the address of a server that a page's program follows; `--follow` of `sync` has seconds
abbrev pub server_rule : Rule
server_rule = record (option_rule (codes "server")) { long = Some (codes "follow") }

-- how many seconds are between two sessions: up to a day
abbrev pub pausing : ValueParser
pausing = Unsigned 1 86400

-- `--follow` alone is every five seconds
abbrev pub follow_rule : Rule
follow_rule = record (option_rule (codes "follow")) {
  parser = Some pausing;
  range = Some (record { start_inclusive = 0; end_inclusive = 1 });
  missing = codes "5" ∷ [];
}

-- `--every` alone is each second
abbrev pub every_rule : Rule
every_rule = record (option_rule (codes "every")) {
  parser = Some pausing;
  range = Some (record { start_inclusive = 0; end_inclusive = 1 });
  missing = codes "1" ∷ [];
}

-- the time is 0 where it is left out
abbrev pub time_rule : Rule
time_rule = record (numeric (option_rule (codes "time"))) { defaults = codes "0" ∷ [] }

-- as many as there are where `--most` is left out
abbrev pub most_rule : Rule
most_rule = record (numeric (option_rule (codes "most"))) { defaults = codes "18446744073709551615" ∷ [] }

-- how many lines are printed before and after others; `-U` too
abbrev pub context_rule : Rule
context_rule = record (numeric (option_rule (codes "unified"))) { short = Some 85 }

-- the message is empty where it is left out
abbrev pub message_rule : Rule
message_rule = record (option_rule (codes "message")) { defaults = [] ∷ [] }
