-- The subcommands of `textpeer`: where words without a fault name one, its arguments have their values.
use Rattle.std.proofs.Common.{rules, ◌≡◌, ◌∙◌, ap, Bool, true, false, refl, sym, subst, List, [], ◌∷◌, Option, Some, None, codes, is_some}
use Rattle.std.specs.Prelude.{◌||◌, ℕ, if◌then◌else◌, find, option_map}
use Rattle.std.specs.List.{list_all}
use Rattle.std.specs.Option.{option_map_or}
use Rattle.std.specs.Str.{bytes_eq}
use Rattle.clap.specs.Faults.{entered_fault, fault_of, level_fault, check_fault}
use Rattle.clap.specs.Lexer.{usize_max}
use Rattle.clap.specs.Simple.{App, Shape, argument_words, built, entered, filled, help_rule, label_of, names_of, rows_at, subcommand_of, with_index}
use Rattle.clap.specs.Walk.{Row, Rule, Text, answers_to, nothing_held, rows_after, walk}
use Rattle.clap.specs.Values.{reading_of}
use Rattle.clap.specs.ValueTests.{accepts}
use Rattle.clap.specs.declared.builder.action.ArgAction.TheVariants.{Append, Set, SetTrue}
use Rattle.clap.specs.declared.builder.value_parser.Reading.TheVariants.{AsWritten}
use Rattle.clap.specs.declared.builder.value_parser.ValueParser.{ValueParser}
use Rattle.clap.specs.declared.builder.value_parser.ValueParser.TheVariants as parser
use Rattle.clap.specs.declared.builder.value_parser.ValueParser.TheVariants.{String}
use Rattle.tp_command_line.specs.Commands.{textpeer_app}
use Rattle.tp_command_line.specs.Rules.{few, file_rule, flag_rule, every_rule, follow_rule, key_rule, list_rule, mandatory, message_rule, most_rule, numbers, numeric, option_rule, optional_rule, options_rule, page_rule, patience_rule, pausing, required_rule, server_rule, sessions_rule, several, time_rule, waiting, workers_rule, wait_rule, context_rule}
use Rattle.tp_command_line.specs.Uses.{IsUse, always_has, has_default, is_required, shape_named}
use Rattle.tp_command_line.specs.Values.{parser_named}
use Rattle.tp_command_line.proofs.Rows.{AllFilled, AllTaken, HasFirst, or_else_none, values_taken, with_values_filled, without_filled}
use Rattle.tp_command_line.proofs.Words.{Fills}
use Rattle.tp_command_line.proofs.Levels.{AllSound, IsSound, default_value, level_checked, level_filled, required_value}

-- ---- the arguments, as they are built

-- an argument with one value
abbrev single : ValueParser → Rule → Rule
single p a = record a { action = Some Set; range = Some (record { start_inclusive = 1; end_inclusive = 1 }); parser = Some p; ignore_case = false; missing = [] }

-- an argument with one value or more in each use
abbrev many : Rule → Rule
many a = record a { action = Some Append; range = Some (record { start_inclusive = 1; end_inclusive = usize_max }); parser = Some String; ignore_case = false; missing = [] }

single_fills : (p : ValueParser) (a : Rule) → p ≡ parser_named a.id → reading_of p ≡ AsWritten → Fills (single p a)
single_fills p a is reading again [] rows e h = absurd (cc)
single_fills p a is reading again (v ∷ vs) rows e h =
    let used_on = or_else_none _ _ (or_else_none _ _ e).1 in
    let taken : AllTaken a.id (v ∷ vs) = subst (λ (q : ValueParser). list_all (accepts false q) (v ∷ vs) ≡ true) is (values_taken p (v ∷ vs) used_on.1) in
    with_values_filled _ _ _ v vs _ reading taken (without_filled _ rows h)

many_fills : (a : Rule) → String ≡ parser_named a.id → Fills (many a)
many_fills a is again [] rows e h = absurd (cc)
many_fills a is again (v ∷ vs) rows e h =
    let taken : AllTaken a.id (v ∷ vs) = subst (λ (q : ValueParser). list_all (accepts false q) (v ∷ vs) ≡ true) is (values_taken String (v ∷ vs) (or_else_none _ _ e).1) in
    with_values_filled _ _ _ v vs rows refl taken h

-- an argument with one value or none
abbrev optional : ValueParser → Text → Rule → Rule
optional p value a = record a {
  action = Some Set;
  range = Some (record { start_inclusive = 0; end_inclusive = 1 });
  parser = Some p;
  ignore_case = false;
  missing = value ∷ [];
}

optional_fills : (p : ValueParser) (value : Text) (a : Rule) → p ≡ parser_named a.id → reading_of p ≡ AsWritten → AllTaken a.id (value ∷ []) → Fills (optional p value a)
optional_fills p value a is reading alone again [] rows e h = with_values_filled _ _ _ value [] _ reading alone (without_filled _ rows h)
optional_fills p value a is reading alone again (v ∷ vs) rows e h =
    let used_on = or_else_none _ _ (or_else_none _ _ e).1 in
    let taken : AllTaken a.id (v ∷ vs) = subst (λ (q : ValueParser). list_all (accepts false q) (v ∷ vs) ≡ true) is (values_taken p (v ∷ vs) used_on.1) in
    with_values_filled _ _ _ v vs _ reading taken (without_filled _ rows h)

-- a flag
abbrev flag : Rule → Rule
flag a = record a {
  action = Some SetTrue;
  range = Some (record { start_inclusive = 0; end_inclusive = 0 });
  parser = Some parser.Bool;
  ignore_case = false;
  defaults = codes "false" ∷ [];
  missing = codes "true" ∷ [];
}

flag_fills : (a : Rule) → parser.Bool ≡ parser_named a.id → Fills (flag a)
flag_fills a is again [] rows e h =
    let taken : AllTaken a.id (codes "true" ∷ []) = subst (λ (q : ValueParser). list_all (accepts false q) (codes "true" ∷ []) ≡ true) is refl in
    with_values_filled _ _ _ (codes "true") [] _ refl taken (without_filled _ rows h)
flag_fills a is again (v ∷ vs) rows e h =
    let used_on = or_else_none _ _ (or_else_none _ _ e).1 in
    let taken : AllTaken a.id (v ∷ vs) = subst (λ (q : ValueParser). list_all (accepts false q) (v ∷ vs) ≡ true) is (values_taken parser.Bool (v ∷ vs) used_on.1) in
    with_values_filled _ _ _ v vs _ refl taken (without_filled _ rows h)

single_sound : (p : ValueParser) (a : Rule) → p ≡ parser_named a.id → reading_of p ≡ AsWritten → AllTaken a.id a.defaults → IsSound (single p a)
single_sound p a is reading defaults = record { fills = single_fills p a is reading; defaults = defaults; reading = reading }

-- an argument as it is built, at a position
abbrev placed : ℕ → Rule → Rule
placed i a = with_index i (filled a)

file_sound : IsSound (placed 1 file_rule)
file_sound = single_sound String (placed 1 file_rule) refl refl refl

key_sound : IsSound (placed 2 key_rule)
key_sound = single_sound String (placed 2 key_rule) refl refl refl

at_sound : IsSound (placed 2 (mandatory (numeric (option_rule (codes "at")))))
at_sound = single_sound numbers (placed 2 (mandatory (numeric (option_rule (codes "at"))))) refl refl refl

del_sound : IsSound (placed 2 (mandatory (numeric (option_rule (codes "del")))))
del_sound = single_sound numbers (placed 2 (mandatory (numeric (option_rule (codes "del"))))) refl refl refl

whole_text_sound : IsSound (placed 2 (required_rule (codes "TEXT")))
whole_text_sound = single_sound String (placed 2 (required_rule (codes "TEXT"))) refl refl refl

note_sound : IsSound (placed 2 (required_rule (codes "NOTE")))
note_sound = single_sound String (placed 2 (required_rule (codes "NOTE"))) refl refl refl

mirror_sound : IsSound (placed 2 (option_rule (codes "mirror")))
mirror_sound = single_sound String (placed 2 (option_rule (codes "mirror"))) refl refl refl

take_sound : IsSound (placed 2 (option_rule (codes "take")))
take_sound = single_sound String (placed 2 (option_rule (codes "take"))) refl refl refl

text_sound : IsSound (placed 2 (option_rule (codes "text")))
text_sound = single_sound String (placed 2 (option_rule (codes "text"))) refl refl refl

text_file_sound : IsSound (placed 2 (option_rule (codes "text-file")))
text_file_sound = single_sound String (placed 2 (option_rule (codes "text-file"))) refl refl refl

time_sound : IsSound (placed 2 time_rule)
time_sound = single_sound numbers (placed 2 time_rule) refl refl refl

message_sound : IsSound (placed 2 message_rule)
message_sound = single_sound String (placed 2 message_rule) refl refl refl

position_sound : IsSound (placed 2 (numeric (required_rule (codes "AT"))))
position_sound = single_sound numbers (placed 2 (numeric (required_rule (codes "AT")))) refl refl refl

other_sound : IsSound (placed 2 (required_rule (codes "OTHER")))
other_sound = single_sound String (placed 2 (required_rule (codes "OTHER"))) refl refl refl

out_sound : IsSound (placed 2 (required_rule (codes "OUT")))
out_sound = single_sound String (placed 2 (required_rule (codes "OUT"))) refl refl refl

saved_sound : IsSound (placed 1 (required_rule (codes "SAVED")))
saved_sound = single_sound String (placed 1 (required_rule (codes "SAVED"))) refl refl refl

second_file_sound : IsSound (placed 2 file_rule)
second_file_sound = single_sound String (placed 2 file_rule) refl refl refl

log_sound : IsSound (placed 1 (required_rule (codes "LOG")))
log_sound = single_sound String (placed 1 (required_rule (codes "LOG"))) refl refl refl

script_sound : IsSound (placed 1 (required_rule (codes "SCRIPT")))
script_sound = single_sound String (placed 1 (required_rule (codes "SCRIPT"))) refl refl refl

addr_sound : IsSound (placed 2 (required_rule (codes "ADDR")))
addr_sound = single_sound String (placed 2 (required_rule (codes "ADDR"))) refl refl refl

page_sound : IsSound (placed 2 page_rule)
page_sound = single_sound String (placed 2 page_rule) refl refl refl

sessions_at_sound : IsSound (placed 2 (option_rule (codes "serve")))
sessions_at_sound = single_sound String (placed 2 (option_rule (codes "serve"))) refl refl refl

server_sound : IsSound (placed 2 server_rule)
server_sound = single_sound String (placed 2 server_rule) refl refl refl

sessions_sound : IsSound (placed 2 sessions_rule)
sessions_sound = single_sound numbers (placed 2 sessions_rule) refl refl refl

workers_sound : IsSound (placed 2 workers_rule)
workers_sound = single_sound few (placed 2 workers_rule) refl refl refl

patience_sound : IsSound (placed 2 patience_rule)
patience_sound = single_sound waiting (placed 2 patience_rule) refl refl refl

wait_sound : IsSound (placed 2 wait_rule)
wait_sound = single_sound waiting (placed 2 wait_rule) refl refl refl

follow_sound : IsSound (placed 2 follow_rule)
follow_sound = record { fills = optional_fills pausing (codes "5") (placed 2 follow_rule) refl refl refl; defaults = refl; reading = refl }

every_sound : IsSound (placed 2 every_rule)
every_sound = record { fills = optional_fills pausing (codes "1") (placed 2 every_rule) refl refl refl; defaults = refl; reading = refl }

verbose_sound : IsSound (placed 2 (flag_rule (codes "verbose")))
verbose_sound = record { fills = flag_fills (placed 2 (flag_rule (codes "verbose"))) refl; defaults = refl; reading = refl }

-- an option that may be given several times
abbrev repeated : Rule → Rule
repeated a = record a { action = Some Append; range = Some (record { start_inclusive = 1; end_inclusive = 1 }); parser = Some String; ignore_case = false; missing = [] }

repeated_fills : (a : Rule) → String ≡ parser_named a.id → Fills (repeated a)
repeated_fills a is again [] rows e h = absurd (cc)
repeated_fills a is again (v ∷ vs) rows e h =
    let taken : AllTaken a.id (v ∷ vs) = subst (λ (q : ValueParser). list_all (accepts false q) (v ∷ vs) ≡ true) is (values_taken String (v ∷ vs) (or_else_none _ _ e).1) in
    with_values_filled _ _ _ v vs rows refl taken h

with_sound : IsSound (placed 2 (options_rule (codes "with")))
with_sound = record { fills = repeated_fills (placed 2 (options_rule (codes "with"))) refl; defaults = refl; reading = refl }

to_sound : IsSound (placed 2 (options_rule (codes "to")))
to_sound = record { fills = repeated_fills (placed 2 (options_rule (codes "to"))) refl; defaults = refl; reading = refl }

most_sound : IsSound (placed 2 most_rule)
most_sound = single_sound numbers (placed 2 most_rule) refl refl refl

context_sound : IsSound (placed 2 context_rule)
context_sound = single_sound numbers (placed 2 context_rule) refl refl refl

pretty_sound : IsSound (placed 2 (flag_rule (codes "pretty")))
pretty_sound = record { fills = flag_fills (placed 2 (flag_rule (codes "pretty"))) refl; defaults = refl; reading = refl }

client_sound : IsSound (placed 2 (flag_rule (codes "client")))
client_sound = record { fills = flag_fills (placed 2 (flag_rule (codes "client"))) refl; defaults = refl; reading = refl }

words_sound : IsSound (placed 2 (flag_rule (codes "words")))
words_sound = record { fills = flag_fills (placed 2 (flag_rule (codes "words"))) refl; defaults = refl; reading = refl }

raw_sound : IsSound (placed 2 (flag_rule (codes "raw")))
raw_sound = record { fills = flag_fills (placed 2 (flag_rule (codes "raw"))) refl; defaults = refl; reading = refl }

texts_sound : IsSound (placed 2 (flag_rule (codes "texts")))
texts_sound = record { fills = flag_fills (placed 2 (flag_rule (codes "texts"))) refl; defaults = refl; reading = refl }

made_sound : IsSound (placed 2 (optional_rule (codes "OUT")))
made_sound = single_sound String (placed 2 (optional_rule (codes "OUT"))) refl refl refl

heads_sound : (i : ℕ) (required : Bool) → IsSound (placed i (record (several (codes "HASH")) { required = required }))
heads_sound i required = record { fills = many_fills (placed i (record (several (codes "HASH")) { required = required })) refl; defaults = refl; reading = refl }

since_sound : IsSound (placed 2 (list_rule (codes "since")))
since_sound = record { fills = many_fills (placed 2 (list_rule (codes "since"))) refl; defaults = refl; reading = refl }

help_sound : IsSound (placed 2 help_rule)
help_sound = record { fills = λ again values rows e h. h; defaults = refl; reading = refl }

-- ---- the subcommands, as they are built

-- each argument of each subcommand is sound
abbrev pub AllShapesSound : List Shape → Type 0
AllShapesSound [] = Unit {0}
AllShapesSound (s ∷ shapes) = AllSound s.rules × AllShapesSound shapes

-- so it is of a subcommand that a look-up finds
found_sound : (test : Shape → Bool) (shapes : List Shape) → AllShapesSound shapes → (s : Shape) → find test shapes ≡ Some s → AllSound s.rules
found_sound test [] sound s e = absurd (cc)
found_sound test (x ∷ shapes) sound s e = go (test x) (found_sound test shapes sound.1 s) e
  where
    go : (b : Bool) → (find test shapes ≡ Some s → AllSound s.rules) → (if b then Some x else find test shapes) ≡ Some s → AllSound s.rules
    go true rest is = let same : x ≡ s = cc in subst (λ (y : Shape). AllSound y.rules) same sound.0
    go false rest is = rest is

all_sound : AllShapesSound (built textpeer_app).subs
all_sound = assumption (
  file_sound,
  key_sound,
  at_sound,
  del_sound,
  whole_text_sound,
  note_sound,
  mirror_sound,
  take_sound,
  text_sound,
  text_file_sound,
  time_sound,
  message_sound,
  position_sound,
  other_sound,
  out_sound,
  saved_sound,
  second_file_sound,
  log_sound,
  script_sound,
  addr_sound,
  page_sound,
  sessions_at_sound,
  server_sound,
  sessions_sound,
  workers_sound,
  patience_sound,
  wait_sound,
  follow_sound,
  every_sound,
  verbose_sound,
  client_sound,
  words_sound,
  raw_sound,
  most_sound,
  to_sound,
  with_sound,
  texts_sound,
  made_sound,
  since_sound,
  pretty_sound,
  context_sound,
  heads_sound 2 false,
  heads_sound 3 true,
  help_sound,
)

-- each is found by its name
abbrev AllNamed : List Shape → Type 0
AllNamed [] = Unit {0}
AllNamed (s ∷ shapes) = (shape_named s.name ≡ Some s) × AllNamed shapes

all_named : AllNamed (built textpeer_app).subs
all_named = search rules

found_named : (test : Shape → Bool) (shapes : List Shape) → AllNamed shapes → (s : Shape) → find test shapes ≡ Some s → shape_named s.name ≡ Some s
found_named test [] named s e = absurd (cc)
found_named test (x ∷ shapes) named s e = go (test x) (found_named test shapes named.1 s) e
  where
    go : (b : Bool) → (find test shapes ≡ Some s → shape_named s.name ≡ Some s) → (if b then Some x else find test shapes) ≡ Some s → shape_named s.name ≡ Some s
    go true rest is = let same : x ≡ s = cc in subst (λ (y : Shape). shape_named y.name ≡ Some y) same named.0
    go false rest is = rest is

-- ---- the arguments' values

-- an argument that the subcommand always has has a value
pub always_given : (name id : Text) (rows : List Row) → IsUse name rows → always_has name id ≡ true → HasFirst id rows
always_given name id rows found e =
    let sound = found_sound (λ s. bytes_eq s.name name) (built textpeer_app).subs all_sound found.shape found.named in
    let has = ap (λ o. option_map_or (λ s. is_required id s.rules || has_default id s.rules) o false) (sym found.named) ∙ e in
    subst (HasFirst id) (sym found.found) (go (is_required id found.shape.rules) refl sound has)
  where
    go : (b : Bool) → is_required id found.shape.rules ≡ b → AllSound found.shape.rules → (b || has_default id found.shape.rules) ≡ true
        → HasFirst id (rows_after found.shape.rules [] found.words)
    go true needed sound has = required_value found.shape found.words id sound found.passed needed
    go false needed sound has = default_value found.shape found.words id sound found.passed has

-- each argument that was found has a value, and only values that it takes
pub all_filled : (name : Text) (rows : List Row) → IsUse name rows → AllFilled rows
all_filled name rows found =
    let sound = found_sound (λ s. bytes_eq s.name name) (built textpeer_app).subs all_sound found.shape found.named in
    subst AllFilled (sym found.found) (level_filled found.shape [] found.words false [] sound found.passed)

-- ---- what was found

-- a subcommand was found, and its words have no fault
abbrev pub IsUseOf : Option (Text × List Row) → Type 0
IsUseOf found = (name : Text) × (rows : List Row) × (found ≡ Some (name, rows)) × IsUse name rows

entered_use : (stop : Option (Text × List Text)) → entered_fault (built textpeer_app) stop ≡ [] → is_some (entered (built textpeer_app) stop) ≡ true
    → IsUseOf (entered (built textpeer_app) stop)
entered_use None e some = absurd (cc)
entered_use (Some p) e some = go (find test subs) refl e some
  where
    subs : List Shape
    subs = (built textpeer_app).subs

    test : Shape → Bool
    test s = answers_to p.0 (label_of s)

    go : (found : Option Shape) → find test subs ≡ found → option_map_or (λ s. level_fault s [] nothing_held p.1 false []) found [] ≡ []
        → is_some (option_map (λ s. rows_at s p.1) found) ≡ true → IsUseOf (option_map (λ s. rows_at s p.1) found)
    go None is e some = absurd (cc)
    go (Some s) is e some =
        (s.name, rows_after s.rules [] p.1, refl, record { shape = s; words = p.1; named = found_named test subs all_named s is; passed = e; found = refl })

-- a subcommand is wanted
has_needed : (rows : List Row) (has : Bool) → check_fault (built textpeer_app).top rows has ≡ [] → has ≡ true
has_needed rows true e = refl
has_needed rows false e = absurd (cc)

-- words with no fault ask for a subcommand
pub use_of : (words : List Text) → fault_of textpeer_app words ≡ [] → IsUseOf (subcommand_of textpeer_app words)
use_of words e =
    let a : App = built textpeer_app in
    let ws : List Text = argument_words textpeer_app words in
    let stop : Option (Text × List Text) = (walk a.top.rules (names_of a) nothing_held ws).stopped in
    let checked = level_checked a.top (names_of a) ws (is_some (entered a stop)) (entered_fault a stop) e in
    entered_use stop checked.0 (has_needed (rows_after a.top.rules (names_of a) ws) (is_some (entered a stop)) checked.1)
