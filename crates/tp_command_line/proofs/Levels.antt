-- What a subcommand's words without a fault say of its arguments: those that are required or have a default have a value.
use Rattle.std.proofs.Common.{◌≡◌, Bool, true, false, not, refl, subst, List, [], ◌∷◌, Some}
use Rattle.std.specs.Prelude.{◌&&◌, ◌||◌, if◌then◌else◌, find, fold}
use Rattle.std.specs.List.{list_any}
use Rattle.std.specs.Str.{bytes_eq}
use Rattle.std.proofs.lemmas.Slice.Eq.{bytes_eq-Decides}
use Rattle.clap.specs.Faults.{check_fault, defaults_fault, level_fault, settle_fault, walk_fault}
use Rattle.clap.specs.Kinds.{Kinds, check_kinds}
use Rattle.clap.specs.Simple.{Shape}
use Rattle.clap.specs.Takes.{is_given}
use Rattle.clap.specs.Walk.{Held, Names, Row, Rule, Text, default_rows, has_row, nothing_held, reading_by, rows_after, settled, walk, walk_from, with_default}
use Rattle.clap.specs.declared.builder.value_parser.Reading.TheVariants.{AsWritten}
use Rattle.tp_command_line.proofs.Rows.{AllFilled, AllTaken, HasFirst, default_row, first_of_row, given_row, or_else_none, with_values_filled}
use Rattle.tp_command_line.specs.Uses.{has_default, is_required}
use Rattle.tp_command_line.proofs.Words.{AllFill, Fills, settle_filled, walk_filled}

-- ---- arguments that take what is given

-- a use of the argument without a fault, and its default, leave rows that are filled
pub record IsSound (a : Rule) : Type 0 where
  pub fills : Fills a
  pub defaults : AllTaken a.id a.defaults
  pub reading : reading_by a ≡ AsWritten

-- so it is of each argument
abbrev pub AllSound : List Rule → Type 0
AllSound [] = Unit {0}
AllSound (a ∷ c) = IsSound a × AllSound c

-- so it is of one that a look-up finds
all_fill : (c : List Rule) → AllSound c → AllFill c
all_fill [] sound test a e = absurd (cc)
all_fill (x ∷ c) sound test a e = go (test x) (all_fill c sound.1 test a) e
  where
    go : (b : Bool) → (find test c ≡ Some a → Fills a) → (if b then Some x else find test c) ≡ Some a → Fills a
    go true rest is = let same : x ≡ a = cc in subst Fills same sound.0.fills
    go false rest is = rest is

-- the default of an argument, where it has one
default_filled : (rows : List Row) (a : Rule) → IsSound a → AllFilled rows → AllFilled (with_default rows a)
default_filled rows a sound h =
    elim (has_row a.id rows) as (λ b. AllFilled (if b then rows else default_rows a.id (reading_by a) a.defaults rows)) [
      | true ↦ h
      | false ↦ given a.defaults sound.defaults
    ]
  where
    given : (values : List Text) → AllTaken a.id values → AllFilled (default_rows a.id (reading_by a) values rows)
    given [] taken = h
    given (v ∷ vs) taken = with_values_filled a.id (reading_by a) _ v vs rows sound.reading taken h

-- the defaults of all the arguments
defaults_filled : (c : List Rule) (rows : List Row) → AllSound c → AllFilled rows → AllFilled (fold with_default rows c)
defaults_filled [] rows sound h = h
defaults_filled (a ∷ c) rows sound h = defaults_filled c (with_default rows a) sound.1 (default_filled rows a sound.0 h)

-- ---- a level without a fault

-- the rows at the end are filled
pub level_filled : (s : Shape) (names : Names) (words : List Text) (has : Bool) (below : Kinds) → AllSound s.rules → level_fault s names nothing_held words has below ≡ []
    → AllFilled (rows_after s.rules names words)
level_filled s names words has below sound e =
    let end : Held = (walk s.rules names nothing_held words).held in
    let fills : AllFill s.rules = all_fill s.rules sound in
    let walked_on = or_else_none (walk_fault s names (walk_from nothing_held) words) _ e in
    let past_below = or_else_none below _ walked_on.1 in
    let settled_on = or_else_none (settle_fault s.rules s.args_override_self end) _ past_below.1 in
    defaults_filled s.rules (settled s.rules end).rows sound
    (settle_filled s.rules s.args_override_self end fills settled_on.0 (walk_filled s names (walk_from nothing_held) words fills walked_on.0 tt))

-- the last checks pass, and so does the subcommand
pub level_checked : (s : Shape) (names : Names) (words : List Text) (has : Bool) (below : Kinds) → level_fault s names nothing_held words has below ≡ []
    → (below ≡ []) × (check_fault s (rows_after s.rules names words) has ≡ [])
level_checked s names words has below e =
    let end : Held = (walk s.rules names nothing_held words).held in
    let walked_on = or_else_none (walk_fault s names (walk_from nothing_held) words) _ e in
    let past_below = or_else_none below _ walked_on.1 in
    let settled_on = or_else_none (settle_fault s.rules s.args_override_self end) _ past_below.1 in
    let filled_on = or_else_none (defaults_fault (settled s.rules end).rows s.rules) _ settled_on.1 in
    (past_below.0, filled_on.1)

-- where none that has to be given is missing, it was given
given_of : (id : Text) (c : List Rule) (rows : List Row) → list_any (λ a. a.required && not (is_given a.id rows)) c ≡ false
    → is_required id c ≡ true → is_given id rows ≡ true
given_of id [] rows none e = absurd (cc)
given_of id (a ∷ c) rows none e = go (bytes_eq a.id id) a.required (is_given a.id rows) refl refl (given_of id c rows) none e
  where
    go : (b d g : Bool) → bytes_eq a.id id ≡ b → is_given a.id rows ≡ g
        → (list_any (λ a. a.required && not (is_given a.id rows)) c ≡ false → is_required id c ≡ true → is_given id rows ≡ true)
        → (d && not g || list_any (λ a. a.required && not (is_given a.id rows)) c) ≡ false
        → (b && d || is_required id c) ≡ true → is_given id rows ≡ true
    go true true true same given rest none is = subst (λ (x : Text). is_given x rows ≡ true) ((bytes_eq-Decides a.id id).0 same) given
    go true true false same given rest none is = absurd (cc)
    go true false g same given rest none is = rest none is
    go false true true same given rest none is = rest none is
    go false true false same given rest none is = absurd (cc)
    go false false g same given rest none is = rest none is

-- where the last checks pass, none is missing
none_missing : (x y z b : Bool) → check_kinds x y (not (z && false) && b) ≡ [] → b ≡ false
none_missing x y z false e = refl
none_missing true y z true e = absurd (cc)
none_missing false true z true e = absurd (cc)
none_missing false false true true e = absurd (cc)
none_missing false false false true e = absurd (cc)

-- an argument that has to be given has a value
pub required_value : (s : Shape) (words : List Text) (id : Text) → AllSound s.rules → level_fault s [] nothing_held words false [] ≡ []
    → is_required id s.rules ≡ true → HasFirst id (rows_after s.rules [] words)
required_value s words id sound e needed =
    let rows : List Row = rows_after s.rules [] words in
    let checked = (level_checked s [] words false [] e).1 in
    let given = given_of id s.rules rows (none_missing _ _ s.subcommand_negates_reqs _ checked) needed in
    first_of_row id rows (level_filled s [] words false [] sound e) (given_row id rows given)

-- so has an argument with a default
pub default_value : (s : Shape) (words : List Text) (id : Text) → AllSound s.rules → level_fault s [] nothing_held words false [] ≡ []
    → has_default id s.rules ≡ true → HasFirst id (rows_after s.rules [] words)
default_value s words id sound e has =
    let rows : List Row = rows_after s.rules [] words in
    first_of_row id rows (level_filled s [] words false [] sound e) (default_row id s.rules _ has)
