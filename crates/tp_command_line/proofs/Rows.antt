-- Rows that each have a value, and only values that their argument takes.
use Rattle.std.proofs.Common.{◌≡◌, ◌∙◌, ap, ◌<◌, Bool, true, false, refl, sym, subst, arith, List, [], ◌∷◌, ◌++◌, length, not, Option, Some, None, length-append}
use Rattle.std.specs.Prelude.{◌&&◌, ◌||◌, if◌then◌else◌, find, fold, slice_get, option_map, option_and_then}
use Rattle.std.specs.List.{list_all}
use Rattle.std.specs.Option.{option_map_or}
use Rattle.std.specs.Str.{bytes_eq}
use Rattle.std.proofs.lemmas.Slice.Eq.{bytes_eq-Decides}
use Rattle.clap.specs.Kinds.{Kinds, or_else, values_kinds}
use Rattle.clap.specs.Facts.{explicit_source}
use Rattle.clap.specs.Takes.{is_given}
use Rattle.clap.specs.ValueTests.{accepts}
use Rattle.clap.specs.Values.{read_as, refused_kind}
use Rattle.clap.specs.Walk.{Row, Rule, Text, default_rows, first_of, has_row, is_empty, more_values, one_of, reading_by, row_text, with_default, with_values, without}
use Rattle.clap.specs.declared.builder.value_parser.Reading.{Reading}
use Rattle.clap.specs.declared.builder.value_parser.Reading.TheVariants.{AsWritten}
use Rattle.clap.specs.declared.builder.value_parser.ValueParser.{ValueParser}
use Rattle.clap.specs.declared.parser.matches.ValueSource.{ValueSource}
use Rattle.clap.specs.declared.parser.matches.ValueSource.TheVariants.{DefaultValue}
use Rattle.tp_command_line.specs.Uses.{has_default}
use Rattle.tp_command_line.specs.Values.{parser_named}

-- the argument takes each of the values
abbrev pub AllTaken : Text → List Text → Type 0
AllTaken id values = list_all (accepts false (parser_named id)) values ≡ true

-- the row has a value, and its argument takes each
pub record IsFilled (r : Row) : Type 0 where
  pub some : 0 < length r.values
  pub taken : AllTaken r.id r.values
  pub reading : r.reading ≡ AsWritten

-- each row is filled
abbrev pub AllFilled : List Row → Type 0
AllFilled [] = Unit {0}
AllFilled (r ∷ rs) = IsFilled r × AllFilled rs

-- of two steps in turn, neither has a fault
pub or_else_none : (a b : Kinds) → or_else a b ≡ [] → (a ≡ []) × (b ≡ [])
or_else_none [] b e = (refl, e)
or_else_none (k ∷ ks) b e = absurd (cc)

-- values without a fault are taken
pub values_taken : (p : ValueParser) (values : List Text) → values_kinds false p values ≡ [] → list_all (accepts false p) values ≡ true
values_taken p [] e = refl
values_taken p (v ∷ vs) e = go (accepts false p v) (values_taken p vs) e
  where
    go : (b : Bool) → (values_kinds false p vs ≡ [] → list_all (accepts false p) vs ≡ true)
        → or_else (if b then [] else refused_kind p ∷ []) (values_kinds false p vs) ≡ [] → (b && list_all (accepts false p) vs) ≡ true
    go true rest is = rest is
    go false rest is = absurd (cc)

-- the values of both lists are taken
all_append : (test : Text → Bool) (xs ys : List Text) → list_all test xs ≡ true → list_all test ys ≡ true → list_all test (xs ++ ys) ≡ true
all_append test [] ys e f = f
all_append test (x ∷ xs) ys e f = go (test x) (λ is. all_append test xs ys is f) e
  where
    go : (b : Bool) → (list_all test xs ≡ true → list_all test (xs ++ ys) ≡ true) → (b && list_all test xs) ≡ true → (b && list_all test (xs ++ ys)) ≡ true
    go true rest is = rest is
    go false rest is = absurd (cc)

-- the rows but one
pub without_filled : (id : Text) (rows : List Row) → AllFilled rows → AllFilled (without id rows)
without_filled id [] h = h
without_filled id (r ∷ rs) h =
    elim (bytes_eq r.id id) as (λ b. AllFilled (if b then rs else r ∷ without id rs)) [ true ↦ h.1 | false ↦ (h.0, without_filled id rs h.1) ]

-- a row with one more value or more
pub with_values_filled : (id : Text) (how : Reading) (s : ValueSource) (v : Text) (vs : List Text) (rows : List Row) → how ≡ AsWritten
    → AllTaken id (v ∷ vs) → AllFilled rows → AllFilled (with_values id how s (v ∷ vs) rows)
with_values_filled id how s v vs [] as_written taken h = (record { some = omega arith; taken = taken; reading = as_written }, tt)
with_values_filled id how s v vs (r ∷ rs) as_written taken h = go (bytes_eq r.id id) refl (with_values_filled id how s v vs rs as_written taken h.1)
  where
    go : (b : Bool) → bytes_eq r.id id ≡ b → AllFilled (with_values id how s (v ∷ vs) rs) → AllFilled (if b then more_values s (v ∷ vs) r ++ rs else r ∷ with_values id how s (v ∷ vs) rs)
    go true same rest =
        let is : r.id ≡ id = (bytes_eq-Decides r.id id).0 same in
        let mine : AllTaken r.id (v ∷ vs) = subst (λ (x : Text). AllTaken x (v ∷ vs)) (sym is) taken in (
          record {
            some = omega (arith, length-append r.values (v ∷ vs));
            taken = all_append _ r.values (v ∷ vs) h.0.taken mine;
            reading = h.0.reading;
          },
          h.1,
        )
    go false same rest = (h.0, rest)

-- a row that was found passes the test
pub found_passes : (test : Row → Bool) (rows : List Row) (r : Row) → find test rows ≡ Some r → test r ≡ true
found_passes test [] r e = absurd (cc)
found_passes test (x ∷ xs) r e = go (test x) refl (found_passes test xs r) e
  where
    go : (b : Bool) → test x ≡ b → (find test xs ≡ Some r → test r ≡ true) → (if b then Some x else find test xs) ≡ Some r → test r ≡ true
    go true is rest e = let same : x ≡ r = cc in ap test (sym same) ∙ is
    go false is rest e = rest e

-- a row that was found is filled
found_filled : (test : Row → Bool) (rows : List Row) → AllFilled rows → (r : Row) → find test rows ≡ Some r → IsFilled r
found_filled test [] h r e = absurd (cc)
found_filled test (x ∷ xs) h r e = go (test x) (found_filled test xs h.1 r) e
  where
    go : (b : Bool) → (find test xs ≡ Some r → IsFilled r) → (if b then Some x else find test xs) ≡ Some r → IsFilled r
    go true rest is = let same : x ≡ r = cc in subst IsFilled same h.0
    go false rest is = rest is

-- the first value of an argument, which is read as it was written, and which the argument takes
pub record HasFirst (id : Text) (rows : List Row) : Type 0 where
  pub value : Text
  pub first : first_of id rows ≡ Some value
  pub one : one_of id rows ≡ Some value
  pub taken : accepts false (parser_named id) value ≡ true

-- the first of some values that are taken
first_taken : (test : Text → Bool) (vs : List Text) → 0 < length vs → list_all test vs ≡ true → (v : Text) × (slice_get vs 0 ≡ Some v) × (test v ≡ true)
first_taken test [] lt e = absurd (omega arith)
first_taken test (v ∷ vs) lt e = (v, refl, go (test v) e)
  where
    go : (b : Bool) → (b && list_all test vs) ≡ true → b ≡ true
    go true is = refl
    go false is = absurd (cc)

-- an argument that has a row has a first value
row_first : (id : Text) (rows : List Row) (r : Row) → AllFilled rows → find (λ r. bytes_eq r.id id) rows ≡ Some r → HasFirst id rows
row_first id rows r full e =
    let filled = found_filled (λ r. bytes_eq r.id id) rows full r e in
    let same : r.id ≡ id = (bytes_eq-Decides r.id id).0 (found_passes (λ r. bytes_eq r.id id) rows r e) in
    let got = first_taken _ r.values filled.some filled.taken in
    record {
      value = got.0;
      first = ap (option_and_then (λ r. slice_get r.values 0)) e ∙ got.1;
      one = ap (option_and_then row_text) e ∙ (ap (λ how. option_map (read_as how) (slice_get r.values 0)) filled.reading ∙ ap (option_map (λ t. t)) got.1);
      taken = subst (λ (x : Text). accepts false (parser_named x) got.0 ≡ true) same got.2;
    }

-- the value of an argument that has one is taken
pub one_taken : (id : Text) (rows : List Row) (value : Text) → AllFilled rows → one_of id rows ≡ Some value → accepts false (parser_named id) value ≡ true
one_taken id rows value full e = go (find (λ r. bytes_eq r.id id) rows) refl e
  where
    go : (found : Option Row) → find (λ r. bytes_eq r.id id) rows ≡ found → option_and_then row_text found ≡ Some value → accepts false (parser_named id) value ≡ true
    go None is of = absurd (cc)
    go (Some r) is of =
        let has = row_first id rows r full is in
        let both : Some has.value ≡ Some value = sym has.one ∙ e in
        let same : has.value ≡ value = cc in
        subst (λ (v : Text). accepts false (parser_named id) v ≡ true) same has.taken

-- the row of an argument that has one
row_there : (id : Text) (rows : List Row) → has_row id rows ≡ true → (r : Row) × (find (λ r. bytes_eq r.id id) rows ≡ Some r)
row_there id [] e = absurd (cc)
row_there id (x ∷ xs) e = go (bytes_eq x.id id) (row_there id xs) e
  where
    Found : Option Row → Type 0
    Found o = (r : Row) × (o ≡ Some r)

    go : (b : Bool) → (has_row id xs ≡ true → Found (find (λ r. bytes_eq r.id id) xs)) → (b || has_row id xs) ≡ true
        → Found (if b then Some x else find (λ r. bytes_eq r.id id) xs)
    go true rest is = (x, refl)
    go false rest is = rest is

-- the first row, where the test finds one
pub first_of_row : (id : Text) (rows : List Row) → AllFilled rows → has_row id rows ≡ true → HasFirst id rows
first_of_row id rows full e = let there = row_there id rows e in row_first id rows there.0 full there.1

-- an argument that was given has a row
pub given_row : (id : Text) (rows : List Row) → is_given id rows ≡ true → has_row id rows ≡ true
given_row id [] e = absurd (cc)
given_row id (x ∷ xs) e = go (bytes_eq x.id id) (given_row id xs) e
  where
    go : (b : Bool) → (is_given id xs ≡ true → has_row id xs ≡ true)
        → option_map_or (λ r. explicit_source r.source) (if b then Some x else find (λ r. bytes_eq r.id id) xs) false ≡ true → (b || has_row id xs) ≡ true
    go true rest is = refl
    go false rest is = rest is

-- ---- defaults

-- what has a row keeps it
with_values_keeps : (q id : Text) (how : Reading) (s : ValueSource) (values : List Text) (rows : List Row) → has_row q rows ≡ true
    → has_row q (with_values id how s values rows) ≡ true
with_values_keeps q id how s values [] e = absurd (cc)
with_values_keeps q id how s values (r ∷ rs) e = go (bytes_eq r.id id) (with_values_keeps q id how s values rs)
  where
    later : (d : Bool) → (has_row q rs ≡ true → has_row q (with_values id how s values rs) ≡ true)
        → (d || has_row q rs) ≡ true → (d || has_row q (with_values id how s values rs)) ≡ true
    later true rest is = refl
    later false rest is = rest is

    go : (b : Bool) → (has_row q rs ≡ true → has_row q (with_values id how s values rs) ≡ true)
        → has_row q (if b then more_values s values r ++ rs else r ∷ with_values id how s values rs) ≡ true
    go true rest = e
    go false rest = later (bytes_eq r.id q) rest e

-- what was given values has a row
with_values_row : (id : Text) (how : Reading) (s : ValueSource) (values : List Text) (rows : List Row) → has_row id (with_values id how s values rows) ≡ true
with_values_row id how s values [] = rw ((bytes_eq-Decides id id).1 refl) refl
with_values_row id how s values (r ∷ rs) = go (bytes_eq r.id id) refl (with_values_row id how s values rs)
  where
    go : (b : Bool) → bytes_eq r.id id ≡ b → has_row id (with_values id how s values rs) ≡ true → has_row id (if b then more_values s values r ++ rs else r ∷ with_values id how s values rs) ≡ true
    go true same rest = rw same refl
    go false same rest = rw (same, rest) refl

-- the default of an argument keeps the rows that are there
default_keeps : (q : Text) (rows : List Row) (a : Rule) → has_row q rows ≡ true → has_row q (with_default rows a) ≡ true
default_keeps q rows a e = go (has_row a.id rows)
  where
    given : (values : List Text) → has_row q (default_rows a.id (reading_by a) values rows) ≡ true
    given [] = e
    given (v ∷ vs) = with_values_keeps q a.id (reading_by a) DefaultValue (v ∷ vs) rows e

    go : (b : Bool) → has_row q (if b then rows else default_rows a.id (reading_by a) a.defaults rows) ≡ true
    go true = e
    go false = given a.defaults

-- so do all defaults
defaults_keep : (q : Text) (c : List Rule) (rows : List Row) → has_row q rows ≡ true → has_row q (fold with_default rows c) ≡ true
defaults_keep q [] rows e = e
defaults_keep q (a ∷ c) rows e = defaults_keep q c (with_default rows a) (default_keeps q rows a e)

-- an argument with a default has a row
own_default : (rows : List Row) (a : Rule) → is_empty a.defaults ≡ false → has_row a.id (with_default rows a) ≡ true
own_default rows a some = go (has_row a.id rows) refl
  where
    given : (values : List Text) → is_empty values ≡ false → has_row a.id (default_rows a.id (reading_by a) values rows) ≡ true
    given [] e = absurd (cc)
    given (v ∷ vs) e = with_values_row a.id (reading_by a) DefaultValue (v ∷ vs) rows

    go : (b : Bool) → has_row a.id rows ≡ b → has_row a.id (if b then rows else default_rows a.id (reading_by a) a.defaults rows) ≡ true
    go true is = is
    go false is = given a.defaults some

-- so it has a row in the end
pub default_row : (id : Text) (c : List Rule) (rows : List Row) → has_default id c ≡ true → has_row id (fold with_default rows c) ≡ true
default_row id [] rows e = absurd (cc)
default_row id (a ∷ c) rows e = go (bytes_eq a.id id) (is_empty a.defaults) refl refl (default_row id c (with_default rows a)) e
  where
    go : (b d : Bool) → bytes_eq a.id id ≡ b → is_empty a.defaults ≡ d → (has_default id c ≡ true → has_row id (fold with_default (with_default rows a) c) ≡ true)
        → (b && not d || has_default id c) ≡ true → has_row id (fold with_default rows (a ∷ c)) ≡ true
    go true false same some rest is =
        let this : has_row id (with_default rows a) ≡ true =
        subst (λ (x : Text). has_row x (with_default rows a) ≡ true) ((bytes_eq-Decides a.id id).0 same) (own_default rows a some) in
        defaults_keep id c (with_default rows a) this
    go true true same some rest is = rest is
    go false d same some rest is = rest is
