-- What the parser's matches say of the subcommand that was found, and of its values.
use Rattle.std.proofs.Common.{◌≡◌, ◌∙◌, ⊎_elim, ap, Bool, true, false, inl, inr, refl, sym, subst, List, [], ◌∷◌, Option, Some, None, codes}
use Rattle.std.specs.Prelude.{◌||◌, IsErrAnd, IsSome, ℕ, Ok, Err, Result, find, if◌then◌else◌, option_map}
use Rattle.std.specs.Str.{bytes_eq}
use Rattle.std.proofs.lemmas.Slice.Eq.{bytes_eq-Decides}
use Rattle.clap.specs.Simple.{Shape, built}
use Rattle.std.specs.Borrow.{Bor}
use Rattle.std.specs.Str.Parse.{ExplainsUnsignedError, HasUnsignedDigitsIfOk, ParsesUnsigned, digits_value, without_leading_plus}
use Rattle.std.specs.declared.num.ParseIntError.{ParseIntError}
use Rattle.clap.specs.Faults.{fault_of}
use Rattle.clap.specs.Matches.{ReadsOne}
use Rattle.clap.specs.Values.{Accepts}
use Rattle.clap.specs.ValueTests.{accepts}
use Rattle.clap.proofs.ValueTestLemmas.{accepts-Accepts}
use Rattle.clap.proofs.WalkLemmas.{one_text-rows}
use Rattle.clap.specs.Words.{App, HasKind, HasMatchesOf, IsAmong, Kinds, Row, Text, one_of, found_of, is_simple, is_simple_and_free, kind_of, one_text, rows_of, subcommand_name_of, subcommand_of, subcommand_rows_of}
use Rattle.clap.specs.declared.builder.value_parser.ValueParser.TheVariants as parser
use Rattle.clap.specs.declared.parser.matches.ArgMatches.{ArgMatches}
use Rattle.clap.specs.declared.parser.matches.Found.{Found}
use Rattle.clap.specs.declared.parser.matches.ArgMatches.TheViews.{out-ArgMatches}
use Rattle.clap.specs.declared.error.Error.{Error}
use Rattle.clap.specs.declared.error.kind.ErrorKind.{ErrorKind}
use Rattle.tp_command_line.specs.Commands.{textpeer_app}
use Rattle.tp_command_line.specs.Rules.{few, numbers, pausing, waiting}
use Rattle.tp_command_line.specs.Uses.{IsUse, always_has}
use Rattle.tp_command_line.specs.Values.{HasFlag, HasNumber, HasValue, IsNumber, IsNumberIn, MayHaveNumber, is_flag, is_number, is_numeric, parser_named}
use Rattle.tp_command_line.specs.LineError.{FailsAs, RefusesLine, IsPassedAs, RefusesValue, RefusesReading}
use Rattle.tp_command_line.specs.declared.error.LineError.{LineError}
use Rattle.tp_command_line.specs.declared.error.LineError.TheVariants.{Request, Fault, Value}
use Rattle.tp_command_line.specs.declared.error.ValueError.{ValueError}
use Rattle.tp_command_line.specs.declared.error.ValueError.TheVariants.{BadHex, BadAddress, BadPage, OutOfMemory, NotOneText, NotOneOutput, BadTake}
use Rattle.tp_command_line.proofs.Rows.{HasFirst, one_taken}
use Rattle.tp_command_line.proofs.Uses.{IsUseOf, all_filled, always_given, use_of}

-- ---- values

-- an argument that the subcommand always has has a value
pub value_of : (name id : Text) (rows : List Row) → IsUse name rows → always_has name id ≡ true → HasValue id rows
value_of name id rows found has = let given = always_given name id rows found has in (given.value, given.first)

-- what reads a number takes numbers alone
number_parser : (id : Text) → is_number id ≡ true → (low high : ℕ) × (parser_named id ≡ parser.Unsigned low high)
number_parser id is = go (is_numeric id) (bytes_eq (codes "workers") id) (bytes_eq (codes "patience") id) (bytes_eq (codes "wait") id) (bytes_eq (codes "follow") id) (bytes_eq (codes "every") id) is
  where
    go : (numeric workers patience wait follow every : Bool) → (numeric || workers || patience || follow || wait || every) ≡ true
        → (low high : ℕ) × ((if numeric then numbers else if workers then few else if patience then waiting else if wait then waiting else if follow then pausing
        else if every then pausing else if is_flag id then parser.Bool else parser.String) ≡ parser.Unsigned low high)
    go true w p l f e any = (_, _, refl)
    go false true p l f e any = (_, _, refl)
    go false false true l f e any = (_, _, refl)
    go false false false true f e any = (_, _, refl)
    go false false false false true e any = (_, _, refl)
    go false false false false false true any = (_, _, refl)
    go false false false false false false any = absurd (cc)

-- a value that it takes is a number
number_taken : (id text : Text) → is_number id ≡ true → accepts false (parser_named id) text ≡ true → (n : ℕ) × IsNumber text n
number_taken id text is has =
    let p = number_parser id is in
    let taken : Accepts false (parser.Unsigned p.0 p.1) text = accepts-Accepts false (parser.Unsigned p.0 p.1) text (ap (λ q. accepts false q text) (sym p.2) ∙ has) in
    (digits_value 10 (without_leading_plus text), record { digits = taken.0; small = taken.1; value = refl })

-- a number that the subcommand always has
pub number_of : (name id : Text) (rows : List Row) → IsUse name rows → always_has name id ≡ true → is_number id ≡ true → (n : ℕ) × HasNumber id rows n
number_of name id rows found has is =
    let given = always_given name id rows found has in
    let number = number_taken id given.value is given.taken in
    (number.0, (given.value, given.one, number.1))

-- a value that the parser of flags takes says whether the flag was given
pub flag_given : (id : Text) (rows : List Row) → HasFirst id rows → parser_named id ≡ parser.Bool → (given : Bool) × HasFlag id rows given
flag_given id rows has is =
    let taken : Accepts false parser.Bool has.value = accepts-Accepts false parser.Bool has.value (ap (λ p. accepts false p has.value) (sym is) ∙ has.taken) in
    go (bytes_eq has.value (codes "true")) (bytes_eq has.value (codes "false")) refl refl taken
  where
    go : (b d : Bool) → bytes_eq has.value (codes "true") ≡ b → bytes_eq has.value (codes "false") ≡ d → (b || d) ≡ true → (given : Bool) × HasFlag id rows given
    go true d is_true is_false either = (true, has.one ∙ ap Some ((bytes_eq-Decides has.value (codes "true")).0 is_true))
    go false true is_true is_false either = (false, has.one ∙ ap Some ((bytes_eq-Decides has.value (codes "false")).0 is_false))
    go false false is_true is_false either = absurd (cc)

-- what a flag is read as
pub flag_read : (given result : Bool) (f : Found) (id : Text) → HasFlag id (rows_of f) given → (one_text f id ≡ Some (codes "true") → result ≡ true)
    → (one_text f id ≡ Some (codes "false") → result ≡ false) → HasFlag id (rows_of f) result
flag_read true result f id has is_true is_false = subst (λ (b : Bool). HasFlag id (rows_of f) b) (sym (is_true (one_text-rows f id ∙ has))) has
flag_read false result f id has is_true is_false = subst (λ (b : Bool). HasFlag id (rows_of f) b) (sym (is_false (one_text-rows f id ∙ has))) has

-- a text that is known was given
pub text_given : (o : Option (Bor Text)) (t : Text) → option_map (λ s. s.now) o ≡ Some t → IsSome o
text_given None t e = absurd (cc)
text_given (Some s) t e = refl

-- how a number of 64 bits is read of a text
abbrev pub ReadsNumber : List ℕ → Result ℕ ParseIntError → Type 0
ReadsNumber text r = ParsesUnsigned 64 10 text r × ExplainsUnsignedError 10 text r × HasUnsignedDigitsIfOk text r

-- a text that is a number is read as that number
number_read : (text : Text) (n : ℕ) (r : Option ℕ) → IsNumber text n → ReadsOne ReadsNumber text r → r ≡ Some n
number_read text n None number read = absurd (read.1.0 (number.digits, rw (← number.value) number.small))
number_read text n (Some m) number read = ap Some (read.0.1 ∙ sym number.value)

-- the number that an argument has is the one that is read
pub number_found : (f : Found) (id : Text) (n : ℕ) (r : Option ℕ) → HasNumber id (rows_of f) n → ((t : List ℕ) → one_text f id ≡ Some t → ReadsOne ReadsNumber t r)
    → r ≡ Some n
number_found f id n r has read = number_read has.0 n r has.2 (read has.0 (one_text-rows f id ∙ has.1))

-- the number of an argument, where it has one, is the one that is read
pub number_if_any : (f : Found) (name id : Text) (r : Option ℕ) → IsUse name (rows_of f) → is_number id ≡ true → (one_text f id ≡ None → r ≡ None)
    → ((t : List ℕ) → one_text f id ≡ Some t → ReadsOne ReadsNumber t r) → MayHaveNumber id (rows_of f) r
number_if_any f name id r found is none read = go (one_of id (rows_of f)) refl
  where
    go : (o : Option Text) → one_of id (rows_of f) ≡ o → IsNumberIn o r
    go None has = subst (IsNumberIn None) (sym (none (one_text-rows f id ∙ has))) tt
    go (Some text) has =
        let number = number_taken id text is (one_taken id (rows_of f) text (all_filled name (rows_of f) found) has) in
        let same = number_read text number.0 r number.1 (read text (one_text-rows f id ∙ has)) in
        subst (IsNumberIn (Some text)) (sym same) number.1

-- what is in the two is one
pub some_is : {X : Type 0} {x y : X} → Some x ≡ Some y → x ≡ y
some_is {X} {x} {y} e = cc

-- ---- the subcommand

-- no subcommand has the name
abbrev pub NoneNamed : Text → List Shape → Type 0
NoneNamed name [] = Unit {0}
NoneNamed name (s ∷ shapes) = (name ≡ s.name → ⊥) × NoneNamed name shapes

not_found : (name : Text) (shapes : List Shape) → NoneNamed name shapes → find (λ s. bytes_eq s.name name) shapes ≡ None
not_found name [] none = refl
not_found name (s ∷ shapes) none = go (bytes_eq s.name name) refl (not_found name shapes none.1)
  where
    go : (b : Bool) → bytes_eq s.name name ≡ b → find (λ s. bytes_eq s.name name) shapes ≡ None
        → (if b then Some s else find (λ s. bytes_eq s.name name) shapes) ≡ None
    go true same rest = absurd (none.0 (sym ((bytes_eq-Decides s.name name).0 same)))
    go false same rest = rest

-- these names are all
pub no_other : (name : Text) (rows : List Row) → IsUse name rows → NoneNamed name (built textpeer_app).subs → ⊥
no_other name rows found none =
    let bad : None ≡ Some found.shape = sym (not_found name (built textpeer_app).subs none) ∙ found.named in
    absurd (cc)

-- the name that is with the rows is the name
name_of_rows : {X : Type 0} (name : X → Text) (rows : X → List Row) (found : Option X)
    → option_map (λ p. p.0) (option_map (λ x. let row : Text × List Row = (name x, rows x) in row) found) ≡ option_map name found
name_of_rows name rows None = refl
name_of_rows name rows (Some x) = refl

-- the name of the subcommand is that of its rows
pub name_found : (m : ArgMatches) → option_map (λ p. p.0) (subcommand_rows_of m) ≡ subcommand_name_of m
name_found m = name_of_rows _ _ (out-ArgMatches m).subcommand

-- both parts of what was found
pub pair_found : (found : Option (Text × List Row)) (name : Text) (rows : List Row) → option_map (λ p. p.0) found ≡ Some name
    → option_map (λ p. p.1) found ≡ Some rows → found ≡ Some (name, rows)
pair_found None name rows e f = absurd (cc)
pair_found (Some p) name rows e f =
    let first : p.0 ≡ name = cc in
    let second : p.1 ≡ rows = cc in
    rw (← first, ← second) refl

-- what a parse of `textpeer` that succeeded says of the words and of its matches
pub record Parsed (words : List Text) (m : ArgMatches) : Type 0 where
  pub no_fault : fault_of textpeer_app words ≡ []
  pub is_use : IsUseOf (subcommand_of textpeer_app words)
  pub same : subcommand_rows_of m ≡ subcommand_of textpeer_app words

pub parsed_of : (a : App) (words : List Text) (m : ArgMatches) → a ≡ textpeer_app → HasMatchesOf a words m
    → (is_simple_and_free a ≡ true → fault_of a words ≡ []) → Parsed words m
parsed_of a words m is has no_fault =
    let none : fault_of textpeer_app words ≡ [] = ap (λ (x : App). fault_of x words) (sym is) ∙ no_fault (ap is_simple_and_free is) in
    record {
      no_fault = none;
      is_use = use_of words none;
      same = (has (ap is_simple is)).1 ∙ ap (λ (x : App). subcommand_of x words) is;
    }

-- the subcommand that the matches have is the one that was found, and its rows are a use of it
pub use_found : (words : List Text) (m : ArgMatches) (o : Option (Bor Text × Bor ArgMatches)) (p : Bor Text × Bor ArgMatches) → Parsed words m → o ≡ Some p
    → option_map (λ q. q.0.now) o ≡ subcommand_name_of m → option_map (λ q. rows_of (found_of q.1.now)) o ≡ option_map (λ q. q.1) (subcommand_rows_of m)
    → (subcommand_of textpeer_app words ≡ Some (p.0.now, rows_of (found_of p.1.now))) × IsUse p.0.now (rows_of (found_of p.1.now))
use_found words m o p parsed is named rowed =
    let name_of : Option (Bor Text × Bor ArgMatches) → Option Text = option_map (λ q. q.0.now) in
    let all_of : Option (Bor Text × Bor ArgMatches) → Option (List Row) = option_map (λ q. rows_of (found_of q.1.now)) in
    let first : Option (Text × List Row) → Option Text = option_map (λ q. q.0) in
    let second : Option (Text × List Row) → Option (List Row) = option_map (λ q. q.1) in
    let name : Text = p.0.now in
    let rows : List Row = rows_of (found_of p.1.now) in
    let pair = pair_found (subcommand_rows_of m) name rows (name_found m ∙ (sym named ∙ ap name_of is)) (sym rowed ∙ ap all_of is) in
    let found = sym parsed.same ∙ pair in
    let both = sym parsed.is_use.2 ∙ found in
    let as_name : IsUse name parsed.is_use.1 = subst (λ (x : Text). IsUse x parsed.is_use.1) (some_is (ap first both)) parsed.is_use.3 in
    (found, subst (IsUse name) (some_is (ap second both)) as_name)

-- what the parser said is a cause
caused : (kinds : Kinds) (found : Option (Text × List Row)) (said : Error) (e : LineError) → IsPassedAs said e → HasKind kinds said → RefusesLine kinds found e
caused kinds found said (Request e) passed (inl memory) = ⊎_elim (λ h. absurd (cc)) (λ v. absurd (cc)) passed.1
caused kinds found said (Request e) passed (inr among) =
    ⊎_elim (λ h. inl (subst (λ (k : ErrorKind). IsAmong k kinds) h among)) (λ v. inr (subst (λ (k : ErrorKind). IsAmong k kinds) v among)) passed.1
caused kinds found said (Fault e) passed (inl memory) = absurd (passed.1 memory)
caused kinds found said (Fault e) passed (inr among) = subst (λ (x : Error). IsAmong (kind_of x) kinds) (sym passed.0) among
caused kinds found said (Value e) passed has = subst (RefusesReading kinds found) (sym passed.0) tt

-- an error is passed up as it is
pub fails_as : {T : Type 0} (a : App) (words : List Text) (e : Error) (r : Result T LineError) → a ≡ textpeer_app → IsErrAnd r (IsPassedAs e)
    → (is_simple_and_free a ≡ true → HasKind (fault_of a words) e) → FailsAs (fault_of textpeer_app words) (subcommand_of textpeer_app words) r
fails_as a words e (Ok wanted) is passed has = absurd passed
fails_as a words e (Err y) is passed has =
    let kinds : HasKind (fault_of textpeer_app words) e = subst (λ (x : App). HasKind (fault_of x words) e) is (has (ap is_simple_and_free is)) in
    caused (fault_of textpeer_app words) (subcommand_of textpeer_app words) e y passed kinds

-- so it is of why a value wasn't read
not_read : (kinds : Kinds) (found : Option (Text × List Row)) (name : Text) (rows : List Row) (e : ValueError) → kinds ≡ [] → found ≡ Some (name, rows)
    → RefusesValue rows e → RefusesReading kinds found e
not_read kinds found name rows BadHex none is bad = (name, rows, none, is, bad)
not_read kinds found name rows BadAddress none is bad = (name, rows, none, is, bad)
not_read kinds found name rows BadPage none is bad = (name, rows, none, is, bad)
not_read kinds found name rows OutOfMemory none is bad = tt
not_read kinds found name rows NotOneText none is bad = (name, rows, none, is, bad)
not_read kinds found name rows NotOneOutput none is bad = (name, rows, none, is, bad)
not_read kinds found name rows BadTake none is bad = (name, rows, none, is, bad)

pub value_fails : {T : Type 0} (kinds : Kinds) (found : Option (Text × List Row)) (name : Text) (rows : List Row) (e : ValueError) (r : Result T LineError) → kinds ≡ []
    → found ≡ Some (name, rows) → IsErrAnd r (λ y. y ≡ Value e) → RefusesValue rows e → FailsAs kinds found r
value_fails kinds found name rows e (Ok wanted) none is passed bad = absurd passed
value_fails kinds found name rows e (Err y) none is passed bad = subst (RefusesLine kinds found) (sym passed) (not_read kinds found name rows e none is bad)
