-- `show PATH` is at no fault, and its `LOG` is the path.
use Rattle.std.proofs.Common.{◌≡◌, ◌∙◌, ℕ, Bool, true, false, ap, sym, subst, ⊎_elim, refl, List, [], ◌∷◌, length, Option, Some, None, arith, inl, inr, codes, nat_eq, option_map, true≢false}
use Rattle.std.proofs.lemmas.Bool.{eqb-true}
use Rattle.std.specs.Str.{bytes_eq}
use Rattle.std.proofs.lemmas.Slice.Eq.{bytes_eq-Decides}
use Rattle.std.specs.Prelude.{◌<◌, ◌||◌, IsErrAnd, MatchResult, Ok, Err, Result}
use Rattle.clap.specs.Walk.{Row, Text, first_of}
use Rattle.clap.specs.Words.{one_of}
use Rattle.clap.specs.Simple.{subcommand_of}
use Rattle.clap.specs.Faults.{fault_of}
use Rattle.clap.proofs.OnLiterals.{clap_on_literals}
use Rattle.clap.specs.Words.{App, HasKind, Kinds, is_simple_and_free, kind_of}
use Rattle.clap.specs.declared.error.Error.{Error}
use Rattle.clap.specs.declared.error.kind.ErrorKind.TheVariants as kind
use Rattle.tp_command_line.specs.Commands.{AskToShow, IsFoundAs, IsJobOf, IsShow, textpeer_app}
use Rattle.tp_command_line.specs.Values.{all_hashes, is_of_address}
use Rattle.tp_command_line.specs.LineError.{IsPassedAs, RefusesValue}
use Rattle.tp_command_line.proofs.Found.{some_is}
use Rattle.tp_command_line.specs.declared.job.FileJob.TheVariants.{Show}
use Rattle.tp_command_line.specs.declared.job.Job.{Job}
use Rattle.tp_command_line.specs.declared.job.Job.TheVariants.{Files, Share}
use Rattle.tp_command_line.specs.declared.error.LineError.{LineError}
use Rattle.tp_command_line.specs.declared.error.LineError.TheVariants.{Request, Fault, Value}
use Rattle.tp_command_line.specs.declared.error.ValueError.{ValueError}
use Rattle.tp_command_line.specs.declared.error.ValueError.TheVariants.{BadHex, BadAddress, BadPage, OutOfMemory, NotOneText, NotOneOutput, BadTake}

-- the name of a subcommand, its `LOG`, its key, its address, its hashes, its place, its page and that one's addresses,
-- whether it prints texts, and which text counts
abbrev Named : Type 0
Named = Text × Option Text × Option Text × Option Text × List Text × Option Text × Option Text × Option Text × Option Text × Option Text × Option Text

abbrev named_log : Text × List Row → Named
named_log p = (p.0, first_of (codes "LOG") p.1, first_of (codes "key") p.1, first_of (codes "ADDR") p.1, all_hashes p.1, one_of (codes "at") p.1, first_of (codes "PAGE") p.1, first_of (codes "serve") p.1, first_of (codes "server") p.1, one_of (codes "texts") p.1, first_of (codes "take") p.1)

-- those of `show` with the path
abbrev shown : Text → Named
shown path = (codes "show", Some path, None, None, [], None, None, None, None, None, None)

-- the empty path
no_fault_empty : (name : Text) → fault_of textpeer_app (name ∷ codes "show" ∷ [] ∷ []) ≡ []
unfolding clap_on_literals
no_fault_empty name = refl

-- a path whose first byte is no hyphen
no_fault_byte : (name : Text) (x : ℕ) (xs : Text) → nat_eq x 45 ≡ false → fault_of textpeer_app (name ∷ codes "show" ∷ (x ∷ xs) ∷ []) ≡ []
unfolding clap_on_literals
no_fault_byte name x xs e = rw (e, e) refl

log_empty : (name : Text) → option_map named_log (subcommand_of textpeer_app (name ∷ codes "show" ∷ [] ∷ [])) ≡ Some (shown [])
unfolding clap_on_literals
log_empty name = refl

log_byte : (name : Text) (x : ℕ) (xs : Text) → nat_eq x 45 ≡ false
    → option_map named_log (subcommand_of textpeer_app (name ∷ codes "show" ∷ (x ∷ xs) ∷ [])) ≡ Some (shown (x ∷ xs))
unfolding clap_on_literals
log_byte name x xs e = rw (e, e) refl

hyphen_or : (x : ℕ) → (Some x ≡ Some 45 → ⊥) → nat_eq x 45 ≡ false
hyphen_or x other = go (nat_eq x 45) refl
  where
    go : (b : Bool) → nat_eq x 45 ≡ b → b ≡ false
    go false e = refl
    go true e = absurd (other (ap Some (eqb-true x 45 e)))

-- words that ask to show a path are at no fault
show_no_fault : (path : Text) (words : List Text) → AskToShow path words → fault_of textpeer_app words ≡ []
show_no_fault [] words ask = ap (fault_of textpeer_app) ask.words_are ∙ no_fault_empty ask.name
show_no_fault (x ∷ xs) words ask = ap (fault_of textpeer_app) ask.words_are ∙ no_fault_byte ask.name x xs (hyphen_or x ask.no_flag)

show_log_is : (path : Text) (words : List Text) → AskToShow path words → option_map named_log (subcommand_of textpeer_app words) ≡ Some (shown path)
show_log_is [] words ask =
    let value : List Text → Option (Named) = λ ws. option_map named_log (subcommand_of textpeer_app ws) in
    ap value ask.words_are ∙ log_empty ask.name
show_log_is (x ∷ xs) words ask =
    let value : List Text → Option (Named) = λ ws. option_map named_log (subcommand_of textpeer_app ws) in
    ap value ask.words_are ∙ log_byte ask.name x xs (hyphen_or x ask.no_flag)

-- another name isn't `show`
other_name : {P : Type 0} (name : Text) → name ≡ codes "show" → bytes_eq name (codes "show") ≡ false → P
other_name name is other = absurd (true≢false (sym ((bytes_eq-Decides name (codes "show")).1 is) ∙ other))

-- a job of a subcommand `show` shows the value of `LOG`
show_of_name : (path : Text) (name : Text) (rows : List Row) (job : Job) → name ≡ codes "show" → first_of (codes "LOG") rows ≡ Some path → IsJobOf name rows job → IsShow path job
show_of_name path name rows (Files (Show file)) is log of = let same : Some file.now ≡ Some path = sym of.1 ∙ log in (file, refl, cc)
show_of_name path name rows (Share file note take addr every sessions patience key) is log of =
    ⊎_elim (λ m. other_name _ (sym m.named ∙ is) refl) (λ s. other_name _ (sym s.named ∙ is) refl) of.3
show_of_name path name rows job is log of = other_name _ (sym of.0 ∙ is) refl

-- what is found of words that ask to show a path
found_shown : (path : Text) (words : List Text) (name : Text) (rows : List Row) → AskToShow path words → subcommand_of textpeer_app words ≡ Some (name, rows)
    → named_log (name, rows) ≡ shown path
found_shown path words name rows ask is =
    let value : Option (Text × List Row) → Option (Named) = option_map named_log in
    some_is (sym (ap value is) ∙ show_log_is path words ask)

-- words that ask to show a path give that
pub show_path : (path : Text) (words : List Text) (job : Job) → AskToShow path words → IsFoundAs (subcommand_of textpeer_app words) job → IsShow path job
show_path path words job ask found =
    let same = found_shown path words found.0 found.1 ask found.2 in
    let name : Named → Text = λ p. p.0 in
    let log : Named → Option Text = λ p. p.1 in
    show_of_name path found.0 found.1 job (ap name same) (ap log same) found.3

-- an argument whose value is an address is one of these, and none of these was given
no_address_given : (id : Text) (rows : List Row) → first_of (codes "ADDR") rows ≡ None → first_of (codes "serve") rows ≡ None → first_of (codes "server") rows ≡ None
    → is_of_address id ≡ true → first_of id rows ≡ None
no_address_given id rows addr serve server of = go (bytes_eq (codes "ADDR") id) (bytes_eq (codes "serve") id) (bytes_eq (codes "server") id) refl refl refl of
  where
    go : (x y z : Bool) → bytes_eq (codes "ADDR") id ≡ x → bytes_eq (codes "serve") id ≡ y → bytes_eq (codes "server") id ≡ z → (x || (y || (z || false))) ≡ true → first_of id rows ≡ None
    go true y z first second third any = ap (λ i. first_of i rows) (sym ((bytes_eq-Decides (codes "ADDR") id).0 first)) ∙ addr
    go false true z first second third any = ap (λ i. first_of i rows) (sym ((bytes_eq-Decides (codes "serve") id).0 second)) ∙ serve
    go false false true first second third any = ap (λ i. first_of i rows) (sym ((bytes_eq-Decides (codes "server") id).0 third)) ∙ server
    go false false false first second third any = absurd (cc)

-- with no key, no address, no hash, no place, no page, no texts and no side, only memory can fail
only_values : (rows : List Row) (e : ValueError) → first_of (codes "key") rows ≡ None → ((id : Text) → is_of_address id ≡ true → first_of id rows ≡ None) → all_hashes rows ≡ [] → one_of (codes "at") rows ≡ None → first_of (codes "PAGE") rows ≡ None
    → one_of (codes "texts") rows ≡ None → first_of (codes "take") rows ≡ None → RefusesValue rows e → e ≡ OutOfMemory
only_values rows BadHex key addr heads at page texts take (inl any) =
    let none : length (all_hashes rows) ≡ 0 = ap length heads in
    let some : any.0 < length (all_hashes rows) = any.2 in
    absurd (omega arith)
only_values rows BadHex key addr heads at page texts take (inr bad) = let e : None ≡ Some bad.0 = sym key ∙ bad.1 in absurd (cc)
only_values rows BadAddress key addr heads at page texts take bad = let e : None ≡ Some bad.1 = sym (addr bad.0 bad.2) ∙ bad.3 in absurd (cc)
only_values rows BadPage key addr heads at page texts take bad = let e : None ≡ Some bad.0 = sym page ∙ bad.1 in absurd (cc)
only_values rows OutOfMemory key addr heads at page texts take bad = refl
only_values rows NotOneText key addr heads at page texts take bad = let e : None ≡ Some bad.0.1.0 = sym at ∙ bad.0.1.1 in absurd (cc)
only_values rows NotOneOutput key addr heads at page texts take (inl both) = let e : None ≡ Some (codes "true") = sym texts ∙ both.0 in absurd (cc)
only_values rows NotOneOutput key addr heads at page texts take (inr none) = let e : None ≡ Some (codes "false") = sym texts ∙ none.0 in absurd (cc)
only_values rows BadTake key addr heads at page texts take bad = let e : None ≡ Some bad.0 = sym take ∙ bad.1 in absurd (cc)

-- so it is of words that ask to show a path
pub show_reads : (path : Text) (words : List Text) (name : Text) (rows : List Row) (e : ValueError) → AskToShow path words
    → subcommand_of textpeer_app words ≡ Some (name, rows) → RefusesValue rows e → e ≡ OutOfMemory
show_reads path words name rows e ask is bad =
    let same = found_shown path words name rows ask is in
    let key : Named → Option Text = λ p. p.2 in
    let addr : Named → Option Text = λ p. p.3 in
    let heads : Named → List Text = λ p. p.4 in
    let at : Named → Option Text = λ p. p.5 in
    let page : Named → Option Text = λ p. p.6 in
    let serve : Named → Option Text = λ p. p.7 in
    let server : Named → Option Text = λ p. p.8 in
    let none : (id : Text) → is_of_address id ≡ true → first_of id rows ≡ None = λ id. no_address_given id rows (ap addr same) (ap serve same) (ap server same) in
    let texts : Named → Option Text = λ p. p.9 in
    let take : Named → Option Text = λ p. p.10 in
    only_values rows e (ap key same) none (ap heads same) (ap at same) (ap page same) (ap texts same) (ap take same) bad

-- where the words have no fault, only memory can fail
pub only_memory : (a : App) (path : Text) (words : List Text) (e : Error) → a ≡ textpeer_app → AskToShow path words
    → (is_simple_and_free a ≡ true → HasKind (fault_of a words) e) → kind_of e ≡ kind.OutOfMemory
only_memory a path words e is ask has =
    let none : fault_of a words ≡ [] = ap (λ (x : App). fault_of x words) is ∙ show_no_fault path words ask in
    let as_none : HasKind [] e = subst (λ (k : Kinds). HasKind k e) none (has (ap is_simple_and_free is)) in
    ⊎_elim (λ m. m) (λ past. absurd past) as_none

-- that memory ran out is passed up
pub passed_up : {T : Type 0} (P : T → Type 0) (r : Result T LineError) (e : Error) → IsErrAnd r (IsPassedAs e) → kind_of e ≡ kind.OutOfMemory → MatchResult r P (λ y. y ≡ Value OutOfMemory)
passed_up P (Ok wanted) e is memory = absurd is
passed_up P (Err (Request y)) e is memory = ⊎_elim (λ h. absurd (cc)) (λ v. absurd (cc)) is.1
passed_up P (Err (Fault y)) e is memory = absurd (is.1 memory)
passed_up P (Err (Value y)) e is memory = ap Value is.0

-- so it is of a value
pub value_passed : {T : Type 0} (P : T → Type 0) (r : Result T LineError) (e : ValueError) → IsErrAnd r (λ y. y ≡ Value e) → e ≡ OutOfMemory
    → MatchResult r P (λ y. y ≡ Value OutOfMemory)
value_passed P (Ok wanted) e is memory = absurd is
value_passed P (Err y) e is memory = is ∙ ap Value memory
