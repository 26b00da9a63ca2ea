-- From the tests of an event to whether it may happen, and else why not.
use Rattle.tp_world.proofs.Common.{◌≡◌, inl, inr, ℕ, ◌+◌, ◌==◌, ◌<◌, List, [], ◌∷◌, length, true, false, Bool, ◌||◌, not, nat_lt, if◌then◌else◌, zero, suc, IsSome, Option, Some, None, refl, sym, ap, ◌∙◌, subst, arith, nat_tests, MatchBool, option_to_list, slice_get, In, both, both_left, both_right, never, or_left, or_right, truth, Actor, same_actor-itself, same_actor-same, ChangeParts, hash_of, has, has-In, In-has, WorldError, NoPeer, ActorUsed, ForeignChange, HashClash, Stopped, NoEntry, OutOfMemory, code_of, WorldInvariant, Event, RefusesHappening, MayHappen, Passes, WouldMake, keeps_whole, World, AllThere, IsFresh, PassesBefore, clashes_in, is_named, IsWould}
use Rattle.tp_headline.proofs.MakingLaws.{edit_is_new}
use Rattle.tp_opid.specs.Same.{same_actor}
use Rattle.tp_event.proofs.Happenings.{one_would}
use Rattle.tp_event.proofs.ThereLaws.{below_some}

true-lt : (a b : ℕ) → nat_lt a b ≡ true → a < b
true-lt a b h = grind (arith, nat_tests)

lt-true : (a b : ℕ) → a < b → nat_lt a b ≡ true
lt-true a b h = grind (arith, nat_tests)

pub no_clash : (w : World) (e : Event) (made : Option ChangeParts) → WorldInvariant w → IsWould w e made → clashes_in w.made e made ≡ false → Passes w e HashClash
no_clash w e (Some c) h would none = λ d other makes i same.
    let is : d ≡ c = one_would w e d c h makes.0 would in
    let there : has w.made (hash_of c) ≡ true = In-has w.made other (hash_of c) i (same ∙ ap hash_of is) in
    let whole : keeps_whole e c ≡ true = subst (λ x. keeps_whole e x ≡ true) is makes.1 in
    never (both (has w.made (hash_of c)) (keeps_whole e c) there whole) none
no_clash w e None h would none = λ d other makes i same. absurd (would d makes.0)

pub a_clash : (w : World) (e : Event) (made : Option ChangeParts) → WorldInvariant w → IsWould w e made → clashes_in w.made e made ≡ true → Passes w e HashClash → ⊥
a_clash w e (Some c) h would found passes =
    let there = has-In w.made (hash_of c) (both_left (has w.made (hash_of c)) (keeps_whole e c) found) in
    let makes : WouldMake w e c = (would, both_right (has w.made (hash_of c)) (keeps_whole e c) found) in
    edit_is_new w would.number would.made c h would.edit (subst (λ x. In x w.made) (passes c there.0 makes there.1 there.2) there.1)
a_clash w e None h would found passes = cc

-- ---- all tests

-- no test comes before the first
pub passes_none : (w : World) (e : Event) → PassesBefore w e NoPeer
passes_none w e NoPeer less = absurd (omega arith)
passes_none w e why less = absurd (omega arith)

-- the refusal with the number
numbered : ℕ → WorldError
numbered n =
    if n == 1 then NoPeer
    else if n == 2 then ActorUsed else if n == 3 then ForeignChange else if n == 4 then HashClash else if n == 5 then Stopped else if n == 6 then NoEntry else OutOfMemory

numbered-code : (why : WorldError) → numbered (code_of why) ≡ why
unfolding numbered
numbered-code NoPeer = refl
numbered-code ActorUsed = refl
numbered-code ForeignChange = refl
numbered-code HashClash = refl
numbered-code Stopped = refl
numbered-code NoEntry = refl
numbered-code OutOfMemory = refl

one_number : (why other : WorldError) → code_of why ≡ code_of other → why ≡ other
one_number why other e = sym (numbered-code why) ∙ ap numbered e ∙ numbered-code other

last_of : (a b c : ℕ) → c ≡ b + 1 → a < c → nat_lt a b ≡ false → b ≡ a
last_of a b c is less above = grind (arith, nat_tests)

-- one test more
pub passes_next : (w : World) (e : Event) (why next : WorldError) → code_of next ≡ code_of why + 1 → PassesBefore w e why → Passes w e why → PassesBefore w e next
passes_next w e why next is before passes other less = elim (truth (nat_lt (code_of other) (code_of why))) [
  | inl below ↦ before other (true-lt (code_of other) (code_of why) below)
  | inr above ↦
      let last : code_of why ≡ code_of other = last_of (code_of other) (code_of why) (code_of next) is less above in
      subst (λ x. Passes w e x) (one_number why other last) passes
]

-- all tests
pub passes_all : (w : World) (e : Event) → PassesBefore w e OutOfMemory → MayHappen w e
passes_all w e before NoPeer = before NoPeer (omega arith)
passes_all w e before ActorUsed = before ActorUsed (omega arith)
passes_all w e before ForeignChange = before ForeignChange (omega arith)
passes_all w e before HashClash = before HashClash (omega arith)
passes_all w e before Stopped = before Stopped (omega arith)
passes_all w e before NoEntry = before NoEntry (omega arith)
passes_all w e before OutOfMemory = tt

-- the first test that isn't passed
pub fails_first : (w : World) (e : Event) (why : WorldError) → PassesBefore w e why → (Passes w e why → ⊥) → RefusesHappening w e why
fails_first w e NoPeer before fails = record { before = before; fails = fails }
fails_first w e ActorUsed before fails = record { before = before; fails = fails }
fails_first w e ForeignChange before fails = record { before = before; fails = fails }
fails_first w e HashClash before fails = record { before = before; fails = fails }
fails_first w e Stopped before fails = record { before = before; fails = fails }
fails_first w e NoEntry before fails = record { before = before; fails = fails }
fails_first w e OutOfMemory before fails = tt

-- ---- one number, one actor

some_below : {X : Type 0} (xs : List X) (n : ℕ) → n < length xs → IsSome (slice_get xs n)
some_below [] n h = absurd (omega arith)
some_below (x ∷ xs) zero h = refl
some_below (x ∷ xs) (suc n) h = some_below xs n (omega arith)

there_if : {X : Type 0} (xs : List X) (n : ℕ) (b : Bool) → b ≡ nat_lt n (length xs) → MatchBool b (AllThere xs (n ∷ [])) (AllThere xs (n ∷ []) → ⊥)
there_if xs n true e = λ m i. elim i [
  | inl is ↦ subst (λ k. IsSome (slice_get xs k)) (sym is) (some_below xs n (true-lt n (length xs) (sym e)))
  | inr none ↦ absurd none
]
there_if xs n false e = λ all. never (lt-true n (length xs) (below_some xs n (all n (inl refl)))) (sym e)

pub there_one : {X : Type 0} (xs : List X) (n : ℕ) (o : Option ℕ) → o ≡ Some n → MatchBool (nat_lt n (length xs)) (AllThere xs (option_to_list o)) (AllThere xs (option_to_list o) → ⊥)
there_one xs n o some =
    subst (λ x. MatchBool (nat_lt n (length xs)) (AllThere xs (option_to_list x)) (AllThere xs (option_to_list x) → ⊥)) (sym some) (there_if xs n (nat_lt n (length xs)) refl)

named-In : (used : List Actor) (a : Actor) → is_named used a ≡ true → In a used
named-In [] a h = absurd cc
named-In (b ∷ used) a h = elim (truth (same_actor b a)) [
  | inl same ↦ inl (sym (same_actor-same b a same))
  | inr other ↦ inr (named-In used a (subst (λ x. (x || is_named used a) ≡ true) other h))
]

In-named : (used : List Actor) (a : Actor) → In a used → is_named used a ≡ true
In-named [] a i = absurd i
In-named (b ∷ used) a (inl is) = or_left (same_actor b a) (is_named used a) (subst (λ x. same_actor x a ≡ true) is (same_actor-itself a))
In-named (b ∷ used) a (inr i) = or_right (same_actor b a) (is_named used a) (In-named used a i)

fresh_if : (used : List Actor) (a : Actor) (b : Bool) → b ≡ is_named used a → MatchBool (not b) (IsFresh used (Some a)) (IsFresh used (Some a) → ⊥)
fresh_if used a true e = λ fresh. fresh a refl (named-In used a (sym e))
fresh_if used a false e = λ x is i. never (In-named used a (let same : x ≡ a = cc in subst (λ y. In y used) same i)) (sym e)

pub fresh_one : (used : List Actor) (a : Actor) (o : Option Actor) (b : Bool) → o ≡ Some a → b ≡ is_named used a → MatchBool (not b) (IsFresh used o) (IsFresh used o → ⊥)
fresh_one used a o b some is = subst (λ x. MatchBool (not b) (IsFresh used x) (IsFresh used x → ⊥)) (sym some) (fresh_if used a b is)
