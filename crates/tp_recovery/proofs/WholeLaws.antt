-- The whole records that are in bytes, and what of their changes enters.
use Rattle.std.proofs.Common.{◌≡◌, ℕ, ◌+◌, ◌-◌, ◌<◌, ◌≤◌, ◌⊎◌, inl, inr, zero, suc, List, [], ◌∷◌, ◌++◌, length, drop, map, take, get_or, Option, Some, None, refl, sym, ap, ◌∙◌, subst, append_assoc, append-nil, arith}
use Rattle.std.proofs.lemmas.List.{length-append, map_push, take_more}
use Rattle.tp_list.specs.Members.{In}
use Rattle.tp_list.proofs.Members.{In-left, In-right, In-append}
use Rattle.tp_layout.specs.declared.parts.ChangeParts.{ChangeParts}
use Rattle.tp_change.specs.ChangeHash.{hash_of}
use Rattle.tp_opid.specs.declared.hash.Hash.{Hash}
use Rattle.tp_layout.specs.Limits.{IsChange}
use Rattle.tp_history.specs.declared.error.GraphError.{GraphError}
use Rattle.tp_history.specs.Fit.{cause}
use Rattle.tp_store.specs.declared.error.StoreError.TheVariants.{Damaged, OutOfMemory}
use Rattle.tp_recovery.specs.Layout.{record_of}
use Rattle.tp_recovery.specs.Whole.{AreFound, AreRecordsIn, BeginsNone, BeginsNoneWithin, EntersFitting, HoldsRecord, Rescues, RecordAt, entry_change, with_hash}
use Rattle.tp_recovery.specs.declared.rescuing.WholeRecord.{WholeRecord}
use Rattle.tp_recovery.proofs.RecordLaws.{length-record_of}

-- nothing begins in no bytes
none_in_none : (before rest : List ℕ) → [] ≡ before ++ rest → BeginsNone rest
none_in_none before rest e c beyond is starts =
    let size : 0 ≡ length (before ++ rest) = ap length e in
    let parts = length-append before rest in
    let record_size : length rest ≡ length (record_of c ++ beyond) = ap length starts in
    let record_parts = length-append (record_of c) beyond in
    let own = length-record_of c in
    absurd (omega arith)

-- where a record isn't at the start
cut_head : (b d : ℕ) (tail before rest : List ℕ) → b ∷ tail ≡ d ∷ (before ++ rest) → tail ≡ before ++ rest
cut_head b d tail before rest e = ap tail_of e
  where
    tail_of : List ℕ → List ℕ
    tail_of [] = []
    tail_of (x ∷ xs) = xs

within_more : (b : ℕ) (first tail : List ℕ) → BeginsNone (b ∷ tail) → BeginsNoneWithin first tail → BeginsNoneWithin (b ∷ first) (b ∷ tail)
within_more b first tail none within [] rest e = inl (subst BeginsNone e none)
within_more b first tail none within (d ∷ before) rest e = elim (within before rest (cut_head b d tail before rest e)) [
  | inl apart ↦ inl apart
  | inr beyond ↦ inr (omega (arith, beyond))
]

none_after : (total b : ℕ) (tail : List ℕ) → BeginsNone (b ∷ tail) → AreRecordsIn total tail [] → AreRecordsIn total (b ∷ tail) []
none_after total b tail none whole [] rest e = subst BeginsNone e none
none_after total b tail none whole (d ∷ before) rest e = whole before rest (cut_head b d tail before rest e)

-- a byte at which no record begins is passed over
whole_after : (total b : ℕ) (tail : List ℕ) (W : List RecordAt) → BeginsNone (b ∷ tail) → AreRecordsIn total tail W → AreRecordsIn total (b ∷ tail) W
whole_after total b tail [] none whole = none_after total b tail none whole
whole_after total b tail (w ∷ W) none (before, rest, spelled, is, within, at, end, whole) =
    (b ∷ before, rest, ap (λ l. b ∷ l) spelled, is, within_more b before tail none within, at, end, whole)

-- a record is taken
whole_record : (total : ℕ) (bytes rest : List ℕ) (w : RecordAt) (W : List RecordAt) → IsChange w.change → bytes ≡ record_of w.change ++ rest
    → w.at ≡ total - length bytes → w.end ≡ total - length rest → AreRecordsIn total rest W → AreRecordsIn total bytes (w ∷ W)
whole_record total bytes rest w W is spelled at end whole =
    ([], rest, spelled, is, λ before more e. inr (omega arith), at ∙ ap (λ (l : List ℕ). total - length l) spelled, end, whole)

-- ---- whether there is one

-- no record begins at the first byte
pub holds_later : (bytes : List ℕ) → BeginsNone bytes → HoldsRecord bytes → HoldsRecord (drop 1 bytes)
holds_later bytes none (c, [], rest, is, spelled) = absurd (none c rest is spelled)
holds_later [] none (c, b ∷ before, rest, is, spelled) = absurd (cc)
holds_later (x ∷ bytes) none (c, b ∷ before, rest, is, spelled) = (c, before, rest, is, cut_head x b bytes before (record_of c ++ rest) spelled)

-- none is in no bytes
pub holds_none : (bytes : List ℕ) → length bytes ≤ 0 → HoldsRecord bytes → ⊥
holds_none [] none (c, before, rest, is, spelled) = none_in_none before (record_of c ++ rest) spelled c rest is refl
holds_none (b ∷ bytes) none holds = omega (arith, none)

-- the end of the bytes, a byte later
pub end_later : (bytes first rest : List ℕ) → bytes ≡ first ++ rest → (more : List ℕ) × (bytes ≡ more ++ drop 1 rest)
end_later bytes first [] split = (first, split)
end_later bytes first (b ∷ rest) split = (first ++ b ∷ [], split ∙ sym (append_assoc first (b ∷ []) rest))

-- ---- looking for them

-- How far the bytes were looked through, and what was found.
pub record Finding (total : ℕ) (bytes rest : List ℕ) (records : List WholeRecord) (changes : List ChangeParts) : Type 0 where
  pub found : List RecordAt
  pub goes_on : (W : List RecordAt) → AreRecordsIn total rest W → AreRecordsIn total bytes (found ++ W)
  pub records_are : records ≡ map with_hash found
  pub changes_are : changes ≡ map entry_change found

pub finding_none : (total : ℕ) (bytes : List ℕ) (records : List WholeRecord) (changes : List ChangeParts) → records ≡ [] → changes ≡ [] → Finding total bytes bytes records changes
finding_none total bytes records changes no_records no_changes = record { found = []; goes_on = λ W whole. whole; records_are = no_records; changes_are = no_changes }

finding_byte : (total : ℕ) (bytes : List ℕ) (b : ℕ) (tail : List ℕ) (records : List WholeRecord) (changes : List ChangeParts) → BeginsNone (b ∷ tail)
    → Finding total bytes (b ∷ tail) records changes → Finding total bytes tail records changes
finding_byte total bytes b tail records changes none f = record {
  found = f.found;
  goes_on = λ W whole. f.goes_on W (whole_after total b tail W none whole);
  records_are = f.records_are;
  changes_are = f.changes_are;
}

-- no record begins at the first byte
pub finding_first : (total : ℕ) (bytes rest : List ℕ) (records : List WholeRecord) (changes : List ChangeParts) → 0 < length rest → BeginsNone rest
    → Finding total bytes rest records changes → Finding total bytes (drop 1 rest) records changes
finding_first total bytes [] records changes some none f = absurd (omega (arith, some))
finding_first total bytes (b ∷ tail) records changes some none f = finding_byte total bytes b tail records changes none f

-- a record begins there
pub finding_record : (total : ℕ) (bytes rest next : List ℕ) (records more : List WholeRecord) (changes others : List ChangeParts) (r : WholeRecord) (c : ChangeParts) → IsChange c
    → rest ≡ record_of c ++ next → r.at ≡ total - length rest → r.end ≡ total - length next → r.hash ≡ hash_of c → more ≡ records ++ r ∷ [] → others ≡ changes ++ c ∷ []
    → Finding total bytes rest records changes → Finding total bytes next more others
finding_record total bytes rest next records more changes others r c is spelled at end hash noted taken f =
    let w : RecordAt = record { at = r.at; end = r.end; change = c } in
    let same : r ≡ with_hash w = ap (λ (h : Hash). record { at = r.at; end = r.end; hash = h }) hash in
    record {
      found = f.found ++ w ∷ [];
      goes_on = λ W whole. subst (AreRecordsIn total bytes) (sym (append_assoc f.found (w ∷ []) W)) (f.goes_on (w ∷ W) (whole_record total rest next w W is spelled at end whole));
      records_are = noted ∙ ap (λ (x : WholeRecord). records ++ x ∷ []) same ∙ ap (λ (l : List WholeRecord). l ++ with_hash w ∷ []) f.records_are ∙ sym (map_push with_hash f.found w);
      changes_are = taken ∙ ap (λ (l : List ChangeParts). l ++ c ∷ []) f.changes_are ∙ sym (map_push entry_change f.found w);
    }

-- all was looked through
pub found_all : (total : ℕ) (bytes rest : List ℕ) (records : List WholeRecord) (changes : List ChangeParts) → length rest ≤ 0 → Finding total bytes rest records changes
    → AreFound total bytes records changes
found_all total bytes (b ∷ rest) records changes none f = absurd (omega (arith, none))
found_all total bytes [] records changes none f = record {
  whole = f.found;
  are_whole = subst (AreRecordsIn total bytes) (append-nil f.found) (f.goes_on [] none_in_none);
  records_are = f.records_are;
  changes_are = f.changes_are;
}

-- after a record there are fewer bytes
pub record_shorter : (c : ChangeParts) (bytes rest : List ℕ) → bytes ≡ record_of c ++ rest → length rest < length bytes
record_shorter c bytes rest e =
    let size : length bytes ≡ length (record_of c ++ rest) = ap length e in
    let parts = length-append (record_of c) rest in
    let own = length-record_of c in
    omega arith

-- ---- entering what fits

pub passing_none : (old : List ChangeParts) → EntersFitting [] old old
passing_none old = record {
  more = [];
  grown = sym (append-nil old);
  each = λ c i. i;
  unfit = λ e c i fits. absurd i;
}

some_more : (more : List ChangeParts) (c : ChangeParts) → more ++ c ∷ [] ≡ [] → ⊥
some_more more c e =
    let parts = length-append more (c ∷ []) in
    let none : length (more ++ c ∷ []) ≡ 0 = ap length e in
    omega arith

-- one change entered
pub one_entered : (old new : List ChangeParts) (c : ChangeParts) → new ≡ old ++ c ∷ [] → EntersFitting (c ∷ []) old new
one_entered old new c grown = record { more = c ∷ []; grown = grown; each = λ d i. i; unfit = λ e. absurd (some_more [] c e) }

-- one change can't enter
pub one_unfit : (old new : List ChangeParts) (c : ChangeParts) (g : GraphError) → new ≡ old → cause old c ≡ Some g → EntersFitting (c ∷ []) old new
one_unfit old new c g stays unfit = record {
  more = [];
  grown = stays ∙ sym (append-nil old);
  each = λ d i. absurd i;
  unfit = λ e d i fits. elim i [
    | inl same ↦ let none : cause old c ≡ None = ap (cause old) (sym same) ∙ fits in cc
    | inr other ↦ absurd other
  ];
}

none_left : (xs ys : List ChangeParts) → xs ++ ys ≡ [] → (xs ≡ []) × (ys ≡ [])
none_left [] ys e = (refl, e)
none_left (x ∷ xs) ys e = absurd (cc)

then_unfit : (xs ys old mid : List ChangeParts) → mid ≡ old → ((c : ChangeParts) → In c xs → cause old c ≡ None → ⊥) → ((c : ChangeParts) → In c ys → cause mid c ≡ None → ⊥)
    → (c : ChangeParts) → In c (xs ++ ys) → cause old c ≡ None → ⊥
then_unfit xs ys old mid stays first last c i fits = elim (In-append c xs ys i) [
  | inl before ↦ first c before fits
  | inr beyond ↦ last c beyond (subst (λ (l : List ChangeParts). cause l c ≡ None) (sym stays) fits)
]

-- some, and then others
pub passing_then : (xs ys old mid new : List ChangeParts) → EntersFitting xs old mid → EntersFitting ys mid new → EntersFitting (xs ++ ys) old new
passing_then xs ys old mid new p q = record {
  more = p.more ++ q.more;
  grown = q.grown ∙ ap (λ (l : List ChangeParts). l ++ q.more) p.grown ∙ append_assoc old p.more q.more;
  each = λ c i. elim (In-append c p.more q.more i) [
    | inl before ↦ In-left c xs ys (p.each c before)
    | inr beyond ↦ In-right c xs ys (q.each c beyond)
  ];
  unfit = λ e.
      let none = none_left p.more q.more e in
      then_unfit xs ys old mid (p.grown ∙ ap (λ (l : List ChangeParts). old ++ l) none.0 ∙ append-nil old) (p.unfit none.0) (q.unfit none.1);
}

-- the next of the changes
pub passing_next : (changes old mid new : List ChangeParts) (i : ℕ) (d c : ChangeParts) → i < length changes → c ≡ get_or changes i d
    → EntersFitting (take i changes) old mid → EntersFitting (c ∷ []) mid new → EntersFitting (take (i + 1) changes) old new
passing_next changes old mid new i d c small is p q =
    let next : take (i + 1) changes ≡ take i changes ++ c ∷ [] = take_more changes i d small ∙ ap (λ (x : ChangeParts). take i changes ++ x ∷ []) (sym is) in
    subst (λ (l : List ChangeParts). EntersFitting l old new) (sym next) (passing_then (take i changes) (c ∷ []) old mid new p q)

-- ---- what is had after the last pass

no_more : (old new more : List ChangeParts) → new ≡ old ++ more → length old ≡ length new → more ≡ []
no_more old new [] e same = refl
no_more old new (m ∷ more) e same =
    let parts = length-append old (m ∷ more) in
    let size : length new ≡ length (old ++ m ∷ more) = ap length e in
    absurd (omega arith)

-- Some of the changes were put after those that were there first.
pub record Came (changes first now : List ChangeParts) : Type 0 where
  pub more : List ChangeParts
  pub grown : now ≡ first ++ more
  pub each : (c : ChangeParts) → In c more → In c changes

pub came_none : (changes first : List ChangeParts) → Came changes first first
came_none changes first = record { more = []; grown = sym (append-nil first); each = λ c i. absurd i }

pub came_more : (changes first old new : List ChangeParts) → Came changes first old → EntersFitting changes old new → Came changes first new
came_more changes first old new came p = record {
  more = came.more ++ p.more;
  grown = p.grown ∙ ap (λ (l : List ChangeParts). l ++ p.more) came.grown ∙ append_assoc first came.more p.more;
  each = λ c i. elim (In-append c came.more p.more i) [
    | inl before ↦ came.each c before
    | inr last ↦ p.each c last
  ];
}

pub all_had : (changes first old new : List ChangeParts) → length old ≡ length new → Came changes first old → EntersFitting changes old new → Rescues changes first new
all_had changes first old new same came p =
    let none : p.more ≡ [] = no_more old new p.more p.grown same in
    let stays : new ≡ old = p.grown ∙ ap (λ (l : List ChangeParts). old ++ l) none ∙ append-nil old in
    record {
      more = came.more;
      grown = stays ∙ came.grown;
      each = came.each;
      complete = λ c i fits. p.unfit none c i (subst (λ (C : List ChangeParts). cause C c ≡ None) stays fits);
    }

-- ---- causes of refusals

damaged_apart : (n : ℕ) → Damaged n ≡ OutOfMemory → ⊥
damaged_apart n e = cc

-- a fault of the bytes isn't want of memory
pub not_lack : (P : Type 0) (n at : ℕ) → (Damaged n ≡ OutOfMemory) ⊎ ((Damaged n ≡ Damaged at) × P) → P
not_lack P n at (inl e) = absurd (damaged_apart n e)
not_lack P n at (inr p) = p.1
