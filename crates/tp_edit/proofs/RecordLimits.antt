-- The records of an edit are records of a change: how many operations they are, and what they are made of.
use Rattle.std.proofs.Common.{◌≡◌, ℕ, zero, suc, ◌+◌, ◌-◌, ◌<◌, ◌≤◌, ◌^◌, ◌==◌, ◌&&◌, Bool, true, false, List, [], ◌∷◌, ◌++◌, length, inl, inr, refl, sym, ap, ◌∙◌, subst, take, drop, arith}
use Rattle.std.specs.Prelude.{encode_utf8_all, if◌then◌else◌}
use Rattle.std.specs.List.{AllByRecursion, flat_map}
use Rattle.std.specs.Int.{w32, to_be_bytes}
use Rattle.std.proofs.lemmas.List.{take-append-drop, length-append}
use Rattle.std.proofs.lemmas.Grind.{flat_map-append}
use Rattle.std.proofs.lemmas.Bool.Decides.{nat_tests}
use Rattle.tp_list.specs.Members.{In}
use Rattle.tp_list.proofs.Tests.{both_left}
use Rattle.tp_list.proofs.Members.{In-left, In-right, In-append}
use Rattle.tp_opid.specs.declared.actor.Actor.{Actor}
use Rattle.tp_opid.specs.declared.op_id.OpId.{OpId}
use Rattle.tp_opid.specs.declared.op_id.Place.{Place}
use Rattle.tp_opid.specs.declared.op_id.Place.TheVariants.{Start, After}
use Rattle.tp_layout.specs.declared.record.Record.{Record}
use Rattle.tp_layout.specs.declared.record.Record.TheVariants as record_of
use Rattle.tp_change.specs.Operations.{id_of}
use Rattle.tp_layout.specs.Counts as operations
use Rattle.tp_layout.specs.Spelling.{spelling_of_place, spelling_of_record}
use Rattle.tp_layout.specs.Limits.{IsActor, IsId, IsPlace, IsText, IsRecord}
use Rattle.tp_change.specs.OpIds.{ids_from}
use Rattle.tp_change.proofs.OpsLaws.{length-ids_from}
use Rattle.tp_edit.specs.declared.splice.Splice.{Splice}
use Rattle.tp_edit.specs.Splices.{inserted_chars, count_of_splice, AllInRange}
use Rattle.tp_edit.specs.EditRecords.{after_last, removals_of, removals_from, removal, goes_on, can_count, runs_of, records_of_splice, ids_after, records_of_edit}
use Rattle.tp_edit.specs.EditLimits.{AllIds, RecordLaw, CountLaw, SizeLaw}
use Rattle.tp_edit.proofs.Landed.{length-splice_at}
use Rattle.tp_edit.proofs.Edited.{count-append, count-splice}
use Rattle.tp_edit.proofs.Removals.{goes_on-further}

-- ---- how many operations

-- the records of an edit in range are as many operations as the splices take
pub count_of-records_of : CountLaw
count_of-records_of a n V [] range = refl
count_of-records_of a n V (s ∷ ss) range =
    let new = ids_from a (n + s.del) (length (inserted_chars s)) in
    let size = length-splice_at V s.at s.del new range.0 in
    let few = length-ids_from a (n + s.del) (length (inserted_chars s)) in
    let left : length V - s.del + length (inserted_chars s) ≡ length (ids_after a n V s) = omega (arith, size, few) in
    let rest = count_of-records_of a (n + count_of_splice s) (ids_after a n V s) ss (subst (λ k. AllInRange k ss) left range.1) in
    let first = count-splice V s range.0 in
    let both = count-append (records_of_splice V s) (records_of_edit a (n + count_of_splice s) (ids_after a n V s) ss) in
    omega (arith, rest, first, both)

-- an edit that takes an operation has a record
pub some_record : (rs : List Record) → 0 < operations.count_of rs → 1 ≤ length rs
some_record [] h = absurd (omega arith)
some_record (r ∷ rs) h = omega arith

-- ---- what they are made of

AllIds-take : (k : ℕ) (V : List OpId) → AllIds V → AllIds (take k V)
AllIds-take k V all x i = all x (subst (In x) (take-append-drop k V) (In-left x (take k V) (drop k V) i))

AllIds-drop : (k : ℕ) (V : List OpId) → AllIds V → AllIds (drop k V)
AllIds-drop k V all x i = all x (subst (In x) (take-append-drop k V) (In-right x (take k V) (drop k V) i))

AllIds-from : (a : Actor) (n k : ℕ) → IsActor a → n + k ≤ 2 ^ 48 → AllIds (ids_from a n k)
AllIds-from a n zero actor room x i = absurd i
AllIds-from a n (suc k) actor room x (inl i) = subst (λ (y : OpId). (y.counter < 2 ^ 48) × IsActor y.actor) (sym i) (omega (arith, room), actor)
AllIds-from a n (suc k) actor room x (inr i) = AllIds-from a (n + 1) k actor (omega (arith, room)) x i

AllIds-after : (a : Actor) (n : ℕ) (V : List OpId) (s : Splice) → IsActor a → n + count_of_splice s ≤ 2 ^ 48 → AllIds V → AllIds (ids_after a n V s)
AllIds-after a n V s actor room all x i =
    let new = ids_from a (n + s.del) (length (inserted_chars s)) in
    elim (In-append x (take s.at V) (new ++ drop (s.at + s.del) V) i) [
      | inl before ↦ AllIds-take s.at V all x before
      | inr rest ↦ elim (In-append x new (drop (s.at + s.del) V) rest) [
        | inl here ↦ AllIds-from a (n + s.del) (length (inserted_chars s)) actor (omega (arith, room)) x here
        | inr beyond ↦ AllIds-drop (s.at + s.del) V all x beyond
      ]
    ]

AllByRecursion-append : {X : Type 0} (P : X → Type 0) (xs ys : List X) → AllByRecursion P xs → AllByRecursion P ys → AllByRecursion P (xs ++ ys)
AllByRecursion-append P [] ys h k = k
AllByRecursion-append P (x ∷ xs) ys h k = (h.0, AllByRecursion-append P xs ys h.1 k)

IsId-within : (x : OpId) → x.counter < 2 ^ 48 → IsActor x.actor → IsId x
IsId-within x small actor = record { counter = omega (arith, small); actor = actor }

removal-IsRecord : (first : OpId) (n : ℕ) → 1 ≤ n → first.counter + n ≤ 2 ^ 48 → IsActor first.actor → IsRecord (removal first n)
removal-IsRecord first n some room actor = by (n == 1) refl where
  id : IsId first
  id = IsId-within first (omega (arith, room, some)) actor

  several : (n == 1) ≡ false → 2 ≤ n
  several e = grind (arith, nat_tests)

  by : (b : Bool) → (n == 1) ≡ b → IsRecord (if b then record_of.Delete first else record_of.DeleteRun first n)
  by true one = id
  by false many = (id, several many, room)

removals_from-IsRecord : (xs : List OpId) (first : OpId) (n : ℕ) → 1 ≤ n → first.counter + n ≤ 2 ^ 48 → IsActor first.actor → AllIds xs → AllByRecursion IsRecord (removals_from first n xs)
removals_from-IsRecord [] first n some room actor all = (removal-IsRecord first n some room actor, tt)
removals_from-IsRecord (x ∷ xs) first n some room actor all =
    let later : AllIds xs = (λ y i. all y (inr i)) in
    let here = all x (inl refl) in
    let test = goes_on first n x && can_count (n + 1) in
    elim test as (λ b. test ≡ b → AllByRecursion IsRecord (if b then removals_from first (n + 1) xs else removal first n ∷ removals_from x 1 xs)) [
      | true ↦ λ t.
          let at : first.counter + n ≡ x.counter = ap (λ (y : OpId). y.counter) (goes_on-further first n x (both_left (goes_on first n x) (can_count (n + 1)) t)) in
          let more : first.counter + (n + 1) ≤ 2 ^ 48 = omega (arith, at, here.0) in
          removals_from-IsRecord xs first (n + 1) (omega arith) more actor later
      | false ↦ λ _. (removal-IsRecord first n some room actor, removals_from-IsRecord xs x 1 (omega arith) (omega (arith, here.0)) here.1 later)
    ] refl

removals_of-IsRecord : (xs : List OpId) → AllIds xs → AllByRecursion IsRecord (removals_of xs)
removals_of-IsRecord [] all = tt
removals_of-IsRecord (x ∷ xs) all =
    let here = all x (inl refl) in
    removals_from-IsRecord xs x 1 (omega arith) (omega (arith, here.0)) here.1 (λ y i. all y (inr i))

after_last-IsPlace : (p : Place) (xs : List OpId) → IsPlace p → AllIds xs → IsPlace (after_last p xs)
after_last-IsPlace p [] place all = place
after_last-IsPlace p (x ∷ xs) place all = after_last-IsPlace (After x) xs (IsId-within x (all x (inl refl)).0 (all x (inl refl)).1) (λ y i. all y (inr i))

runs_of-IsRecord : (after : Place) (text : List ℕ) → IsPlace after → IsText 4194304 text → AllByRecursion IsRecord (runs_of after text)
runs_of-IsRecord after [] place is = tt
runs_of-IsRecord after (ch ∷ text) place is = ((place, is, omega arith), tt)

-- the records of an edit are within the grammar: identifiers in their range, texts of scalar values, no empty run, and
-- targets of runs within the limit of counters
pub records_of-IsRecord : RecordLaw
records_of-IsRecord a n V [] actor room all texts = tt
records_of-IsRecord a n V (s ∷ ss) actor room all texts =
    let removed = removals_of (take s.del (drop s.at V)) in
    let after = after_last Start (take s.at V) in
    AllByRecursion-append IsRecord (records_of_splice V s) (records_of_edit a (n + count_of_splice s) (ids_after a n V s) ss)
    (AllByRecursion-append IsRecord removed (runs_of after (inserted_chars s))
    (removals_of-IsRecord (take s.del (drop s.at V)) (AllIds-take s.del (drop s.at V) (AllIds-drop s.at V all)))
    (runs_of-IsRecord after (inserted_chars s) (after_last-IsPlace Start (take s.at V) tt (AllIds-take s.at V all)) texts.0))
    (records_of-IsRecord a (n + count_of_splice s) (ids_after a n V s) ss actor (omega (arith, room)) (AllIds-after a n V s actor (omega (arith, room)) all) texts.1)

-- ---- a change within its size has texts within theirs

length-run : (after : Place) (text : List ℕ) → length (encode_utf8_all text) ≤ length (flat_map spelling_of_record (runs_of after text))
length-run after [] = omega arith
length-run after (ch ∷ text) =
    let t = ch ∷ text in
    let size = to_be_bytes w32 (length (encode_utf8_all t)) in
    let body = spelling_of_place after ++ (size ++ encode_utf8_all t) in
    let a = length-append (1 ∷ body) [] in
    let b = length-append (spelling_of_place after) (size ++ encode_utf8_all t) in
    let c = length-append size (encode_utf8_all t) in
    omega (arith, a, b, c)

-- records that are spelled within the limit of a change have texts within the limit of a run
pub AllTexts-size : SizeLaw
AllTexts-size a n V [] scalars size = tt
AllTexts-size a n V (s ∷ ss) scalars size =
    let removed = removals_of (take s.del (drop s.at V)) in
    let after = after_last Start (take s.at V) in
    let runs = runs_of after (inserted_chars s) in
    let later = records_of_edit a (n + count_of_splice s) (ids_after a n V s) ss in
    let spell = λ (rs : List Record). flat_map spelling_of_record rs in
    let whole = ap length (flat_map-append spelling_of_record (records_of_splice V s) later) ∙ length-append (spell (records_of_splice V s)) (spell later) in
    let first = ap length (flat_map-append spelling_of_record removed runs) ∙ length-append (spell removed) (spell runs) in
    let text = length-run after (inserted_chars s) in (
      record { scalars = scalars.0; bytes = omega (arith, size, whole, first, text) },
      AllTexts-size a (n + count_of_splice s) (ids_after a n V s) ss scalars.1 (omega (arith, size, whole)),
    )
