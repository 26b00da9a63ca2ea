-- The records of a splice, one after another.
use Rattle.std.proofs.Common.{◌≡◌, ℕ, ◌+◌, ◌-◌, ◌<◌, ◌≤◌, ◌^◌, ◌&&◌, true, false, List, [], ◌∷◌, ◌++◌, length, get_or, Some, refl, sym, ap, ◌∙◌, subst, arith, take, drop, append_assoc, append-nil}
use Rattle.std.specs.Prelude.{slice_get, if◌then◌else◌}
use Rattle.std.proofs.lemmas.List.{take_more, drop_more, drop_all, take-append-drop, length-drop, length-take-le, get_or-drop, get_or-take}
use Rattle.std.proofs.lemmas.Option.{slice_get_within, get_or_from_slice_get}
use Rattle.tp_opid.specs.declared.actor.Actor.{Actor}
use Rattle.tp_opid.specs.declared.op_id.OpId.{OpId}
use Rattle.tp_opid.specs.declared.op_id.Place.{Place}
use Rattle.tp_opid.specs.declared.op_id.Place.TheVariants.{Start, After}
use Rattle.tp_layout.specs.declared.record.Record.{Record}
use Rattle.tp_layout.specs.declared.record.Record.TheVariants as record_of
use Rattle.tp_edit.specs.declared.splice.Splice.{Splice}
use Rattle.tp_edit.specs.Splices.{count_of_splice, total_count, IsInRange, AllInRange}
use Rattle.tp_edit.specs.EditRecords.{after_last, removals_of, removals_from, removal, goes_on, can_count, runs_of, records_of_splice, ids_after, ids_after_all, records_of_edit}
use Rattle.tp_edit.specs.Landings.{landing_of, landings_of, ids_through, AllLandingsFit}
use Rattle.tp_edit.proofs.Landed.{length-ids_landed}

-- the deleted elements from the place k on: the one there, and those after it
removed_at : (W : List OpId) (at del k : ℕ) (x : OpId) → at + del ≤ length W → k < del → slice_get W (at + k) ≡ Some x → drop k (take del (drop at W)) ≡ x ∷ drop (k + 1) (take del (drop at W))
removed_at W at del k x range lt is =
    let size = length-drop at W in
    let whole = length-take-le del (drop at W) (omega (arith, range, size)) in
    let short : k < length (take del (drop at W)) = omega (arith, whole) in
    let there : get_or (take del (drop at W)) k x ≡ x = get_or-take del (drop at W) k x lt ∙ get_or-drop at W k x ∙ get_or_from_slice_get W (at + k) x x is in
    drop_more (take del (drop at W)) k x short ∙ ap (λ y. y ∷ drop (k + 1) (take del (drop at W))) there

after_last-push : (p : Place) (xs : List OpId) (x : OpId) → after_last p (xs ++ x ∷ []) ≡ After x
after_last-push p [] x = refl
after_last-push p (y ∷ xs) x = after_last-push (After y) xs x

-- the place after the element before `at`
pub after_last-at : (W : List OpId) (at : ℕ) (x : OpId) → 0 < at → slice_get W (at - 1) ≡ Some x → After x ≡ after_last Start (take at W)
after_last-at W at x some is =
    let within = slice_get_within W (at - 1) x is in
    let up : (at - 1) + 1 ≡ at = omega arith in
    let prefix : take at W ≡ take (at - 1) W ++ x ∷ [] =
    ap (λ k. take k W) (sym up) ∙ take_more W (at - 1) x within ∙ ap (λ y. take (at - 1) W ++ y ∷ []) (get_or_from_slice_get W (at - 1) x x is) in
    sym (ap (after_last Start) prefix ∙ after_last-push Start (take (at - 1) W) x)

pub after_last-start : (W : List OpId) (at : ℕ) → at ≡ 0 → Start ≡ after_last Start (take at W)
after_last-start W at none = ap (λ k. after_last Start (take k W)) (sym none)

-- a run where there is text
runs_of-some : (after : Place) (text : List ℕ) → 0 < length text → runs_of after text ≡ record_of.Insert after text ∷ []
runs_of-some after [] some = absurd (omega arith)
runs_of-some after (ch ∷ text) some = refl

-- With the open stretch of n elements from x on, and the elements from the place k on, the records are those that were
-- there and the removals of all.
abbrev pub IsGrouped : (W : List OpId) (at del k : ℕ) (x : OpId) (n : ℕ) (before now : List Record) → Type 0
IsGrouped W at del k x n before now = now ++ removals_from x n (drop k (take del (drop at W))) ≡ before ++ removals_of (take del (drop at W))

pub grouped_first : (W : List OpId) (at del : ℕ) (x : OpId) (before : List Record) → at + del ≤ length W → 0 < del → slice_get W at ≡ Some x → IsGrouped W at del 1 x 1 before before
grouped_first W at del x before range some is =
    let here : at + 0 ≡ at = omega arith in
    ap (λ l. before ++ removals_of l) (sym (removed_at W at del 0 x range some (ap (slice_get W) here ∙ is)))

-- the next element goes on the stretch
pub grouped_on : (W : List OpId) (at del k : ℕ) (x : OpId) (n : ℕ) (y : OpId) (before now : List Record) → at + del ≤ length W → k < del → slice_get W (at + k) ≡ Some y
    → (goes_on x n y && can_count (n + 1)) ≡ true → IsGrouped W at del k x n before now → IsGrouped W at del (k + 1) x (n + 1) before now
grouped_on W at del k x n y before now range lt is on h =
    let rest = drop (k + 1) (take del (drop at W)) in
    sym (ap (λ l. now ++ removals_from x n l) (removed_at W at del k y range lt is)
    ∙ ap (λ b. now ++ (if b then removals_from x (n + 1) rest else removal x n ∷ removals_from y 1 rest)) on)
    ∙ h

-- the next element begins another
pub grouped_off : (W : List OpId) (at del k : ℕ) (x : OpId) (n : ℕ) (y : OpId) (before now new : List Record) → at + del ≤ length W → k < del → slice_get W (at + k) ≡ Some y
    → (goes_on x n y && can_count (n + 1)) ≡ false → new ≡ now ++ removal x n ∷ [] → IsGrouped W at del k x n before now → IsGrouped W at del (k + 1) y 1 before new
grouped_off W at del k x n y before now new range lt is off put h =
    let rest = drop (k + 1) (take del (drop at W)) in
    ap (λ l. l ++ removals_from y 1 rest) put
    ∙ append_assoc now (removal x n ∷ []) (removals_from y 1 rest)
    ∙ sym (ap (λ l. now ++ removals_from x n l) (removed_at W at del k y range lt is)
    ∙ ap (λ b. now ++ (if b then removals_from x (n + 1) rest else removal x n ∷ removals_from y 1 rest)) off)
    ∙ h

-- no element is left
pub grouped_end : (W : List OpId) (at del k : ℕ) (x : OpId) (n : ℕ) (before now new : List Record) → at + del ≤ length W → del ≤ k → new ≡ now ++ removal x n ∷ []
    → IsGrouped W at del k x n before now → new ≡ before ++ removals_of (take del (drop at W))
grouped_end W at del k x n before now new range past put h =
    let size = length-drop at W in
    let whole = length-take-le del (drop at W) (omega (arith, range, size)) in
    let none : drop k (take del (drop at W)) ≡ [] = drop_all k (take del (drop at W)) (omega (arith, whole)) in
    put ∙ ap (λ l. now ++ removals_from x n l) (sym none) ∙ h

-- a run of text after the removals of a splice
pub run_put : (removed : List Record) (after : Place) (text : List ℕ) (p : Place) (t : List ℕ) (first old new : List Record)
    → new ≡ old ++ record_of.Insert p t ∷ [] → old ≡ first ++ removed → p ≡ after → t ≡ text → 0 < length text
    → new ≡ first ++ (removed ++ runs_of after text)
run_put removed after text p t first old new e f place same some =
    e ∙ ap (λ l. l ++ record_of.Insert p t ∷ []) f ∙ append_assoc first removed (record_of.Insert p t ∷ [])
    ∙ ap (λ r. first ++ (removed ++ r ∷ [])) (ap (λ q. record_of.Insert q t) place ∙ ap (record_of.Insert after) same)
    ∙ ap (λ l. first ++ (removed ++ l)) (sym (runs_of-some after text some))

-- no run where there is no text
pub no_run_put : (removed : List Record) (after : Place) (text : List ℕ) (first new : List Record) → new ≡ first ++ removed → length text ≤ 0 → new ≡ first ++ (removed ++ runs_of after text)
no_run_put removed after [] first new e none = e ∙ ap (λ l. first ++ l) (sym (append-nil removed))
no_run_put removed after (ch ∷ text) first new e none = absurd (omega arith)

-- ---- one splice after others

records_of_edit-push : (a : Actor) (n : ℕ) (V : List OpId) (ss : List Splice) (s : Splice) → records_of_edit a n V (ss ++ s ∷ []) ≡ records_of_edit a n V ss ++ records_of_splice (ids_after_all a n V ss) s
records_of_edit-push a n V [] s = append_nil_right (records_of_splice V s)
  where
    append_nil_right : (xs : List Record) → xs ++ [] ≡ xs
    append_nil_right [] = refl
    append_nil_right (x ∷ xs) = ap (λ l. x ∷ l) (append_nil_right xs)
records_of_edit-push a n V (k ∷ ss) s =
    ap (λ l. records_of_splice V k ++ l) (records_of_edit-push a (n + count_of_splice k) (ids_after a n V k) ss s)
    ∙ sym (append_assoc (records_of_splice V k) (records_of_edit a (n + count_of_splice k) (ids_after a n V k) ss) (records_of_splice (ids_after_all a (n + count_of_splice k) (ids_after a n V k) ss) s))

pub records_of_edit-more : (a : Actor) (n : ℕ) (V : List OpId) (ss : List Splice) (i : ℕ) (d : Splice) → i < length ss → records_of_edit a n V (take (i + 1) ss) ≡ records_of_edit a n V (take i ss) ++ records_of_splice (ids_after_all a n V (take i ss)) (get_or ss i d)
records_of_edit-more a n V ss i d lt = ap (records_of_edit a n V) (take_more ss i d lt) ∙ records_of_edit-push a n V (take i ss) (get_or ss i d)

landings_of-push : (n : ℕ) (ss : List Splice) (s : Splice) → landings_of n (ss ++ s ∷ []) ≡ landings_of n ss ++ landing_of (n + total_count ss) s ∷ []
landings_of-push n [] s = ap (λ m. landing_of m s ∷ []) (let e : n ≡ n + 0 = omega arith in e)
landings_of-push n (k ∷ ss) s =
    ap (λ l. landing_of n k ∷ l) (landings_of-push (n + count_of_splice k) ss s ∙ ap (λ m. landings_of (n + count_of_splice k) ss ++ landing_of m s ∷ []) (let e : (n + count_of_splice k) + total_count ss ≡ n + (count_of_splice k + total_count ss) = omega arith in e))

pub landings_of-more : (n : ℕ) (ss : List Splice) (i : ℕ) (d : Splice) → i < length ss → landings_of n (take (i + 1) ss) ≡ landings_of n (take i ss) ++ landing_of (n + total_count (take i ss)) (get_or ss i d) ∷ []
landings_of-more n ss i d lt = ap (landings_of n) (take_more ss i d lt) ∙ landings_of-push n (take i ss) (get_or ss i d)

-- what the landings leave is what the splices leave
pub ids_through-landings : (a : Actor) (n : ℕ) (V : List OpId) (ss : List Splice) → ids_through a V (landings_of n ss) ≡ ids_after_all a n V ss
ids_through-landings a n V [] = refl
ids_through-landings a n V (s ∷ ss) = ids_through-landings a (n + count_of_splice s) (ids_after a n V s) ss

-- splices in range with few enough operations are landings that fit
pub AllLandingsFit-landings : (a : Actor) (n : ℕ) (V : List OpId) (ss : List Splice) → AllInRange (length V) ss → n + total_count ss < 2 ^ 64 → AllLandingsFit a V (landings_of n ss)
AllLandingsFit-landings a n V [] h room = tt
AllLandingsFit-landings a n V (s ∷ ss) h room =
    let size = length-ids_landed a V (landing_of n s) h.0 in
    (h.0, omega (arith, room), AllLandingsFit-landings a (n + count_of_splice s) (ids_after a n V s) ss (subst (λ k. AllInRange k ss) (sym size) h.1) (omega (arith, room)))

-- the part of the splices up to a place is in range, and so is the next one
pub AllInRange-prefix : (a : Actor) (n : ℕ) (V : List OpId) (ss : List Splice) (s : Splice) (rest : List Splice) → AllInRange (length V) (ss ++ s ∷ rest) → AllInRange (length V) ss × IsInRange (length (ids_after_all a n V ss)) s
AllInRange-prefix a n V [] s rest h = (tt, h.0)
AllInRange-prefix a n V (k ∷ ss) s rest h =
    let size = length-ids_landed a V (landing_of n k) h.0 in
    let more = AllInRange-prefix a (n + count_of_splice k) (ids_after a n V k) ss s rest (subst (λ m. AllInRange m (ss ++ s ∷ rest)) (sym size) h.1) in
    ((h.0, subst (λ m. AllInRange m ss) size more.0), more.1)

total_count-append : (xs ys : List Splice) → total_count (xs ++ ys) ≡ total_count xs + total_count ys
total_count-append [] ys = omega arith
total_count-append (x ∷ xs) ys = let rest = total_count-append xs ys in omega (arith, rest)

-- what is known of the splice at a place, where the ones before it are done
pub record IsNext (a : Actor) (n : ℕ) (V : List OpId) (done : List Splice) (s : Splice) : Type 0 where
  pub fit : AllLandingsFit a V (landings_of n done)
  pub place : IsInRange (length (ids_through a V (landings_of n done))) s
  pub room : (n + total_count done) + count_of_splice s < 2 ^ 64

pub IsNext-at : (a : Actor) (n : ℕ) (V : List OpId) (ss : List Splice) (i : ℕ) (d : Splice) → i < length ss → AllInRange (length V) ss → n + total_count ss < 2 ^ 64 → IsNext a n V (take i ss) (get_or ss i d)
IsNext-at a n V ss i d lt range room =
    let done = take i ss in
    let s = get_or ss i d in
    let rest = drop (i + 1) ss in
    let whole : done ++ s ∷ rest ≡ ss = ap (λ l. done ++ l) (sym (drop_more ss i d lt)) ∙ take-append-drop i ss in
    let prefix = AllInRange-prefix a n V done s rest (subst (AllInRange (length V)) (sym whole) range) in
    let counted = ap total_count (sym whole) ∙ total_count-append done (s ∷ rest) in
    record {
      fit = AllLandingsFit-landings a n V done prefix.0 (omega (arith, room, counted));
      place = subst (λ W. IsInRange (length W) s) (sym (ids_through-landings a n V done)) prefix.1;
      room = omega (arith, room, counted);
    }
