-- The change of an edit is within the limits of changes.
use Rattle.tp_document.proofs.Common.{◌≡◌, ℕ, ◌+◌, ◌<◌, ◌≤◌, ◌^◌, inl, inr, List, [], ◌∷◌, length, not, refl, sym, ap, ◌∙◌, subst, arith, length-map, In, Actor, Hash, OpId, Insert, Op, ChangeParts, inserts_in, inserts, deletes, next_counter, ops_of, is_removed, visible_of, IsInOrder, Numbered-ops_of, Numbered, length-ops_of, Sound, inserts-In, AllInRange, total_count, records_of_edit, visible_ids, AllChanges, EditRequest, IsEdit, AllByRecursion, all_scalars, IsRecord, IsChange, In-filter, flat_map, IsActor, IsHash, heads-In, heads_rise, one-next_counter, ids_of, HasCounters, encode_utf8_all, hash_cmp, IsTypedAsk}
use Rattle.tp_list.specs.Rising.{IsRising}
use Rattle.tp_change.specs.declared.op.Op.TheVariants as op_of
use Rattle.tp_change.specs.Operations.{op_count}
use Rattle.tp_layout.specs.Counts as operations
use Rattle.tp_layout.specs.Spelling.{spelling, spelling_of_message, spelling_of_deps, spelling_of_record}
use Rattle.tp_change.proofs.HashLaws.{hash_of_is}
use Rattle.tp_layout.proofs.WholeChange.{length-spelling}
use Rattle.tp_history.specs.Heads as head
use Rattle.tp_edit.specs.EditLimits.{AllIds, AllTexts}
use Rattle.tp_edit.proofs.RecordLimits.{count_of-records_of, some_record, records_of-IsRecord, AllTexts-size}
use Rattle.tp_document.proofs.SoundText.{actor_of}
use Rattle.tp_document.proofs.EditFits.{range_of}

-- ---- identifiers

counter_of : (ops : List Op) (a : Actor) (n : ℕ) (e : Insert) → Numbered a n ops → In e (inserts_in ops) → e.id.counter < n + length ops
counter_of [] a n e h i = absurd i
counter_of (op_of.Insert id after ch ∷ ops) a n e h (inl same) =
    let k : e.id.counter ≡ n = ap (λ (x : Insert). x.id.counter) same ∙ ap (λ (x : OpId). x.counter) h.0 in
    omega arith
counter_of (op_of.Insert id after ch ∷ ops) a n e h (inr i) = let k = counter_of ops a (n + 1) e h.1 i in omega arith
counter_of (op_of.Delete id target ∷ ops) a n e h i = let k = counter_of ops a (n + 1) e h.1 i in omega arith

id_is : (C : List ChangeParts) → AllChanges C → (e : Insert) → In e (inserts C) → (e.id.counter < 2 ^ 48) × IsActor e.id.actor
unfolding op_count
id_is C all e i =
    let w = inserts-In C e i in
    let d = w.0 in
    let is : IsChange d = all d w.1 in
    let below : e.id.counter < d.start + length (ops_of d) = counter_of (ops_of d) d.actor d.start e (Numbered-ops_of d) w.2 in
    let size : length (ops_of d) ≡ operations.count_of d.records = length-ops_of d in
    let most : d.start + operations.count_of d.records ≤ 2 ^ 48 = is.counters in (
      within e.id.counter (d.start + length (ops_of d)) below (subst (λ k. d.start + k ≤ 2 ^ 48) (sym size) most),
      subst IsActor (sym (actor_of (ops_of d) d.actor d.start e (Numbered-ops_of d) w.2)) is.actor,
    ) where
      within : (k n : ℕ) → k < n → n ≤ 2 ^ 48 → k < 2 ^ 48
      within k n lt le = omega arith

In-ids : (L : List Insert) (x : OpId) → In x (ids_of L) → (e : Insert) × In e L × (x ≡ e.id)
In-ids [] x i = absurd i
In-ids (y ∷ L) x (inl e) = (y, inl refl, e)
In-ids (y ∷ L) x (inr i) = let w = In-ids L x i in (w.0, inr w.1, w.2)

ids_are : (C : List ChangeParts) (L : List Insert) → AllChanges C → IsInOrder (inserts C) L → AllIds (visible_ids (deletes C) L)
ids_are C L all order x i =
    let w = In-ids (visible_of (deletes C) L) x i in
    let j = In-filter (λ (e : Insert). not (is_removed (deletes C) e.id)) L w.0 w.1 in
    subst (λ (y : OpId). (y.counter < 2 ^ 48) × IsActor y.actor) (sym w.2) (id_is C all w.0 (order.same.back w.0 j.0))

-- ---- dependencies

all_hashes : (H : List Hash) → ((h : Hash) → In h H → IsHash h) → AllByRecursion IsHash H
all_hashes [] f = tt
all_hashes (h ∷ H) f = (f h (inl refl), all_hashes H (λ g i. f g (inr i)))

heads_are : (C : List ChangeParts) → AllByRecursion IsHash (head.heads C)
heads_are C = all_hashes (head.heads C) (λ h i. let w = heads-In C h i in subst IsHash w.2 (hash_of_is w.0))

-- ---- the change

-- Where its bytes are within the limit, and what is judged before them is too, the change of an edit is one.
pub edit_limits : (C : List ChangeParts) (asked : EditRequest) (c : ChangeParts) → Sound C → AllChanges C → IsEdit C asked c → HasCounters C asked → IsTypedAsk asked → c.seq < 2 ^ 64 → length (encode_utf8_all asked.message) ≤ 65535 → length (spelling c) ≤ 4194304 → IsChange c
edit_limits C asked c s all e h typed seq message size =
    let ss = asked.splices in
    let n = next_counter C in
    let V = visible_ids (deletes C) e.elements in
    let rs = records_of_edit asked.actor n V ss in
    let asks = h.before.asks in
    let range : AllInRange (length V) ss = subst (λ k. AllInRange k ss) (sym (length-map (visible_of (deletes C) e.elements) (λ (x : Insert). x.id))) (range_of C e.elements ss s e.order asks.range) in
    let count : operations.count_of c.records ≡ total_count ss = ap operations.count_of e.records ∙ count_of-records_of asked.actor n V ss range in
    let spelled : length (flat_map spelling_of_record c.records) ≤ 4194304 = within (length (spelling c)) (length c.actor.0) (length (spelling_of_message c.message)) (length (spelling_of_deps c.deps)) (length (flat_map spelling_of_record c.records)) (length-spelling c) size in
    let texts : AllTexts ss = AllTexts-size asked.actor n V ss typed.texts (subst (λ r. length (flat_map spelling_of_record r) ≤ 4194304) e.records spelled) in
    let is : AllByRecursion IsRecord rs = records_of-IsRecord asked.actor n V ss typed.actor h.counters (ids_are C e.elements all e.order) texts in
    let some : 0 < operations.count_of c.records = subst (λ k. 0 < k) (sym count) asks.some in
    record {
      actor = subst IsActor (sym e.actor) typed.actor;
      seq_from = subst (λ k. 1 ≤ k) (sym e.seq) (omega arith);
      seq_to = seq;
      start_from = subst (λ k. 1 ≤ k) (sym e.start) (one-next_counter C);
      time = subst (λ k. k < 2 ^ 64) (sym e.time) typed.time;
      message = record {
        scalars = ap all_scalars e.message ∙ typed.message;
        bytes = subst (λ m. length (encode_utf8_all m) ≤ 65535) (sym e.message) message;
      };
      deps = subst (AllByRecursion IsHash) (sym e.deps) (heads_are C);
      deps_rise = subst (IsRising hash_cmp) (sym e.deps) (heads_rise C);
      deps_count = subst (λ (H : List Hash). length H ≤ 65535) (sym e.deps) h.before.heads;
      records = subst (AllByRecursion IsRecord) (sym e.records) is;
      records_some = some_record c.records some;
      operations = subst (λ k. k ≤ 65536) (sym count) asks.few;
      counters = subst (λ k. k + operations.count_of c.records ≤ 2 ^ 48) (sym e.start) (subst (λ k. n + k ≤ 2 ^ 48) (sym count) h.counters);
      size = size;
    } where
      within : (size a m d r : ℕ) → size ≡ 1 + (a + (8 + (8 + (8 + (m + (d + (4 + r))))))) → size ≤ 4194304 → r ≤ 4194304
      within size a m d r e le = omega arith
