-- The change of an edit fits after the changes that it is made of, and does the splices.
use Rattle.tp_document.proofs.Common.{take, drop, get_or, add-one, drop-cons, ◌≡◌, ℕ, ◌+◌, ◌<◌, ◌≤◌, ◌==◌, List, [], ◌∷◌, ◌++◌, length, false, cond, Some, None, refl, sym, ap, ◌∙◌, subst, arith, nat_tests, length-map, Actor, Hash, Insert, ChangeParts, hash_of, inserts_in, inserts, deletes_in, deletes, next_counter, IsInOrder, visible_of, chars_of, IsTextOf, has_all, past, defect, or_full, most_changes, count_by, Sound, Fits-at, deps_first, AllInRange, total_count, records_of_edit, visible_ids, EditRequest, AreInRange, IsEdit, IsAcceptedEdit, inserts_tree, take-append-drop, same_actor-same, Record, ops_from, order_exists, one_order, inserts-push, deletes-push, has, Fits, defect-from_Fits, Sound-push, past-heads, Splice, all_spliced, Fits-from_cause, length-take-le, refers, clashes, not_true, has_all-heads, seqs_run, inserted_chars, splice_at}
use Rattle.tp_change.specs.Operations.{ops_of}
use Rattle.tp_history.specs.declared.error.GraphError.TheVariants.{Full}
use Rattle.tp_history.specs.Fit.{cause}
use Rattle.tp_edit.specs.EditLaw.{IsEditable, DoesItsSplices, ops_of_edit}
use Rattle.tp_edit.proofs.Edited.{edit_law}
use Rattle.tp_document.proofs.SoundText.{IsAboveAll-inserts, targets_there}
use Rattle.tp_history.proofs.ClashLaws.{clash_of}
use Rattle.tp_snapshot.proofs.ShowingLaws.{one_text}

-- a text to edit
ready_of : (C : List ChangeParts) (L : List Insert) (a : Actor) → Sound C → IsInOrder (inserts C) L → IsEditable (inserts C) L (deletes C) a (next_counter C)
ready_of C L a s order = record {
  tree = inserts_tree C s;
  order = order;
  above = IsAboveAll-inserts C a;
  targets = targets_there C s;
}

-- what is in range of the text is in range of what any list of its elements shows
pub range_of : (C : List ChangeParts) (L : List Insert) (ss : List Splice) → Sound C → IsInOrder (inserts C) L → AreInRange C ss → AllInRange (length (visible_of (deletes C) L)) ss
range_of C L ss s order range =
    let W = visible_of (deletes C) L in
    let same : range.0 ≡ chars_of W = one_text C range.0 (chars_of W) s range.1 (record { elements = L; order = order; spells = refl }) in
    subst (λ n. AllInRange n ss) (ap length same ∙ length-map W (λ (x : Insert). x.ch)) range.2

does : (C : List ChangeParts) (L : List Insert) (a : Actor) (ss : List Splice) → Sound C → IsInOrder (inserts C) L → AreInRange C ss → DoesItsSplices (inserts C) L (deletes C) a (next_counter C) ss
does C L a ss s order range = edit_law (inserts C) L (deletes C) a (next_counter C) ss (ready_of C L a s order) (range_of C L ss s order range)

-- the operations of the change of an edit are those of the edit
ops_are : (C : List ChangeParts) (asked : EditRequest) (c : ChangeParts) (e : IsEdit C asked c) → ops_of c ≡ ops_of_edit asked.actor (next_counter C) e.elements (deletes C) asked.splices
unfolding ops_of
ops_are C asked c e =
    ap (λ a. ops_from a c.start c.records) e.actor
    ∙ ap (λ n. ops_from asked.actor n c.records) e.start
    ∙ ap (λ r. ops_from asked.actor (next_counter C) r) e.records

-- a change with a sequence number past all of its actor's clashes with none
no_clash : (C : List ChangeParts) (c : ChangeParts) → Sound C → c.seq ≡ count_by c.actor C + 1 → clashes C c ≡ false
no_clash C c s e =
    not_true (clashes C c) (λ t.
    let w = clash_of C c t in
    let who : w.0.actor ≡ c.actor = same_actor-same w.0.actor c.actor w.2 in
    let few : w.0.seq ≤ count_by w.0.actor C = (seqs_run C s).bounded w.0 w.1 in
    let few2 : w.0.seq ≤ count_by c.actor C = subst (λ a. w.0.seq ≤ count_by a C) who few in
    let same : w.0.seq ≡ c.seq = w.3 in
    absurd (omega arith))

-- the change of an edit fits
pub edit_fits : (C : List ChangeParts) (asked : EditRequest) (c : ChangeParts) → Sound C → IsEdit C asked c → AreInRange C asked.splices → has C (hash_of c) ≡ false → Fits C c
edit_fits C asked c s e range new =
    let whole : past C c.deps ≡ C = ap (past C) e.deps ∙ past-heads C (deps_first C s) in
    let seq : c.seq ≡ count_by c.actor C + 1 = e.seq ∙ ap (λ a. count_by a C + 1) (sym e.actor) in
    record {
      new = new;
      deps = ap (has_all C) e.deps ∙ has_all-heads C;
      seq = seq ∙ ap (λ P. count_by c.actor P + 1) (sym whole);
      start = e.start ∙ ap next_counter (sym whole);
      refs =
          ap (λ P. refers (inserts P) (ops_of c)) whole
          ∙ ap (refers (inserts C)) (ops_are C asked c e)
          ∙ (does C e.elements asked.actor asked.splices s e.order range).refers;
      free = no_clash C c s seq;
    }

pub edit_enters : (C : List ChangeParts) (asked : EditRequest) (c : ChangeParts) → Sound C → IsEdit C asked c → AreInRange C asked.splices → has C (hash_of c) ≡ false → length C < most_changes → cause C c ≡ None
unfolding cause
edit_enters C asked c s e range new few =
    let none : defect C c ≡ None = defect-from_Fits C c (edit_fits C asked c s e range new) in
    let room : (length C == most_changes) ≡ false = below (length C) few in
    ap (λ o. or_full o (length C == most_changes)) none ∙ ap (λ b. cond b (Some Full) None) room where
      below : (n : ℕ) → n < most_changes → (n == most_changes) ≡ false
      below n lt = grind (arith, nat_tests)

-- the text after the change of an edit is the text before with each splice done in turn
pub edit_text : (C : List ChangeParts) (asked : EditRequest) (c : ChangeParts) (t : List ℕ) → Sound C → IsAcceptedEdit C asked c → IsTextOf C t → IsTextOf (C ++ c ∷ []) (all_spliced t asked.splices)
edit_text C asked c t s edited text =
    let e = edited.edit in
    let a = asked.actor in
    let n = next_counter C in
    let L = e.elements in
    let ss = asked.splices in
    let ops = ops_of_edit a n L (deletes C) ss in
    let done = does C L a ss s e.order edited.range in
    let sound : Sound (C ++ c ∷ []) = Sound-push C c s (Fits-from_cause C c edited.enters) in
    let there : inserts (C ++ c ∷ []) ≡ inserts C ++ inserts_in ops = inserts-push C c ∙ ap (λ o. inserts C ++ inserts_in o) (ops_are C asked c e) in
    let gone : deletes (C ++ c ∷ []) ≡ deletes C ++ deletes_in ops = deletes-push C c ∙ ap (λ o. deletes C ++ deletes_in o) (ops_are C asked c e) in
    let found = order_exists (inserts (C ++ c ∷ [])) (inserts_tree (C ++ c ∷ []) sound) in
    let M = found.0 in
    let shows : chars_of (visible_of (deletes C ++ deletes_in ops) M) ≡ all_spliced (chars_of (visible_of (deletes C) L)) ss = done.text M (subst (λ S. IsInOrder S M) there found.1) in
    let before : t ≡ chars_of (visible_of (deletes C) L) = one_text C t (chars_of (visible_of (deletes C) L)) s text (record { elements = L; order = e.order; spells = refl }) in
    record {
      elements = M;
      order = found.1;
      spells = ap (λ u. all_spliced u ss) before ∙ sym shows ∙ ap (λ R. chars_of (visible_of R M)) (sym gone);
    }

-- ---- splices that ask nothing

no_text : (text : List ℕ) → length text ≡ 0 → text ≡ []
no_text [] e = refl
no_text (x ∷ xs) e = absurd (omega arith)

pub nothing_spliced : (ss : List Splice) (t : List ℕ) → total_count ss ≡ 0 → all_spliced t ss ≡ t
nothing_spliced [] t e = refl
nothing_spliced (s ∷ ss) t e =
    let del : s.del ≡ 0 = omega arith in
    let none : inserted_chars s ≡ [] = no_text (inserted_chars s) (omega arith) in
    let rest : total_count ss ≡ 0 = omega arith in
    let at : s.at + s.del ≡ s.at = omega arith in
    let same : splice_at t s.at s.del (inserted_chars s) ≡ t =
    ap (λ n. take s.at t ++ (inserted_chars s ++ drop n t)) at
    ∙ ap (λ new. take s.at t ++ (new ++ drop s.at t)) none
    ∙ take-append-drop s.at t in
    ap (λ u. all_spliced u ss) same ∙ nothing_spliced ss t rest

-- ---- what an edit asks determines its change

made_of : Actor → ℕ → ℕ → ℕ → List ℕ → List Hash → List Record → ChangeParts
made_of a seq start time message deps records = record { actor = a; seq = seq; start = start; time = time; message = message; deps = deps; records = records }

same_parts : (c d : ChangeParts) → c.actor ≡ d.actor → c.seq ≡ d.seq → c.start ≡ d.start → c.time ≡ d.time → c.message ≡ d.message → c.deps ≡ d.deps → c.records ≡ d.records → c ≡ d
unfolding made_of
same_parts c d a s n t m h r =
    let one : c ≡ made_of d.actor c.seq c.start c.time c.message c.deps c.records = ap (λ x. made_of x c.seq c.start c.time c.message c.deps c.records) a in
    let two : made_of d.actor c.seq c.start c.time c.message c.deps c.records ≡ made_of d.actor d.seq d.start c.time c.message c.deps c.records =
    ap (λ x. made_of d.actor x c.start c.time c.message c.deps c.records) s ∙ ap (λ x. made_of d.actor d.seq x c.time c.message c.deps c.records) n in
    let three : made_of d.actor d.seq d.start c.time c.message c.deps c.records ≡ made_of d.actor d.seq d.start d.time d.message c.deps c.records =
    ap (λ x. made_of d.actor d.seq d.start x c.message c.deps c.records) t ∙ ap (λ x. made_of d.actor d.seq d.start d.time x c.deps c.records) m in
    let four : made_of d.actor d.seq d.start d.time d.message c.deps c.records ≡ d =
    ap (λ x. made_of d.actor d.seq d.start d.time d.message x c.records) h ∙ ap (λ x. made_of d.actor d.seq d.start d.time d.message d.deps x) r in
    one ∙ two ∙ three ∙ four

pub edit_determined : (C : List ChangeParts) (asked : EditRequest) (c d : ChangeParts) → Sound C → IsEdit C asked c → IsEdit C asked d → c ≡ d
edit_determined C asked c d s e f =
    let same = one_order (inserts C) e.elements f.elements (inserts_tree C s) e.order f.order in
    same_parts c d (e.actor ∙ sym f.actor) (e.seq ∙ sym f.seq) (e.start ∙ sym f.start) (e.time ∙ sym f.time) (e.message ∙ sym f.message) (e.deps ∙ sym f.deps)
    (e.records ∙ ap (λ L. records_of_edit asked.actor (next_counter C) (visible_ids (deletes C) L) asked.splices) same ∙ sym f.records)

-- ---- each change of a sound list enters after those before it

pub prefix_enters : (C : List ChangeParts) (i : ℕ) (x : ChangeParts) → Sound C → length C ≤ most_changes → i < length C → x ≡ get_or C i x → cause (take i C) x ≡ None
unfolding cause
prefix_enters C i x s few lt is =
    let split : C ≡ take i C ++ x ∷ drop (i + 1) C =
    sym (take-append-drop i C) ∙ ap (λ l. take i C ++ l) (rw (add-one) (drop-cons C i x lt) ∙ ap (λ (y : ChangeParts). y ∷ drop (i + 1) C) (sym is)) in
    let none : defect (take i C) x ≡ None = defect-from_Fits (take i C) x (Fits-at (take i C) x (drop (i + 1) C) (subst Sound split s)) in
    let within : i ≤ length C = omega arith in
    let size : length (take i C) ≡ i = length-take-le i C within in
    let room : (length (take i C) == most_changes) ≡ false = below (length (take i C)) (length C) i few lt (omega arith) in
    ap (λ o. or_full o (length (take i C) == most_changes)) none ∙ ap (λ b. cond b (Some Full) None) room where
      below : (n m i : ℕ) → m ≤ most_changes → i < m → n ≤ i → (n == most_changes) ≡ false
      below n m i few lt le = grind (arith, nat_tests)
