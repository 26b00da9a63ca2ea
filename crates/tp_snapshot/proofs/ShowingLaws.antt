-- The text that a document shows.
use Rattle.tp_snapshot.proofs.Common.{◌≡◌, ℕ, ◌+◌, inl, inr, List, [], ◌∷◌, ◌++◌, length, Bool, true, false, not, ◌&&◌, cond, Option, refl, sym, ap, ◌∙◌, subst, slice_get, option_map, chars, length-map, In, Actor, OpId, Insert, ChangeParts, id_of, inserts_in, inserts, deletes, is_removed, visible_of, visible_before, In-append, chars_of, IsTextOf, inserts-In, Sound, DocumentInvariant, AllChanges, HasLength, HasElementAt, HasPosition, inserts_tree, AllByRecursion, all_scalars, Record, ops_from, IsRecord, one_order, HasCharAt, slice_get-map, both_right, run, deletes_from, inserts_in-append, encode_utf8_all, chars-encodes}
use Rattle.tp_opid.specs.declared.op_id.Place.{Place}
use Rattle.tp_opid.specs.declared.op_id.Place.TheVariants.{After}
use Rattle.tp_layout.specs.declared.record.Record.TheVariants as record_of
use Rattle.tp_change.specs.Operations.{ops_of}
use Rattle.tp_graph.proofs.InsertLaws.{inserts_in-deletes_from}

-- ---- characters are Unicode scalar values

abbrev IsScalar : ℕ → Type 0
IsScalar ch = all_scalars (ch ∷ []) ≡ true

both_of : (b c : Bool) → (b && true) ≡ true → c ≡ true → (b && c) ≡ true
both_of true c h k = k
both_of false c h k = h

first_of_two : (b c : Bool) → (b && c) ≡ true → (b && true) ≡ true
first_of_two true c h = refl
first_of_two false c h = h

scalar_run : (a : Actor) (n : ℕ) (after : Place) (text : List ℕ) → all_scalars text ≡ true → (e : Insert) → In e (inserts_in (run a n after text)) → IsScalar e.ch
scalar_run a n after [] all e i = absurd i
scalar_run a n after (ch ∷ text) all e (inl same) = subst (λ (x : Insert). IsScalar x.ch) (sym same) (first_of_two _ (all_scalars text) all)
scalar_run a n after (ch ∷ text) all e (inr i) = scalar_run a (n + 1) (After (id_of a n)) text (both_right _ (all_scalars text) all) e i

scalar_from : (a : Actor) (n : ℕ) (rs : List Record) → AllByRecursion IsRecord rs → (e : Insert) → In e (inserts_in (ops_from a n rs)) → IsScalar e.ch
scalar_from a n [] is e i = absurd i
scalar_from a n (record_of.Insert after text ∷ rs) is e i =
    elim (In-append e (inserts_in (run a n after text)) (inserts_in (ops_from a (n + length text) rs)) (subst (λ l. In e l) (inserts_in-append (run a n after text) (ops_from a (n + length text) rs)) i)) [
      | inl j ↦ scalar_run a n after text is.0.1.scalars e j
      | inr j ↦ scalar_from a (n + length text) rs is.1 e j
    ]
scalar_from a n (record_of.Delete target ∷ rs) is e i = scalar_from a (n + 1) rs is.1 e i
scalar_from a n (record_of.DeleteRun first count ∷ rs) is e i =
    let rest = inserts_in (ops_from a (n + count) rs) in
    let same : inserts_in (deletes_from a n first count ++ ops_from a (n + count) rs) ≡ rest =
    inserts_in-append (deletes_from a n first count) (ops_from a (n + count) rs) ∙ ap (λ l. l ++ rest) (inserts_in-deletes_from a n first count) in
    scalar_from a (n + count) rs is.1 e (subst (In e) same i)

scalar_inserts : (C : List ChangeParts) → AllChanges C → (e : Insert) → In e (inserts C) → IsScalar e.ch
unfolding ops_of
scalar_inserts C all e i = let w = inserts-In C e i in scalar_from w.0.actor w.0.start w.0.records (all w.0 w.1).records e w.2

scalars_shown : (R : List (OpId × OpId)) (L : List Insert) → ((e : Insert) → In e L → IsScalar e.ch) → all_scalars (chars_of (visible_of R L)) ≡ true
scalars_shown R [] f = refl
scalars_shown R (e ∷ L) f =
    let rest = scalars_shown R L (λ x i. f x (inr i)) in
    elim (not (is_removed R e.id)) as (λ b. all_scalars (chars_of (cond b (e ∷ visible_of R L) (visible_of R L))) ≡ true) [
      | true ↦ both_of _ (all_scalars (chars_of (visible_of R L))) (f e (inl refl)) rest
      | false ↦ rest
    ]

-- ---- what the sequence shows is the text

pub DocumentInvariant-text : (C : List ChangeParts) (L : List Insert) (R : List (OpId × OpId)) → DocumentInvariant C L R → IsTextOf C (chars_of (visible_of R L))
DocumentInvariant-text C L R h = record { elements = L; order = h.order; spells = ap (λ D. chars_of (visible_of D L)) h.deletes }

pub DocumentInvariant-bytes : (C : List ChangeParts) (L : List Insert) (R : List (OpId × OpId)) (bytes : List ℕ) → DocumentInvariant C L R → bytes ≡ encode_utf8_all (chars_of (visible_of R L)) → IsTextOf C (chars bytes)
DocumentInvariant-bytes C L R bytes h e =
    let spelled : chars bytes ≡ chars_of (visible_of R L) = ap chars e ∙ chars-encodes (chars_of (visible_of R L)) (scalars_shown R L (λ x i. scalar_inserts C h.limits x (h.order.same.back x i))) in
    subst (IsTextOf C) (sym spelled) (DocumentInvariant-text C L R h)

pub DocumentInvariant-length : (C : List ChangeParts) (L : List Insert) (R : List (OpId × OpId)) (n : ℕ) → DocumentInvariant C L R → n ≡ length (visible_of R L) → HasLength C n
DocumentInvariant-length C L R n h e = (chars_of (visible_of R L), DocumentInvariant-text C L R h, e ∙ sym (length-map (visible_of R L) (λ (x : Insert). x.ch)))

pub DocumentInvariant-char : (C : List ChangeParts) (L : List Insert) (R : List (OpId × OpId)) (at : ℕ) (o : Option ℕ) → DocumentInvariant C L R → o ≡ option_map (λ (e : Insert). e.ch) (slice_get (visible_of R L) at) → HasCharAt C at o
DocumentInvariant-char C L R at o h e = (chars_of (visible_of R L), DocumentInvariant-text C L R h, e ∙ sym (slice_get-map (λ (x : Insert). x.ch) (visible_of R L) at))

-- sound changes have one text
pub one_text : (C : List ChangeParts) (s t : List ℕ) → Sound C → IsTextOf C s → IsTextOf C t → s ≡ t
one_text C s t sound a b =
    let same = one_order (inserts C) a.elements b.elements (inserts_tree C sound) a.order b.order in
    a.spells ∙ ap (λ L. chars_of (visible_of (deletes C) L)) same ∙ sym b.spells

pub DocumentInvariant-element : (C : List ChangeParts) (L : List Insert) (R : List (OpId × OpId)) (at : ℕ) (o : Option OpId) → DocumentInvariant C L R → o ≡ option_map (λ (e : Insert). e.id) (slice_get (visible_of R L) at) → HasElementAt C at o
DocumentInvariant-element C L R at o h e = (L, h.order, e ∙ ap (λ D. option_map (λ (x : Insert). x.id) (slice_get (visible_of D L) at)) h.deletes)

pub DocumentInvariant-position : (C : List ChangeParts) (L : List Insert) (R : List (OpId × OpId)) (x : OpId) (o : Option ℕ) → DocumentInvariant C L R → o ≡ visible_before R L x → HasPosition C x o
DocumentInvariant-position C L R x o h e = (L, h.order, e ∙ ap (λ D. visible_before D L x) h.deletes)
