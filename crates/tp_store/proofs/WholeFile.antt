-- The laws of the whole: what loads is the saved file of what it loads as, a saved file loads as what was saved, and
-- what a cut and what follows are answered with.
use Rattle.std.proofs.Common.{◌^◌, ◌≡◌, ℕ, suc, ◌+◌, ◌-◌, ◌<◌, ◌≤◌, Bool, true, false, cond, eqb, List, [], ◌∷◌, ◌++◌, length, map, take, drop, Some, Result, Ok, Err, refl, sym, ap, subst, ◌∙◌, append_assoc, append-nil, arith, eqb-true, inl, inr}
use Rattle.std.specs.Int.{w32, to_be_bytes}
use Rattle.std.specs.List.{flat_map, AllByRecursion}
use Rattle.std.specs.Str.{bytes_eq}
use Rattle.std.proofs.lemmas.List.{length-append, length-map, nil_from_length, take_at, drop_at}
use Rattle.std.proofs.lemmas.List.Folds.{flat_map-map}
use Rattle.std.proofs.lemmas.List.Concat.{flat_map-cons}
use Rattle.std.proofs.lemmas.Slice.Eq.{bytes_eq-Decides}
use Rattle.sha2.specs.Sha256.{sha256}
use Rattle.sha2.proofs.Facts256.{length-sha256}
use Rattle.tp_opid.specs.declared.doc_id.DocId.{DocId}
use Rattle.tp_codec.specs.Reading.{repeat_at}
use Rattle.tp_codec.proofs.Fields.{AreBytes, AreBytes-rest, AreBytes-take, reads_more}
use Rattle.tp_layout.specs.declared.parts.ChangeParts.{ChangeParts}
use Rattle.tp_list.specs.Bytes.{IsBytes}
use Rattle.tp_layout.specs.Limits.{IsChange, AllChanges}
use Rattle.tp_layout.specs.Spelling.{spelling, framed_change}
use Rattle.tp_layout.specs.declared.error.ChangeError.{ChangeError}
use Rattle.tp_layout.specs.Reading.{change_at}
use Rattle.tp_layout.proofs.WholeChange.{change_again}
use Rattle.tp_history.specs.declared.error.GraphError.{GraphError}
use Rattle.tp_history.specs.Fit.{cause}
use Rattle.tp_layout.proofs.SpellingLaws.{spelling_bounds}
use Rattle.tp_store.specs.declared.error.StoreError.{StoreError}
use Rattle.tp_store.specs.declared.error.StoreError.TheVariants.{Truncated, BadDigest, Damaged, Refused}
use Rattle.tp_store.specs.Saved.{piece, header, body, saved_file, IsPiece, laid_out, CanBeSaved, IsSaved}
use Rattle.tp_store.specs.Loading.{SavedLayout, piece_at, offset_after, layout_at, end_or_damaged, layout_of, with_pieces, and_with, or_damaged_at, push_or_refuse, with_piece, digest_of, with_id, document_of_layout, document_of_bytes}
use Rattle.tp_store.proofs.LayoutFields.{IsLayout, counted_again, length-header, layout_with, spell_layout, layout_field}
use Rattle.tp_store.proofs.Entering.{and_with_ok, Enters, entered_takes, entered_again, entered_stops}

-- ---- the layout

ended_ok : {X : Type 0} (size : ℕ) (r : Result (X × List ℕ) StoreError) (l : X) → end_or_damaged size r ≡ Ok l → r ≡ Ok (l, [])
unfolding end_or_damaged
ended_ok {X} size (Ok x) l e = by_test (eqb (length x.1) 0) refl e
  where
    by_test : (b : Bool) → eqb (length x.1) 0 ≡ b → (let t : Result X StoreError = cond b (Ok x.0) (Err (Damaged (size - length x.1))) in t) ≡ Ok l → (let t : Result (X × List ℕ) StoreError = Ok x in t) ≡ Ok (l, [])
    by_test true h e =
        let l-is : x.0 ≡ l = cc in
        let none : x.1 ≡ [] = nil_from_length x.1 (eqb-true _ _ h) in
        ap (λ (p : X × List ℕ). Ok p) (ap (λ (q : X). (q, x.1)) l-is ∙ ap (λ (q : List ℕ). (l, q)) none)
    by_test false h e = absurd cc
ended_ok size (Err d) l e = absurd cc

ended_of_ok : {X : Type 0} (size : ℕ) (r : Result (X × List ℕ) StoreError) (l : X) → r ≡ Ok (l, []) → end_or_damaged size r ≡ Ok l
unfolding end_or_damaged
ended_of_ok size r l e = rw e refl

-- what the layout shows spells the bytes
pub layout_takes : (bytes : List ℕ) (l : SavedLayout) → AreBytes bytes → layout_of bytes ≡ Ok l → (bytes ≡ spell_layout l) × IsLayout l
unfolding layout_of
layout_takes bytes l fits e =
    let t = layout_field.takes bytes l [] fits (ended_ok (length bytes) (layout_at bytes) l e) in
    (t.0 ∙ append-nil (spell_layout l), t.1)

layout_again : (l : SavedLayout) → IsLayout l → layout_of (spell_layout l) ≡ Ok l
unfolding layout_of
layout_again l is =
    ended_of_ok (length (spell_layout l)) (layout_at (spell_layout l)) l (ap layout_at (sym (append-nil (spell_layout l))) ∙ layout_field.again l [] is)

-- The bytes have a header and a digest, and the changes can be read from the end of the header.
pub changes_present : (bytes : List ℕ) (l : SavedLayout) → AreBytes bytes → layout_of bytes ≡ Ok l
    → (28 + 32 ≤ length bytes) × (repeat_at piece_at offset_after (length l.pieces) 28 (drop 28 bytes) ≡ Ok (l.pieces, l.digest))
changes_present bytes l fits e =
    let t = layout_takes bytes l fits e in
    let rest = flat_map piece l.pieces ++ l.digest in
    let size = length-header l.id (length l.pieces) t.1.id in
    let whole : length bytes ≡ length (header l.id (length l.pieces)) + length rest = ap length t.0 ∙ length-append (header l.id (length l.pieces)) rest in
    let both = length-append (flat_map piece l.pieces) l.digest in
    let digest = t.1.digest in
    let left : drop 28 bytes ≡ rest = ap (drop 28) t.0 ∙ drop_at (header l.id (length l.pieces)) rest 28 size in
    (omega arith, ap (repeat_at piece_at offset_after (length l.pieces) 28) left ∙ counted_again 28 l.pieces l.digest t.1.pieces)

AreBytes-prefix : (xs ys : List ℕ) → AreBytes (xs ++ ys) → AreBytes xs
AreBytes-prefix xs ys h = subst AreBytes (take_at xs ys (length xs) refl) (AreBytes-take (length xs) (xs ++ ys) h)

pieces_bytes : (ps : List (List ℕ)) (rest : List ℕ) → AreBytes (flat_map piece ps ++ rest) → AllByRecursion AreBytes ps
pieces_bytes [] rest h = tt
pieces_bytes (p ∷ ps) rest h =
    let more = flat_map piece ps ++ rest in
    let size = to_be_bytes w32 (length p) in
    let whole : flat_map piece (p ∷ ps) ++ rest ≡ (size ++ p) ++ more = ap (λ (b : List ℕ). b ++ rest) (flat_map-cons piece p ps) ∙ append_assoc (size ++ p) (flat_map piece ps) rest in
    let split : (size ++ p) ++ more ≡ size ++ (p ++ more) = append_assoc size p more in
    (AreBytes-prefix p more (AreBytes-rest size (flat_map piece (p ∷ ps) ++ rest) (p ++ more) (whole ∙ split) h), pieces_bytes ps rest (AreBytes-rest (size ++ p) (flat_map piece (p ∷ ps) ++ rest) more whole h))

-- ---- the changes

all_from : (C : List ChangeParts) → AllChanges C → AllByRecursion IsChange C
all_from [] h = tt
all_from (c ∷ C) h = (h c (inl refl), all_from C (λ d there. h d (inr there)))

all_to : (C : List ChangeParts) → AllByRecursion IsChange C → AllChanges C
all_to [] is c there = absurd there
all_to (d ∷ C) is c there = elim there [ inl same ↦ subst IsChange (sym same) is.0 | inr more ↦ all_to C is.1 c more ]

pieces_are : (C : List ChangeParts) → AllByRecursion IsChange C → AllByRecursion IsPiece (map spelling C)
pieces_are [] is = tt
pieces_are (c ∷ C) is = let b = spelling_bounds c is.0 in (record { from = b.0; to = b.1 }, pieces_are C is.1)

-- ---- the whole

-- the layout of a saved file
abbrev layout_saved : DocId → List ChangeParts → SavedLayout
layout_saved id C = layout_with id (map spelling C) (sha256 (body id C))

spelled_saved : (id : DocId) (C : List ChangeParts) (d : List ℕ) → spell_layout (layout_with id (map spelling C) d) ≡ body id C ++ d
spelled_saved id C d =
    ap (λ (n : ℕ). header id n ++ (flat_map piece (map spelling C) ++ d)) (length-map C spelling)
    ∙ ap (λ (b : List ℕ). header id (length C) ++ (b ++ d)) (flat_map-map piece spelling C)
    ∙ sym (append_assoc (header id (length C)) (flat_map framed_change C) d)

prefix_is : (bytes prefix d : List ℕ) → bytes ≡ prefix ++ d → length d ≡ 32 → take (length bytes - 32) bytes ≡ prefix
prefix_is bytes prefix d e is =
    let size : length bytes ≡ length prefix + length d = ap length e ∙ length-append prefix d in
    let n : length prefix ≡ length bytes - 32 = omega arith in
    ap (take (length bytes - 32)) e ∙ take_at prefix d (length bytes - 32) n

with_id_ok : (id : DocId) (r : Result (List ChangeParts) StoreError) (jd : DocId) (C : List ChangeParts) → with_id id r ≡ Ok (jd, C) → (r ≡ Ok C) × (id ≡ jd)
with_id_ok id (Ok D) jd C e =
    let p : (let q : DocId × List ChangeParts = (id, D) in q) ≡ (jd, C) = cc in
    (ap (λ (q : DocId × List ChangeParts). let r : Result (List ChangeParts) StoreError = Ok q.1 in r) p, ap (λ (q : DocId × List ChangeParts). q.0) p)
with_id_ok id (Err x) jd C e = absurd cc

restored_ok : (bytes : List ℕ) (l : SavedLayout) (id : DocId) (C : List ChangeParts) → document_of_layout bytes l ≡ Ok (id, C) → (l.digest ≡ digest_of bytes) × (with_pieces 28 [] l.pieces ≡ Ok C) × (l.id ≡ id)
restored_ok bytes l id C e = by_test (bytes_eq l.digest (digest_of bytes)) refl e
  where
    by_test : (b : Bool) → bytes_eq l.digest (digest_of bytes) ≡ b → cond b (with_id l.id (with_pieces 28 [] l.pieces)) (Err BadDigest) ≡ Ok (id, C)
        → (l.digest ≡ digest_of bytes) × (with_pieces 28 [] l.pieces ≡ Ok C) × (l.id ≡ id)
    by_test true h e =
        let p = with_id_ok l.id (with_pieces 28 [] l.pieces) id C e in
        ((bytes_eq-Decides l.digest (digest_of bytes)).0 h, p.0, p.1)
    by_test false h e = absurd cc

saved_of : (bytes : List ℕ) (l : SavedLayout) (id : DocId) (C : List ChangeParts) → bytes ≡ spell_layout l → IsLayout l → l.digest ≡ digest_of bytes → l.id ≡ id → Enters [] l.pieces C C → IsSaved bytes id C
unfolding saved_file
saved_of bytes l id C whole is digest same in_turn =
    let bytes-are : bytes ≡ body id C ++ l.digest =
    whole
    ∙ ap (λ (i : DocId). spell_layout (layout_with i l.pieces l.digest)) same
    ∙ ap (λ (ps : List (List ℕ)). spell_layout (layout_with id ps l.digest)) in_turn.pieces
    ∙ spelled_saved id C l.digest in
    let prefix : take (length bytes - 32) bytes ≡ body id C = prefix_is bytes (body id C) l.digest bytes-are is.digest in
    record {
      spelled = bytes-are ∙ ap (λ (d : List ℕ). body id C ++ d) (digest ∙ ap sha256 prefix);
      can = record { identifier = subst (λ (i : DocId). IsBytes 16 i.0) same is.id; sound = in_turn.sound; limits = all_to C in_turn.limits; few = in_turn.few };
    }

-- what is written in turn is the saved file
pub written : (id : DocId) (C : List ChangeParts) (none head prefix whole : List ℕ) → none ≡ [] → head ≡ none ++ header id (length C) → prefix ≡ head ++ flat_map framed_change C → whole ≡ prefix ++ sha256 prefix
    → whole ≡ saved_file id C
unfolding saved_file
written id C none head prefix whole a b c d =
    let first : head ≡ header id (length C) = b ∙ ap (λ (l : List ℕ). l ++ header id (length C)) a in
    let second : prefix ≡ body id C = c ∙ ap (λ (l : List ℕ). l ++ flat_map framed_change C) first in
    d ∙ ap (λ (l : List ℕ). l ++ sha256 l) second

-- What loads is the saved file of what it loads as.
pub loaded_takes : (bytes : List ℕ) (id : DocId) (C : List ChangeParts) → AreBytes bytes → document_of_bytes bytes ≡ Ok (id, C) → IsSaved bytes id C
unfolding document_of_bytes
loaded_takes bytes id C fits e =
    let a = and_with_ok (layout_of bytes) (document_of_layout bytes) (id, C) e in
    let l = a.0 in
    let t = layout_takes bytes l fits a.1 in
    let r = restored_ok bytes l id C a.2 in
    let rest : AreBytes (flat_map piece l.pieces ++ l.digest) = AreBytes-rest (header l.id (length l.pieces)) bytes (flat_map piece l.pieces ++ l.digest) t.0 fits in
    let n = entered_takes 28 [] l.pieces C (pieces_bytes l.pieces l.digest rest) (omega arith) r.1 in
    saved_of bytes l id C t.0 t.1 r.0 r.2 (subst (λ (N : List ChangeParts). Enters [] l.pieces C N) (sym n.1.grown) n.1)

restored_of : (bytes : List ℕ) (l : SavedLayout) (C : List ChangeParts) → l.digest ≡ digest_of bytes → with_pieces 28 [] l.pieces ≡ Ok C → document_of_layout bytes l ≡ Ok (l.id, C)
restored_of bytes l C digest in_turn =
    ap (λ b. cond b (with_id l.id (with_pieces 28 [] l.pieces)) (Err BadDigest)) ((bytes_eq-Decides l.digest (digest_of bytes)).1 digest)
    ∙ ap (λ (r : Result (List ChangeParts) StoreError). with_id l.id r) in_turn

-- the layout's fault is the answer
pub loaded_bad : (bytes : List ℕ) (e : StoreError) → layout_of bytes ≡ Err e → document_of_bytes bytes ≡ Err e
unfolding document_of_bytes
loaded_bad bytes e h = ap (λ (r : Result SavedLayout StoreError). and_with r (document_of_layout bytes)) h

-- so is another digest
pub digest_bad : (bytes : List ℕ) (l : SavedLayout) → layout_of bytes ≡ Ok l → bytes_eq l.digest (digest_of bytes) ≡ false → document_of_bytes bytes ≡ Err BadDigest
unfolding document_of_bytes
digest_bad bytes l h other =
    ap (λ (r : Result SavedLayout StoreError). and_with r (document_of_layout bytes)) h
    ∙ ap (λ b. cond b (with_id l.id (with_pieces 28 [] l.pieces)) (Err BadDigest)) other

-- and else what comes of the changes
pub loaded_changes : (bytes : List ℕ) (l : SavedLayout) → layout_of bytes ≡ Ok l → bytes_eq l.digest (digest_of bytes) ≡ true → document_of_bytes bytes ≡ with_id l.id (with_pieces 28 [] l.pieces)
unfolding document_of_bytes
loaded_changes bytes l h same =
    ap (λ (r : Result SavedLayout StoreError). and_with r (document_of_layout bytes)) h
    ∙ ap (λ b. cond b (with_id l.id (with_pieces 28 [] l.pieces)) (Err BadDigest)) same

layout_saved_is : (id : DocId) (C : List ChangeParts) → CanBeSaved id C → IsLayout (layout_saved id C)
layout_saved_is id C can = record {
  id = can.identifier;
  count = let few = can.few in let size = length-map C spelling in omega arith;
  pieces = pieces_are C (all_from C can.limits);
  digest = length-sha256 (body id C);
}

layout_of_saved : (id : DocId) (C : List ChangeParts) → CanBeSaved id C → layout_of (saved_file id C) ≡ Ok (layout_saved id C)
unfolding saved_file
layout_of_saved id C can =
    ap layout_of (sym (spelled_saved id C (sha256 (body id C)))) ∙ layout_again (layout_saved id C) (layout_saved_is id C can)

digest_of_saved : (id : DocId) (C : List ChangeParts) → digest_of (saved_file id C) ≡ sha256 (body id C)
unfolding saved_file
digest_of_saved id C = ap sha256 (prefix_is (body id C ++ sha256 (body id C)) (body id C) (sha256 (body id C)) refl (length-sha256 (body id C)))

-- A saved file loads as what was saved.
pub loaded_again : (id : DocId) (C : List ChangeParts) → CanBeSaved id C → document_of_bytes (saved_file id C) ≡ Ok (id, C)
unfolding document_of_bytes
loaded_again id C can =
    let in_turn : with_pieces 28 [] (map spelling C) ≡ Ok C = entered_again 28 [] C (all_from C can.limits) can.sound can.few in
    ap (λ (r : Result SavedLayout StoreError). and_with r (document_of_layout (saved_file id C))) (layout_of_saved id C can)
    ∙ restored_of (saved_file id C) (layout_saved id C) C (sym (digest_of_saved id C)) in_turn

pub loaded_of : (bytes : List ℕ) (id : DocId) (C : List ChangeParts) → IsSaved bytes id C → document_of_bytes bytes ≡ Ok (id, C)
loaded_of bytes id C is = ap document_of_bytes is.spelled ∙ loaded_again id C is.can

pub same_result : (id jd : DocId) (C D : List ChangeParts) → (let r : Result (DocId × List ChangeParts) StoreError = Ok (id, C) in r) ≡ Ok (jd, D) → (id ≡ jd) × (C ≡ D)
same_result id jd C D e =
    let p : (let q : DocId × List ChangeParts = (id, C) in q) ≡ (jd, D) = cc in
    (ap (λ (q : DocId × List ChangeParts). q.0) p, ap (λ (q : DocId × List ChangeParts). q.1) p)

-- No bytes are two saved files.
pub one_saved : (id jd : DocId) (C D : List ChangeParts) → CanBeSaved id C → CanBeSaved jd D → saved_file id C ≡ saved_file jd D → (id ≡ jd) × (C ≡ D)
one_saved id jd C D p q e = same_result id jd C D (sym (loaded_again id C p) ∙ ap document_of_bytes e ∙ loaded_again jd D q)

-- ---- cuts, and what follows

layout_at_saved : (id : DocId) (C : List ChangeParts) (more : List ℕ) → CanBeSaved id C → layout_at (saved_file id C ++ more) ≡ Ok (layout_saved id C, more)
unfolding saved_file
layout_at_saved id C more can =
    ap (λ (b : List ℕ). layout_at (b ++ more)) (sym (spelled_saved id C (sha256 (body id C)))) ∙ layout_field.again (layout_saved id C) more (layout_saved_is id C can)

some_left : (size : ℕ) (l : SavedLayout) (rest : List ℕ) → 0 < length rest → end_or_damaged size (let r : Result (SavedLayout × List ℕ) StoreError = Ok (l, rest) in r) ≡ Err (Damaged (size - length rest))
unfolding end_or_damaged
some_left size l rest some = by_test (eqb (length rest) 0) refl
  where
    by_test : (b : Bool) → eqb (length rest) 0 ≡ b → cond b (Ok l) (Err (Damaged (size - length rest))) ≡ Err (Damaged (size - length rest))
    by_test true h = absurd (let none = eqb-true _ _ h in omega arith)
    by_test false h = refl

-- Bytes after a saved file are damaged, at the place of the first of them.
pub more_damaged : (id : DocId) (C : List ChangeParts) (more : List ℕ) → CanBeSaved id C → 0 < length more → document_of_bytes (saved_file id C ++ more) ≡ Err (Damaged (length (saved_file id C)))
unfolding document_of_bytes layout_of
more_damaged id C more can some =
    let whole = saved_file id C ++ more in
    let size : length whole ≡ length (saved_file id C) + length more = length-append (saved_file id C) more in
    let at : length whole - length more ≡ length (saved_file id C) = omega arith in
    ap (λ (r : Result (SavedLayout × List ℕ) StoreError). and_with (end_or_damaged (length whole) r) (document_of_layout whole)) (layout_at_saved id C more can)
    ∙ ap (λ (r : Result SavedLayout StoreError). and_with r (document_of_layout whole)) (some_left (length whole) (layout_saved id C) more some)
    ∙ ap (λ (n : ℕ). let r : Result (DocId × List ChangeParts) StoreError = Err (Damaged n) in r) at

same_pair : (x y : SavedLayout × List ℕ) → (let r : Result (SavedLayout × List ℕ) StoreError = Ok x in r) ≡ Ok y → x ≡ y
same_pair x y e = cc

cut_layout : (prefix more : List ℕ) (l : SavedLayout) → AreBytes prefix → layout_at (prefix ++ more) ≡ Ok (l, []) → 0 < length more → layout_at prefix ≡ Err Truncated
cut_layout prefix more l fits whole some = by_result (layout_at prefix) refl
  where
    by_fault : (e : StoreError) → layout_at prefix ≡ Err e → (let r : Result (SavedLayout × List ℕ) StoreError = Err e in r) ≡ Err Truncated
    by_fault Truncated h = refl
    by_fault e h =
        let stays = layout_field.stays prefix more e fits h (λ same. absurd cc) in
        absurd (let no : (let r : Result (SavedLayout × List ℕ) StoreError = Err e in r) ≡ Ok (l, []) = sym stays ∙ whole in cc)

    by_result : (r : Result (SavedLayout × List ℕ) StoreError) → layout_at prefix ≡ r → r ≡ Err Truncated
    by_result (Ok x) h =
        let on = reads_more Truncated layout_at spell_layout IsLayout layout_field prefix more x.0 x.1 fits h in
        let same : (let q : SavedLayout × List ℕ = (x.0, x.1 ++ more) in q) ≡ (l, []) = same_pair (x.0, x.1 ++ more) (l, []) (sym on ∙ whole) in
        let none : length (x.1 ++ more) ≡ 0 = ap (λ (q : SavedLayout × List ℕ). length q.1) same in
        let size = length-append x.1 more in
        absurd (omega arith)
    by_result (Err e) h = by_fault e h

-- A saved file that is cut is truncated.
pub cut_truncated : (id : DocId) (C : List ChangeParts) (prefix more : List ℕ) → CanBeSaved id C → AreBytes prefix → saved_file id C ≡ prefix ++ more → 0 < length more → document_of_bytes prefix ≡ Err Truncated
unfolding document_of_bytes layout_of end_or_damaged
cut_truncated id C prefix more can fits split some =
    let whole : layout_at (prefix ++ more) ≡ Ok (layout_saved id C, []) = ap layout_at (sym split ∙ sym (append-nil (saved_file id C))) ∙ layout_at_saved id C [] can in
    ap (λ (r : Result (SavedLayout × List ℕ) StoreError). and_with (end_or_damaged (length prefix) r) (document_of_layout prefix)) (cut_layout prefix more (layout_saved id C) fits whole some)

-- ---- another digest, and changes that can't enter

not_true : (b : Bool) → (b ≡ true → ⊥) → b ≡ false
not_true true h = absurd (h refl)
not_true false h = refl

-- Another digest is a bad one.
pub other_digest : (id : DocId) (C : List ChangeParts) (d : List ℕ) → CanBeSaved id C → length d ≡ 32 → (d ≡ sha256 (body id C) → ⊥) → document_of_bytes (body id C ++ d) ≡ Err BadDigest
other_digest id C d can size other =
    let l = layout_with id (map spelling C) d in
    let known = layout_saved_is id C can in
    let is : IsLayout l = record { id = known.id; count = known.count; pieces = known.pieces; digest = size } in
    let bytes = body id C ++ d in
    let layout : layout_of bytes ≡ Ok l = ap layout_of (sym (spelled_saved id C d)) ∙ layout_again l is in
    let digest : digest_of bytes ≡ sha256 (body id C) = ap sha256 (prefix_is bytes (body id C) d refl size) in
    digest_bad bytes l layout (not_true (bytes_eq d (digest_of bytes)) (λ same. other ((bytes_eq-Decides d (digest_of bytes)).0 same ∙ digest)))

loaded_laid : (id : DocId) (ps : List (List ℕ)) → IsBytes 16 id.0 → length ps < 2 ^ 32 → AllByRecursion IsPiece ps → document_of_bytes (laid_out id ps) ≡ with_id id (with_pieces 28 [] ps)
unfolding laid_out
loaded_laid id ps is few each =
    let prefix = header id (length ps) ++ flat_map piece ps in
    let l = layout_with id ps (sha256 prefix) in
    let bytes = prefix ++ sha256 prefix in
    let fits : IsLayout l = record { id = is; count = few; pieces = each; digest = length-sha256 prefix } in
    let spelled : spell_layout l ≡ bytes = sym (append_assoc (header id (length ps)) (flat_map piece ps) (sha256 prefix)) in
    let layout : layout_of bytes ≡ Ok l = ap layout_of (sym spelled) ∙ layout_again l fits in
    let digest : digest_of bytes ≡ sha256 prefix = ap sha256 (prefix_is bytes prefix (sha256 prefix) refl (length-sha256 prefix)) in
    loaded_changes bytes l layout ((bytes_eq-Decides (sha256 prefix) (digest_of bytes)).1 (sym digest))

pieces_join : (ps qs : List (List ℕ)) → AllByRecursion IsPiece ps → AllByRecursion IsPiece qs → AllByRecursion IsPiece (ps ++ qs)
pieces_join [] qs each more = more
pieces_join (p ∷ ps) qs each more = (each.0, pieces_join ps qs each.1 more)

-- The fault of the first change that can't enter is the answer.
stops : (id : DocId) (C : List ChangeParts) (p : List ℕ) (more : List (List ℕ)) (e : StoreError) → CanBeSaved id C → AllByRecursion IsPiece (p ∷ more) → length C + length (p ∷ more) < 2 ^ 32
    → with_piece (28 + length (flat_map framed_change C)) C p ≡ Err e → document_of_bytes (laid_out id (map spelling C ++ p ∷ more)) ≡ Err e
stops id C p more e can each few bad =
    let is = all_from C can.limits in
    let ps = map spelling C ++ p ∷ more in
    let size : length ps ≡ length (map spelling C) + length (p ∷ more) = length-append (map spelling C) (p ∷ more) in
    let same : length (map spelling C) ≡ length C = length-map C spelling in
    loaded_laid id ps can.identifier (omega arith) (pieces_join (map spelling C) (p ∷ more) (pieces_are C is) each)
    ∙ ap (with_id id) (entered_stops 28 [] C p more e is can.sound can.few bad)

pub not_a_change : (id : DocId) (C : List ChangeParts) (p : List ℕ) (more : List (List ℕ)) (e : ChangeError) → CanBeSaved id C → AllByRecursion IsPiece (p ∷ more) → length C + length (p ∷ more) < 2 ^ 32
    → change_at p ≡ Err e → document_of_bytes (laid_out id (map spelling C ++ p ∷ more)) ≡ Err (Damaged (28 + length (flat_map framed_change C)))
not_a_change id C p more e can each few bad =
    let at = 28 + length (flat_map framed_change C) in
    stops id C p more (Damaged at) can each few (ap (λ (r : Result ChangeParts ChangeError). and_with (or_damaged_at at r) (λ c. push_or_refuse C c (cause C c))) bad)

pub not_fitting : (id : DocId) (C : List ChangeParts) (c : ChangeParts) (more : List (List ℕ)) (e : GraphError) → CanBeSaved id C → IsChange c → AllByRecursion IsPiece more → length C + suc (length more) < 2 ^ 32
    → cause C c ≡ Some e → document_of_bytes (laid_out id (map spelling C ++ spelling c ∷ more)) ≡ Err (Refused e)
not_fitting id C c more e can is each few bad =
    let at = 28 + length (flat_map framed_change C) in
    let b = spelling_bounds c is in
    stops id C (spelling c) more (Refused e) can (record { from = b.0; to = b.1 }, each) few
    (ap (λ (r : Result ChangeParts ChangeError). and_with (or_damaged_at at r) (λ d. push_or_refuse C d (cause C d))) (change_again c is) ∙ ap (push_or_refuse C c) bad)
