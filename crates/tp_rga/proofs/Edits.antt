-- What an insert and a delete at a place of the text do to the text.
use Rattle.std.proofs.Common.{◌≡◌, ℕ, zero, suc, Bool, true, false, not, ◌||◌, cond, Some, List, [], ◌∷◌, ◌++◌, insert, remove, slice_get, refl, sym, ap, ◌∙◌, subst}
use Rattle.tp_list.specs.Members.{In}
use Rattle.tp_list.proofs.Members.{In-slice_get, In-filter}
use Rattle.tp_opid.specs.declared.op_id.OpId.{OpId}
use Rattle.tp_opid.specs.declared.op_id.Place.TheVariants.{Start, After}
use Rattle.tp_opid.specs.Insert.{Insert}
use Rattle.tp_opid.specs.Same.{id_eq}
use Rattle.tp_opid.specs.Tree.{IdsApart}
use Rattle.tp_opid.proofs.Orders.{id_eq-same, id_eq-itself, id_eq-flip}
use Rattle.tp_rga.specs.Order.{insert_after}
use Rattle.tp_rga.specs.Shown.{is_removed, visible_of}
use Rattle.tp_rga.proofs.Flagging.{filter_agree_in}
use Rattle.tp_rga.proofs.PlainStates.{removed-other, removed-itself}

-- what is shown is in the list, and no delete names it
shown_member : (R : List (OpId × OpId)) (L : List Insert) (k : ℕ) (e : Insert) → slice_get (visible_of R L) k ≡ Some e → In e L × (is_removed R e.id ≡ false)
shown_member R L k e at =
    let i = In-filter (λ (d : Insert). not (is_removed R d.id)) L e (In-slice_get (visible_of R L) k e at) in
    (i.0, down (is_removed R e.id) i.1)
  where
    down : (b : Bool) → not b ≡ true → b ≡ false
    down true h = cc
    down false h = refl

-- a new element at the start is the first of the text
pub shown_insert_start : (R : List (OpId × OpId)) (L : List Insert) (x : Insert) → is_removed R x.id ≡ false → visible_of R (insert_after Start x L) ≡ x ∷ visible_of R L
shown_insert_start R L x new = ap (λ b. cond (not b) (x ∷ visible_of R L) (visible_of R L)) new

-- a new element directly after the element at a place of the text is at the next place
pub shown_insert_after : (R : List (OpId × OpId)) (L : List Insert) (x e : Insert) (k : ℕ) → IdsApart L → is_removed R x.id ≡ false → slice_get (visible_of R L) k ≡ Some e → visible_of R (insert_after (After e.id) x L) ≡ insert (visible_of R L) (suc k) x
shown_insert_after R [] x e k apart new at = cc
shown_insert_after R (a ∷ L) x e k apart new at =
    elim (is_removed R a.id) as (λ b. is_removed R a.id ≡ b → slice_get (cond (not b) (a ∷ visible_of R L) (visible_of R L)) k ≡ Some e → visible_of R (insert_after (After e.id) x (a ∷ L)) ≡ insert (cond (not b) (a ∷ visible_of R L) (visible_of R L)) (suc k) x) [
      | true ↦ λ gone h.
          let member = shown_member R L k e h in
          let other : id_eq a.id e.id ≡ false = id_eq-flip e.id a.id (apart.0 e member.0) in
          ap (visible_of R) (beyond a L x e.id other) ∙ ap (λ b. cond (not b) (a ∷ visible_of R (insert_after (After e.id) x L)) (visible_of R (insert_after (After e.id) x L))) gone ∙ shown_insert_after R L x e k apart.1 new h
      | false ↦ λ stays h. at_place R a L x e k apart new stays h (λ j g. shown_insert_after R L x e j apart.1 new g)
    ] refl at
  where
    beyond : (a : Insert) (L : List Insert) (x : Insert) (r : OpId) → id_eq a.id r ≡ false → insert_after (After r) x (a ∷ L) ≡ a ∷ insert_after (After r) x L
    beyond a L x r other = ap (λ b. cond b (a ∷ x ∷ L) (a ∷ insert_after (After r) x L)) other

    here : (a : Insert) (L : List Insert) (x : Insert) (r : OpId) → id_eq a.id r ≡ true → insert_after (After r) x (a ∷ L) ≡ a ∷ x ∷ L
    here a L x r same = ap (λ b. cond b (a ∷ x ∷ L) (a ∷ insert_after (After r) x L)) same

    at_place : (R : List (OpId × OpId)) (a : Insert) (L : List Insert) (x e : Insert) (k : ℕ) → IdsApart (a ∷ L) → is_removed R x.id ≡ false → is_removed R a.id ≡ false → slice_get (a ∷ visible_of R L) k ≡ Some e → ((j : ℕ) → slice_get (visible_of R L) j ≡ Some e → visible_of R (insert_after (After e.id) x L) ≡ insert (visible_of R L) (suc j) x) → visible_of R (insert_after (After e.id) x (a ∷ L)) ≡ insert (a ∷ visible_of R L) (suc k) x
    at_place R a L x e zero apart new stays h rest =
        let same : a ≡ e = cc in
        let found : id_eq a.id e.id ≡ true = ap (λ (w : Insert). id_eq a.id w.id) (sym same) ∙ id_eq-itself a.id in
        ap (visible_of R) (here a L x e.id found) ∙ ap (λ b. cond (not b) (a ∷ visible_of R (x ∷ L)) (visible_of R (x ∷ L))) stays ∙ ap (λ z. a ∷ z) (shown_insert_start R L x new)
    at_place R a L x e (suc k) apart new stays h rest =
        let member = shown_member R L k e h in
        let other : id_eq a.id e.id ≡ false = id_eq-flip e.id a.id (apart.0 e member.0) in
        ap (visible_of R) (beyond a L x e.id other) ∙ ap (λ b. cond (not b) (a ∷ visible_of R (insert_after (After e.id) x L)) (visible_of R (insert_after (After e.id) x L))) stays ∙ ap (λ z. a ∷ z) (rest k h)

-- what is deleted stays deleted
pub removed-still : (R : List (OpId × OpId)) (t b x : OpId) → is_removed R x ≡ true → is_removed (R ++ (t, b) ∷ []) x ≡ true
removed-still [] t b x e = cc
removed-still (r ∷ R) t b x e =
    elim (id_eq r.0 x) as (λ v. (v || is_removed R x) ≡ true → (v || is_removed (R ++ (t, b) ∷ []) x) ≡ true) [
      | true ↦ λ h. refl
      | false ↦ λ h. removed-still R t b x h
    ] e

-- a delete of the element at a place of the text takes it out of the text
pub shown_delete : (R : List (OpId × OpId)) (L : List Insert) (e : Insert) (b : OpId) (k : ℕ) → IdsApart L → slice_get (visible_of R L) k ≡ Some e → visible_of (R ++ (e.id, b) ∷ []) L ≡ remove (visible_of R L) k
shown_delete R [] e b k apart at = cc
shown_delete R (a ∷ L) e b k apart at =
    let S = R ++ (e.id, b) ∷ [] in
    elim (is_removed R a.id) as (λ v. is_removed R a.id ≡ v → slice_get (cond (not v) (a ∷ visible_of R L) (visible_of R L)) k ≡ Some e → visible_of S (a ∷ L) ≡ remove (cond (not v) (a ∷ visible_of R L) (visible_of R L)) k) [
      | true ↦ λ gone h.
          ap (λ v. cond (not v) (a ∷ visible_of S L) (visible_of S L)) (removed-still R e.id b a.id gone) ∙ shown_delete R L e b k apart.1 h
      | false ↦ λ stays h. at_place R a L e b k apart stays h (λ j g. shown_delete R L e b j apart.1 g)
    ] refl at
  where
    at_place : (R : List (OpId × OpId)) (a : Insert) (L : List Insert) (e : Insert) (b : OpId) (k : ℕ) → IdsApart (a ∷ L) → is_removed R a.id ≡ false → slice_get (a ∷ visible_of R L) k ≡ Some e → ((j : ℕ) → slice_get (visible_of R L) j ≡ Some e → visible_of (R ++ (e.id, b) ∷ []) L ≡ remove (visible_of R L) j) → visible_of (R ++ (e.id, b) ∷ []) (a ∷ L) ≡ remove (a ∷ visible_of R L) k
    at_place R a L e b zero apart stays h rest =
        let same : a ≡ e = cc in
        let found : id_eq e.id a.id ≡ true = ap (λ (w : Insert). id_eq w.id a.id) (sym same) ∙ id_eq-itself a.id in
        let others : visible_of (R ++ (e.id, b) ∷ []) L ≡ visible_of R L =
        filter_agree_in (λ (d : Insert). not (is_removed (R ++ (e.id, b) ∷ []) d.id)) (λ (d : Insert). not (is_removed R d.id)) L (λ d i.
        ap not (removed-other R e.id b d.id (subst (λ (w : Insert). id_eq w.id d.id ≡ false) same (id_eq-flip d.id a.id (apart.0 d i))))) in
        ap (λ v. cond (not v) (a ∷ visible_of (R ++ (e.id, b) ∷ []) L) (visible_of (R ++ (e.id, b) ∷ []) L)) (removed-itself R e.id b a.id found) ∙ others
    at_place R a L e b (suc k) apart stays h rest =
        let member = shown_member R L k e h in
        let other : id_eq e.id a.id ≡ false = apart.0 e member.0 in
        ap (λ v. cond (not v) (a ∷ visible_of (R ++ (e.id, b) ∷ []) L) (visible_of (R ++ (e.id, b) ∷ []) L)) (removed-other R e.id b a.id other ∙ stays) ∙ ap (λ z. a ∷ z) (rest k h)

-- a delete of what is deleted already changes nothing
pub shown_delete_again : (R : List (OpId × OpId)) (L : List Insert) (t b : OpId) → is_removed R t ≡ true → visible_of (R ++ (t, b) ∷ []) L ≡ visible_of R L
shown_delete_again R L t b gone =
    filter_agree_in (λ (d : Insert). not (is_removed (R ++ (t, b) ∷ []) d.id)) (λ (d : Insert). not (is_removed R d.id)) L (λ d i. ap not (
    elim (id_eq t d.id) as (λ v. id_eq t d.id ≡ v → is_removed (R ++ (t, b) ∷ []) d.id ≡ is_removed R d.id) [
      | true ↦ λ h. removed-itself R t b d.id h ∙ sym (ap (is_removed R) (sym (id_eq-same t d.id h)) ∙ gone)
      | false ↦ λ h. removed-other R t b d.id h
    ] refl))
