-- What further deletes leave of the visible elements, and where a visible element is among all.
use Rattle.std.proofs.Common.{◌≡◌, ℕ, ◌+◌, Bool, true, false, not, cond, ◌||◌, List, [], ◌∷◌, ◌++◌, ◌⊎◌, inl, inr, refl, sym, ap, ◌∙◌, subst}
use Rattle.std.specs.Prelude.{filter}
use Rattle.std.proofs.lemmas.List.Elements.{filter-append}
use Rattle.tp_list.specs.Members.{In}
use Rattle.tp_list.proofs.Members.{In-left, In-right, In-filter}
use Rattle.tp_opid.specs.declared.actor.Actor.{Actor}
use Rattle.tp_opid.specs.declared.op_id.OpId.{OpId}
use Rattle.tp_opid.specs.declared.op_id.Place.{Place}
use Rattle.tp_opid.specs.declared.op_id.Place.TheVariants.{Start, After}
use Rattle.tp_opid.specs.Insert.{Insert}
use Rattle.tp_opid.specs.Same.{id_eq}
use Rattle.tp_opid.specs.Tree.{IsNew, IdsApart}
use Rattle.tp_opid.proofs.Orders.{id_eq-itself, id_eq-flip}
use Rattle.tp_change.specs.Operations.{ops_from}
use Rattle.tp_change.specs.Elements.{deletes_in}
use Rattle.tp_rga.specs.Order.{EndsAt}
use Rattle.tp_rga.specs.Shown.{is_removed, visible_of}
use Rattle.tp_edit.specs.EditRecords.{ids_of, after_last, deletes_of}

-- ---- further deletes

is_removed-append : (R D : List (OpId × OpId)) (x : OpId) → is_removed (R ++ D) x ≡ (is_removed R x || is_removed D x)
is_removed-append [] D x = refl
is_removed-append (r ∷ R) D x =
    let rest = is_removed-append R D x in
    elim (id_eq r.0 x) as (λ b. (b || is_removed (R ++ D) x) ≡ ((b || is_removed R x) || is_removed D x)) [ true ↦ refl | false ↦ rest ]

-- the deletes one list after another
pub visible_of-append : (R D : List (OpId × OpId)) (L : List Insert) → visible_of (R ++ D) L ≡ visible_of D (visible_of R L)
visible_of-append R D [] = refl
visible_of-append R D (e ∷ L) =
    let rest = visible_of-append R D L in
    ap (λ b. cond (not b) (e ∷ visible_of (R ++ D) L) (visible_of (R ++ D) L)) (is_removed-append R D e.id)
    ∙ elim (is_removed R e.id) as (λ b. cond (not (b || is_removed D e.id)) (e ∷ visible_of (R ++ D) L) (visible_of (R ++ D) L) ≡ visible_of D (cond (not b) (e ∷ visible_of R L) (visible_of R L))) [
      | true ↦ rest
      | false ↦ ap (λ M. cond (not (is_removed D e.id)) (e ∷ M) M) rest
    ]

pub shown_kept : (D : List (OpId × OpId)) (W : List Insert) → ((e : Insert) → In e W → is_removed D e.id ≡ false) → visible_of D W ≡ W
shown_kept D [] kept = refl
shown_kept D (e ∷ W) kept =
    ap (λ b. cond (not b) (e ∷ visible_of D W) (visible_of D W)) (kept e (inl refl))
    ∙ ap (λ M. e ∷ M) (shown_kept D W (λ f i. kept f (inr i)))

shown_gone : (D : List (OpId × OpId)) (W : List Insert) → ((e : Insert) → In e W → is_removed D e.id ≡ true) → visible_of D W ≡ []
shown_gone D [] gone = refl
shown_gone D (e ∷ W) gone =
    ap (λ b. cond (not b) (e ∷ visible_of D W) (visible_of D W)) (gone e (inl refl))
    ∙ shown_gone D W (λ f i. gone f (inr i))

-- ---- the deletes of an edit

-- what deletes of these elements, from the counter n on, name
abbrev pub named_from : Actor → ℕ → List OpId → List (OpId × OpId)
named_from a n xs = deletes_in (ops_from a n (deletes_of xs))

pub named_from-target : (a : Actor) (n : ℕ) (xs : List OpId) (r : OpId × OpId) → In r (named_from a n xs) → In r.0 xs
named_from-target a n [] r i = absurd i
named_from-target a n (x ∷ xs) r (inl i) = inl (ap (λ (w : OpId × OpId). w.0) i)
named_from-target a n (x ∷ xs) r (inr i) = inr (named_from-target a (n + 1) xs r i)

named_from-removes : (a : Actor) (n : ℕ) (xs : List OpId) (y : OpId) → In y xs → is_removed (named_from a n xs) y ≡ true
named_from-removes a n [] y i = absurd i
named_from-removes a n (x ∷ xs) y (inl i) =
    ap (λ b. b || is_removed (named_from a (n + 1) xs) y) (ap (λ w. id_eq x w) i ∙ id_eq-itself x)
named_from-removes a n (x ∷ xs) y (inr i) =
    let rest = named_from-removes a (n + 1) xs y i in
    elim (id_eq x y) as (λ b. (b || is_removed (named_from a (n + 1) xs) y) ≡ true) [ true ↦ refl | false ↦ rest ]

named_from-leaves : (a : Actor) (n : ℕ) (xs : List OpId) (y : OpId) → ((x : OpId) → In x xs → id_eq x y ≡ false) → is_removed (named_from a n xs) y ≡ false
named_from-leaves a n [] y apart = refl
named_from-leaves a n (x ∷ xs) y apart =
    ap (λ b. b || is_removed (named_from a (n + 1) xs) y) (apart x (inl refl))
    ∙ named_from-leaves a (n + 1) xs y (λ z i. apart z (inr i))

-- ---- elements with different identifiers

pub IdsApart-filter : (p : Insert → Bool) (L : List Insert) → IdsApart L → IdsApart (filter p L)
IdsApart-filter p [] h = tt
IdsApart-filter p (e ∷ L) h =
    let rest = IdsApart-filter p L h.1 in
    let head : IsNew (filter p L) e.id = (λ f i. h.0 f (In-filter p L f i).0) in
    elim (p e) as (λ b. IdsApart (cond b (e ∷ filter p L) (filter p L))) [ true ↦ (head, rest) | false ↦ rest ]

IdsApart-back : (A B : List Insert) → IdsApart (A ++ B) → IdsApart B
IdsApart-back [] B h = h
IdsApart-back (e ∷ A) B h = IdsApart-back A B h.1

IdsApart-across : (A B : List Insert) → IdsApart (A ++ B) → (e f : Insert) → In e A → In f B → id_eq f.id e.id ≡ false
IdsApart-across [] B h e f i j = absurd i
IdsApart-across (d ∷ A) B h e f (inl i) j = ap (λ (w : Insert). id_eq f.id w.id) i ∙ h.0 f (In-right f A B j)
IdsApart-across (d ∷ A) B h e f (inr i) j = IdsApart-across A B h.1 e f i j

In-ids : (X : List Insert) (x : OpId) → In x (ids_of X) → (e : Insert) × In e X × (x ≡ e.id)
In-ids [] x i = absurd i
In-ids (e ∷ X) x (inl i) = (e, inl refl, i)
In-ids (e ∷ X) x (inr i) = let rest = In-ids X x i in (rest.0, inr rest.1, rest.2)

ids-In : (X : List Insert) (e : Insert) → In e X → In e.id (ids_of X)
ids-In [] e i = absurd i
ids-In (f ∷ X) e (inl i) = inl (ap (λ (w : Insert). w.id) i)
ids-In (f ∷ X) e (inr i) = inr (ids-In X e i)

-- a delete of each element of X leaves what is before X and after it
pub shown_cut : (a : Actor) (n : ℕ) (A X B : List Insert) → IdsApart (A ++ (X ++ B)) → visible_of (named_from a n (ids_of X)) (A ++ (X ++ B)) ≡ A ++ B
shown_cut a n A X B apart =
    let D = named_from a n (ids_of X) in
    let keep = λ (e : Insert). not (is_removed D e.id) in
    let prefix : visible_of D A ≡ A = shown_kept D A (λ e i. named_from-leaves a n (ids_of X) e.id (λ x j.
    let f = In-ids X x j in
    ap (λ w. id_eq w e.id) f.2 ∙ IdsApart-across A (X ++ B) apart e f.0 i (In-left f.0 X B f.1))) in
    let middle : visible_of D X ≡ [] = shown_gone D X (λ e i. named_from-removes a n (ids_of X) e.id (ids-In X e i)) in
    let back : visible_of D B ≡ B = shown_kept D B (λ e i. named_from-leaves a n (ids_of X) e.id (λ x j.
    let f = In-ids X x j in
    ap (λ w. id_eq w e.id) f.2 ∙ id_eq-flip e.id f.0.id (IdsApart-across X B (IdsApart-back A (X ++ B) apart) f.0 e f.1 i))) in
    filter-append keep A (X ++ B) ∙ ap (λ M. visible_of D A ++ M) (filter-append keep X B)
    ∙ ap (λ M. M ++ (visible_of D X ++ visible_of D B)) prefix ∙ ap (λ M. A ++ (M ++ visible_of D B)) middle ∙ ap (λ M. A ++ M) back

-- ---- where the last visible element of a prefix is

-- a list is empty or has a last element
snoc_cases : {X : Type 0} (xs : List X) → (xs ≡ []) ⊎ ((ys : List X) × (x : X) × (xs ≡ ys ++ x ∷ []))
snoc_cases [] = inl refl
snoc_cases (x ∷ xs) = elim (snoc_cases xs) [
  | inl none ↦ inr ([], x, ap (λ l. x ∷ l) none)
  | inr last ↦ inr (x ∷ last.0, last.1, ap (λ l. x ∷ l) last.2)
]

abbrev Parts : (p : Insert → Bool) (L A : List Insert) (f : Insert) (B : List Insert) → Type 0
Parts p L A f B = (F : List Insert) × (G : List Insert) × (L ≡ (F ++ f ∷ []) ++ G) × (filter p (F ++ f ∷ []) ≡ A ++ f ∷ []) × (filter p G ≡ B)

split_filter : (p : Insert → Bool) (L A : List Insert) (f : Insert) (B : List Insert) → filter p L ≡ (A ++ f ∷ []) ++ B → Parts p L A f B
split_filter p [] [] f B e = cc
split_filter p [] (w ∷ A) f B e = cc
split_filter p (e ∷ L) [] f B h =
    elim (p e) as (λ b. p e ≡ b → cond b (e ∷ filter p L) (filter p L) ≡ f ∷ B → Parts p (e ∷ L) [] f B) [
      | true ↦ λ is g.
          let first : e ≡ f = cc in
          let rest : filter p L ≡ B = cc in
          ([], L, ap (λ x. x ∷ L) first, ap (λ b. cond b (f ∷ []) []) (ap p (sym first) ∙ is), rest)
      | false ↦ λ is g.
          let r = split_filter p L [] f B g in
          (e ∷ r.0, r.1, ap (λ l. e ∷ l) r.2, ap (λ b. cond b (e ∷ filter p (r.0 ++ f ∷ [])) (filter p (r.0 ++ f ∷ []))) is ∙ r.3, r.4)
    ] refl h
split_filter p (e ∷ L) (w ∷ A) f B h =
    elim (p e) as (λ b. p e ≡ b → cond b (e ∷ filter p L) (filter p L) ≡ w ∷ ((A ++ f ∷ []) ++ B) → Parts p (e ∷ L) (w ∷ A) f B) [
      | true ↦ λ is g.
          let first : e ≡ w = cc in
          let rest : filter p L ≡ (A ++ f ∷ []) ++ B = cc in
          let r = split_filter p L A f B rest in
          (e ∷ r.0, r.1, ap (λ l. e ∷ l) r.2, ap (λ b. cond b (e ∷ filter p (r.0 ++ f ∷ [])) (filter p (r.0 ++ f ∷ []))) is ∙ ap (λ l. e ∷ l) r.3 ∙ ap (λ x. x ∷ (A ++ f ∷ [])) first, r.4)
      | false ↦ λ is g.
          let r = split_filter p L (w ∷ A) f B g in
          (e ∷ r.0, r.1, ap (λ l. e ∷ l) r.2, ap (λ b. cond b (e ∷ filter p (r.0 ++ f ∷ [])) (filter p (r.0 ++ f ∷ []))) is ∙ r.3, r.4)
    ] refl h

after_last-snoc : (p : Place) (A : List Insert) (f : Insert) → after_last p (ids_of (A ++ f ∷ [])) ≡ After f.id
after_last-snoc p [] f = refl
after_last-snoc p (e ∷ A) f = after_last-snoc (After e.id) A f

-- Where the visible elements are A and then B, all elements are F and then G: F ends with the last of A and shows A,
-- and G shows B.
pub split_shown : (R : List (OpId × OpId)) (L A B : List Insert) → visible_of R L ≡ A ++ B → (F : List Insert) × (G : List Insert) × (L ≡ F ++ G) × (visible_of R F ≡ A) × (visible_of R G ≡ B) × EndsAt F (after_last Start (ids_of A))
split_shown R L A B e = elim (snoc_cases A) [
  | inl none ↦ ([], L, refl, sym none, e ∙ ap (λ M. M ++ B) none, subst (λ M. EndsAt [] (after_last Start (ids_of M))) (sym none) refl)
  | inr last ↦
      let keep = λ (x : Insert). not (is_removed R x.id) in
      let r = split_filter keep L last.0 last.1 B (e ∙ ap (λ M. M ++ B) last.2) in
      let ends : EndsAt (r.0 ++ last.1 ∷ []) (After last.1.id) = (r.0, last.1, refl, refl) in (
        r.0 ++ last.1 ∷ [],
        r.1,
        r.2,
        r.3 ∙ sym last.2,
        r.4,
        subst (EndsAt (r.0 ++ last.1 ∷ [])) (sym (ap (λ M. after_last Start (ids_of M)) last.2 ∙ after_last-snoc Start last.0 last.1)) ends,
      )
]
