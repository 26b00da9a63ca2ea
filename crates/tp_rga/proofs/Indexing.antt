-- Where a walk finds an element.
use Rattle.std.proofs.Common.{◌≡◌, ℕ, suc, ◌+◌, ◌<◌, Bool, true, false, cond, Option, Some, None, List, ◌∷◌, length, drop, get_or, refl, sym, ap, ◌∙◌, arith, drop-cons}
use Rattle.std.specs.Prelude.{slice_get}
use Rattle.std.specs.Option.{option_map}
use Rattle.std.proofs.lemmas.List.{drop_all}
use Rattle.tp_opid.specs.declared.op_id.OpId.{OpId}
use Rattle.tp_opid.specs.Insert.{Insert}
use Rattle.tp_opid.specs.Same.{id_eq}
use Rattle.tp_rga.specs.declared.walk.Seen.{Seen}
use Rattle.tp_rga.specs.Shown.{seen_of, index_in}
use Rattle.tp_rga.proofs.Lookups.{position-cons}
use Rattle.tp_rga.proofs.Walking.{seen_at, seen_end}

-- an element, and those that are left after it
pub left_from : (L : List Insert) (k : ℕ) (e : Insert) → k < length L → get_or L k e ≡ e → drop k L ≡ e ∷ drop (k + 1) L
left_from L k e lt is =
    let next : suc k ≡ k + 1 = omega arith in
    drop-cons L k e lt ∙ ap (λ x. x ∷ drop (suc k) L) is ∙ ap (λ n. e ∷ drop n L) next

index_next : (L : List Insert) (k : ℕ) (R : List (OpId × OpId)) (x : Seen) (id : OpId) (b : Bool) → Some x ≡ option_map (seen_of R) (slice_get L k) → id_eq x.id id ≡ b
    → index_in (drop k L) id ≡ cond b (Some 0) (option_map (λ i. suc i) (index_in (drop (k + 1) L) id))
index_next L k R x id b h t =
    let p = seen_at R L k x h in
    let same : id_eq p.0.id id ≡ b = ap (λ (y : Seen). id_eq y.id id) (sym p.3) ∙ t in
    ap (λ l. index_in l id) (left_from L k p.0 p.1 p.2)
    ∙ position-cons (λ (e : Insert). id_eq e.id id) p.0 (drop (k + 1) L)
    ∙ ap (λ c. cond c (Some 0) (option_map (λ i. suc i) (index_in (drop (k + 1) L) id))) same

-- the element itself
pub index_here : (L : List Insert) (k : ℕ) (R : List (OpId × OpId)) (x : Seen) (id : OpId) → Some x ≡ option_map (seen_of R) (slice_get L k) → id_eq x.id id ≡ true
    → option_map (λ n. k + n) (index_in (drop k L) id) ≡ index_in L id → Some k ≡ index_in L id
index_here L k R x id h t inv = ap Some (omega arith) ∙ sym (ap (option_map (λ n. k + n)) (index_next L k R x id true h t)) ∙ inv

-- another element
pub index_later : (L : List Insert) (k : ℕ) (R : List (OpId × OpId)) (x : Seen) (id : OpId) → Some x ≡ option_map (seen_of R) (slice_get L k) → id_eq x.id id ≡ false
    → option_map (λ n. k + n) (index_in (drop k L) id) ≡ index_in L id → option_map (λ n. k + 1 + n) (index_in (drop (k + 1) L) id) ≡ index_in L id
index_later L k R x id h t inv =
    both (index_in (drop (k + 1) L) id) ∙ sym (ap (option_map (λ n. k + n)) (index_next L k R x id false h t)) ∙ inv where
      both : (o : Option ℕ) → option_map (λ n. k + 1 + n) o ≡ option_map (λ n. k + n) (option_map (λ i. suc i) o)
      both None = refl
      both (Some i) = ap Some (omega arith)

-- none is left
pub index_end : (L : List Insert) (k : ℕ) (R : List (OpId × OpId)) (id : OpId) → None ≡ option_map (seen_of R) (slice_get L k)
    → option_map (λ n. k + n) (index_in (drop k L) id) ≡ index_in L id → None ≡ index_in L id
index_end L k R id end inv = sym (ap (λ l. option_map (λ n. k + n) (index_in l id)) (drop_all k L (seen_end R L k end))) ∙ inv
