-- On which text a text that was read is made a change.
use Rattle.std.proofs.Common.{◌≡◌, ◌<◌, ◌≤◌, ℕ, List, [], Option, Some, None, Result, Ok, Err, IfOk, IfSome, slice_get, inl, inr, sym, subst, ap, ◌∙◌, true}
use Rattle.tp_list.specs.Members.{In}
use Rattle.tp_list.proofs.Members.{In-slice_get}
use Rattle.tp_mirror.specs.declared.base.Base.{Base}
use Rattle.tp_mirror.specs.declared.base.Nearest.{Nearest}
use Rattle.tp_mirror.specs.declared.error.MirrorError.{MirrorError}
use Rattle.tp_mirror.specs.declared.known.Digest.{Digest}
use Rattle.tp_mirror.specs.declared.known.Known.{Known}
use Rattle.tp_mirror.specs.declared.known.TextAt.{TextAt}
use Rattle.tp_mirror.specs.declared.state.Moved.{Moved}
use Rattle.tp_mirror.specs.declared.state.Name.{Name}
use Rattle.tp_mirror.specs.declared.state.State.{State}
use Rattle.tp_mirror.specs.declared.workspace.Source.{Source}
use Rattle.tp_mirror.specs.declared.workspace.Source.TheVariants.{Note, Away}
use Rattle.tp_mirror.specs.Basing.{Counts, IsBase, IsBaseAt, IsEmptyBase, IsNearestAt, MayBase, MayBaseMoved}
use Rattle.tp_mirror.specs.Mirroring.{MirrorView, IsKept}
use Rattle.tp_mirror.proofs.Places.{earlier_nearer, empty_base, note_base, own_alone, own_generation, own_nearest}

some_is : {X : Type 0} (x y : X) → (let o : Option X = Some x in o) ≡ Some y → x ≡ y
some_is x y e = cc

ok_map : {P Q : Base → Type 0} (r : Result Base MirrorError) → ((b : Base) → P b → Q b) → IfOk r P → IfOk r Q
ok_map (Ok b) f p = f b p
ok_map (Err e) f p = p

-- ---- what a search found

near_of : (IsFar : TextAt → Digest → ℕ → Type 0) (own : Option ℕ) (l texts : List Known) (digest : Digest) (found : Option Nearest) (near : Nearest) → l ≡ texts → found ≡ Some near
    → IfSome found (λ n. IsNearestAt IsFar own l digest n) → IsNearestAt IsFar own texts digest near
near_of IsFar own l texts digest found near same is h =
    let some : IsNearestAt IsFar own l digest near = subst (λ (o : Option Nearest). IfSome o (λ n. IsNearestAt IsFar own l digest n)) is h in
    subst (λ (x : List Known). IsNearestAt IsFar own x digest near) same some

-- ---- of NOTE

pub base-empty : (IsFar : TextAt → Digest → ℕ → Type 0) (s : State) (l : List Known) (digest : Digest) (found : Option Nearest) (near : Nearest) (base : TextAt) (d : ℕ) → l ≡ s.texts → found ≡ Some near
    → IfSome found (λ n. IsNearestAt IsFar None l digest n) → s.is_away ≡ true → base.heads ≡ [] → IsFar base digest d → d < near.distance → MayBase IsFar s Note digest base
base-empty IsFar s l digest found near base d same is h away none far lt =
    inr (away, empty_base IsFar s.texts digest near base d (near_of IsFar None l s.texts digest found near same is h) none far lt)

pub base-note : (IsFar : TextAt → Digest → ℕ → Type 0) (s : State) (l : List Known) (digest : Digest) (distance generation : ℕ) (r : Result Base MirrorError) → l ≡ s.texts
    → IfOk r (λ base. IsBaseAt IsFar None l digest distance generation base.text) → IfOk r (λ base. MayBase IsFar s Note digest base.text)
base-note IsFar s l digest distance generation r same h =
    ok_map r (λ base b. inl (note_base IsFar s.texts digest distance generation base.text (subst (λ (x : List Known). IsBaseAt IsFar None x digest distance generation base.text) same b))) h

-- ---- of a file that was moved away, the one at the place

abbrev pub IsOfMoved : (TextAt → Digest → ℕ → Type 0) → State → ℕ → Digest → TextAt → Type 0
IsOfMoved IsFar s at digest base = (m : Moved) × (slice_get s.moved at ≡ Some m) × MayBaseMoved IsFar s.texts m.known digest base

pub moved-alone : (IsFar : TextAt → Digest → ℕ → Type 0) (s : State) (l : List Known) (at : ℕ) (m k : Moved) (digest : Digest) (d : ℕ) (found : Option Nearest) (r : Result Base MirrorError)
    → slice_get s.moved at ≡ Some k → k ≡ m → l ≡ s.texts → found ≡ None → (found ≡ None → (x : Known) → In x l → Counts (Some m.known.generation) x.generation → ⊥) → IsFar m.known.text digest d
    → IfOk r (λ base. base.text ≡ m.known.text) → IfOk r (λ base. IsOfMoved IsFar s at digest base.text)
moved-alone IsFar s l at m k digest d found r place one same is none far h =
    ok_map r (λ base e. (
      m,
      subst (λ (x : Moved). slice_get s.moved at ≡ Some x) one place,
      own_alone IsFar s.texts m.known digest d base.text e far (subst (λ (y : List Known). (x : Known) → In x y → Counts (Some m.known.generation) x.generation → ⊥) same (none is)),
    )) h

pub moved-own : (IsFar : TextAt → Digest → ℕ → Type 0) (s : State) (l : List Known) (at : ℕ) (m k : Moved) (digest : Digest) (d : ℕ) (found : Option Nearest) (near : Nearest) (r : Result Base MirrorError)
    → slice_get s.moved at ≡ Some k → k ≡ m → l ≡ s.texts → found ≡ Some near → IfSome found (λ n. IsNearestAt IsFar (Some m.known.generation) l digest n) → IsFar m.known.text digest d
    → near.generation ≡ m.known.generation → IfOk r (λ base. base.text ≡ m.known.text) → IfOk r (λ base. IsOfMoved IsFar s at digest base.text)
moved-own IsFar s l at m k digest d found near r place one same is n far own h =
    ok_map r (λ base e. (
      m,
      subst (λ (x : Moved). slice_get s.moved at ≡ Some x) one place,
      own_generation IsFar s.texts m.known digest d base.text near e far (near_of IsFar (Some m.known.generation) l s.texts digest found near same is n) own,
    )) h

pub moved-nearest : (IsFar : TextAt → Digest → ℕ → Type 0) (s : State) (l : List Known) (at : ℕ) (m k : Moved) (digest : Digest) (d : ℕ) (found : Option Nearest) (near : Nearest) (r : Result Base MirrorError)
    → slice_get s.moved at ≡ Some k → k ≡ m → l ≡ s.texts → found ≡ Some near → IfSome found (λ n. IsNearestAt IsFar (Some m.known.generation) l digest n) → IsFar m.known.text digest d
    → d ≤ near.distance → IfOk r (λ base. base.text ≡ m.known.text) → IfOk r (λ base. IsOfMoved IsFar s at digest base.text)
moved-nearest IsFar s l at m k digest d found near r place one same is n far le h =
    ok_map r (λ base e. (
      m,
      subst (λ (x : Moved). slice_get s.moved at ≡ Some x) one place,
      own_nearest IsFar s.texts m.known digest d base.text near e far (near_of IsFar (Some m.known.generation) l s.texts digest found near same is n) le,
    )) h

pub moved-earlier : (IsFar : TextAt → Digest → ℕ → Type 0) (s : State) (l : List Known) (at : ℕ) (m k : Moved) (digest : Digest) (d distance generation : ℕ) (r : Result Base MirrorError)
    → slice_get s.moved at ≡ Some k → k ≡ m → l ≡ s.texts → IsFar m.known.text digest d → (generation ≡ m.known.generation → ⊥) → distance < d
    → IfOk r (λ base. IsBaseAt IsFar (Some m.known.generation) l digest distance generation base.text) → IfOk r (λ base. IsOfMoved IsFar s at digest base.text)
moved-earlier IsFar s l at m k digest d distance generation r place one same far other lt h =
    ok_map r (λ base b. (
      m,
      subst (λ (x : Moved). slice_get s.moved at ≡ Some x) one place,
      earlier_nearer IsFar s.texts m.known digest d distance generation base.text far other lt (subst (λ (x : List Known). IsBaseAt IsFar (Some m.known.generation) x digest distance generation base.text) same b),
    )) h

-- of the file under the name
pub base-moved : (IsFar : TextAt → Digest → ℕ → Type 0) (s : State) (l : List Moved) (at : ℕ) (source : Source) (name : Name) (digest : Digest) (r : Result Base MirrorError) → source ≡ Away name → l ≡ s.moved
    → (m : Moved) × (slice_get l at ≡ Some m) × (m.name ≡ name) → IfOk r (λ base. IsOfMoved IsFar s at digest base.text) → IfOk r (λ base. MayBase IsFar s source digest base.text)
base-moved IsFar s l at source name digest r away same (m, place, is) h =
    let there : slice_get s.moved at ≡ Some m = subst (λ (x : List Moved). slice_get x at ≡ Some m) same place in
    rw away (ok_map r (λ base (n, at-n, b). let one : m ≡ n = some_is m n (sym there ∙ at-n) in
    (n, In-slice_get s.moved at n at-n, subst (λ (x : Moved). x.name ≡ name) one is, b)) h)

-- ---- in a state that names another author

same_base : (IsFar : TextAt → Digest → ℕ → Type 0) (s n : State) (source : Source) (digest : Digest) (base : TextAt) → n.texts ≡ s.texts → n.moved ≡ s.moved → n.is_away ≡ s.is_away
    → MayBase IsFar s source digest base → MayBase IsFar n source digest base
same_base IsFar s n Note digest base texts moved away (inl b) = inl (subst (λ (l : List Known). IsBase IsFar l digest base) (sym texts) b)
same_base IsFar s n Note digest base texts moved away (inr (a, b)) = inr (away ∙ a, subst (λ (l : List Known). IsEmptyBase IsFar l digest base) (sym texts) b)
same_base IsFar s n (Away name) digest base texts moved away (m, c, is, b) =
    (m, subst (λ (l : List Moved). In m l) (sym moved) c, is, subst (λ (l : List Known). MayBaseMoved IsFar l m.known digest base) (sym texts) b)

pub named-base : (IsFar : TextAt → Digest → ℕ → Type 0) (v : MirrorView) (s n o : State) (source : Source) (digest : Digest) (base : TextAt) → IsKept v n None → n ≡ record s { author = n.author }
    → MayBase IsFar s source digest base → v.saved ≡ Some o → MayBase IsFar o source digest base
named-base IsFar v s n o source digest base kept others b saved =
    let one : n ≡ o = some_is n o (sym kept.saved ∙ saved) in
    subst (λ (x : State). MayBase IsFar x source digest base) one
    (same_base IsFar s n source digest base (ap (λ (x : State). x.texts) others) (ap (λ (x : State). x.moved) others) (ap (λ (x : State). x.is_away) others) b)
