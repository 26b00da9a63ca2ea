-- The inserts of a text as a tree: each element is placed after the start or after an element with a smaller identifier
-- (RGA, Roh and others 2011; the timestamped insertion tree of Attiya and others, PODC 2016). All of it depends on
-- the inserts as a set.
use Rattle.std.specs.Prelude.{◌≡◌, ℕ, false, List, [], ◌∷◌}
use Rattle.tp_list.specs.Members.{In}
use Rattle.tp_opid.specs.declared.op_id.OpId.{OpId}
use Rattle.tp_opid.specs.declared.op_id.Place.{Place}
use Rattle.tp_opid.specs.declared.op_id.Place.TheVariants.{Start, After}
use Rattle.tp_opid.specs.Insert.{Insert}
use Rattle.tp_opid.specs.Order.{Below}
use Rattle.tp_opid.specs.Same.{id_eq}

-- S inserts the element x directly after the reference p.
abbrev pub Inserts : List Insert → OpId → Place → Type 0
Inserts S x p = (ch : ℕ) × In (record { id = x; after = p; ch = ch }) S

-- Some element of S has the identifier x.
abbrev pub IsThere : List Insert → OpId → Type 0
IsThere S x = (p : Place) × Inserts S x p

-- No element of S has the identifier x.
abbrev pub IsNew : List Insert → OpId → Type 0
IsNew S x = (e : Insert) → In e S → id_eq e.id x ≡ false

-- No two elements of L have one identifier.
abbrev pub IdsApart : List Insert → Type 0
IdsApart [] = Unit {0}
IdsApart (e ∷ L) = IsNew L e.id × IdsApart L

-- x is above every identifier of S.
abbrev pub IsAboveAll : List Insert → OpId → Type 0
IsAboveAll S x = (e : Insert) → In e S → Below e.id x

-- The reference p is the start, or an element of S.
abbrev pub HasReference : List Insert → Place → Type 0
HasReference S Start = Unit {0}
HasReference S (After r) = IsThere S r

-- The reference p is the start, or an element of S with an identifier below x.
abbrev pub IsReferenceBelow : List Insert → OpId → Place → Type 0
IsReferenceBelow S x Start = Unit {0}
IsReferenceBelow S x (After r) = IsThere S r × Below r x

-- S is a tree: no identifier is that of two elements, and each element is placed after the start or an earlier element.
pub record IsTree (S : List Insert) : Type 0 where
  pub once : (a b : Insert) → In a S → In b S → a.id ≡ b.id → a ≡ b
  pub placed : (e : Insert) → In e S → IsReferenceBelow S e.id e.after

-- S can take an insert of x after p: the identifier is new, and the reference is there and smaller.
pub record CanInsert (S : List Insert) (x : OpId) (p : Place) : Type 0 where
  pub new : IsNew S x
  pub place : IsReferenceBelow S x p
