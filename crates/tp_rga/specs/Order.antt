-- The order of the elements of a text, as RGA has it (Roh and others 2011): among the inserts after one element the
-- greater identifier is nearer to it, with all that hangs on it. It is a total order on the elements of a set,
-- and the same in each larger set, as the strong list specification asks (Attiya and others, PODC 2016).
use Rattle.std.specs.Prelude.{◌≡◌, ℕ, ◌≤◌, ◌⊎◌, List, [], ◌∷◌, ◌++◌, length, insert, if◌then◌else◌}
use Rattle.tp_list.specs.Members.{In, SameMembers}
use Rattle.tp_list.specs.Traces.{Trace}
use Rattle.tp_opid.specs.declared.op_id.OpId.{OpId}
use Rattle.tp_opid.specs.declared.op_id.Place.{Place}
use Rattle.tp_opid.specs.declared.op_id.Place.TheVariants.{Start, After}
use Rattle.tp_opid.specs.Insert.{Insert}
use Rattle.tp_opid.specs.Order.{Below}
use Rattle.tp_opid.specs.Same.{id_eq}
use Rattle.tp_opid.specs.Tree.{Inserts, IsTree}

-- S inserts x after the reference p, and q is the reference that names x.
abbrev pub Descends : List Insert → Place → OpId → Place → Type 0
Descends S p x q = Inserts S x p × (q ≡ After x)

-- The identifiers from the one that is placed after the start, along references, to x.
abbrev pub IsChain : List Insert → OpId → List OpId → Type 0
IsChain S x c = Trace (Descends S) Start c (After x)

-- c is a proper beginning of d, or at the first difference c has the greater identifier.
abbrev pub Precedes : List OpId → List OpId → Type 0
Precedes c [] = ⊥
Precedes [] (b ∷ d) = Unit {0}
Precedes (a ∷ c) (b ∷ d) = Below b a ⊎ ((a ≡ b) × Precedes c d)

-- In the text that S inserts, x is before y: the chain of x precedes that of y.
abbrev pub Before : List Insert → OpId → OpId → Type 0
Before S x y = (c : List OpId) × (d : List OpId) × IsChain S x c × IsChain S y d × Precedes c d

-- In the text that S inserts, each element of L is before all that follow it in L.
abbrev pub IsSortedIn : List Insert → List Insert → Type 0
IsSortedIn S [] = Unit {0}
IsSortedIn S (a ∷ L) = ((b : Insert) → In b L → Before S a.id b.id) × IsSortedIn S L

-- F is a prefix of a list up to the element that the reference p names; up to the start it is empty.
abbrev pub EndsAt : List Insert → Place → Type 0
EndsAt F Start = F ≡ []
EndsAt F (After r) = (A : List Insert) × (f : Insert) × (F ≡ A ++ f ∷ []) × (f.id ≡ r)

-- L has the elements of S and no others, in the order of the text.
pub record IsInOrder (S L : List Insert) : Type 0 where
  pub same : SameMembers S L
  pub sorted : IsSortedIn S L

-- L with x put in directly after the reference p.
abbrev pub insert_after : Place → Insert → List Insert → List Insert
insert_after Start x L = x ∷ L
insert_after (After r) x [] = x ∷ []
insert_after (After r) x (e ∷ L) = if id_eq e.id r then e ∷ x ∷ L else e ∷ insert_after (After r) x L

-- The new list is the old one with x put in somewhere, and where the old one was in order for a tree, the new one
-- is in order for that tree with x.
pub record IsInserted (old new : List Insert) (x : Insert) : Type 0 where
  pub put : (i : ℕ) × (i ≤ length old) × (new ≡ insert old i x)
  pub order : (S : List Insert) → IsTree S → IsInOrder S old → IsInOrder (S ++ x ∷ []) new
