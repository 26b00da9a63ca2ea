-- On which text a text that was read is made a change.
use Rattle.std.specs.Prelude.{◌≡◌, ◌⊎◌, ◌+◌, ◌≤◌, ℕ, true, List, [], ◌∷◌, ◌++◌, Option, Some, None, slice_get}
use Rattle.tp_list.specs.Members.{In}
use Rattle.tp_mirror.specs.declared.base.Nearest.{Nearest}
use Rattle.tp_mirror.specs.declared.known.Digest.{Digest}
use Rattle.tp_mirror.specs.declared.known.Known.{Known}
use Rattle.tp_mirror.specs.declared.known.TextAt.{TextAt}
use Rattle.tp_mirror.specs.declared.state.Moved.{Moved}
use Rattle.tp_mirror.specs.declared.state.State.{State}
use Rattle.tp_mirror.specs.declared.workspace.Source.{Source}
use Rattle.tp_mirror.specs.declared.workspace.Source.TheVariants.{Note, Away}

-- No text after this one is of its generation.
pub record IsLast (texts : List Known) (k : Known) : Type 0 where
  pub before : List Known
  pub after : List Known
  pub place : texts ≡ before ++ k ∷ after
  pub last : (other : Known) → In other after → other.generation ≡ k.generation → ⊥

-- by its place
pub record IsLastAt (texts : List Known) (number at : ℕ) : Type 0 where
  pub known : Known
  pub place : slice_get texts at ≡ Some known
  pub generation : known.generation ≡ number
  pub is_last : IsLast texts known

-- The text was found to be at least so far from the one that was read; IsFar says what was found.
unfoldable pub IsAsFar : (TextAt → Digest → ℕ → Type 0) → TextAt → Digest → ℕ → Type 0
IsAsFar IsFar t digest n = (m : ℕ) × IsFar t digest m × (n ≤ m)

-- Whether a text of the generation counts: of a file that was moved away those don't that came later.
abbrev pub Counts : Option ℕ → ℕ → Type 0
Counts None generation = Unit {0}
Counts (Some own) generation = generation ≤ own

-- All texts that count were found to be so far from the one that was read.
unfoldable pub AreAsFar : (TextAt → Digest → ℕ → Type 0) → Option ℕ → List Known → Digest → ℕ → Type 0
AreAsFar IsFar own texts digest n = (other : Known) → In other texts → Counts own other.generation → IsAsFar IsFar other.text digest n

-- what was found: the place of the nearest, its generation, and how far it is
pub record IsNearestAt (IsFar : TextAt → Digest → ℕ → Type 0) (own : Option ℕ) (texts : List Known) (digest : Digest) (n : Nearest) : Type 0 where
  pub known : Known
  pub place : slice_get texts n.at ≡ Some known
  pub generation : known.generation ≡ n.generation
  pub counts : Counts own n.generation
  pub distance : IsFar known.text digest n.distance
  pub least : AreAsFar IsFar own texts digest n.distance

-- The base is the last text of the generation of the nearest one, which is so far.
pub record IsBaseAt (IsFar : TextAt → Digest → ℕ → Type 0) (own : Option ℕ) (texts : List Known) (digest : Digest) (distance generation : ℕ) (base : TextAt) : Type 0 where
  pub nearest : Known
  pub is_there : In nearest texts
  pub is_of : nearest.generation ≡ generation
  pub counts : Counts own generation
  pub is_far : IsFar nearest.text digest distance
  pub least : AreAsFar IsFar own texts digest distance
  pub known : Known
  pub is_last : IsLast texts known
  pub is_known_of : known.generation ≡ generation
  pub text : known.text ≡ base

-- wherever that one is
unfoldable pub IsBase : (TextAt → Digest → ℕ → Type 0) → List Known → Digest → TextAt → Type 0
IsBase IsFar texts digest base = (distance : ℕ) × (generation : ℕ) × IsBaseAt IsFar None texts digest distance generation base

-- The base is the empty text, at no heads, and is nearer than all.
pub record IsEmptyBase (IsFar : TextAt → Digest → ℕ → Type 0) (texts : List Known) (digest : Digest) (base : TextAt) : Type 0 where
  pub heads : base.heads ≡ []
  pub distance : ℕ
  pub is_far : IsFar base digest distance
  pub nearer : AreAsFar IsFar None texts digest (distance + 1)

-- The base is the text that was read of the file last: no text that counts is nearer, or the nearest is of its generation.
pub record IsOwnBase (IsFar : TextAt → Digest → ℕ → Type 0) (texts : List Known) (own : Known) (digest : Digest) (base : TextAt) : Type 0 where
  pub text : own.text ≡ base
  pub distance : ℕ
  pub is_far : IsFar own.text digest distance
  pub near : AreAsFar IsFar (Some own.generation) texts digest distance ⊎ ((n : Nearest) × IsNearestAt IsFar (Some own.generation) texts digest n × (n.generation ≡ own.generation))

-- The base is of an earlier generation: the nearest of those that count is, and is nearer than the text that was read of the file last.
pub record IsEarlierBase (IsFar : TextAt → Digest → ℕ → Type 0) (texts : List Known) (own : Known) (digest : Digest) (base : TextAt) : Type 0 where
  pub distance : ℕ
  pub generation : ℕ
  pub other : generation ≡ own.generation → ⊥
  pub is_base : IsBaseAt IsFar (Some own.generation) texts digest distance generation base
  pub farther : IsAsFar IsFar own.text digest (distance + 1)

-- of a file that was moved away, of which this was read last
abbrev pub MayBaseMoved : (TextAt → Digest → ℕ → Type 0) → List Known → Known → Digest → TextAt → Type 0
MayBaseMoved IsFar texts own digest base = IsOwnBase IsFar texts own digest base ⊎ IsEarlierBase IsFar texts own digest base

-- The text that was read may be made a change on the base. One of NOTE: on the last one of the generation that has the nearest text,
-- or, where NOTE was away, on nothing. One of a file that was moved away: on what was read there last, or on an earlier text.
abbrev pub MayBase : (TextAt → Digest → ℕ → Type 0) → State → Source → Digest → TextAt → Type 0
MayBase IsFar s Note digest base = IsBase IsFar s.texts digest base ⊎ ((s.is_away ≡ true) × IsEmptyBase IsFar s.texts digest base)
MayBase IsFar s (Away name) digest base = (m : Moved) × In m s.moved × (m.name ≡ name) × MayBaseMoved IsFar s.texts m.known digest base
