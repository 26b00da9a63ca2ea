-- Receiving changes in any order, as a relation between applied lists.
use Rattle.std.specs.Prelude.{◌≡◌, ℕ, List, [], ◌∷◌, ◌++◌, Bool, true, false, Option, Some, None, IsSome, if◌then◌else◌, IsTrue}
use Rattle.tp_receive.specs.Common.{slice_get, remove, In, AllIn, Hash, ChangeParts, hash_of, GraphError, MissingDeps, cause, Sound, DocId, Known, BadSeq, BadStart, BadReference, SeqClash, UnknownHead, Full, OutOfMemory, among}

-- The changes enter after `before`, one by one: none has a cause at its turn.
abbrev pub EntersAfter : List ChangeParts → List ChangeParts → Type 0
EntersAfter before [] = Unit {0}
EntersAfter before (c ∷ new) = (cause before c ≡ None) × EntersAfter (before ++ c ∷ []) new

-- The list `long` begins with C.
abbrev pub IsPrefixOf : List ChangeParts → List ChangeParts → Type 0
IsPrefixOf C long = (new : List ChangeParts) × (long ≡ C ++ new)

-- Two changes of K with one actor and sequence number are one.
abbrev pub SeqsApart : List ChangeParts → Type 0
SeqsApart K = (c d : ChangeParts) → In c K → In d K → c.actor ≡ d.actor → c.seq ≡ d.seq → c ≡ d

-- The list `long` is C and after it the new changes, which are of K and entered one by one.
pub record Grows (C K long new : List ChangeParts) : Type 0 where
  pub begins : long ≡ C ++ new
  pub fits : EntersAfter C new
  pub came : AllIn new K

-- The list `long` comes of C where the changes K are received: it is sound, it is C and then changes of K that
-- entered one after another, and every other change of K can't enter.
pub record Receives (C K long : List ChangeParts) : Type 0 where
  pub sound : Sound long
  pub new : List ChangeParts
  pub entered : Grows C K long new
  pub closed : (c : ChangeParts) → In c K → IsSome (cause long c)

-- The list `long` is between C and a result of receiving K.
pub record Between (C K long : List ChangeParts) : Type 0 where
  pub begins : IsPrefixOf C long
  pub whole : List ChangeParts
  pub goes_on : IsPrefixOf long whole
  pub receives : Receives C K whole

-- a dependency isn't there
abbrev pub lacks_deps : Option GraphError → Bool
lacks_deps None = false
lacks_deps (Some MissingDeps) = true
lacks_deps (Some Known) = false
lacks_deps (Some BadSeq) = false
lacks_deps (Some BadStart) = false
lacks_deps (Some BadReference) = false
lacks_deps (Some SeqClash) = false
lacks_deps (Some UnknownHead) = false
lacks_deps (Some Full) = false
lacks_deps (Some OutOfMemory) = false

-- a cause that stays whatever enters later: any but that a dependency isn't there
abbrev pub is_refusal : Option GraphError → Bool
is_refusal None = false
is_refusal (Some MissingDeps) = false
is_refusal (Some Known) = true
is_refusal (Some BadSeq) = true
is_refusal (Some BadStart) = true
is_refusal (Some BadReference) = true
is_refusal (Some SeqClash) = true
is_refusal (Some UnknownHead) = true
is_refusal (Some Full) = true
is_refusal (Some OutOfMemory) = true

-- each change of W waits for a dependency after C
abbrev pub AllWait : List ChangeParts → List ChangeParts → Type 0
AllWait C W = (c : ChangeParts) → In c W → IsTrue (lacks_deps (cause C c))

-- the hashes of the changes, in their order
abbrev pub hashes : List ChangeParts → List Hash
hashes [] = []
hashes (c ∷ C) = hash_of c ∷ hashes C

-- the hashes of those changes of W that are among H, in the order of W
abbrev pub held_of : List Hash → List ChangeParts → List Hash
held_of H [] = []
held_of H (c ∷ W) = if among H (hash_of c) then hash_of c ∷ held_of H W else held_of H W

-- each of the hashes is in the list once
abbrev pub EachOnce : List Hash → Type 0
EachOnce [] = Unit {0}
EachOnce (h ∷ H) = (among H h ≡ false) × EachOnce H

-- Of t the same is seen as of s: its identifier, what is applied and what waits.
pub record IsSeenAs {S : Type 0} (id : S → Option DocId) (applied waiting : S → List ChangeParts) (s t : S) : Type 0 where
  pub named : id t ≡ id s
  pub entered : applied t ≡ applied s
  pub waits : waiting t ≡ waiting s

-- The change c with the number i was taken out of W, and W' are the others.
pub record IsTakenOut (W : List ChangeParts) (i : ℕ) (c : ChangeParts) (W' : List ChangeParts) : Type 0 where
  pub at : slice_get W i ≡ Some c
  pub others : W' ≡ remove W i
