-- Which changes are due to another peer, and which of them a message carries.
use Rattle.std.specs.Prelude.{◌≡◌, ◌⊎◌, ℕ, ◌+◌, ◌≤◌, List, [], ◌∷◌, ◌++◌, length, drop, take, filter, get_or, Bool, true, false, ◌||◌, ◌&&◌, not, if◌then◌else◌, nat_lt, nat_le, Option, Some, None}
use Rattle.tp_sync.specs.Common.{Hash, ChangeParts, hash_of, spelling, has, slice_get, names, list_any, MAX_CHANGES}
use Rattle.tp_history.specs.Past.{past}
use Rattle.tp_history.specs.Heads.{heads}
use Rattle.tp_ancestry.specs.Outside.{IsNextBefore, IsOutside}
use Rattle.tp_history.specs.Since.{marks_since}
use Rattle.tp_sync.specs.declared.due.Rest.{Rest}
use Rattle.tp_sync.specs.declared.due.Stretch.{Stretch}
use Rattle.tp_sync.specs.declared.limits.TheConstants.{FULL_BYTES}
use Rattle.tp_sync.specs.State.{SyncParts, declared_hashes}

-- c is due to a peer that declared that it has `theirs` and wants the hashes `wants`: it is wanted, or it isn't in the
-- past of those of `theirs` that C has.
abbrev pub is_due : List ChangeParts → List Hash → List Hash → ChangeParts → Bool
is_due C theirs wants c = names wants c || not (has (past C theirs) (hash_of c))

-- the changes of D that are due; nothing is due to a peer that declared no heads yet
abbrev pub due_of : List ChangeParts → Option (List Hash) → List Hash → List ChangeParts → List ChangeParts
due_of C None wants D = []
due_of C (Some theirs) wants D = filter (is_due C theirs wants) D

-- the changes of C that are due, in applied order
abbrev pub due : List ChangeParts → SyncParts → List ChangeParts
due C s = due_of C (declared_hashes s) s.wants C

-- The other declared the very heads of C, and nothing is due to it.
pub record IsInSync (C : List ChangeParts) (s : SyncParts) : Type 0 where
  pub theirs : s.theirs ≡ Some (heads C)
  pub none : due C s ≡ []

-- those at the place n or after it
abbrev pub due_from : List ChangeParts → SyncParts → ℕ → List ChangeParts
due_from C s n = due_of C (declared_hashes s) s.wants (drop n C)

-- the list has a member
abbrev pub is_any : List ChangeParts → Bool
is_any [] = false
is_any (c ∷ C) = true

-- the place from which a message takes changes: the next one, or the first where nothing is due from the next one on
abbrev pub begins_at : List ChangeParts → SyncParts → ℕ
begins_at C s = if is_any (due_from C s s.next) then s.next else 0

-- something is due, and nothing from the next place on
abbrev pub starts_over : List ChangeParts → SyncParts → Bool
starts_over C s = is_any (due C s) && not (is_any (due_from C s s.next))

-- a message with `count` changes, of `bytes` bytes, takes no further one
abbrev pub is_message_full : ℕ → ℕ → Bool
is_message_full count bytes = nat_le MAX_CHANGES count || nat_le FULL_BYTES bytes

-- the changes that a message takes, in order, where it has `count` already, of `bytes` bytes
abbrev pub take_due : ℕ → ℕ → List ChangeParts → List ChangeParts
take_due count bytes [] = []
take_due count bytes (c ∷ D) = if is_message_full count bytes then [] else c ∷ take_due (count + 1) (bytes + length (spelling c)) D

-- the changes that a message carries
abbrev pub message_changes : List ChangeParts → SyncParts → List ChangeParts
message_changes C s = take_due 0 0 (due_from C s (begins_at C s))

-- a message carries fewer changes than are due
abbrev pub is_truncated : List ChangeParts → SyncParts → Bool
is_truncated C s = nat_lt (length (message_changes C s)) (length (due C s))

-- The stretch goes from the next place on, where a place from there on is marked, and else from the first place on. Its
-- first marked place is known, and no place from its end on is marked.
pub record IsStretch (marks : List Bool) (next : ℕ) (stretch : Stretch) : Type 0 where
  pub on : stretch.goes_on ≡ list_any (λ b. b) (drop next marks)
  pub from : stretch.from ≡ (if stretch.goes_on then next else 0)
  pub first : IsNextBefore marks stretch.from stretch.end stretch.first
  pub end : stretch.end ≤ length marks
  pub none : (k : ℕ) → stretch.end ≤ k → get_or marks k false ≡ false

-- What is due is known, and whether a message leaves some of it out: one from the place on where it began to look, or
-- one before that. Where nothing is given nothing is due.
abbrev pub IsRest : List ChangeParts → SyncParts → Option Rest → Type 0
IsRest C s None = due C s ≡ []
IsRest C s (Some rest) = (theirs : List Hash) × (declared_hashes s ≡ Some theirs) × IsOutside C theirs s.wants rest.due
    × (is_truncated C s ≡ (rest.left || list_any (λ b. b) (take rest.from (marks_since C theirs s.wants))))

-- The place n in C is the one after the last of the changes.
pub record IsAfterLast (C changes : List ChangeParts) (n : ℕ) : Type 0 where
  pub before : List ChangeParts
  pub last : ChangeParts
  pub place : ℕ
  pub ends : changes ≡ before ++ last ∷ []
  pub present : slice_get C place ≡ Some last
  pub beyond : n ≡ place + 1

-- The next place moved after the last of the changes, or stayed where there is none.
abbrev pub MovesOn : List ChangeParts → List ChangeParts → ℕ → ℕ → Type 0
MovesOn C changes old new = ((changes ≡ []) × (new ≡ old)) ⊎ IsAfterLast C changes new

-- The one list is in the other without a gap.
pub record IsInfixOf (part whole : List ChangeParts) : Type 0 where
  pub before : List ChangeParts
  pub beyond : List ChangeParts
  pub joined : whole ≡ before ++ (part ++ beyond)
