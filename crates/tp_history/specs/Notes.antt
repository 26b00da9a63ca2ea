-- The table from hashes to places: what is noted by the first 4 bytes of hashes, and what by whole hashes.
use Rattle.std.specs.Prelude.{◌≡◌, ◌≢◌, ◌⊎◌, ℕ, ◌+◌, ◌-◌, ◌<◌, ◌≤◌, List, [], ◌∷◌, length, slice_index, bit_and, bit_or, Option, Some, Bool, true, IsTrue}
use Rattle.tp_history.specs.Common.{w32, from_be_bytes, slice_get, lookup, Hash, same_hash, ChangeParts, hash_of}
use Rattle.tp_history.specs.Places.{HasAt}
use Rattle.tp_history.specs.declared.index.TheConstants.{WINDOW, NOWHERE}

-- what a map with these entries has at the hash
abbrev pub note_at : List (Hash × ℕ) → Hash → Option ℕ
note_at entries h = lookup (same_hash h) entries

-- the first 4 bytes of a hash as a number
unfoldable pub first_word : Hash → ℕ
first_word h = from_be_bytes w32 (slice_index h.0 0 ∷ slice_index h.0 1 ∷ slice_index h.0 2 ∷ slice_index h.0 3 ∷ [])

-- Places that are noted: in slots, and for whole hashes.
pub record Notes : Type 0 where
  pub slots : List ℕ
  pub hashes : List (Hash × ℕ)

-- the first slot of the window of a word, in a table with that number of slots
abbrev pub first_slot : ℕ → ℕ → ℕ
first_slot word slots = bit_and word (slots - WINDOW)

-- the place that a slot notes, in a table with that number of slots
abbrev pub place_in : ℕ → ℕ → ℕ
place_in slots slot = bit_and slot (slots - WINDOW)

-- The slot and the word have the same bits before those of a place, in a table with that number of slots.
abbrev pub IsLike : ℕ → ℕ → ℕ → Type 0
IsLike slots slot word = bit_or slot (slots - WINDOW) ≡ bit_or word (slots - WINDOW)

-- The slot notes the place for the word, in a table with that number of slots.
pub record IsSlotFor (slots word place slot : ℕ) : Type 0 where
  pub taken : slot ≢ NOWHERE
  pub notes : place_in slots slot ≡ place
  pub like : IsLike slots slot word

-- A look-up of the word gets to the slot with the number: it is in the window, and each before it there was taken.
pub record IsReached (slots : List ℕ) (word number : ℕ) : Type 0 where
  pub room : WINDOW ≤ length slots
  pub low : first_slot word (length slots) ≤ number
  pub high : number < first_slot word (length slots) + WINDOW
  pub taken : (k : ℕ) → first_slot word (length slots) ≤ k → k < number → (s : ℕ) → slice_get slots k ≡ Some s → s ≢ NOWHERE

-- The slot of the table is in the word's window, and was never taken or notes no place before the given one.
pub record IsFree (slots : List ℕ) (word place number : ℕ) : Type 0 where
  pub reached : IsReached slots word number
  pub free : (s : ℕ) → slice_get slots number ≡ Some s → (s ≡ NOWHERE) ⊎ (place ≤ place_in (length slots) s)

-- A look-up of the word gets to a slot that notes the place for it.
pub record FindsPlace (slots : List ℕ) (word place : ℕ) : Type 0 where
  pub number : ℕ
  pub reached : IsReached slots word number
  pub slot : ℕ
  pub here : slice_get slots number ≡ Some slot
  pub is : IsSlotFor (length slots) word place slot

-- The place is noted for the hash, in one way or the other.
abbrev pub IsNotedAt : Notes → Hash → ℕ → Type 0
IsNotedAt n h i = FindsPlace n.slots (first_word h) i ⊎ (note_at n.hashes h ≡ Some i)

-- The place of each change is noted. There may be more notes.
abbrev pub AreNoted : List ChangeParts → Notes → Type 0
AreNoted C n = (i : ℕ) → (c : ChangeParts) → slice_get C i ≡ Some c → IsNotedAt n (hash_of c) i

-- What is in some slots, for places before the bound, is in others.
abbrev pub StandStill : List ℕ → List ℕ → ℕ → Type 0
StandStill old new bound = (word place : ℕ) → place < bound → FindsPlace old word place → FindsPlace new word place

-- The place is that of a change with the hash, or the one after all changes, and the hash is the last one.
abbrev pub HasPlace : List ChangeParts → Hash → ℕ → Hash → Type 0
HasPlace C last i h = HasAt C i h ⊎ ((i ≡ length C) × (h ≡ last))

-- The place of each change is noted, and for the last hash the place after them.
abbrev pub AreNotedWith : List ChangeParts → Hash → Notes → Type 0
AreNotedWith C last n = (i : ℕ) (h : Hash) → HasPlace C last i h → IsNotedAt n h i

-- The places that the first slots note are marked.
abbrev pub AreInSlots : List ℕ → ℕ → List Bool → Type 0
AreInSlots slots count marks = (k s : ℕ) → k < count → slice_get slots k ≡ Some s → slice_get marks (place_in (length slots) s) ≡ Some true

-- Of the places that are to be noted, those before one that are in slots are noted in a larger table, or for whole
-- hashes.
abbrev pub AreCarried : List ChangeParts → Hash → List ℕ → ℕ → List ℕ → List (Hash × ℕ) → Type 0
AreCarried C last slots place larger hashes = (i : ℕ) (h : Hash) → HasPlace C last i h → FindsPlace slots (first_word h) i → i < place
    → FindsPlace larger (first_word h) i ⊎ (note_at hashes h ≡ Some i)

-- What is noted for whole hashes stays, but that the hash may have the place.
abbrev pub IsNotedBeside : List (Hash × ℕ) → List (Hash × ℕ) → Hash → ℕ → Type 0
IsNotedBeside old new h p = (other : Hash) → (note_at new other ≡ note_at old other) ⊎ (IsTrue (same_hash h other) × (note_at new other ≡ Some p))
