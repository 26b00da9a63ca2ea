-- The links of a peer: the numbers of the peers with which it exchanges messages, and what it knows of each.
use Rattle.std.specs.Prelude.{◌≡◌, ℕ, ◌==◌, ◌<◌, ◌≤◌, nat_le, List, [], ◌∷◌, length, filter, slice_index_or, take, Bool, false, ◌||◌, ◌&&◌, not, if◌then◌else◌}
use Rattle.tp_peer.specs.Common.{SyncParts, new_sync_state}
use Rattle.tp_peer.specs.declared.links.TheConstants.{MAX_LINKS}

-- there is a link with the number n
abbrev pub has_link : List (ℕ × SyncParts) → ℕ → Bool
has_link [] n = false
has_link (l ∷ L) n = (l.0 == n) || has_link L n

-- What is known on the link with the number n. A link that isn't there is one on which nothing was received or sent.
abbrev pub known_of : List (ℕ × SyncParts) → ℕ → SyncParts
known_of [] n = new_sync_state
known_of (l ∷ L) n = if l.0 == n then l.1 else known_of L n

-- the links, where s is known on the one with the number n: at its place, and after the others where it is new
abbrev pub with_link : List (ℕ × SyncParts) → ℕ → SyncParts → List (ℕ × SyncParts)
with_link [] n s = (n, s) ∷ []
with_link (l ∷ L) n s = if l.0 == n then (n, s) ∷ L else l ∷ with_link L n s

-- the links but the one with the number n
abbrev pub without_link : List (ℕ × SyncParts) → ℕ → List (ℕ × SyncParts)
without_link L n = filter (λ (l : ℕ × SyncParts). not (l.0 == n)) L

-- a link with the number n would be a new one, and there are 1,024
abbrev pub is_one_too_many : List (ℕ × SyncParts) → ℕ → Bool
is_one_too_many L n = not (has_link L n) && nat_le MAX_LINKS (length L)

-- No two of the links have one number.
abbrev pub NumbersOnce : List (ℕ × SyncParts) → Type 0
NumbersOnce [] = Unit {0}
NumbersOnce (l ∷ L) = (has_link L l.0 ≡ false) × NumbersOnce L

-- There are at most 1,024 links, each number once.
pub record AreLinks (L : List (ℕ × SyncParts)) : Type 0 where
  pub few : length L ≤ MAX_LINKS
  pub once : NumbersOnce L

-- What contracts see of the links in code: the links, and for how many more room was made.
pub record LinksState : Type 0 where
  pub known : List (ℕ × SyncParts)
  pub space : ℕ

-- The first link with the number n is at the index i.
pub record IsLinkAt (L : List (ℕ × SyncParts)) (n i : ℕ) : Type 0 where
  pub within : i < length L
  pub first : has_link (take i L) n ≡ false
  pub number : (d : ℕ × SyncParts) → (slice_index_or L i d).0 ≡ n
