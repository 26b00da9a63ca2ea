-- Changes by their hashes.
use Rattle.std.specs.Prelude.{◌≡◌, List, [], ◌∷◌, Bool, true, false, ◌||◌, ◌&&◌}
use Rattle.tp_history.specs.Common.{list_any, In, Hash, same_hash, ChangeParts, hash_of}

-- the hash is one of the hashes
abbrev pub among : List Hash → Hash → Bool
among hs h = list_any (λ g. same_hash g h) hs

-- one of the hashes is the change's
abbrev pub names : List Hash → ChangeParts → Bool
names hs c = among hs (hash_of c)

-- one of the changes has the hash
abbrev pub has : List ChangeParts → Hash → Bool
has [] h = false
has (c ∷ C) h = same_hash (hash_of c) h || has C h

-- each of the hashes is that of one of the changes
abbrev pub has_all : List ChangeParts → List Hash → Bool
has_all C [] = true
has_all C (h ∷ hs) = has C h && has_all C hs

-- one of the changes depends on c
abbrev pub is_needed : List ChangeParts → ChangeParts → Bool
is_needed [] c = false
is_needed (d ∷ C) c = names d.deps c || is_needed C c

-- Two of the changes with one hash are one.
abbrev pub HashesApart : List ChangeParts → Type 0
HashesApart C = (c d : ChangeParts) → In c C → In d C → hash_of c ≡ hash_of d → c ≡ d

-- No two of the changes have one hash.
abbrev pub HashesOnce : List ChangeParts → Type 0
HashesOnce [] = Unit {0}
HashesOnce (c ∷ C) = (has C (hash_of c) ≡ false) × HashesOnce C
