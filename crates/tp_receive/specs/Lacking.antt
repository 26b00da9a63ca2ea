-- Of each change that waits, a dependency that it is known to lack.
use Rattle.std.specs.Prelude.{◌≡◌, List, Bool, false, Option, Some, None}
use Rattle.tp_receive.specs.Common.{In, Hash, ChangeParts, hash_of, has, same_hash, AllZip}

-- What is known of a change c: nothing, or that it isn't in C and neither is that dependency of it.
abbrev pub Lacks : List ChangeParts → ChangeParts → Option Hash → Type 0
Lacks C c None = Unit {0}
Lacks C c (Some h) = (has C (hash_of c) ≡ false) × In h c.deps × (has C h ≡ false)

-- L has, in the order of W, what is known of each change of W.
abbrev pub KnowsLack : List ChangeParts → List ChangeParts → List (Option Hash) → Type 0
KnowsLack C W L = AllZip (Lacks C) W L

-- The hashes of D are those of C, x at most beside them.
abbrev pub GainsOnly : List ChangeParts → List ChangeParts → Hash → Type 0
GainsOnly C D x = (h : Hash) → same_hash x h ≡ false → has C h ≡ false → has D h ≡ false

-- What is known of a change c, where nothing is known of one with the hash x.
abbrev pub LacksApart : List ChangeParts → Hash → ChangeParts → Option Hash → Type 0
LacksApart C x c None = Unit {0}
LacksApart C x c (Some h) = (same_hash x (hash_of c) ≡ false) × Lacks C c (Some h)

-- L has, in the order of W, what is known of each change of W, and nothing is known of one with the hash x.
abbrev pub KnowsApart : List ChangeParts → Hash → List ChangeParts → List (Option Hash) → Type 0
KnowsApart C x W L = AllZip (LacksApart C x) W L

-- whether x is the hash that is known to be lacked
abbrev pub lacks_it : Hash → Option Hash → Bool
lacks_it x None = false
lacks_it x (Some h) = same_hash x h
