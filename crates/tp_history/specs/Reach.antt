-- The past of hashes among any changes, as a relation: it needs no order and grows with the changes.
use Rattle.std.specs.Prelude.{◌≡◌, ℕ, suc, zero, List}
use Rattle.tp_history.specs.Common.{In, Hash, ChangeParts, hash_of}

-- From the hash h the hash g is reached in n steps, each from a change of C to one of its dependencies.
abbrev pub Chain : List ChangeParts → ℕ → Hash → Hash → Type 0
Chain C zero h g = h ≡ g
Chain C (suc n) h g = (c : ChangeParts) × In c C × (hash_of c ≡ h) × (d : Hash) × In d c.deps × Chain C n d g

-- From h the dependencies of changes of C lead to g.
abbrev pub Reaches : List ChangeParts → Hash → Hash → Type 0
Reaches C h g = (n : ℕ) × Chain C n h g

-- c is a change of C that one of the hashes reaches.
abbrev pub InPast : List ChangeParts → List Hash → ChangeParts → Type 0
InPast C H c = In c C × (h : Hash) × In h H × Reaches C h (hash_of c)
