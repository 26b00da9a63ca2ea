-- What waiting changes want.
use Rattle.std.specs.Prelude.{◌≡◌, List, [], ◌∷◌, Bool, false, ◌||◌, if◌then◌else◌, IsTrue}
use Rattle.tp_graph.specs.Common.{put, Hash, hash_cmp, ChangeParts}
use Rattle.tp_history.specs.Named.{among, has}

-- one of the changes depends on the hash
abbrev pub is_wanted : List ChangeParts → Hash → Bool
is_wanted [] h = false
is_wanted (c ∷ C) h = among c.deps h || is_wanted C h

-- A change of W depends on the hash, and neither C nor W has it.
pub record IsMissing (C W : List ChangeParts) (h : Hash) : Type 0 where
  pub wanted : IsTrue (is_wanted W h)
  pub not_applied : has C h ≡ false
  pub not_waiting : has W h ≡ false

-- F with those of the hashes that neither C nor W has, each at its place
abbrev pub gather : List ChangeParts → List ChangeParts → List Hash → List Hash → List Hash
gather C W [] F = F
gather C W (d ∷ ds) F = gather C W ds (if has C d || has W d then F else put hash_cmp d F)

-- F with those dependencies of the changes that neither C nor W has
abbrev pub gather_all : List ChangeParts → List ChangeParts → List ChangeParts → List Hash → List Hash
gather_all C W [] F = F
gather_all C W (c ∷ D) F = gather_all C W D (gather C W c.deps F)
