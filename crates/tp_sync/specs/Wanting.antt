-- Which changes a document wants of another peer.
use Rattle.std.specs.Prelude.{◌⊎◌, List, [], ◌++◌, take, filter, Bool, ◌||◌, not, Option, IsTrue}
use Rattle.tp_sync.specs.Common.{flat_map, In, IsRising, Hash, hash_cmp, ChangeParts, has, rising, unwrap_or, MAX_HASHES}

-- the hashes that were heard of: the heads that the other declared, and the dependencies of the changes that wait
abbrev pub heard_of : List ChangeParts → Option (List Hash) → List Hash
heard_of W theirs = unwrap_or theirs [] ++ flat_map (λ (c : ChangeParts). c.deps) W

-- the hash is neither that of an applied nor of a waiting change
abbrev pub is_absent : List ChangeParts → List ChangeParts → Hash → Bool
is_absent C W h = not (has C h || has W h)

-- the hashes of the changes that are wanted where C is applied and W waits: all that were heard of and are absent, rising,
-- the least 65,535 of them
abbrev pub wanted_hashes : List ChangeParts → List ChangeParts → Option (List Hash) → List Hash
wanted_hashes C W theirs = take MAX_HASHES (rising hash_cmp (filter (is_absent C W) (heard_of W theirs)))

-- What a rising list has once those of the hashes were put into it that are absent.
pub record HasPut (C W : List ChangeParts) (old hashes new : List Hash) : Type 0 where
  pub rises : IsRising hash_cmp new
  pub there : (h : Hash) → In h new → In h old ⊎ (In h hashes × IsTrue (is_absent C W h))
  pub back : (h : Hash) → In h old ⊎ (In h hashes × IsTrue (is_absent C W h)) → In h new
