-- The lists of a graph.
use Rattle.std.specs.Prelude.{◌≡◌, ◌<◌, []}
use Rattle.std.specs.Vec.{vec_len, vec_capacity}
use Rattle.tp_ancestry.specs.declared.lists.Lists.{Lists}

-- Each list takes one more without memory.
pub record HasRoom (l : Lists) : Type 0 where
  pub changes : vec_len l.changes < vec_capacity l.changes
  pub heads : vec_len l.heads < vec_capacity l.heads
  pub ends : vec_len l.ends < vec_capacity l.ends
  pub prefixes : vec_len l.pasts.prefixes < vec_capacity l.pasts.prefixes
  pub vectors : vec_len l.pasts.vectors < vec_capacity l.pasts.vectors

-- The lists have the same items.
pub record HasSameItems (l m : Lists) : Type 0 where
  pub changes : m.changes.items ≡ l.changes.items
  pub heads : m.heads.items ≡ l.heads.items
  pub ends : m.ends.items ≡ l.ends.items
  pub prefixes : m.pasts.prefixes.items ≡ l.pasts.prefixes.items
  pub vectors : m.pasts.vectors.items ≡ l.pasts.vectors.items

-- The lists have no items.
pub record AreEmpty (l : Lists) : Type 0 where
  pub changes : l.changes.items ≡ []
  pub heads : l.heads.items ≡ []
  pub ends : l.ends.items ≡ []
  pub prefixes : l.pasts.prefixes.items ≡ []
  pub vectors : l.pasts.vectors.items ≡ []
