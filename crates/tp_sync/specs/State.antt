-- What contracts see of a sync state.
use Rattle.std.specs.Prelude.{ℕ, List, [], ◌∷◌, ◌++◌, Bool, false, Option, Some, None}
use Rattle.tp_sync.specs.Common.{Hash, ChangeParts, option_map, MessageParts}

-- The heads that the other declared last, if any, the hashes that it wanted then, and those of changes that it knew then;
-- the heads of the last message made for it, if there is one; the place from which the next one takes changes; and whether
-- the last one took them from the first again.
pub record SyncParts : Type 0 where
  pub theirs : Option (List Hash)
  pub wants : List Hash
  pub known : List Hash
  pub declared : Option (List Hash)
  pub next : ℕ
  pub again : Bool

-- the state at first: nothing came from the other, and no message was made for it
abbrev pub new_sync_state : SyncParts
new_sync_state = record { theirs = None; wants = []; known = []; declared = None; next = 0; again = false }

-- the heads that count as declared to the other, or none where changes came
abbrev pub declared_after : List ChangeParts → Option (List Hash) → Option (List Hash)
declared_after [] declared = declared
declared_after (c ∷ C) declared = None

-- the state after a message was received
abbrev pub after_message : SyncParts → MessageParts → SyncParts
after_message s m = record s { theirs = Some m.heads; wants = m.wants; known = m.known; declared = declared_after m.changes s.declared }

-- the hashes of changes that the other has, where it declared its heads: these, and those of changes that it knew
abbrev pub declared_hashes : SyncParts → Option (List Hash)
declared_hashes s = option_map (λ (heads : List Hash). heads ++ s.known) s.theirs
