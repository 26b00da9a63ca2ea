-- What opening puts into the place of a handle, by the status.
use Rattle.std.specs.Prelude.{◌≡◌, ◌⊎◌, ℕ, List, Some, Result, Ok, Err}
use Rattle.std.specs.Str.{IsUtf8}
use Rattle.tp_journal.specs.Journal.{no_device}
use Rattle.tp_opid.specs.declared.actor.Actor.{Actor}
use Rattle.tp_peer.specs.PeerState.{PeerState, opened_peer}
use Rattle.tp_editor.specs.EditorState.{EditorState, new_editor}
use Rattle.tp_editor.specs.declared.error.EditorOpenError.{EditorOpenError}
use Rattle.tp_c.specs.Status.{number_of_opening}
use Rattle.tp_c.specs.declared.slot.Slot.{Slot}

-- The editor was put there; or there was no memory for it, and nothing was written.
abbrev pub PutsEditor : EditorState → ℕ → Slot → Slot → Type 0
PutsEditor e status s s' = ((status ≡ 0) × (s'.editor ≡ Some e)) ⊎ ((status ≡ 1) × (s' ≡ s))

-- What was opened was put there; or the status is that of its refusal, and nothing was written.
abbrev pub PutsOpened : Result EditorState EditorOpenError → ℕ → Slot → Slot → Type 0
PutsOpened (Ok e) status s s' = PutsEditor e status s s'
PutsOpened (Err why) status s s' = (status ≡ number_of_opening why) × (s' ≡ s)

-- An editor as IsOpen says was put there, or there was no memory for it; or none was opened, as Refuses says.
abbrev pub PutsBy : (EditorState → Type 0) → (EditorOpenError → Type 0) → ℕ → Slot → Slot → Type 0
PutsBy IsOpen Refuses status s s' =
    ((e : EditorState) × IsOpen e × PutsEditor e status s s')
    ⊎ ((why : EditorOpenError) × Refuses why × (status ≡ number_of_opening why) × (s' ≡ s))

-- An editor of a document with the peer's changes, in memory alone and edited under the actor, was put there; or memory
-- was refused, and nothing was written.
abbrev pub PutsFork : PeerState → Actor → ℕ → Slot → Slot → Type 0
PutsFork p actor status s s' =
    PutsEditor (new_editor (opened_peer p.id actor p.applied no_device)) status s s' ⊎ ((status ≡ 109) × (s' ≡ s))

-- The path isn't UTF-8: the status is 4, and nothing was written.
pub record RefusesPath (path : List ℕ) (status : ℕ) (s s' : Slot) : Type 0 where
  pub unread : IsUtf8 path → ⊥
  pub status_is : status ≡ 4
  pub same : s' ≡ s
