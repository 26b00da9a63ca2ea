-- What edits do to an editor, by the status.
use Rattle.std.specs.Prelude.{◌≡◌, ◌≢◌, ◌⊎◌, ℕ, List, [], length, Option, Result, MatchResult}
use Rattle.std.specs.Str.{chars, IsUtf8}
use Rattle.tp_opid.specs.declared.actor.Actor.{Actor}
use Rattle.tp_opid.specs.declared.hash.Hash.{Hash}
use Rattle.tp_document.specs.Editing.{DoesSplices}
use Rattle.tp_edit.specs.declared.splice.Splice.{Splice}
use Rattle.tp_peer.specs.PeerStep.{Edit, Made, PeerStep, reply_of_result}
use Rattle.tp_peer.specs.declared.error.PeerError.{PeerError}
use Rattle.tp_editor.specs.EditorState.{EditorState, KeepsRest, made_bytes, under}
use Rattle.tp_c.specs.Flat.{AreSplices, RefusesSplices}
use Rattle.tp_c.specs.Status.{peer_status}
use Rattle.tp_c.specs.declared.splices.FlatSplice.{FlatSplice}

-- the numbers of one splice with this text
abbrev pub splice_of : ℕ → ℕ → List ℕ → FlatSplice
splice_of at del text = record { at = at; del = del; len = length text }

-- The edit was asked of the peer, under the actor if one is given, and answered with this status, which is `memory`
-- where that was short. The answer is the hash of the change, or empty. Where it was done the text has each splice done
-- in turn, and else it is as it was.
pub record EditsSplices (memory : ℕ) (e : EditorState) (actor : Option Actor) (ss : List Splice) (time : ℕ) (message : List ℕ) (status : ℕ) (e' : EditorState) : Type 0 where
  pub answered : Result (Option Hash) PeerError
  pub step : PeerStep (under actor e.peer) (Edit ss time (chars message)) (reply_of_result Made answered) e'.peer
  pub answer : MatchResult answered (λ made. e'.answer ≡ made_bytes made) (λ error. e'.answer ≡ [])
  pub status_is : status ≡ peer_status memory answered
  pub text : status ≡ 0 → DoesSplices e.peer.applied e'.peer.applied ss
  pub refused : status ≢ 0 → e'.peer.applied ≡ e.peer.applied
  pub rest : KeepsRest e e'

-- Why no edit is asked: the message isn't UTF-8, else there are no such splices.
abbrev pub AsksNoEdit : ℕ → List FlatSplice → List ℕ → List ℕ → ℕ → Type 0
AsksNoEdit memory flat texts message status =
    ((IsUtf8 message → ⊥) × (status ≡ 4)) ⊎ (IsUtf8 message × RefusesSplices memory flat texts status)

-- what an edit of these splices did, by its status: none was asked, and the answer is empty; or it was asked
abbrev pub EditsFlatSplices : ℕ → EditorState → Option Actor → List FlatSplice → List ℕ → ℕ → List ℕ → ℕ → EditorState → Type 0
EditsFlatSplices memory e actor flat texts time message status e' =
    (AsksNoEdit memory flat texts message status × (e' ≡ record e { answer = [] }))
    ⊎ (IsUtf8 message × ((ss : List Splice) × AreSplices flat texts ss × EditsSplices memory e actor ss time message status e'))
