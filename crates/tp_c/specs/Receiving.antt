-- What changes of others do to an editor, by the status.
use Rattle.std.specs.Prelude.{◌≡◌, ◌⊎◌, ℕ, ◌+◌, List, Result, Ok}
use Rattle.tp_layout.specs.ChangeError as change
use Rattle.tp_codec.specs.Gives.{FailsWith}
use Rattle.tp_layout.specs.Reading.{change_at}
use Rattle.tp_layout.specs.declared.error.ChangeError.{ChangeError}
use Rattle.tp_layout.specs.declared.error.ChangeError.TheVariants as change_error
use Rattle.tp_layout.specs.declared.parts.ChangeParts.{ChangeParts}
use Rattle.tp_peer.specs.PeerStep.{Merge, Merged, PeerStep, reply_of_result}
use Rattle.tp_peer.specs.Taking.{report_of}
use Rattle.tp_peer.specs.declared.error.PeerError.{PeerError}
use Rattle.tp_receive.specs.declared.intake.Applied.{Applied}
use Rattle.tp_editor.specs.EditorState.{EditorState, KeepsAnswer}
use Rattle.tp_editor.specs.Exchanging as editor
use Rattle.tp_c.specs.Status.{peer_status}

-- The peer received the change, with this status.
pub record AppliesChange (e : EditorState) (c : ChangeParts) (status : ℕ) (e' : EditorState) : Type 0 where
  pub answered : Result Applied PeerError
  pub status_is : status ≡ peer_status 109 answered
  pub done : editor.TakesChange e.peer c answered e'.peer
  pub rest : KeepsAnswer e e'

-- The bytes are no change, by their first fault, or a growth was refused while they were read; nothing was done.
pub record RefusesChangeBytes (e : EditorState) (bytes : List ℕ) (status : ℕ) (e' : EditorState) : Type 0 where
  pub refusal : ChangeError
  pub status_is : status ≡ 400 + change.code_of refusal
  pub fault : FailsWith change_error.OutOfMemory refusal (change_at bytes)
  pub same : e' ≡ e

-- The bytes are a change, which was applied.
pub record AppliesChangeBytes (e : EditorState) (bytes : List ℕ) (status : ℕ) (e' : EditorState) : Type 0 where
  pub change : ChangeParts
  pub read : change_at bytes ≡ Ok change
  pub applies : AppliesChange e change status e'

-- what applying the bytes of a change did, by its status
abbrev pub Applies : EditorState → List ℕ → ℕ → EditorState → Type 0
Applies e bytes status e' = RefusesChangeBytes e bytes status e' ⊎ AppliesChangeBytes e bytes status e'

-- What the other editor has was merged into this one, with this status.
pub record MergesEditor (e o : EditorState) (status : ℕ) (e' : EditorState) : Type 0 where
  pub answered : Result Applied PeerError
  pub status_is : status ≡ peer_status 109 answered
  pub step : PeerStep e.peer (Merge o.peer) (reply_of_result (λ (a : Applied). Merged (report_of a)) answered) e'.peer
  pub rest : KeepsAnswer e e'
