-- What messages on a link do to an editor, by the status.
use Rattle.std.specs.Prelude.{◌≡◌, ◌⊎◌, ℕ, ◌+◌, ◌<◌, ◌≤◌, List, length, Bool, true, false, Result, Ok, Err}
use Rattle.tp_receive.specs.declared.intake.Applied.{Applied}
use Rattle.tp_editor.specs.EditorState.{EditorState, KeepsAnswer, KeepsRest}
use Rattle.tp_editor.specs.Exchanging.{Generates, ReceivesOnLink}
use Rattle.tp_editor.specs.declared.error.EditorError.{EditorError}
use Rattle.tp_editor.specs.declared.hosting.TheConstants.{MOST_LINKS}
use Rattle.tp_c.specs.Status.{editor_status}

-- A link was opened, and its number written; or there are as many as an editor opens, and nothing was done.
abbrev pub OpensLink : EditorState → ℕ → ℕ → ℕ → EditorState → Type 0
OpensLink e status i i' e' =
    ((status ≡ 0) × (e.links < MOST_LINKS) × (i' ≡ e.links) × (e' ≡ record e { links = e.links + 1 }))
    ⊎ ((status ≡ 504) × (MOST_LINKS ≤ e.links) × (i' ≡ i) × (e' ≡ e))

-- the length of the message that is the answer, or 0 where none was made
abbrev pub sent_len : Result Bool EditorError → List ℕ → ℕ
sent_len (Ok true) answer = length answer
sent_len (Ok false) answer = 0
sent_len (Err refusal) answer = 0

-- A message was asked for on the link, with this status and this length.
pub record GeneratesOnLink (e : EditorState) (i status len : ℕ) (e' : EditorState) : Type 0 where
  pub answered : Result Bool EditorError
  pub status_is : status ≡ editor_status 1 answered
  pub len_is : len ≡ sent_len answered e'.answer
  pub outcome : Generates e i answered e'
  pub rest : KeepsRest e e'

-- The bytes were received on the link, with this status.
pub record ReceivesBytes (e : EditorState) (i : ℕ) (bytes : List ℕ) (status : ℕ) (e' : EditorState) : Type 0 where
  pub answered : Result Applied EditorError
  pub status_is : status ≡ editor_status 205 answered
  pub outcome : ReceivesOnLink e i bytes answered e'
  pub rest : KeepsAnswer e e'
