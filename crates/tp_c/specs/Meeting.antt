-- What sessions do to an editor, by the status.
use Rattle.std.specs.Prelude.{◌≡◌, ◌⊎◌, ℕ, ◌==◌, List, [], Bool, true, false, if◌then◌else◌, None, Result, Ok, Err}
use Rattle.tp_session.specs.declared.error.NetError.{NetError}
use Rattle.tp_session.specs.declared.session.Role.{Role}
use Rattle.tp_session.specs.declared.session.Role.TheVariants.{Client, Server}
use Rattle.tp_editor.specs.EditorState.{EditorState}
use Rattle.tp_editor.specs.Meeting.{BeginsSession, Feeds, RefusesBegin}
use Rattle.tp_c.specs.Status.{number_of_session}

-- which side a number names: 0 the client, any other the server
abbrev pub role_of : ℕ → Role
role_of n = if n == 0 then Client else Server

-- None began: the status says why, and the answer is empty.
pub record RefusesSession (e : EditorState) (status : ℕ) (e' : EditorState) : Type 0 where
  pub error : NetError
  pub status_is : status ≡ number_of_session error
  pub why : RefusesBegin e error e'
  pub held : e'.held ≡ None
  pub answer : e'.answer ≡ []

-- A session began, or none did.
pub record Began (e : EditorState) (role : Role) (status : ℕ) (e' : EditorState) : Type 0 where
  pub done : ((status ≡ 0) × BeginsSession e role e') ⊎ RefusesSession e status e'
  pub links : e'.links ≡ e.links
  pub entered : e'.entered ≡ 0

-- the status of bytes that were fed, and 1 where the session goes on
abbrev pub fed_status : Result Bool NetError → ℕ
fed_status (Ok ended) = 0
fed_status (Err e) = number_of_session e

abbrev pub going_of : Result Bool NetError → ℕ
going_of (Ok true) = 0
going_of (Ok false) = 1
going_of (Err e) = 0

-- The bytes were fed, and answered with this status.
pub record IsFed (e : EditorState) (bytes : List ℕ) (status going : ℕ) (e' : EditorState) : Type 0 where
  pub answered : Result Bool NetError
  pub feeds : Feeds e bytes answered e'
  pub links : e'.links ≡ e.links
  pub status_is : status ≡ fed_status answered
  pub going_is : going ≡ going_of answered
