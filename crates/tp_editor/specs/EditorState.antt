-- What contracts see of an editor, and the bytes of its answers.
use Rattle.std.specs.Prelude.{◌≡◌, ℕ, List, [], Option, Some, None}
use Rattle.tp_opid.specs.declared.actor.Actor.{Actor}
use Rattle.tp_opid.specs.declared.hash.Hash.{Hash}
use Rattle.tp_peer.specs.PeerState.{PeerState}
use Rattle.tp_session.specs.Conversation.{ConversationState}

-- the peer; how many links were opened; the session that goes on, if one does; how many changes entered in the last
-- one; the bytes of the last answer
pub record EditorState : Type 0 where
  pub peer : PeerState
  pub links : ℕ
  pub held : Option ConversationState
  pub entered : ℕ
  pub answer : List ℕ

-- an editor over the peer, before any link and session
abbrev pub new_editor : PeerState → EditorState
new_editor p = record { peer = p; links = 0; held = None; entered = 0; answer = [] }

-- the peer, whose edits are the actor's, if one is given
abbrev pub under : Option Actor → PeerState → PeerState
under None p = p
under (Some actor) p = record p { actor = actor }

-- All but the peer and the answer is as it was.
pub record KeepsRest (e e' : EditorState) : Type 0 where
  pub links : e'.links ≡ e.links
  pub held : e'.held ≡ e.held
  pub entered : e'.entered ≡ e.entered

-- All but the peer is as it was.
pub record KeepsAnswer (e e' : EditorState) : Type 0 where
  pub rest : KeepsRest e e'
  pub answer : e'.answer ≡ e.answer

-- the bytes of the hash of the change that was made, if one was
abbrev pub made_bytes : Option Hash → List ℕ
made_bytes None = []
made_bytes (Some h) = h.0
