-- Sessions of an editor.
use Rattle.std.specs.Prelude.{◌≡◌, ◌⊎◌, ℕ, List, [], ◌++◌, Option, Some, None, Result, Ok, Err, Bool, true, false, MatchOption}
use Rattle.std.specs.List.{flat_map}
use Rattle.tp_frame.specs.declared.frame.Frame.{Frame}
use Rattle.tp_frame.specs.Frame.{frame_spelling}
use Rattle.tp_frame.specs.Reading.{IsUnfinishedFrame}
use Rattle.tp_peer.specs.PeerState.{PeerState}
use Rattle.tp_peer.specs.PeerStep.{Forget, Forgotten, PeerStep, Refused, Reply}
use Rattle.tp_session.specs.Conversation.{RefusesFeed, ConversationState, frame_bytes}
use Rattle.tp_session.specs.HostCalls.{HostCall, on}
use Rattle.tp_session.specs.Laws.{is_over}
use Rattle.tp_session.specs.NetError.{refusal_of}
use Rattle.tp_session.specs.SessionState.{SessionState, new_session, first_frame_of}
use Rattle.tp_session.specs.Transcript.{TakesAll}
use Rattle.tp_session.specs.declared.error.NetError.{NetError}
use Rattle.tp_session.specs.declared.error.NetError.TheVariants as net
use Rattle.tp_session.specs.declared.session.Role.{Role}
use Rattle.tp_editor.specs.EditorState.{EditorState}
use Rattle.tp_editor.specs.declared.hosting.TheConstants.{SESSION}

-- what a session asks of the peer: its calls go to the link for sessions
abbrev pub StepsOnSession : PeerState → HostCall → Reply → PeerState → Type 0
StepsOnSession p call reply p' = PeerStep p (on SESSION call) reply p'

-- ---- begin

-- A session began: what the messages of the last one said is forgotten, and the answer is the first frame, if the side
-- has one.
pub record BeginsSession (s : EditorState) (role : Role) (s' : EditorState) : Type 0 where
  pub forgets : PeerStep s.peer (Forget SESSION) Forgotten s'.peer
  pub held : s'.held ≡ Some (record { session = new_session role s.peer.id; bytes = [] })
  pub answer : s'.answer ≡ frame_bytes (first_frame_of role s.peer.id)

-- Why none began: the peer has stopped, or memory was refused for the first frame.
abbrev pub RefusesBegin : EditorState → NetError → EditorState → Type 0
RefusesBegin s (net.Peer e) s' = PeerStep s.peer (Forget SESSION) (Refused e) s'.peer
RefusesBegin s net.OutOfMemory s' = PeerStep s.peer (Forget SESSION) Forgotten s'.peer
RefusesBegin s _ s' = ⊥

-- ---- bytes that come

-- From a, where the bytes were held, the frames in front were answered, one after another, by the bytes `sent`, up to
-- b.
abbrev pub AnswersAll : {H : Type 0} → (H → HostCall → Reply → H → Type 0) → SessionState × H → List ℕ → List ℕ → SessionState × H → List ℕ → Type 0
AnswersAll steps a held sent b rest = (frames : List Frame) × TakesAll steps a held frames rest b × (sent ≡ flat_map frame_spelling frames)

-- So it was up to where the session broke off.
pub record AnswersUntilBreak {H : Type 0} (steps : H → HostCall → Reply → H → Type 0) (a : SessionState × H) (held sent : List ℕ) (e : NetError) (h' : H) : Type 0 where
  pub side : SessionState × H
  pub rest : List ℕ
  pub answers : AnswersAll steps a held sent side rest
  pub cause : RefusesFeed steps side rest e h'

-- Whether the session has ended. Else no frame in front is whole.
abbrev pub IsAnswered : Bool → SessionState → List ℕ → Type 0
IsAnswered ended s rest = (is_over s.phase ≡ ended) × (ended ≡ false → IsUnfinishedFrame rest)

-- the session goes on, unless it has ended
abbrev pub unless_ended : Bool → ConversationState → Option ConversationState
unless_ended true held = None
unless_ended false held = Some held

-- The frames in front were answered, by the answer. The session has ended, or goes on with the bytes that are left.
pub record AnswersWholeFrames (p : PeerState) (held : ConversationState) (bytes : List ℕ) (ended : Bool) (s' : EditorState) : Type 0 where
  pub session : SessionState
  pub rest : List ℕ
  pub answers : AnswersAll StepsOnSession (held.session, p) (held.bytes ++ bytes) s'.answer (session, s'.peer) rest
  pub all : IsAnswered ended session rest
  pub entered : s'.entered ≡ session.applied
  pub left : s'.held ≡ unless_ended ended (record { session = session; bytes = rest })

-- The bytes are those that were sent and then the refusal that is due, unless memory was refused for it.
abbrev pub WithRefusal : List ℕ → NetError → List ℕ → Type 0
WithRefusal sent e bytes = (bytes ≡ sent ++ frame_bytes (refusal_of e)) ⊎ (bytes ≡ sent)

-- The session broke off, and has ended. The answer ends with the refusal that is due.
pub record RefusesSessionBytes (p : PeerState) (held : ConversationState) (bytes : List ℕ) (e : NetError) (s' : EditorState) : Type 0 where
  pub sent : List ℕ
  pub off : AnswersUntilBreak StepsOnSession (held.session, p) (held.bytes ++ bytes) sent e s'.peer
  pub answer : WithRefusal sent e s'.answer
  pub left : s'.held ≡ None

-- what bytes that came for a session led to
abbrev pub FeedsHeld : PeerState → ConversationState → List ℕ → Result Bool NetError → EditorState → Type 0
FeedsHeld p held bytes (Ok ended) s' = AnswersWholeFrames p held bytes ended s'
FeedsHeld p held bytes (Err e) s' = RefusesSessionBytes p held bytes e s'

-- No session goes on: nothing is taken, and nothing is to be sent.
pub record RefusesWithoutSession (s : EditorState) (result : Result Bool NetError) (s' : EditorState) : Type 0 where
  pub refused : result ≡ Err net.Unexpected
  pub left : s' ≡ record s { answer = [] }

-- what bytes that came led to
abbrev pub Feeds : EditorState → List ℕ → Result Bool NetError → EditorState → Type 0
Feeds s bytes result s' = MatchOption s.held (RefusesWithoutSession s result s') (λ held. FeedsHeld s.peer held bytes result s')
