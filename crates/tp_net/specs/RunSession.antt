-- A session over a stream, from its begin to its end.
use Rattle.std.specs.Prelude.{◌≡◌, ◌⊎◌, ℕ, List, [], ◌++◌, Option, Some, None, Result, Ok, Err, option_to_list}
use Rattle.std.specs.Io.KnownBytes.{Appends}
use Rattle.std.specs.List.{flat_map}
use Rattle.tp_net.specs.Common.{Frame, Reply, Forgotten, Refused, NetError, Io, Peer, HostCall, Forget, refusal_of, SessionState}
use Rattle.tp_frame.specs.Frame.{frame_spelling}
use Rattle.tp_peer.specs.declared.error.PeerError.{PeerError}
use Rattle.tp_session.specs.Conversation.{EndsBy, HasNoBytes, IsNoFrame, LeavesUnsent}
use Rattle.tp_session.specs.declared.session.Phase.TheVariants.{Over}
use Rattle.tp_session.specs.Transcript.{Comes, Traffic}

-- A writer took frames, each whole.
abbrev pub TakesFrames : Option (List ℕ) → Option (List ℕ) → Type 0
TakesFrames before after = (sent : List Frame) × Appends before after (flat_map frame_spelling sent)

-- No frame comes: the stream failed or ended, memory was refused for what came, or what came is no frame.
abbrev pub GivesNoFrame : List ℕ → NetError → Type 0
GivesNoFrame held e = (e ≡ Io) ⊎ IsNoFrame held e

-- A frame can't be sent: the stream failed, memory was refused for its bytes, or it is too long.
abbrev pub CantSend : NetError → Type 0
CantSend e = (e ≡ Io) ⊎ HasNoBytes e

-- Why a side that has come to a, holds the bytes and has a frame to send, or none, stops there.
abbrev pub SideStops : {H : Type 0} → (H → HostCall → Reply → H → Type 0) → Option Frame → SessionState × H → List ℕ → NetError → H → Type 0
SideStops steps None a held e h' = (GivesNoFrame held e × (h' ≡ a.1)) ⊎ EndsBy steps a held e h'
SideStops steps (Some f) a held e h' = CantSend e × (h' ≡ a.1)

-- Why it stops at the next frame, or at what answers that.
abbrev pub StopsAtTurn : {H : Type 0} → (H → HostCall → Reply → H → Type 0) → SessionState × H → List ℕ → NetError → H → Type 0
StopsAtTurn steps a held e h' = (GivesNoFrame held e × (h' ≡ a.1)) ⊎ (EndsBy steps a held e h' ⊎ (LeavesUnsent steps a held h' × CantSend e))

-- It ended well: both sides have said done, and `applied` is how many changes were applied here.
pub record EndsWell {H : Type 0} (steps : H → HostCall → Reply → H → Type 0) (a : SessionState × H) (w : Traffic) (applied : ℕ) (h' : H) : Type 0 where
  pub held : List ℕ
  pub session : SessionState
  pub comes : Comes steps a w held (session, h')
  pub over : session.phase ≡ Over
  pub count : applied ≡ session.applied

-- It stopped for an error, and has sent all that was due before, but for the frame that it couldn't send.
pub record StopsFor {H : Type 0} (steps : H → HostCall → Reply → H → Type 0) (a : SessionState × H) (w : Traffic) (e : NetError) (h' : H) : Type 0 where
  pub unsent : Option Frame
  pub held : List ℕ
  pub side : SessionState × H
  pub comes : Comes steps a (record { read = w.read; sent = w.sent ++ option_to_list unsent }) held side
  pub cause : SideStops steps unsent side held e h'

-- It broke off: it stopped, and the refusal that is due for that is sent after all else. Where the stream fails as the
-- refusal is sent, `Io` is reported.
pub record RefusesTraffic {H : Type 0} (steps : H → HostCall → Reply → H → Type 0) (a : SessionState × H) (w : Traffic) (e : NetError) (h' : H) : Type 0 where
  pub why : NetError
  pub before : List Frame
  pub stops : StopsFor steps a (record { read = w.read; sent = before }) why h'
  pub refusal : w.sent ≡ before ++ option_to_list (refusal_of why)
  pub reported : (e ≡ why) ⊎ (e ≡ Io)

-- how it ended, by what it answered
abbrev pub Ends : {H : Type 0} → (H → HostCall → Reply → H → Type 0) → SessionState × H → Traffic → Result ℕ NetError → H → Type 0
Ends steps a w (Ok applied) h' = EndsWell steps a w applied h'
Ends steps a w (Err e) h' = RefusesTraffic steps a w e h'

-- The host forgets the link before the session and after it, whatever it replies after it.
pub record Forgetting {H : Type 0} (steps : H → HostCall → Reply → H → Type 0) (held : H → H → Type 0) (h h' : H) : Type 0 where
  pub start : H
  pub forgot : steps h Forget Forgotten start
  pub left : H
  pub session : held start left
  pub reply : Reply
  pub forgot_again : steps left Forget reply h'

-- The host refused to forget the link, and nothing was read or sent.
pub record NeverBegins {H : Type 0} (steps : H → HostCall → Reply → H → Type 0) (h : H) (w : Traffic) (answer : Result ℕ NetError) (h' : H) : Type 0 where
  pub refusal : PeerError
  pub refused : steps h Forget (Refused refusal) h'
  pub reported : answer ≡ Err (Peer refusal)
  pub nothing : w ≡ record { read = []; sent = [] }

-- A whole session: from its begin s, which is a role and a document, and the host h on.
abbrev pub IsWholeSession : {H : Type 0} → (H → HostCall → Reply → H → Type 0) → SessionState → H → Traffic → Result ℕ NetError → H → Type 0
IsWholeSession steps s h w answer h' = NeverBegins steps h w answer h' ⊎ Forgetting steps (λ start left. Ends steps (s, start) w answer left) h h'
