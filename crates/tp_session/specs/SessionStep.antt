-- The session as a machine: what a side answers to a frame, and how it and its host are then. A side is a session with
-- what is seen of its host, whose calls go by the relation `steps`.
use Rattle.std.specs.Prelude.{◌≡◌, ◌⊎◌, ℕ, ◌==◌, List, length, Bool, false, true, ◌&&◌, Option, Some, None, Result, Ok, Err, MatchBool}
use Rattle.tp_session.specs.Common.{DocId, Frame, Hello, Sync, Done, Refusal, PeerError, Reply, Received, Generated, Refused, RefusesDecoding}
use Rattle.tp_opid.specs.Same.{same_doc}
use Rattle.tp_peer.specs.Taking.{Report}
use Rattle.tp_session.specs.declared.error.NetError.{NetError}
use Rattle.tp_session.specs.declared.error.NetError.TheVariants.{OtherDocument, Version, Unexpected, RefusedByOther, Peer, OutOfMemory}
use Rattle.tp_session.specs.declared.session.Role.{Role}
use Rattle.tp_session.specs.declared.session.Role.TheVariants.{Client, Server}
use Rattle.tp_session.specs.declared.session.Phase.{Phase}
use Rattle.tp_session.specs.declared.session.Phase.TheVariants.{AwaitsHello, Exchanges, SaidDone, Over}
use Rattle.tp_session.specs.declared.session.TheConstants.{VERSION}
use Rattle.tp_session.specs.declared.turn.Turn.{Turn}
use Rattle.tp_session.specs.declared.turn.Ended.{Ended}
use Rattle.tp_session.specs.HostCalls.{HostCall, Receive, Generate}
use Rattle.tp_session.specs.NetError.{refusal_of}
use Rattle.tp_session.specs.SessionState.{SessionState, counting, greeting}

-- ---- what a side does

-- It sends a frame and goes on in a phase.
abbrev pub SendsFrame : SessionState → Frame → Phase → Result Turn Ended → SessionState → Type 0
SendsFrame s frame phase answer s' = (answer ≡ Ok (record { send = Some frame; ended = false })) × (s' ≡ record s { phase = phase })

-- It ends well, and sends what it still has to.
abbrev pub EndsSession : SessionState → Option Frame → Result Turn Ended → SessionState → Type 0
EndsSession s send answer s' = (answer ≡ Ok (record { send = send; ended = true })) × (s' ≡ record s { phase = Over })

-- It ends for an error, and sends the refusal that is due.
abbrev pub RefusesSessionStep : SessionState → NetError → Result Turn Ended → SessionState → Type 0
RefusesSessionStep s error answer s' = (answer ≡ Err (record { error = error; send = refusal_of error })) × (s' ≡ record s { phase = Over })

-- It had ended: it stays as it is, and sends nothing.
abbrev pub IsLate : SessionState → Result Turn Ended → SessionState → Type 0
IsLate s answer s' = (answer ≡ Err (record { error = Unexpected; send = None })) × (s' ≡ s)

-- ---- messages

-- whether what came brought nothing new: no change was applied, and the heads are those of the message before
abbrev pub is_stale : Report → Bool → Bool
is_stale r same_heads = (length r.applied == 0) && same_heads

-- It sends the message that was made. Where what came was stale and the message begins again with what is due, the
-- other refuses what it is sent, and done is said in its place. Memory may be refused for the frame.
abbrev pub SendsGenerated : SessionState → Bool → List ℕ × Bool → Result Turn Ended → SessionState → Type 0
SendsGenerated s stale sent answer s' =
    MatchBool (stale && sent.1) (SendsFrame s Done SaidDone answer s') (SendsFrame s (Sync sent.0) Exchanges answer s' ⊎ RefusesSessionStep s OutOfMemory answer s')

-- what it does by what the host replied as it was to make a message
abbrev pub AnswersGenerated : SessionState → Bool → Reply → Result Turn Ended → SessionState → Type 0
AnswersGenerated s stale (Generated (Some sent)) answer s' = SendsGenerated s stale sent answer s'
AnswersGenerated s stale (Generated None) answer s' = SendsFrame s Done SaidDone answer s'
AnswersGenerated s stale (Refused e) answer s' = RefusesSessionStep s (Peer e) answer s'
AnswersGenerated s stale _ answer s' = ⊥

-- The host was asked for a message, and the side answers by what it replied.
abbrev pub AsksForMessage : {H : Type 0} → (H → HostCall → Reply → H → Type 0) → Bool → SessionState × H → Result Turn Ended → SessionState × H → Type 0
AsksForMessage steps stale a answer b = (reply : Reply) × steps a.1 Generate reply b.1 × AnswersGenerated a.0 stale reply answer b.0

-- what it does by what the host replied as it received a message
abbrev pub AnswersReceived : {H : Type 0} → (H → HostCall → Reply → H → Type 0) → Reply → SessionState × H → Result Turn Ended → SessionState × H → Type 0
AnswersReceived steps (Received r same_heads) a answer b = AsksForMessage steps (is_stale r same_heads) (counting a.0 (length r.applied), a.1) answer b
AnswersReceived steps (Refused e) a answer b = RefusesSessionStep a.0 (Peer e) answer b.0 × (b.1 ≡ a.1)
AnswersReceived steps _ a answer b = ⊥

-- The bytes are no message, or memory was refused as they were read: the host isn't asked.
abbrev pub RefusesSessionMessage : {H : Type 0} → List ℕ → SessionState × H → Result Turn Ended → SessionState × H → Type 0
RefusesSessionMessage bytes a answer b = (e : PeerError) × RefusesDecoding bytes e × RefusesSessionStep a.0 (Peer e) answer b.0 × (b.1 ≡ a.1)

-- The host received the bytes, and the side answers by what it replied; or they are refused before it is asked.
abbrev pub AnswersSync : {H : Type 0} → (H → HostCall → Reply → H → Type 0) → List ℕ → SessionState × H → Result Turn Ended → SessionState × H → Type 0
AnswersSync {H} steps bytes a answer b = ((reply : Reply) × (m : H) × steps a.1 (Receive bytes) reply m × AnswersReceived steps reply (a.0, m) answer b) ⊎ RefusesSessionMessage bytes a answer b

-- ---- frames

-- A hello that may come: its version is judged, and then its document. A server answers by its hello, a client by its
-- first message.
abbrev pub Welcomes : {H : Type 0} → (H → HostCall → Reply → H → Type 0) → Role → SessionState × H → Result Turn Ended → SessionState × H → Type 0
Welcomes steps Client a answer b = AsksForMessage steps false a answer b
Welcomes steps Server a answer b = SendsFrame a.0 (greeting a.0.id) Exchanges answer b.0 × (b.1 ≡ a.1)

abbrev pub Greets : {H : Type 0} → (H → HostCall → Reply → H → Type 0) → ℕ → DocId → SessionState × H → Result Turn Ended → SessionState × H → Type 0
Greets steps version id a answer b =
    MatchBool (version == VERSION)
    (MatchBool (same_doc a.0.id id) (Welcomes steps a.0.role a answer b) (RefusesSessionStep a.0 OtherDocument answer b.0 × (b.1 ≡ a.1)))
    (RefusesSessionStep a.0 Version answer b.0 × (b.1 ≡ a.1))

-- A frame comes for which the host isn't asked: a session that has ended is late, and a refusal ends any other. To the
-- other's done a side that hasn't said it says it, and the session has ended. Nothing else may come so.
abbrev pub AnswersAlone : Phase → Frame → SessionState → Result Turn Ended → SessionState → Type 0
AnswersAlone Over frame s answer s' = IsLate s answer s'
AnswersAlone phase (Refusal code) s answer s' = RefusesSessionStep s (RefusedByOther code) answer s'
AnswersAlone Exchanges Done s answer s' = EndsSession s (Some Done) answer s'
AnswersAlone SaidDone Done s answer s' = EndsSession s None answer s'
AnswersAlone phase frame s answer s' = RefusesSessionStep s Unexpected answer s'

-- A frame comes in the phase: a hello as the first, and messages between the other's hello and this side's done.
abbrev pub OnFrame : {H : Type 0} → (H → HostCall → Reply → H → Type 0) → Phase → Frame → SessionState × H → Result Turn Ended → SessionState × H → Type 0
OnFrame steps AwaitsHello (Hello version id) a answer b = Greets steps version id a answer b
OnFrame steps Exchanges (Sync bytes) a answer b = AnswersSync steps bytes a answer b
OnFrame steps phase frame a answer b = AnswersAlone phase frame a.0 answer b.0 × (b.1 ≡ a.1)

-- From the side a the frame may give the answer and leave b.
abbrev pub SessionStep : {H : Type 0} → (H → HostCall → Reply → H → Type 0) → SessionState × H → Frame → Result Turn Ended → SessionState × H → Type 0
SessionStep steps a frame answer b = OnFrame steps a.0.phase frame a answer b
