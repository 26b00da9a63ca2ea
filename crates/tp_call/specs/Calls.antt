-- The calls and replies of the program, as the relation has them.
use Rattle.std.specs.Prelude.{Some}
use Rattle.std.specs.Str.{chars}
use Rattle.std.specs.String.{string_bytes}
use Rattle.tp_message.specs.Spelling.{message_spelling}
use Rattle.tp_call.specs.declared.call.Call.{Call}
use Rattle.tp_call.specs.declared.call.Request.{Request}
use Rattle.tp_call.specs.declared.call.Reply.{Reply}
use Rattle.tp_peer.specs.PeerState.{PeerState}
use Rattle.tp_peer.specs.Sent.{sent_of}
use Rattle.tp_peer.specs.Taking.{report_of}
use Rattle.tp_call.specs.declared.call.Call.TheVariants as call
use Rattle.tp_call.specs.declared.call.Request.TheVariants as request
use Rattle.tp_call.specs.declared.call.Reply.TheVariants as reply
use Rattle.tp_peer.specs.PeerStep as step

abbrev pub call_of : Call → step.Call
call_of (call.Edit splices time message) = step.Edit splices.now time (chars message.now)
call_of (call.Receive link bytes) = step.Receive link.0 bytes.now
call_of (call.Generate link) = step.Generate link.0
call_of (call.Forget link) = step.Forget link.0
call_of call.Read = step.Read
call_of (call.ReadAt hashes) = step.ReadAt hashes.now

-- the call that is asked for: a message that was decoded is received as its bytes are
abbrev pub call_in : Request → step.Call
call_in (request.Call call) = call_of call
call_in (request.Message link message) = step.Receive link.0 (message_spelling message)

abbrev pub reply_of : Reply → step.Reply
reply_of (reply.Made made) = step.Made made
reply_of (reply.Received received) = step.Received (report_of received.applied) received.same_heads
reply_of (reply.Generated sent) = step.Generated (sent_of sent)
reply_of reply.Forgotten = step.Forgotten
reply_of (reply.Text text) = step.Text (chars (string_bytes text))
reply_of (reply.Refused error) = step.Refused error

-- Some peer replies so to the call.
abbrev pub IsReplyTo : step.Call → step.Reply → Type 0
IsReplyTo call reply = (p : PeerState) × (p' : PeerState) × step.PeerStep p call reply p'

-- Where the reply says that a change was made, or is a message, P holds.
abbrev pub Owes : Type 0 → step.Reply → Type 0
Owes P (step.Made (Some h)) = P
Owes P (step.Generated sent) = P
Owes P reply = Unit {0}
