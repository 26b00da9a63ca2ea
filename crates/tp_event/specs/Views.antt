-- The events and replies of the program, as the definitions have them.
use Rattle.std.specs.Prelude.{Option, Some, None}
use Rattle.tp_call.specs.Calls as own
use Rattle.tp_peer.specs.PeerStep as peer
use Rattle.tp_peer.specs.Taking.{report_of}
use Rattle.tp_headline.specs.Call as call
use Rattle.tp_headline.specs.Event as event
use Rattle.tp_headline.specs.Reply as reply
use Rattle.tp_event.specs.declared.event.Call.{Call}
use Rattle.tp_event.specs.declared.event.Call.TheVariants as called
use Rattle.tp_event.specs.declared.event.Event.{Event}
use Rattle.tp_event.specs.declared.event.Event.TheVariants as happened
use Rattle.tp_event.specs.declared.reply.Answer.{Answer}
use Rattle.tp_event.specs.declared.reply.Answer.TheVariants as answered
use Rattle.tp_event.specs.declared.reply.Reply.{Reply}
use Rattle.tp_event.specs.declared.reply.Reply.TheVariants as reported

-- the call
abbrev pub event_call_of : Call → call.EventCall
event_call_of (called.Alone made) = call.Alone (own.call_of made)
event_call_of (called.Merge from) = call.Merge from
event_call_of (called.Deliver entry) = call.Deliver entry

-- the call during which a peer crashes, if it is during one
abbrev pub during_of : Option Call → Option call.EventCall
during_of None = None
during_of (Some c) = Some (event_call_of c)

-- the event
abbrev pub event_of : Event → event.Event
event_of (happened.Start actor) = event.Start actor
event_of (happened.Fork of actor) = event.Fork of actor
event_of (happened.Call peer made) = event.Call peer (event_call_of made)
event_of (happened.Crash peer during kept actor) = event.Crash peer (during_of during) kept actor
event_of (happened.Fail peer kept) = event.Fail peer kept

-- what a peer answered
abbrev pub answer_of : Answer → peer.Reply
answer_of (answered.Alone reply) = own.reply_of reply
answer_of (answered.Merged applied) = peer.Merged (report_of applied)

-- the reply
abbrev pub event_reply_of : Reply → reply.EventReply
event_reply_of (reported.Peer n) = reply.Peer n
event_reply_of (reported.Wire n) = reply.Wire n
event_reply_of reported.Reopened = reply.Reopened
event_reply_of reported.Armed = reply.Armed
event_reply_of (reported.Answered answer) = reply.Answered (answer_of answer)
event_reply_of (reported.Refused why) = reply.Refused why
