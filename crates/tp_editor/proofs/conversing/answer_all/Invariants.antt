use Rattle.std.proofs.Common.{◌≡◌, ◌++◌}
use Rattle.tp_frame.specs.Reading.{IsUnfinishedFrame}
use Rattle.tp_session.specs.declared.conversation.Next.TheVariants.{Waits}
use Rattle.tp_session.specs.Laws.{is_over}
use Rattle.tp_session.proofs.Transcripts.{has_ended}
use Rattle.tp_editor.specs.Meeting.{AnswersAll}
use Rattle.tp_editor.proofs.conversing.answer_all.Given as goal

-- the frames so far were answered by what is in the answer
abbrev pub invariant-loop : goal.invariant-loop
invariant-loop g l =
    AnswersAll g.H.Host.steps (l.fn.conversation.session, g.H.Host.seen l.fn.host) (l.fn.conversation.bytes ++ l.bytes) l.answer.items (l.conversation.session, g.H.Host.seen l.host) l.conversation.bytes
    × (is_over l.conversation.session.phase ≡ has_ended l.next) × (l.next ≡ Waits → IsUnfinishedFrame l.conversation.bytes)
