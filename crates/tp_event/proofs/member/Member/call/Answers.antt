use Rattle.tp_event.proofs.Common.{refl, sym, ap, ◌∙◌, member_state, left_with, the_view}
use Rattle.tp_call.specs.Calls.{call_of, reply_of}
use Rattle.tp_event.proofs.MemberLaws.{alone_stopped, left_steps, steps_as}
use Rattle.tp_event.proofs.member.Member.call.Goals.{in-Running, in-Stopped}
use Rattle.tp_event.proofs.member.Member.call.Goals as goal

pub returns : goal.returns
returns c = elim c.match-self.branch [
  | in-Running w ↦
      steps_as w.in-Running.peer c.args.self.now w.make_on.new.peer (the_view c.match-self.self-inside) (call_of c.args.call) _ _ (ap member_state (sym w.in-Running.is) ∙ c.self.view_is)
      (ap reply_of (sym w.result-is)) (ap the_view (sym w.self-inside-is)) w.make_on.ensures.step
  | in-Stopped w ↦
      steps_as c.args.self.now c.args.self.now c.args.self.now (the_view c.match-self.self-inside) (call_of c.args.call) _ _ refl (ap reply_of (sym w.result-is)) (sym c.self.view_is ∙ ap the_view (sym w.self-inside-is))
      (left_steps c.args.self.now w.in-Stopped.field-0 w.in-Stopped.field-1 w.in-Stopped.field-2.content (sym c.self.view_is ∙ ap member_state w.in-Stopped.is) (call_of c.args.call)
      (alone_stopped c.args.call (left_with w.in-Stopped.field-0 w.in-Stopped.field-1 w.in-Stopped.field-2.content)))
]
