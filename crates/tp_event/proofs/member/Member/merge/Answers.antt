use Rattle.tp_event.proofs.Common.{refl, sym, ap, ◌∙◌, member_state, Merge, Merged, reply_of_result, report_of, the_view}
use Rattle.tp_event.proofs.MemberLaws.{left_steps, steps_as}
use Rattle.tp_event.proofs.member.Member.merge.Goals.{in-Running, in-Stopped}
use Rattle.tp_event.proofs.member.Member.merge.Goals as goal

pub returns : goal.returns
returns c = elim c.match-self.branch [
  | in-Running w ↦
      steps_as w.in-Running.peer c.args.self.now w.merge_member.new.peer (the_view c.match-self.self-inside) (Merge c.args.other.now) _ _ (ap member_state (sym w.in-Running.is) ∙ c.self.view_is)
      (ap (reply_of_result (λ a. Merged (report_of a))) (sym w.result-is)) (ap the_view (sym w.self-inside-is)) w.merge_member.ensures
  | in-Stopped w ↦
      steps_as c.args.self.now c.args.self.now c.args.self.now (the_view c.match-self.self-inside) (Merge c.args.other.now) _ _ refl (ap (reply_of_result (λ a. Merged (report_of a))) (sym w.result-is)) (sym c.self.view_is ∙ ap the_view (sym w.self-inside-is))
      (left_steps c.args.self.now w.in-Stopped.field-0 w.in-Stopped.field-1 w.in-Stopped.field-2.content (sym c.self.view_is ∙ ap member_state w.in-Stopped.is) (Merge c.args.other.now) refl)
]
