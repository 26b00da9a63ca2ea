use Rattle.std.proofs.Common.{◌∙◌, ◌*◌, sym, arith, [], get_or, length-set}
use Rattle.sha2.specs.Sha256.{schedule, word_at}
use Rattle.tp_digest.proofs.Lanewise.{of_four, one_more, said}
use Rattle.tp_digest.proofs.Schedules.{lanes_scheduled, next_in_lane, schedule_first}
use Rattle.tp_digest.proofs.schedule.write_schedule.Goals as goal

pub loop-t-preserved : goal.loop-t-preserved
loop-t-preserved c = record {
  long = length-set c.loop-t.words c.loop-t.t _ ∙ c.loop-t.invariant.long;
  known = one_more c.loop-t.words c.loop-t.t _ (λ s k. word_at (get_or c.args.blocks.now k []) (4 * s))
      (omega (arith, c.loop-t.invariant.long)) c.loop-t.invariant.known
      (of_four _ _ _ _ _ c.word_at.ensures c.word_at-in-loop-t.ensures c.word_at-in-loop-t-2.ensures
      c.word_at-in-loop-t-3.ensures);
}

pub loop-t-2-init : goal.loop-t-2-init
loop-t-2-init c = record {
  long = c.loop-t.invariant.long;
  known = λ s h. said _ _ _ (c.loop-t.invariant.known s (omega arith))
      (λ k _. sym (schedule_first (get_or c.args.blocks.now k []) s h));
}

pub loop-t-2-preserved : goal.loop-t-2-preserved
loop-t-2-preserved c =
    let long = c.loop-t-2.invariant.long in
    record {
      long = length-set c.loop-t-2.words c.loop-t-2.t _ ∙ long;
      known = one_more c.loop-t-2.words c.loop-t-2.t _
          (λ s k. get_or (schedule (get_or c.args.blocks.now k []) 48) s 0) (omega arith) c.loop-t-2.invariant.known
          (said _ _ _ c.next_word.ensures (λ k h. next_in_lane c.loop-t-2.words c.args.blocks.now c.loop-t-2.t k
          long (omega arith) (omega arith) h c.loop-t-2.invariant.known));
    }

pub returns : goal.returns
returns c =
    lanes_scheduled c.loop-t-2.words c.args.blocks.now c.loop-t-2.invariant.long
    (λ t h. c.loop-t-2.invariant.known t (omega arith))
