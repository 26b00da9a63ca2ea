use Rattle.std.proofs.Common.{[], sym, subst, inl, inr}
use Rattle.tp_textpeer.specs.ShowFault.{IsOutsideFault}
use Rattle.tp_textpeer.specs.Log.{IsLogFault}
use Rattle.tp_textpeer.proofs.Links.{AllBelowCounter-none, Remembers-none}
use Rattle.tp_textpeer.proofs.Logs.{IsAfterLog-none, IsAfterLog-ended, IfSome-map}
use Rattle.tp_textpeer.proofs.showing.read_log.Goals as goal

pub loop-count-init : goal.loop-count-init
loop-count-init g c = record {
  below = AllBelowCounter-none _ 1 c.new.ensures.placed;
  log = ([], IsAfterLog-none (g.R.Read.remaining c.args.reader.now), Remembers-none _ _ c.new.ensures.placed c.new.ensures.removals);
}

pub returns-in-Ok-false-clause-ok : goal.returns-in-Ok-false-clause-ok
returns-in-Ok-false-clause-ok g c =
    let ended = c.in-Ok-false.ensures.ended c.in-Ok-false.field-0-test in
    let log = c.loop-count.invariant.log in
    let whole = IsAfterLog-ended (g.R.Read.remaining c.args.reader.now) _ _ c.loop-count.count log.0 log.1 ended.0 in
    (log.0, whole.0, whole.1, whole.2, rw (← ended.1) at log.2)

pub returns-in-Err-clause-err : goal.returns-in-Err-clause-err
returns-in-Err-clause-err g c =
    let known = g.R.Read.remaining c.args.reader.now in
    let log = c.loop-count.invariant.log in
    let same = c.at_change.ensures.fault in
    elim c.at_change.ensures.inside [
      | inl outside ↦ inl (subst IsOutsideFault (sym same) outside, c.at_change.ensures.outside outside)
      | inr number ↦ elim c.in-Err.ensures.err [
        | inl outside ↦ inl (subst IsOutsideFault (sym same) outside, c.at_change.ensures.outside outside)
        | inr bad ↦ inr (IfSome-map known (λ b. IsLogFault b c.loop-count.count c.in-Err.fault) (λ b. IsLogFault b c.at_change.result.change c.at_change.result.fault)
            (λ b is. rw (number, same) is) (bad known log.0 log.1 log.2))
      ]
    ]
