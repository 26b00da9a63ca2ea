use Rattle.tp_ancestry.proofs.Common.{◌<◌, ◌≤◌, ◌∙◌, sym, length, arith, nat_tests, past_changes}
use Rattle.tp_history.specs.Fit as fit
use Rattle.tp_history.proofs.CountLaws.{count_by-le, count_by-length}
use Rattle.tp_history.proofs.MarksLaws.{hashes_once}
use Rattle.tp_ancestry.proofs.PastSetLaws.{past_changes-In, held_by_number}
use Rattle.tp_history.proofs.ActorChangesLaws.{own_within}
use Rattle.tp_ancestry.proofs.ancestry.Ancestry.count_in.Goals as goal

pub loop-low-init : goal.loop-low-init
loop-low-init c =
    let C = c.args.self.now.changes in
    let P = past_changes c.args.past_set.now C in
    let long = c.len-high.ensures in
    record {
      low = λ a o. omega arith;
      high = λ a o.
          let fewer : fit.count_by a P ≤ fit.count_by a C = count_by-le a P C (hashes_once P c.requires.past) (past_changes-In c.args.past_set.now C) in
          let all = o.all in
          omega arith;
      within = omega arith;
    }

pub holds-requires-clause-place : goal.holds-requires-clause-place
holds-requires-clause-place c =
    own_within c.args.self.now.changes c.requires.own.0 c.args.own.now _ c.get.result c.requires.own.1 (omega (arith, c.loop-low.invariant.within, c.next_to_look_at-middle.ensures.before)) c.get.ensures

pub loop-low-preserved-then-holds : goal.loop-low-preserved-then-holds
loop-low-preserved-then-holds c =
    let C = c.args.self.now.changes in
    let past_set = c.args.past_set.now in
    let middle = c.next_to_look_at-middle.result in
    let small : middle < length c.args.own.now = omega (arith, c.loop-low.invariant.within, c.next_to_look_at-middle.ensures.before) in
    record {
      low = λ a o.
          let held = sym (held_by_number past_set C a c.args.own.now middle c.get.result c.changes-changes.ensures.sound c.requires.past o small c.get.ensures) ∙ sym c.holds.ensures ∙ c.if-holds.true in
          let less : middle < fit.count_by a (past_changes past_set C) = grind (arith, nat_tests) in
          omega arith;
      high = c.loop-low.invariant.high;
      within = c.loop-low.invariant.within;
    }

pub loop-low-preserved : goal.loop-low-preserved
loop-low-preserved c =
    let C = c.args.self.now.changes in
    let past_set = c.args.past_set.now in
    let middle = c.next_to_look_at-middle.result in
    let small : middle < length c.args.own.now = omega (arith, c.loop-low.invariant.within, c.next_to_look_at-middle.ensures.before) in
    record {
      low = c.loop-low.invariant.low;
      high = λ a o.
          let lacks = sym (held_by_number past_set C a c.args.own.now middle c.get.result c.changes-changes.ensures.sound c.requires.past o small c.get.ensures) ∙ sym c.holds.ensures ∙ c.if-holds.false in
          let most : fit.count_by a (past_changes past_set C) ≤ middle = grind (arith, nat_tests) in
          most;
      within = omega arith;
    }

pub returns : goal.returns
returns c =
    let all = c.requires.own.1.all in
    let few = count_by-length c.requires.own.0 c.args.self.now.changes in
    let from = c.loop-low.invariant.low c.requires.own.0 c.requires.own.1 in
    let to = c.loop-low.invariant.high c.requires.own.0 c.requires.own.1 in
    let within = c.loop-low.invariant.within in
    record {
      count = λ a o.
          let low = c.loop-low.invariant.low a o in
          let high = c.loop-low.invariant.high a o in
          omega arith;
      few = omega arith;
    }
