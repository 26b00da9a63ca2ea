use Rattle.tp_history.proofs.Common.{◌≡◌, inl, sym, subst, rest_all, rest_more, values_of, deref, In}
use Rattle.std.proofs.Common.{rules}
use Rattle.tp_history.proofs.ListedLaws.{noted_more, noted_all}
use Rattle.tp_history.proofs.by_actor.ByActor.add_noted.Goals as goal

pub loop-place-init : goal.loop-place-init
loop-place-init c =
    let is : c.into_iter-place-iterator.result ≡ values_of c.args.self.now.firsts.entries = search rules in
    record { before = λ a i. i; noted = λ p i. inl (subst (In p) (sym is) i) }

pub loop-place-preserved : goal.loop-place-preserved
loop-place-preserved c =
    let step = rest_more deref c.loop-place.place-iterator c.next.new.self c.next.result c.in-Some.place c.in-Some.is c.next.ensures.steps in
    record {
      before = λ a i. c.in_ok-add_at.ensures.before a (c.loop-place.invariant.before a i);
      noted = λ p i. noted_more c.args.changes.now p c.in-Some.place.now c.loop-place.place-iterator c.next.new.self c.loop-place.actors.items c.add_at.new.actors.items step
          c.in_ok-add_at.ensures.before c.in_ok-add_at.ensures.at (c.loop-place.invariant.noted p i);
    }

pub returns-clause-before : goal.returns-clause-before
returns-clause-before c = c.loop-place.invariant.before

pub returns-clause-noted : goal.returns-clause-noted
returns-clause-noted c = λ p i.
    noted_all c.args.changes.now p c.loop-place.place-iterator c.loop-place.actors.items (rest_all deref c.loop-place.place-iterator c.next.new.self c.next.result c.in-None.is c.next.ensures.steps) (c.loop-place.invariant.noted p i)
