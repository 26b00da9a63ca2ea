use Rattle.tp_ancestry.proofs.Common.{slice_get-there}
use Rattle.tp_ancestry.proofs.ancestry.Ancestry.take_change.Goals as goal

pub take_in-requires-clause-past : goal.take_in-requires-clause-past
take_in-requires-clause-past c =
    let w = slice_get-there c.args.self.now.changes c.args.place c.requires.place in
    (c.in-Some.ensures w.0 w.1 c.whole.result c.whole.ensures.prefix c.whole.ensures.latest).placed

pub returns-in-Some : goal.returns-in-Some
returns-in-Some c = λ _. record {
  placed = c.in_ok-take_in.ensures.placed;
  own = c.whole.result;
  known = λ d at. c.in-Some.ensures d at c.whole.result c.whole.ensures.prefix c.whole.ensures.latest;
  held = c.in_ok-take_in.ensures.held;
}

pub take_in-requires-in-Some-vector_at-clause-past : goal.take_in-requires-in-Some-vector_at-clause-past
take_in-requires-in-Some-vector_at-clause-past c =
    let w = slice_get-there c.args.self.now.changes c.args.place c.requires.place in
    (c.in-Some-vector_at.ensures w.0 w.1).placed

pub returns-in_ok-take_in-in-Some-vector_at : goal.returns-in_ok-take_in-in-Some-vector_at
returns-in_ok-take_in-in-Some-vector_at c = λ _. record {
  placed = c.in_ok-take_in-in-Some-vector_at.ensures.placed;
  own = c.in-Some-vector_at.past.now;
  known = c.in-Some-vector_at.ensures;
  held = c.in_ok-take_in-in-Some-vector_at.ensures.held;
}
