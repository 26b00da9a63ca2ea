use Rattle.tp_ancestry.proofs.Common.{◌≡◌, ◌∙◌, List, Bool, length, get_or, sym, ap, arith, false, inl, inr, cases_lt, get_or_past, marked_of}
use Rattle.tp_ancestry.proofs.OutsideLaws.{none_before, length-marked}
use Rattle.tp_ancestry.proofs.ancestry.Ancestry.next_outside_before.Goals as goal

pub loop-place-init : goal.loop-place-init
loop-place-init c = λ k le lt. none_before c.args.outside.now.marked c.args.self.now.changes k c.requires (omega (arith, le, lt, c.max-start.ensures, c.first.ensures))

pub returns-then-has : goal.returns-then-has
returns-then-has c = record {
  beyond = omega (arith, c.loop-place.auto.place, c.max-start.ensures);
  none = c.loop-place.invariant;
  at = λ small. sym c.has.ensures ∙ c.if-has.true;
}

pub loop-place-preserved : goal.loop-place-preserved
loop-place-preserved c = λ k le lt. elim (cases_lt k c.loop-place.place) [
  | inl before ↦ c.loop-place.invariant k le before
  | inr here ↦
      let marks : List Bool = marked_of c.args.outside.now.marked c.args.self.now.changes in
      ap (λ n. get_or marks n false) (omega (arith, here, lt)) ∙ sym c.has.ensures ∙ c.if-has.false
]

pub returns : goal.returns
returns c =
    let C = c.args.self.now.changes in
    let t = c.args.outside.now.marked in
    let long : length (marked_of t C) ≡ length C = length-marked t C c.requires in
    record {
      beyond = omega (arith, c.max.ensures, c.max-start.ensures);
      none = λ k le lt. elim (cases_lt k c.loop-place.place) [
        | inl before ↦ c.loop-place.invariant k le before
        | inr past ↦ get_or_past (marked_of t C) k false (omega (arith, past, lt, long, c.max.ensures, c.len.ensures.len, c.min-end.ensures, c.loop-place.auto.place, c.loop-place-test.false))
      ];
      at = λ small. absurd (omega (arith, small, c.max.ensures));
    }
