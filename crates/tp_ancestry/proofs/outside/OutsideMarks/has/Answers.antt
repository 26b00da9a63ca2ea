use Rattle.tp_ancestry.proofs.Common.{◌≡◌, ◌∙◌, length, not, sym, ap, subst, arith, get_or, get_or-map, bits, false, OutsideMarks, marked_of, AreOutsideMarks}
use Rattle.tp_ancestry.proofs.VectorLaws.{length-bits}
use Rattle.tp_ancestry.proofs.outside.OutsideMarks.has.Goals as goal

pub returns-in-Beyond : goal.returns-in-Beyond
returns-in-Beyond c =
    let C = c.args.ancestry.now.changes in
    let long : length (bits c.in-Beyond.past_set C) ≡ length C = length-bits c.in-Beyond.past_set C (subst (λ (t : OutsideMarks). AreOutsideMarks t C) c.in-Beyond.is c.requires.marked) in
    subst (λ (t : OutsideMarks). not c.holds.result ≡ get_or (marked_of t C) c.args.place false) (sym c.in-Beyond.is)
    (ap not c.holds.ensures ∙ sym (get_or-map not (bits c.in-Beyond.past_set C) c.args.place false false (omega (arith, c.requires.place, long))))
