use Rattle.std.proofs.Common.{◌≡◌, ◌<◌, length, true, sym, ap, ◌∙◌, arith}
use Rattle.tp_opid.specs.Same.{id_eq}
use Rattle.tp_elements.specs.Came.{element_at}
use Rattle.tp_elements.proofs.Entering.{position_least, nowhere}
use Rattle.tp_elements.proofs.entries.Entries.search.Goals as goal

pub returns-then-is : goal.returns-then-is
returns-then-is c =
    let E = c.args.self.now.items in
    let lt : c.loop-number.number < length E = omega (arith, c.loop-number-test.true, c.len-number-end.ensures.value) in
    let named : id_eq (element_at E c.loop-number.number).id c.args.id.now ≡ true = sym (ap (λ x. id_eq x c.args.id.now) c.id.ensures) ∙ sym c.is.ensures ∙ c.if-is.true in
    sym (position_least E c.loop-number.number c.args.id.now lt named c.loop-number.invariant)

pub returns : goal.returns
returns c =
    let E = c.args.self.now.items in
    sym (nowhere E c.loop-number.number c.args.id.now (omega (arith, c.loop-number-test.false, c.len-number-end.ensures.value)) c.loop-number.invariant)
