use Rattle.std.proofs.Common.{◌<◌, length, ◌∙◌, arith}
use Rattle.tp_elements.specs.Indexed.{counter_of_element}
use Rattle.tp_elements.proofs.Linking.{step_back, none_back}
use Rattle.tp_elements.proofs.lookup.seek.Goals as goal

pub steps-preserved : goal.steps-preserved
steps-preserved c =
    let E = c.args.entries.now.items in
    let found = c.in-Some.ensures.found in
    let at : c.steps.at < length E = c.steps.invariant.0 in
    let greater : c.args.counter < counter_of_element E c.steps.at = omega (arith, c.counter.ensures, c.if-counter.false) in
    let less : c.in-Some.next < c.steps.at = found.0 in
    let within : c.in-Some.next < length E = omega arith in
    (within, found.1 ∙ c.steps.invariant.1, step_back E c.args.from c.steps.at c.in-Some.next c.args.counter c.steps.invariant.1 greater c.steps.invariant.2 found.2)

pub returns-in-None-clause-none : goal.returns-in-None-clause-none
returns-in-None-clause-none c =
    let E = c.args.entries.now.items in
    let greater : c.args.counter < counter_of_element E c.steps.at = omega (arith, c.counter.ensures, c.if-counter.false) in
    none_back E c.args.from c.steps.at c.args.counter c.steps.invariant.1 greater c.steps.invariant.2 c.in-None.ensures.none
