use Rattle.tp_rga.proofs.Lookups.{place_found}
use Rattle.tp_rga.proofs.placed.index_for.Goals as goal

pub returns-clause-order : goal.returns-clause-order
returns-clause-order c = λ ch.
    place_found c.args.elements.now (record { id = c.args.id.now; after = c.args.after.now; ch = ch }) c.up_to.result c.past_greater.result c.requires c.past_greater.ensures.from c.past_greater.ensures.within c.up_to.ensures.ends c.past_greater.ensures.passed c.past_greater.ensures.stops
