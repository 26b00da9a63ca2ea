use Rattle.tp_elements.specs.Entered.{place_of_reference}
use Rattle.tp_posindex.specs.Layout.{concat_blocks, index_at}
use Rattle.tp_posindex.proofs.Seeking.{inserted_found}
use Rattle.tp_posindex.proofs.spots.spot_for.Goals as goal

pub returns-clause-order : goal.returns-clause-order
returns-clause-order c = λ ch.
    let E = c.args.entries.now.items in
    let bs = c.args.blocks.now.blocks in
    let from = index_at bs c.right_after.result.block c.right_after.result.offset in
    let to = index_at bs c.past_greater.result.block c.past_greater.result.offset in
    inserted_found E (concat_blocks bs) (record { id = c.args.id.now; after = place_of_reference E c.args.reference; ch = ch })
    from to c.requires.can c.past_greater.ensures.from c.past_greater.ensures.within (c.right_after.ensures.ends E) c.past_greater.ensures.passed c.past_greater.ensures.stops
