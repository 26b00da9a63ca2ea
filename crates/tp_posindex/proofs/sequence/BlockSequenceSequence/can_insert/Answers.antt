use Rattle.tp_posindex.specs.Layout.{concat_blocks}
use Rattle.tp_posindex.proofs.Sequencing.{new_test, can_not, can_start, can_after}
use Rattle.tp_posindex.proofs.sequence.BlockSequenceSequence.can_insert.Goals as goal

pub returns-then-contains : goal.returns-then-contains
returns-then-contains c = can_not (concat_blocks c.args.self.now.blocks) c.args.id.now c.args.after.now (c.contains.ensures.0 c.if-contains.true)

pub returns-in-Start : goal.returns-in-Start
returns-in-Start c = rw c.in-Start.is (can_start (concat_blocks c.args.self.now.blocks) c.args.id.now (new_test (concat_blocks c.args.self.now.blocks) c.args.id.now c.contains.result c.contains.ensures c.if-contains.false))

pub returns-then-is_below : goal.returns-then-is_below
returns-then-is_below c =
    rw c.in-After.is (can_after (concat_blocks c.args.self.now.blocks) c.args.id.now c.in-After.reference c.contains-then-is_below.result (new_test (concat_blocks c.args.self.now.blocks) c.args.id.now c.contains.result c.contains.ensures c.if-contains.false) (c.is_below.ensures.0 c.if-is_below.true) c.contains-then-is_below.ensures)
