use Rattle.tp_rga.proofs.OneOrder.{inserted_there}
use Rattle.tp_test_by_hand.proofs.sequences.put_and_delete.Goals as goal

pub delete-requires : goal.delete-requires
delete-requires g c = inserted_there _ _ (record { id = c.args.id; after = c.args.after; ch = c.args.ch }) c.in-Ok.ensures.ok
