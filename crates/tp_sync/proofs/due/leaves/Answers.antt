use Rattle.tp_sync.proofs.due.leaves.Goals as goal

pub is_any_before-requires : goal.is_any_before-requires
is_any_before-requires c = let of = c.requires.1 in (of.0, c.requires.0.wants, of.2)
