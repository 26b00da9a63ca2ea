use Rattle.tp_mirror.proofs.Keeping.{kept-heads, made-copy, made-heads, move-empty}
use Rattle.tp_mirror.proofs.placing.put_back.Goals as goal

pub replace-requires-clause-kept : goal.replace-requires-clause-kept
replace-requires-clause-kept g c = kept-heads _ _ _ _ _ c.in_ok-now.ensures.0 c.requires.kept

pub replace-requires-clause-read : goal.replace-requires-clause-read
replace-requires-clause-read g c = move-empty _ _ _ _ c.in_ok-now.ensures.0 c.requires.read

pub replace-requires-clause-made : goal.replace-requires-clause-made
replace-requires-clause-made g c = made-copy _ _ _ c.in_ok-copy.ensures (made-heads _ _ _ c.in_ok-now.ensures.0)

pub replace-requires-clause-now : goal.replace-requires-clause-now
replace-requires-clause-now g c = made-heads _ _ _ c.in_ok-now.ensures.0
