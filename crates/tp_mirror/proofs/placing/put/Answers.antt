use Rattle.std.proofs.Common.{refl}
use Rattle.tp_mirror.proofs.Keeping.{away-heads, kept-heads, made-heads, made-heads-more, move-read, read-heads}
use Rattle.tp_mirror.proofs.Resulting.{found-now}
use Rattle.tp_mirror.proofs.placing.put.Goals as goal

pub settle-requires-clause-kept : goal.settle-requires-clause-kept
settle-requires-clause-kept g c = kept-heads _ _ _ _ _ c.in_ok-now.ensures.0 c.requires.kept

pub settle-requires-clause-now : goal.settle-requires-clause-now
settle-requires-clause-now g c = made-heads _ _ _ c.in_ok-now.ensures.0

pub settle-requires-clause-there : goal.settle-requires-clause-there
settle-requires-clause-there g c = away-heads _ _ _ c.in_ok-now.ensures.0 (c.requires.read.there refl)

pub replace-requires-clause-kept : goal.replace-requires-clause-kept
replace-requires-clause-kept g c = kept-heads _ _ _ _ _ c.in_ok-now.ensures.0 c.requires.kept

pub replace-requires-clause-read : goal.replace-requires-clause-read
replace-requires-clause-read g c = move-read _ _ _ (read-heads _ _ _ _ _ c.in_ok-now.ensures.0 c.requires.read) refl (made-heads-more _ _ _ _ c.in_ok-now.ensures.0 c.requires.made)

pub replace-requires-clause-made : goal.replace-requires-clause-made
replace-requires-clause-made g c = made-heads-more _ _ _ _ c.in_ok-now.ensures.0 c.requires.made

pub replace-requires-clause-now : goal.replace-requires-clause-now
replace-requires-clause-now g c = made-heads _ _ _ c.in_ok-now.ensures.0

pub settle-requires-clause-read : goal.settle-requires-clause-read
settle-requires-clause-read g c = found-now _ _ _ _ c.in_ok-now.ensures.0 c.requires.read (c.is.ensures.0 c.if-is.true)
