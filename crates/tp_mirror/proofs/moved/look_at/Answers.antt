use Rattle.tp_mirror.proofs.Keeping.{kept-read}
use Rattle.tp_mirror.proofs.Watching.{read-found-by}
use Rattle.tp_mirror.proofs.Resulting.{found-busy}
use Rattle.tp_mirror.proofs.moved.look_at.Goals as goal

pub take_in-requires-clause-kept : goal.take_in-requires-clause-kept
take_in-requires-clause-kept g c = kept-read _ _ _ _ _ _ c.in_ok-look.ensures c.requires.kept

pub take_in-requires-clause-read : goal.take_in-requires-clause-read
take_in-requires-clause-read g c = read-found-by _ _ _ _ _ c.in_ok-look.ensures c.in-Text.is

pub returns-else-not-is-clause-kept : goal.returns-else-not-is-clause-kept
returns-else-not-is-clause-kept g c = kept-read _ _ _ _ _ _ c.in_ok-look.ensures c.requires.kept

pub returns-in-Busy-clause-kept : goal.returns-in-Busy-clause-kept
returns-in-Busy-clause-kept g c = kept-read _ _ _ _ _ _ c.in_ok-look.ensures c.requires.kept

pub returns-in-Absent-clause-kept : goal.returns-in-Absent-clause-kept
returns-in-Absent-clause-kept g c = kept-read _ _ _ _ _ _ c.in_ok-look.ensures c.requires.kept

pub returns-in-Busy-clause-busy : goal.returns-in-Busy-clause-busy
returns-in-Busy-clause-busy g c = λ _. found-busy _ _ _ _ c.in_ok-look.ensures c.in-Busy.is
