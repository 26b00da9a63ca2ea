use Rattle.tp_mirror.proofs.Keeping.{kept-read}
use Rattle.tp_mirror.proofs.Watching.{left-empty-by, read-found-by, taken-own}
use Rattle.tp_mirror.proofs.Resulting.{found-busy, found-empty, was-found}
use Rattle.tp_mirror.proofs.rounds.round.Goals as goal

pub take_in-requires-clause-kept : goal.take_in-requires-clause-kept
take_in-requires-clause-kept g c = kept-read _ _ _ _ _ _ c.in_ok-look.ensures c.in_ok-is_quiet.ensures.kept

pub take_in-requires-clause-read : goal.take_in-requires-clause-read
take_in-requires-clause-read g c = read-found-by _ _ _ _ _ c.in_ok-look.ensures c.in-Text.is

pub put-requires : goal.put-requires
put-requires g c = taken-own _ _ _ _ _ c.in_ok-note-in-Text.ensures.taken

pub put_back-requires-clause-kept : goal.put_back-requires-clause-kept
put_back-requires-clause-kept g c = kept-read _ _ _ _ _ _ c.in_ok-look.ensures c.in_ok-is_quiet.ensures.kept

pub put_back-requires-clause-read : goal.put_back-requires-clause-read
put_back-requires-clause-read g c = left-empty-by _ _ _ c.in_ok-look.ensures c.in-LeftEmpty.is

pub put_again-requires-clause-kept : goal.put_again-requires-clause-kept
put_again-requires-clause-kept g c = kept-read _ _ _ _ _ _ c.in_ok-look.ensures c.in_ok-is_quiet.ensures.kept

pub returns-else-state-clause-kept : goal.returns-else-state-clause-kept
returns-else-state-clause-kept g c = kept-read _ _ _ _ _ _ c.in_ok-look.ensures c.in_ok-is_quiet.ensures.kept

pub returns-in-Busy-clause-kept : goal.returns-in-Busy-clause-kept
returns-in-Busy-clause-kept g c = kept-read _ _ _ _ _ _ c.in_ok-look.ensures c.in_ok-is_quiet.ensures.kept

pub returns-in-NotText-clause-kept : goal.returns-in-NotText-clause-kept
returns-in-NotText-clause-kept g c = kept-read _ _ _ _ _ _ c.in_ok-look.ensures c.in_ok-is_quiet.ensures.kept

pub returns-in-Empty-clause-kept : goal.returns-in-Empty-clause-kept
returns-in-Empty-clause-kept g c = kept-read _ _ _ _ _ _ c.in_ok-look.ensures c.in_ok-is_quiet.ensures.kept

pub returns-in-Busy-clause-outcome : goal.returns-in-Busy-clause-outcome
returns-in-Busy-clause-outcome g c = found-busy _ _ _ _ c.in_ok-look.ensures c.in-Busy.is

pub returns-in-Empty-clause-outcome : goal.returns-in-Empty-clause-outcome
returns-in-Empty-clause-outcome g c = found-empty _ _ _ c.in_ok-look.ensures c.in-Empty.is

pub returns-in-NotText-clause-outcome : goal.returns-in-NotText-clause-outcome
returns-in-NotText-clause-outcome g c = was-found _ _ _ _ _ c.in_ok-look.ensures c.in-NotText.is

pub returns-else-state-clause-outcome : goal.returns-else-state-clause-outcome
returns-else-state-clause-outcome g c = was-found _ _ _ _ _ c.in_ok-look.ensures c.in-Absent.is
