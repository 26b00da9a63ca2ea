-- What laws follow from.
use Rattle.tp_history.proofs.CauseLaws.{enters, cause-from_Fits}
use Rattle.tp_history.proofs.SoundLaws.{Fits-from_defect, Fits-at, defect-from_Fits, Sound-before, deps_first, SoundAfter-append, Sound-prefix, Sound-push, SoundAfter-rest}
use Rattle.tp_history.proofs.SetLaws.{defect-same, defect-later, Fits-edit, Fits-part, Fits-whole, Fits-later, past-same}
use Rattle.tp_history.proofs.TreeLaws.{inserts-below_next}
use Rattle.tp_history.proofs.HeadsLaws.{heads-same, heads-push, past-heads}
use Rattle.tp_history.proofs.CountLaws.{next_seq, own_past}
use Rattle.tp_history.proofs.PastLaws.{past-of_part}
use Rattle.tp_history.proofs.PlaceLists.{past_places-rise, past_places-In, past_or_since, not_past_and_since}

-- what fits, and what follows where a change enters
pub ruleset fitting = (Fits-from_defect, defect-from_Fits, Fits-at, Fits-edit, Fits-part, Fits-whole, enters, cause-from_Fits, Sound-push, heads-push, next_seq, own_past)

-- what depends on the changes as a set, and on pasts alone
pub ruleset sets = (defect-same, defect-later, heads-same, past-same, past-of_part, past-heads, deps_first, Sound-before)

-- a sound list and its parts
pub ruleset parts = (SoundAfter-append, Sound-prefix, SoundAfter-rest)

-- places, counters and what is outside a past
pub ruleset places = (past_places-rise, past_places-In, past_or_since, not_past_and_since, inserts-below_next)

-- what goes on fitting
pub ruleset later = (Fits-later, Fits-from_defect, defect-from_Fits)
