-- What the laws of sessions say.
use Rattle.std.specs.Prelude.{◌≡◌, Bool, true, false, Option, Some, None, Result, Ok, Err}
use Rattle.tp_session.specs.Common.{Frame, Refusal}
use Rattle.tp_session.specs.declared.session.Phase.{Phase}
use Rattle.tp_session.specs.declared.session.Phase.TheVariants.{AwaitsHello, Exchanges, SaidDone, Over}
use Rattle.tp_session.specs.declared.turn.Turn.{Turn}
use Rattle.tp_session.specs.declared.turn.Ended.{Ended}

-- whether a session has ended
abbrev pub is_over : Phase → Bool
is_over AwaitsHello = false
is_over Exchanges = false
is_over SaidDone = false
is_over Over = true

-- what is sent is a refusal, or nothing
abbrev pub IsRefusalAtMost : Option Frame → Type 0
IsRefusalAtMost None = Unit {0}
IsRefusalAtMost (Some (Refusal code)) = Unit {0}
IsRefusalAtMost (Some _) = ⊥

-- The answer sends nothing but a refusal, and that beside an error.
abbrev pub SaysNoMore : Result Turn Ended → Type 0
SaysNoMore (Ok turn) = turn.send ≡ None
SaysNoMore (Err ended) = IsRefusalAtMost ended.send
