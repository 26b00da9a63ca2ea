-- The numbers of the refusals, and what a call's answer says.
use Rattle.std.specs.Prelude.{ℕ, Result, Ok, Err}
use Rattle.tp_served.specs.Common.{Reply, Refused}
use Rattle.tp_served.specs.declared.error.ServedError.{ServedError}
use Rattle.tp_served.specs.declared.error.ServedError.TheVariants.{Busy, Peer, BadSeats, OutOfMemory}

abbrev pub code_of : ServedError → ℕ
code_of Busy = 1
code_of (Peer e) = 2
code_of BadSeats = 3
code_of OutOfMemory = 4

-- What came of one try: the word was found taken; the peer replied; or an answer that no try gives.
pub data TryOutcome : Type 0 where
  Missed : TryOutcome
  Replied : Reply → TryOutcome
  Never : TryOutcome

-- what came of a try by its result
abbrev pub outcome_of_try : {T : Type 0} → (T → Reply) → Result T ServedError → TryOutcome
outcome_of_try f (Ok x) = Replied (f x)
outcome_of_try f (Err Busy) = Missed
outcome_of_try f (Err (Peer e)) = Replied (Refused e)
outcome_of_try f (Err BadSeats) = Never
outcome_of_try f (Err OutOfMemory) = Never
