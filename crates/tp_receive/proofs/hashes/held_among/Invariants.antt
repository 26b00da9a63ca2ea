use Rattle.tp_receive.proofs.Common.{◌≡◌, List, take, ChangeParts, IsHashSetOf}
use Rattle.tp_receive.specs.Receiving as receiving
use Rattle.tp_receive.proofs.hashes.held_among.Given as goal

abbrev pub invariant-loop-change : goal.invariant-loop-change
invariant-loop-change l = (K : List ChangeParts) → IsHashSetOf l.came K → l.held.items ≡ receiving.held_of (receiving.hashes K) (take l.change-index l.changes)
