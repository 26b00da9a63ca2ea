-- What a message says that is to be made.
use Rattle.std.specs.Prelude.{◌≡◌, ◌≤◌, List, length, map}
use Rattle.tp_sync.specs.Common.{ChangeParts, MAX_HASHES}
use Rattle.tp_history.specs.Heads as head
use Rattle.tp_sync.specs.declared.generating.Saying.{Saying}
use Rattle.tp_sync.specs.NextMessage.{HasNothingToSend}
use Rattle.tp_sync.specs.Due.{IsRest, MovesOn, starts_over, message_changes}
use Rattle.tp_sync.specs.Known.{known_hashes}
use Rattle.tp_sync.specs.State.{SyncParts}
use Rattle.tp_sync.specs.Wanting.{wanted_hashes}

-- There is something to say, where C is applied, W waits and s is known of the other, and y is it.
pub record IsToSay (C W : List ChangeParts) (s : SyncParts) (y : Saying) : Type 0 where
  pub loud : HasNothingToSend C s → ⊥
  pub heads : y.heads.items ≡ head.heads C
  pub few : length y.heads.items ≤ MAX_HASHES
  pub wants : y.wants.items ≡ wanted_hashes C W s.theirs
  pub known : y.known.items ≡ known_hashes C
  pub changes : map (λ c. c.now) y.load.changes.items ≡ message_changes C s
  pub next : MovesOn C (message_changes C s) s.next y.load.next
  pub again : y.load.again ≡ starts_over C s
  pub rest : IsRest C s y.load.rest
