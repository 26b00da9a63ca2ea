use Rattle.tp_message.proofs.Common.{◌≡◌, ◌+◌, length, drop, message_at, reads}
use Rattle.tp_message.proofs.message.Message.decode.Given as goal

abbrev pub invariant-fields : goal.invariant-fields
invariant-fields l = (l.at + l.reader.left ≡ length l.bytes) × (reads l.reader (drop l.at l.bytes) ≡ message_at l.bytes)

abbrev pub decreases-fields : goal.decreases-fields
decreases-fields l = l.reader.left
