use Rattle.tp_sync.proofs.TakeLaws.{piece}
use Rattle.tp_sync.proofs.laws.a_message_carries_a_piece.Goals as goal

pub returns : goal.returns
returns c = piece
