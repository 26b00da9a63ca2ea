use Rattle.tp_message.proofs.WholeMessage.{spelled_alone}
use Rattle.tp_message.proofs.layout.spelled_messages_alone_decode.Goals as goal

pub returns : goal.returns
returns c = spelled_alone
