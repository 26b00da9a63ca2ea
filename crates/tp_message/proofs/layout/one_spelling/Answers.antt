use Rattle.tp_message.proofs.WholeMessage.{one_spelling_is}
use Rattle.tp_message.proofs.layout.one_spelling.Goals as goal

pub returns : goal.returns
returns c = one_spelling_is
