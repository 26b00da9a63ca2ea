use Rattle.tp_window.proofs.PageLaws.{page_follows}
use Rattle.tp_window.proofs.laws.a_page_follows.Goals as goal

pub returns : goal.returns
returns c = page_follows
