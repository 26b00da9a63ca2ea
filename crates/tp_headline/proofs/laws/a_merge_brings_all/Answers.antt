use Rattle.tp_headline.proofs.BringingLaws.{merge_brings}
use Rattle.tp_headline.proofs.laws.a_merge_brings_all.Goals as goal

pub returns : goal.returns
returns c = merge_brings
