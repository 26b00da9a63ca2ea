use Rattle.tp_headline.proofs.Common.{beginning}
use Rattle.tp_headline.proofs.EventLaws.{beginning_carried, goes_on_acts}
use Rattle.tp_headline.proofs.FollowLaws.{carried_follows}
use Rattle.tp_headline.proofs.laws.what_was_shown_lasts.Goals as goal

pub returns : goal.returns
returns c = λ id events w is s. carried_follows w (goes_on_acts events (beginning id) w (beginning_carried id is) s).carried
