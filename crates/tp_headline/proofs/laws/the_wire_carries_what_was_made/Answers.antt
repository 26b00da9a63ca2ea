use Rattle.tp_headline.proofs.Common.{beginning}
use Rattle.tp_headline.proofs.EventLaws.{beginning_carried, goes_on_acts}
use Rattle.tp_headline.proofs.laws.the_wire_carries_what_was_made.Goals as goal

pub returns : goal.returns
returns c = λ id events w is s. (goes_on_acts events (beginning id) w (beginning_carried id is) s).carried.wire
