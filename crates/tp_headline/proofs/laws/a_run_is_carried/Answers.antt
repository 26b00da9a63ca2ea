use Rattle.tp_headline.proofs.Common.{beginning}
use Rattle.tp_headline.proofs.EventLaws.{beginning_carried, goes_on_acts, next_acts}
use Rattle.tp_headline.proofs.FollowLaws.{carried_follows, carried_headline}
use Rattle.tp_headline.proofs.laws.a_run_is_carried.Goals as goal

pub returns : goal.returns
returns c = record {
  begins = beginning_carried;
  goes_on = λ w e reply w' h s. (next_acts w e reply w' h s).carries.carried;
  runs = λ id events w is s. (goes_on_acts events (beginning id) w (beginning_carried id is) s).carried;
  promises = λ w h. (carried_headline w h, carried_follows w h);
}
