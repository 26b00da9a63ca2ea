use Rattle.tp_headline.proofs.Common.{refl}
use Rattle.tp_headline.proofs.EventLaws.{goes_on_acts}
use Rattle.tp_headline.proofs.FollowLaws.{carried_acts}
use Rattle.tp_headline.proofs.laws.peers_are_lists.Goals as goal

pub returns : goal.returns
returns c = record {
  begins = λ id. refl;
  event = carried_acts;
  runs = λ w events w' h s. (goes_on_acts events w w' h s).acts;
}
