use Rattle.tp_headline.proofs.Common.{beginning, lists_of}
use Rattle.tp_headline.proofs.EventLaws.{beginning_carried, goes_on_acts}
use Rattle.tp_headline.proofs.OneList.{acts_headline}
use Rattle.tp_headline.proofs.laws.headline.Goals as goal

pub returns : goal.returns
returns c = λ id events w is s. let on = goes_on_acts events (beginning id) w (beginning_carried id is) s in acts_headline on.acts.acts (lists_of w) on.acts.steps
