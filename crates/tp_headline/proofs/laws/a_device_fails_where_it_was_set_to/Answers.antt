use Rattle.tp_headline.proofs.DeviceLaws.{call_spends}
use Rattle.tp_headline.proofs.laws.a_device_fails_where_it_was_set_to.Goals as goal

pub returns : goal.returns
returns c = call_spends
