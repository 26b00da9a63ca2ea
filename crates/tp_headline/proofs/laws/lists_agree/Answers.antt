use Rattle.tp_headline.proofs.ActLaws.{coherent_lasts, no_lists_coherent, steps_cohere}
use Rattle.tp_headline.proofs.Common.{no_lists}
use Rattle.tp_headline.proofs.OneList.{acts_headline}
use Rattle.tp_headline.proofs.laws.lists_agree.Goals as goal

pub returns : goal.returns
returns c = record {
  headline = acts_headline;
  lasts = λ acts s steps. coherent_lasts s (steps_cohere no_lists acts s no_lists_coherent steps);
}
