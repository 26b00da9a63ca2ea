use Rattle.tp_window.proofs.MeaningLaws.{edited_alike, edits_alike, news_alike}
use Rattle.tp_window.proofs.laws.a_number_means_its_heads.Goals as goal

pub returns : goal.returns
returns c = record {
  edits = λ window number H texts splices has spelled. edits_alike window number H texts splices has spelled;
  edited = λ window number H texts splices has spelled. edited_alike window number H texts splices has spelled;
  looked = λ memory number H texts has spelled. news_alike memory number H texts has spelled;
}
