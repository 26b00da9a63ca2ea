use Rattle.tp_headline.proofs.Common.{trace_join, trace_split, MeetsEvent}
use Rattle.tp_headline.proofs.FollowLaws.{carried_moment}
use Rattle.tp_headline.proofs.laws.runs_part_by_part.Goals as goal

pub returns : goal.returns
returns c = record {
  join = λ events more w m w' first next. trace_join MeetsEvent w events m more w' first next;
  split = λ events more w w' run. trace_split MeetsEvent w events more w' run;
  moments = λ w events replies w' k h s. carried_moment w events replies w' k h s;
}
