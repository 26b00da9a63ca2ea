use Rattle.tp_ancestry.proofs.Common.{◌∙◌, length, map, not, ap, sym}
use Rattle.tp_ancestry.proofs.OutsideLaws.{nothing_more, length-marks_since}
use Rattle.tp_ancestry.proofs.ancestry.Ancestry.outside_of.Goals as goal

pub returns-then-has_any : goal.returns-then-has_any
returns-then-has_any c = record {
  well = ap length c.in_ok-marks_since.ensures ∙ length-marks_since c.args.self.now.changes c.args.hashes.now c.args.also.now;
  marks = c.in_ok-marks_since.ensures;
}

pub returns : goal.returns
returns c = record {
  well = c.in_ok-past_set.ensures.past_set;
  marks = ap (map not) c.in_ok-past_set.ensures.bits ∙ nothing_more c.args.self.now.changes c.args.hashes.now c.args.also.now (sym c.has_any.ensures ∙ c.if-has_any.false);
}
