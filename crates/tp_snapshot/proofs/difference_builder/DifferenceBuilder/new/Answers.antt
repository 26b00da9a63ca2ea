use Rattle.std.proofs.lemmas.Str.{chars-nil}
use Rattle.tp_snapshot.proofs.Common.{[], length, refl, sym, ap, ◌∙◌, chars, string_bytes}
use Rattle.tp_snapshot.proofs.BuilderLaws.{state_same}
use Rattle.tp_snapshot.proofs.difference_builder.DifferenceBuilder.new.Goals as goal

pub invariant_of-result : goal.invariant_of-result
invariant_of-result c = sym (ap length (ap chars c.new.ensures.bytes ∙ chars-nil))

pub returns : goal.returns
returns c = state_same c.args.at c.args.at 0 (chars (string_bytes c.new.result)) [] c.new-2.result.items [] refl (ap chars c.new.ensures.bytes ∙ chars-nil) c.new-2.ensures.items
