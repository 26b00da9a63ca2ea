use Rattle.std.proofs.Common.{◌∙◌, sym}
use Rattle.std.specs.String.{string_bytes}
use Rattle.tp_simulate.proofs.TellLaws.{text_is, reported_shown}
use Rattle.tp_simulate.proofs.telling.reported_text.Goals as goal

pub returns : goal.returns
returns c =
    text_is string_bytes c.line_of_text.result _ _ (reported_shown c.args.asked.now c.args.text.now (sym c.is_mark.ensures ∙ c.if-is_mark.false) c.utf8.text) c.line_of_text.ensures
