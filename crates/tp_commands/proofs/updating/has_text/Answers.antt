use Rattle.std.proofs.Common.{◌≡◌, ◌∙◌, List, ℕ, ap, subst, sym}
use Rattle.std.specs.Str.{chars}
use Rattle.tp_edit.specs.Text.{IsTextOf}
use Rattle.tp_commands.proofs.Updates.{no_text}
use Rattle.tp_commands.proofs.updating.has_text.Goals as goal

pub returns-clause-ok : goal.returns-clause-ok
returns-clause-ok c none =
    let empty = no_text c.is_empty.result c.as_str.result.now c.is_empty.ensures none in
    subst (λ (t : List ℕ). IsTextOf c.args.recovered.now.document.applied t) (ap chars (sym c.as_str.ensures.value) ∙ empty) c.in_ok-text.ensures.text
