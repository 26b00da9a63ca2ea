use Rattle.std.proofs.Common.{◌∙◌, ap, refl}
use Rattle.std.proofs.lemmas.Result.{IfOk-weaker}
use Rattle.tp_hunks.proofs.LineLists.{texts}
use Rattle.tp_hunks.proofs.PrintLaws.{hunks_joined}
use Rattle.tp_hunks.proofs.printing.hunk_text.Goals as goal

pub returns : goal.returns
returns c =
    IfOk-weaker c.hunk_texts.result _ _
    (λ l e. e ∙ hunks_joined _ _ _ _ _ _ (ap texts c.deref.ensures.value ∙ c.in_ok-old_lines.ensures) (ap texts c.deref-2.ensures.value ∙ c.in_ok-new_lines.ensures) refl)
    c.hunk_texts.ensures
