use Rattle.std.proofs.Common.{◌∙◌, ap}
use Rattle.std.proofs.lemmas.Result.{IfOk-weaker}
use Rattle.tp_hunks.proofs.LineLists.{texts}
use Rattle.tp_hunks.proofs.UnifiedLaws.{blocks_joined}
use Rattle.tp_hunks.proofs.unified.unified_text.Goals as goal

pub returns : goal.returns
returns c =
    IfOk-weaker c.block_texts.result _ _
    (λ t e. e ∙ blocks_joined _ _ _ _ c.args.context c.args.hunks.now _ (ap texts c.deref.ensures.value ∙ c.in_ok-old_lines.ensures)
    (ap texts c.deref-2.ensures.value ∙ c.in_ok-new_lines.ensures) (c.deref-3.ensures.value ∙ c.in_ok-blocks.ensures))
    c.block_texts.ensures
