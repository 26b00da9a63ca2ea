use Rattle.std.proofs.Common.{◌∙◌, ap, eqb, length}
use Rattle.tp_list.proofs.Utf8Laws.{is_empty_by}
use Rattle.tp_list.proofs.text.Text.is_empty.Goals as goal

pub returns : goal.returns
returns c =
    c.is_empty.ensures ∙ ap (λ bytes. eqb (length bytes) 0) c.as_str.ensures ∙ is_empty_by _ _ c.self.invariant.spelled ∙ ap (λ cs. eqb (length cs) 0) c.self.view_is
