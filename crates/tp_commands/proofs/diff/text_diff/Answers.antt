use Rattle.std.proofs.Common.{◌∙◌, ap}
use Rattle.std.specs.Str.{chars}
use Rattle.tp_commands.specs.Diff.{with_names}
use Rattle.tp_commands.proofs.DiffLaws.{diff_between, leads_at}
use Rattle.tp_commands.proofs.diff.text_diff.Goals as goal

pub printed_as-requires : goal.printed_as-requires
printed_as-requires c =
    leads_at c.args.document.now.applied c.args.from.now c.args.to.now _ _ _ _ _ _ c.changes-changes.ensures.sound c.in_ok-differences.ensures.leads
    c.in_ok-text_at.ensures.text c.in_ok-text_in.ensures.text
    (c.deref.ensures.value ∙ (c.in_ok-old.ensures ∙ ap chars c.as_str.ensures.value)) (c.deref-2.ensures.value ∙ (c.in_ok-new.ensures ∙ ap chars c.as_str-2.ensures.value))
    c.deref-3.ensures.value

pub returns-clause-ok : goal.returns-clause-ok
returns-clause-ok c =
    diff_between c.args.form.now c.args.document.now.applied c.args.from.now c.args.to.now _ _ _ _ _ _ _ _ c.in_ok-differences.ensures.each
    c.in_ok-text_at.ensures.text c.in_ok-text_in.ensures.text
    (c.deref.ensures.value ∙ (c.in_ok-old.ensures ∙ ap chars c.as_str.ensures.value)) (c.deref-2.ensures.value ∙ (c.in_ok-new.ensures ∙ ap chars c.as_str-2.ensures.value))
    c.deref-3.ensures.value c.in_ok-printed.ensures
    (c.in_ok-with_names.ensures ∙ ap (with_names c.args.form.now c.args.from.now c.args.to.now) c.as_str-3.ensures.value)
