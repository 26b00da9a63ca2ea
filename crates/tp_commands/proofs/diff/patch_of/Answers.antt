use Rattle.std.proofs.Common.{◌∙◌, ap}
use Rattle.std.proofs.lemmas.Result.{IfOk-weaker}
use Rattle.tp_hunks.specs.Lines.{file_lines}
use Rattle.tp_hunks.specs.Unified.{unified_text}
use Rattle.tp_commands.proofs.DiffLaws.{replacements_lead}
use Rattle.tp_commands.proofs.diff.patch_of.Goals as goal

pub file_hunks-requires : goal.file_hunks-requires
file_hunks-requires c =
    rw c.deref.ensures.value (replacements_lead c.args.old.now c.args.new.now c.args.differences.now c.in_ok-replacements.replacements.items c.requires c.in_ok-replacements.ensures)

pub returns : goal.returns
returns c =
    IfOk-weaker c.unified_text.result _ _
    (λ l e. record {
      hunks = c.in_ok-hunks.hunks.items;
      are_hunks = (c.in_ok-replacements.replacements.items, c.in_ok-replacements.ensures, rw c.deref.ensures.value at c.in_ok-hunks.ensures);
      spelled = e ∙ ap (unified_text (file_lines c.args.old.now) (file_lines c.args.new.now) c.args.context) c.deref-2.ensures.value;
    }) c.unified_text.ensures
