use Rattle.std.proofs.Common.{◌∙◌, ap}
use Rattle.std.proofs.lemmas.Result.{IfOk-weaker}
use Rattle.std.specs.List.{flat_map}
use Rattle.tp_hunks.specs.Lines.{lines_of_text}
use Rattle.tp_hunks.specs.Printing.{hunk_lines}
use Rattle.tp_commands.proofs.diff.diff_of.Goals as goal

pub returns : goal.returns
returns c =
    IfOk-weaker c.hunk_text.result _ _
    (λ l e. record {
      hunks = c.in_ok-hunks.hunks.items;
      are_hunks = c.in_ok-hunks.ensures;
      spelled = e ∙ ap (flat_map (hunk_lines (lines_of_text c.args.old.now) (lines_of_text c.args.new.now))) c.deref.ensures.value;
    }) c.hunk_text.ensures
