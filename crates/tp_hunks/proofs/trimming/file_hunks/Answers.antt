use Rattle.std.proofs.Common.{◌∙◌, ap, arith}
use Rattle.std.proofs.lemmas.Result.{IfOk-weaker}
use Rattle.tp_hunks.specs.Lines.{new_passed, old_passed}
use Rattle.tp_hunks.specs.Touching.{touched_lines}
use Rattle.tp_hunks.proofs.FileHunks.{file_hunks_made}
use Rattle.tp_hunks.proofs.LineLists.{texts}
use Rattle.tp_hunks.proofs.Splitting.{passes}
use Rattle.tp_hunks.proofs.TrimLaws.{groups_same}
use Rattle.tp_hunks.proofs.trimming.file_hunks.Goals as goal

pub touched_lines-requires-clause-old : goal.touched_lines-requires-clause-old
touched_lines-requires-clause-old c =
    let most = passes c.args.replacements.now c.args.old.now c.args.new.now 0 c.requires in
    let same = ap old_passed (c.deref.ensures.value ∙ c.in_ok-steps.ensures) in
    omega (arith, most.0)

pub touched_lines-requires-clause-new : goal.touched_lines-requires-clause-new
touched_lines-requires-clause-new c =
    let most = passes c.args.replacements.now c.args.old.now c.args.new.now 0 c.requires in
    let same = ap new_passed (c.deref.ensures.value ∙ c.in_ok-steps.ensures) in
    omega (arith, most.1)

pub returns : goal.returns
returns c =
    IfOk-weaker c.hunks_in.result _ _
    (λ hs is. file_hunks_made c.args.old.now c.args.new.now c.args.replacements.now hs.items c.requires
    (is ∙ groups_same _ _ _ _ _ _ (ap texts c.deref-2.ensures.value ∙ c.in_ok-old_lines.ensures) (ap texts c.deref-3.ensures.value ∙ c.in_ok-new_lines.ensures)
    (c.deref-4.ensures.value ∙ (c.in_ok-groups.ensures ∙ ap touched_lines (c.deref.ensures.value ∙ c.in_ok-steps.ensures))))) c.hunks_in.ensures
