use Rattle.std.proofs.Common.{List, ℕ, subst}
use Rattle.std.specs.Prelude.{IfErr}
use Rattle.std.specs.Str.{chars}
use Rattle.std.specs.String.{string_bytes}
use Rattle.tp_diff.specs.Differences.{LeadAcross}
use Rattle.tp_layout.specs.declared.limits.TheConstants.{MAX_OPS}
use Rattle.tp_layout.specs.declared.parts.ChangeParts.{ChangeParts}
use Rattle.tp_edit.specs.Text.{IsTextOf}
use Rattle.tp_edit.specs.declared.splice.Splice.{Splice}
use Rattle.tp_commands.specs.Cutting.{AreStretchesCut}
use Rattle.tp_commands.specs.HalfWay.{DoesFirst}
use Rattle.tp_commands.specs.Updating.{StopsEdits}
use Rattle.tp_commands.proofs.Updates.{stops_text}
use Rattle.tp_commands.proofs.updating.rewrite.Goals as goal

pub returns-clause-err : goal.returns-clause-err
returns-clause-err g c =
    let p = c.args.peer.now in
    let after = c.edit_all.new.peer in
    let old : List ℕ = chars (string_bytes c.in_ok-before.before) in
    let text : List ℕ = chars c.args.text.now in
    let ss : List Splice = c.in_ok-splices.splices.items in
    let read : List ℕ → List ℕ = λ bytes. chars bytes in
    let was = subst (λ (C : List ChangeParts). IsTextOf C old) c.document.ensures.applied c.in_ok-before.ensures.text in
    let lead = subst (λ (bytes : List ℕ). LeadAcross MAX_OPS (read bytes) text ss) c.as_str.ensures.value c.in_ok-splices.ensures.leads in
    let cut = subst (λ (bytes : List ℕ). AreStretchesCut (read bytes) text ss) c.as_str.ensures.value c.in_ok-splices.ensures.cut in
    let stops = subst (λ (xs : List Splice). IfErr c.edit_all.result (λ e. StopsEdits p xs c.args.time (chars c.args.message.now) e)) c.deref.ensures.value c.edit_all.ensures.err in
    let done = subst (λ (xs : List Splice). IfErr c.edit_all.result (λ e. DoesFirst p.applied after.applied xs e.place)) c.deref.ensures.value c.edit_all.ensures.left in
    stops_text p after old text ss c.args.time (chars c.args.message.now) c.edit_all.result was lead cut stops done
