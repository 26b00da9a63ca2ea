use Rattle.std.proofs.Common.{◌≡◌, ◌<◌, List, ℕ, subst, sym}
use Rattle.std.specs.List.{All}
use Rattle.std.specs.Prelude.{IsTrue}
use Rattle.std.specs.Str.{chars}
use Rattle.std.specs.String.{string_bytes}
use Rattle.tp_diff.specs.Differences.{LeadAcross}
use Rattle.tp_history.specs.Named.{has_all}
use Rattle.tp_history.specs.Past.{past}
use Rattle.tp_layout.specs.declared.parts.ChangeParts.{ChangeParts}
use Rattle.tp_opid.specs.declared.hash.Hash.{Hash}
use Rattle.tp_edit.specs.Text.{IsTextOf}
use Rattle.tp_layout.specs.declared.limits.TheConstants.{MAX_OPS}
use Rattle.tp_edit.specs.declared.splice.Splice.{Splice}
use Rattle.tp_edit.specs.Splices.{count_of_splice}
use Rattle.tp_commands.specs.Cutting.{AreStretchesCut}
use Rattle.tp_commands.specs.Since.{DoesFirstAt, StopsEditsAt}
use Rattle.tp_commands.proofs.SinceLaws.{stops_text_at}
use Rattle.tp_commands.proofs.Updates.{all_some}
use Rattle.tp_commands.proofs.since.rewrite_at.Goals as goal

pub edit_all_at-requires-clause-some : goal.edit_all_at-requires-clause-some
edit_all_at-requires-clause-some g c =
    subst (λ (ss : List Splice). All (λ (s : Splice). 0 < count_of_splice s) ss) (sym c.deref.ensures.value)
    (all_some MAX_OPS 0 c.in_ok-splices.splices.items c.in_ok-splices.ensures.leads.apart)

pub returns-clause-err : goal.returns-clause-err
returns-clause-err g c =
    let p = c.args.peer.now in
    let after = c.edit_all_at.new.peer in
    let by = c.args.by.now in
    let H : List Hash = c.args.since.now in
    let old : List ℕ = chars (string_bytes c.in_ok-before.before) in
    let text : List ℕ = chars c.args.text.now in
    let ss : List Splice = c.in_ok-splices.splices.items in
    let on_is = c.in_ok-on.ensures.items_if_clones_equal (λ x y same. same) in
    let here : c.document.result.now.applied ≡ p.applied = c.document.ensures.applied in
    let known = subst (λ (C : List ChangeParts). IsTrue (has_all C H)) here c.in_ok-before.ensures.known in
    let was = subst (λ (C : List ChangeParts). IsTextOf (past C H) old) here c.in_ok-before.ensures.text in
    let lead = subst (λ (bytes : List ℕ). LeadAcross MAX_OPS (chars bytes) text ss) c.as_str.ensures.value c.in_ok-splices.ensures.leads in
    let cut = subst (λ (bytes : List ℕ). AreStretchesCut (chars bytes) text ss) c.as_str.ensures.value c.in_ok-splices.ensures.cut in
    let stops_on = subst (λ (xs : List Splice). StopsEditsAt p c.in_ok-on.on.items by.actor xs by.time (chars by.message.now) c.in-Err.error) c.deref.ensures.value c.in-Err.ensures.err in
    let stops = subst (λ (hs : List Hash). StopsEditsAt p hs by.actor ss by.time (chars by.message.now) c.in-Err.error) on_is stops_on in
    let done_on = subst (λ (xs : List Splice). DoesFirstAt (past p.applied c.in_ok-on.on.items) after.applied xs c.in-Err.error.place) c.deref.ensures.value c.in-Err.ensures.left in
    let done = subst (λ (hs : List Hash). DoesFirstAt (past p.applied hs) after.applied ss c.in-Err.error.place) on_is done_on in
    stops_text_at p after H by.actor old text ss by.time (chars by.message.now) c.in-Err.error known was lead cut stops done
