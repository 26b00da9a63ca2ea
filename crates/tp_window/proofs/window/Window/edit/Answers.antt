use Rattle.std.proofs.Common.{rules, refl, inl, inr, subst, ◌≡◌, [], Result, Option, Ok, Err}
use Rattle.std.specs.Str.{chars}
use Rattle.tp_document.specs.Editing.{EditRequest, asking}
use Rattle.tp_opid.specs.declared.hash.Hash.{Hash}
use Rattle.tp_peer.specs.EditingAt.{StepsAt}
use Rattle.tp_peer.specs.declared.editing_at.EditAtError.{EditAtError}
use Rattle.tp_window.specs.Windows.{IsNews, edited_heads}
use Rattle.tp_window.proofs.PageLaws.{shows_all}
use Rattle.tp_window.proofs.window.Window.edit.Goals as goal

pub returns-in-Err-clause-steps : goal.returns-in-Err-clause-steps
returns-in-Err-clause-steps g c =
    let is : c.edit_at.result ≡ Err c.in-Err.error = search rules in
    (c.edit_at.result, c.edit_at.ensures.step, inl is)

pub returns-in-Ok-after-clause-steps : goal.returns-in-Ok-after-clause-steps
returns-in-Ok-after-clause-steps g c =
    let is : c.edit_at.result ≡ Ok c.in-Ok.made = search rules in
    (c.edit_at.result, c.edit_at.ensures.step, is)

pub returns-in-Err-after-clause-steps : goal.returns-in-Err-after-clause-steps
returns-in-Err-after-clause-steps g c = (c.edit_at.result, c.edit_at.ensures.step, inr refl)

pub returns-in-Ok-after-clause-page : goal.returns-in-Ok-after-clause-page
returns-in-Ok-after-clause-page g c page shows on =
    let asked : EditRequest = asking c.args.self.now.actor c.args.splices.now c.args.time (chars []) in
    let p' = c.edit_at.new.self in
    let is : c.edit_at.result ≡ Ok c.in-Ok.made = search rules in
    let step : StepsAt c.args.peer.now c.args.heads.now asked (Ok c.in-Ok.made) p' =
    subst (λ (r : Result (Option Hash) EditAtError). StepsAt c.args.peer.now c.args.heads.now asked r p') is c.edit_at.ensures.step in
    let reported : IsNews p'.applied (edited_heads c.args.heads.now c.in-Ok.made) c.in-Ok-after.news = search rules in
    shows_all c.args.peer.now p' page c.args.heads.now asked c.in-Ok.made c.in-Ok-after.news c.document.ensures.keeps.history.sound shows on step c.in-Ok.ensures.text reported
