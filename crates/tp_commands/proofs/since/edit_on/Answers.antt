use Rattle.std.proofs.Common.{◌≡◌, ◌∙◌, List, [], ◌∷◌, ◌++◌, Option, Some, Result, Ok, Err, ap, inr, subst, sym}
use Rattle.std.specs.Prelude.{IfSome, OnErr}
use Rattle.std.specs.Str.{chars}
use Rattle.tp_document.specs.Editing.{DoesSplices, EditRequest, asking}
use Rattle.tp_edit.specs.declared.splice.Splice.{Splice}
use Rattle.tp_history.specs.Past.{past}
use Rattle.tp_opid.specs.declared.hash.Hash.{Hash}
use Rattle.tp_peer.specs.EditingAt.{StepsAt}
use Rattle.tp_commands.specs.Since.{MakesNextAt}
use Rattle.tp_commands.proofs.SinceLaws.{leaves_at, makes_one_at, makes_some_at, refuses_one_at}
use Rattle.tp_commands.proofs.since.edit_on.Goals as goal

pub returns-in_ok-push-in-Ok-Some-2-clause-ok : goal.returns-in_ok-push-in-Ok-Some-2-clause-ok
returns-in_ok-push-in-Ok-Some-2-clause-ok g c =
    let by = c.args.by.now in
    let asked : EditRequest = asking by.actor c.args.splices.now by.time (chars by.message.now) in
    let h : Hash = c.in-Ok-Some.hash in
    let answered = subst (λ (o : Option Hash). StepsAt c.args.peer.now c.deref.result.now asked (Ok o) c.edit_at.new.self) c.in-Ok-Some.field-0-is c.in-Ok-Some.ensures.step in
    let step = subst (λ (hs : List Hash). StepsAt c.args.peer.now hs asked (Ok (Some h)) c.edit_at.new.self) c.deref.ensures.value answered in
    let made = makes_one_at c.args.peer.now c.edit_at.new.self by.actor c.args.splices.now by.time (chars by.message.now) c.args.on.now.items c.args.hashes.now.items h c.requires.runs step in
    let on_is : c.push.new.self.items ≡ h ∷ [] = c.in_ok-push-in-Ok-Some.ensures.items ∙ ap (λ l. l ++ h ∷ []) c.clear.ensures.items in
    let said = subst (λ (hs : List Hash). MakesNextAt c.args.splices.now by.actor by.time (chars by.message.now) c.args.on.now.items c.args.hashes.now.items c.args.peer.now hs (c.args.hashes.now.items ++ h ∷ []) c.edit_at.new.self) (sym on_is) made in
    subst (λ (hs : List Hash). MakesNextAt c.args.splices.now by.actor by.time (chars by.message.now) c.args.on.now.items c.args.hashes.now.items c.args.peer.now c.push.new.self.items hs c.edit_at.new.self) (sym c.in_ok-push-in-Ok-Some-2.ensures.items) said

pub returns-in-Ok-None-clause-ok : goal.returns-in-Ok-None-clause-ok
returns-in-Ok-None-clause-ok g c =
    let by = c.args.by.now in
    let asked : EditRequest = asking by.actor c.args.splices.now by.time (chars by.message.now) in
    let answered = subst (λ (o : Option Hash). StepsAt c.args.peer.now c.deref.result.now asked (Ok o) c.edit_at.new.self) c.in-Ok-None.field-0-is c.in-Ok-None.ensures.step in
    absurd (makes_some_at c.args.peer.now c.edit_at.new.self by.actor c.args.splices.now by.time (chars by.message.now) c.deref.result.now c.requires.runs c.requires.some answered)

pub returns-in-Ok-None-clause-text : goal.returns-in-Ok-None-clause-text
returns-in-Ok-None-clause-text g c =
    let by = c.args.by.now in
    let asked : EditRequest = asking by.actor c.args.splices.now by.time (chars by.message.now) in
    let answered = subst (λ (o : Option Hash). StepsAt c.args.peer.now c.deref.result.now asked (Ok o) c.edit_at.new.self) c.in-Ok-None.field-0-is c.in-Ok-None.ensures.step in
    absurd (makes_some_at c.args.peer.now c.edit_at.new.self by.actor c.args.splices.now by.time (chars by.message.now) c.deref.result.now c.requires.runs c.requires.some answered)

pub returns-in-Err-clause-err : goal.returns-in-Err-clause-err
returns-in-Err-clause-err g c =
    let by = c.args.by.now in
    let asked : EditRequest = asking by.actor c.args.splices.now by.time (chars by.message.now) in
    let step = subst (λ (hs : List Hash). StepsAt c.args.peer.now hs asked (Err c.in-Err.error) c.edit_at.new.self) c.deref.ensures.value c.in-Err.ensures.step in
    refuses_one_at c.args.peer.now c.edit_at.new.self c.args.on.now.items asked c.in-Err.error c.from.result c.requires.runs step c.from.ensures

pub returns-in-Err-clause-left : goal.returns-in-Err-clause-left
returns-in-Err-clause-left g c =
    let by = c.args.by.now in
    let asked : EditRequest = asking by.actor c.args.splices.now by.time (chars by.message.now) in
    let step = subst (λ (hs : List Hash). StepsAt c.args.peer.now hs asked (Err c.in-Err.error) c.edit_at.new.self) c.deref.ensures.value c.in-Err.ensures.step in
    leaves_at c.args.peer.now c.edit_at.new.self c.args.on.now.items asked c.args.splices.now c.in-Err.error c.requires.runs step

-- the change was made whose hash couldn't be kept
kept_on : {A E P : Type 0} (r : Result A E) → P → OnErr r P
kept_on (Ok x) p = tt
kept_on (Err e) p = p

pub returns-in_err-push-in-Ok-Some-clause-left : goal.returns-in_err-push-in-Ok-Some-clause-left
returns-in_err-push-in-Ok-Some-clause-left g c =
    let p = c.args.peer.now in
    let after = c.edit_at.new.self in
    let h : Hash = c.in-Ok-Some.hash in
    let ss : List Splice = c.args.splices.now in
    let does_at = subst (λ (o : Option Hash). IfSome o (λ x. DoesSplices (past p.applied c.deref.result.now) (past after.applied (x ∷ [])) ss)) c.in-Ok-Some.field-0-is c.in-Ok-Some.ensures.text in
    let does = subst (λ (hs : List Hash). DoesSplices (past p.applied hs) (past after.applied (h ∷ [])) ss) c.deref.ensures.value does_at in
    kept_on c.from_residual.result (h ∷ [], inr does)

pub returns-in_err-push-in-Ok-Some-2-clause-left : goal.returns-in_err-push-in-Ok-Some-2-clause-left
returns-in_err-push-in-Ok-Some-2-clause-left g c =
    let p = c.args.peer.now in
    let after = c.edit_at.new.self in
    let h : Hash = c.in-Ok-Some.hash in
    let ss : List Splice = c.args.splices.now in
    let does_at = subst (λ (o : Option Hash). IfSome o (λ x. DoesSplices (past p.applied c.deref.result.now) (past after.applied (x ∷ [])) ss)) c.in-Ok-Some.field-0-is c.in-Ok-Some.ensures.text in
    let does = subst (λ (hs : List Hash). DoesSplices (past p.applied hs) (past after.applied (h ∷ [])) ss) c.deref.ensures.value does_at in
    kept_on c.from_residual-in_err-push-in-Ok-Some-2.result (h ∷ [], inr does)
