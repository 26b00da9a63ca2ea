use Rattle.std.proofs.Common.{◌≡◌, refl, sym, subst, ◌∙◌}
use Rattle.tp_peer.proofs.StepLaws.{step_runs, step_stopped}
use Rattle.tp_peer.specs.Common.{chars}
use Rattle.tp_peer.specs.PeerStep.{Edit, PeerStep, Refused}
use Rattle.tp_peer.specs.declared.error.PeerError.TheVariants.{OutOfMemory, Stopped}
use Rattle.tp_editor.proofs.EditLaws.{refusal_stays}
use Rattle.tp_editor.specs.EditorState.{EditorState}
use Rattle.tp_editor.proofs.editor.Editor.edit_now.Goals as goal

pub returns-then-is_stopped-clause-step : goal.returns-then-is_stopped-clause-step
returns-then-is_stopped-clause-step g c =
    let p = c.self.inside.host.peer in let call = Edit c.args.splices.now c.args.time (chars c.args.message.now) in
    subst (λ (s : EditorState). PeerStep s.peer call (Refused Stopped) s.peer) c.self.view_is (step_stopped p call (sym c.is_stopped.ensures ∙ c.if-is_stopped.true))

pub returns-then-is_err-clause-step : goal.returns-then-is_err-clause-step
returns-then-is_err-clause-step g c =
    let p = c.self.inside.host.peer in let call = Edit c.args.splices.now c.args.time (chars c.args.message.now) in
    subst (λ (s : EditorState). PeerStep s.peer call (Refused OutOfMemory) p) c.self.view_is
    (step_runs p call (Refused OutOfMemory) p (sym c.is_stopped.ensures ∙ c.if-is_stopped.false) refl)

pub returns-in-Err-clause-stays : goal.returns-in-Err-clause-stays
returns-in-Err-clause-stays g c =
    let p = c.self.inside.host.peer in
    subst (λ (s : EditorState). c.edit.new.self.applied ≡ s.peer.applied) c.self.view_is
    (refusal_stays p c.edit.new.self c.args.splices.now c.args.time (chars c.args.message.now) c.in-Err.error c.in-Err.ensures.step)
