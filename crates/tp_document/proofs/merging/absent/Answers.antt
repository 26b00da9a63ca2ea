use Rattle.tp_document.proofs.Common.{◌∙◌, ap, sym, ◌++◌, ◌∷◌, [], List, take, take_more, ChangeParts}
use Rattle.tp_document.specs.Merging as merging
use Rattle.tp_document.proofs.MergeLaws.{absent-append}
use Rattle.tp_document.proofs.merging.absent.Goals as goal

pub loop-change-preserved : goal.loop-change-preserved
loop-change-preserved g c =
    let C = c.args.document.now.applied in
    let D = c.args.changes.now in
    let i = c.loop-change.change-index in
    let x = c.change-item.result in
    c.in_ok-note_absent.ensures.ok
    ∙ ap (λ (l : List ChangeParts). l ++ merging.absent C (x ∷ [])) c.loop-change.invariant
    ∙ ap (λ (y : ChangeParts). merging.absent C (take i D) ++ merging.absent C (y ∷ [])) c.change-item.is
    ∙ sym (absent-append C (take i D) _)
    ∙ ap (merging.absent C) (sym (take_more D i x c.loop-change-test.true))
