use Rattle.tp_document.proofs.Common.{List, [], ◌∷◌, ◌++◌, take, ap, sym, ◌∙◌, take_more, ChangeParts, cause}
use Rattle.tp_document.proofs.EditFits.{prefix_enters}
use Rattle.tp_document.proofs.forking.document_of.Goals as goal

pub enter_copy-requires : goal.enter_copy-requires
enter_copy-requires g c =
    let x = c.change-item.result in
    ap (λ D. cause D x) c.loop-change.invariant.applied
    ∙ prefix_enters c.args.changes.now c.loop-change.change-index x c.requires.sound c.requires.few c.loop-change-test.true c.change-item.is

pub loop-change-preserved : goal.loop-change-preserved
loop-change-preserved g c =
    let C = c.args.changes.now in
    let i = c.loop-change.change-index in
    let x = c.change-item.result in
    record {
      named = c.in_ok-enter_copy.ensures.id ∙ c.loop-change.invariant.named;
      applied =
          c.in_ok-enter_copy.ensures.ok
          ∙ ap (λ (D : List ChangeParts). D ++ x ∷ []) c.loop-change.invariant.applied
          ∙ ap (λ (y : ChangeParts). take i C ++ y ∷ []) c.change-item.is
          ∙ sym (take_more C i x c.loop-change-test.true);
      waiting = c.in_ok-enter_copy.ensures.waiting ∙ c.loop-change.invariant.waiting;
    }
