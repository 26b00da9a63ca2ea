use Rattle.std.proofs.Common.{List, [], ◌∷◌, ◌++◌, get_or, subst, sym, take}
use Rattle.std.proofs.lemmas.List.{take_more}
use Rattle.tp_edit.specs.declared.splice.Splice.{Splice}
use Rattle.tp_commands.specs.Cutting.{AreCutUp}
use Rattle.tp_commands.proofs.PartLaws.{AreCutUp-push}
use Rattle.tp_commands.proofs.cutting.cut_up.Goals as goal

pub loop-stretch-preserved : goal.loop-stretch-preserved
loop-stretch-preserved c =
    let ss = c.args.stretches.now in
    let i = c.loop-stretch.stretch-index in
    let d : Splice = record { at = 0; del = 0; text = record { ref_ptr = (0, 0); now = [] } } in
    let put = c.in_ok-put_parts.ensures.put in
    let more : AreCutUp (take i ss ++ get_or ss i d ∷ []) (c.loop-stretch.parts.items ++ put.0) =
    AreCutUp-push (take i ss) c.loop-stretch.parts.items put.0 (get_or ss i d) c.loop-stretch.invariant put.2 c.in_ok-put_parts.ensures.few in
    subst (λ (l : List Splice). AreCutUp l c.put_parts.new.parts.items) (sym (take_more ss i d c.loop-stretch-test.true))
    (subst (λ (l : List Splice). AreCutUp (take i ss ++ get_or ss i d ∷ []) l) (sym put.1) more)
