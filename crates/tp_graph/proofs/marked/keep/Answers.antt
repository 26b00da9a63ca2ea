use Rattle.tp_graph.proofs.Common.{◌≡◌, ◌++◌, ◌∷◌, [], length, ap, sym, subst, arith, with_items, with_items_is, IsMarked, AreMarked}
use Rattle.tp_graph.proofs.MarkedLaws.{AreMarked-more, AreMarked-push}
use Rattle.tp_graph.proofs.marked.keep.Goals as goal

pub returns-then-is_empty : goal.returns-then-is_empty
returns-then-is_empty c = λ C end w. AreMarked-more C c.args.change.now c.args.marked.now.items w

pub returns : goal.returns
returns c = λ C end w.
    let before : length c.as_mut_slice.result.now ≡ length c.args.room.items = ap length c.as_mut_slice.ensures.value in
    let stays : length c.mark_deletes.new.deletes ≡ c.args.room.len = omega (arith, c.mark_deletes.auto.deletes, c.args.room.ok.0) in
    subst (AreMarked (C ++ c.args.change.now ∷ [])) (sym c.push_within.ensures)
    (AreMarked-push C c.args.change.now c.args.marked.now.items (record { place = c.args.place; deletes = with_items c.args.room c.mark_deletes.new.deletes }) end
    (subst (IsMarked c.args.change.now) (sym (with_items_is c.args.room c.mark_deletes.new.deletes stays)) c.mark_deletes.ensures) w)
