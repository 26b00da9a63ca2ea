use Rattle.std.proofs.lemmas.List.Folds.{list_any-append}
use Rattle.tp_change.proofs.ElementLaws.{deletes_in-append}
use Rattle.tp_snapshot.proofs.Common.{◌≡◌, ◌∙◌, ◌++◌, ◌∷◌, ◌||◌, [], sym, ap, append_assoc, deletes_in, id_eq, is_removed, OpId}
use Rattle.tp_snapshot.proofs.targets.targets_in.Goals as goal

pub loop-op-preserved : goal.loop-op-preserved
loop-op-preserved c =
    let done = c.loop-op.yielded in
    let op = c.in-Some.op in
    let rest = c.next.new.self in
    let left : c.loop-op.op-iterator ≡ op ∷ rest = c.in-Some.ensures.steps in
    record {
      split = append_assoc done (op ∷ []) rest ∙ ap (λ l. done ++ l) (sym left) ∙ c.loop-op.invariant.split;
      targets = λ x.
          c.in_ok-add_target.ensures x
          ∙ ap (λ b. b || is_removed (deletes_in (op ∷ [])) x) (c.loop-op.invariant.targets x)
          ∙ sym (ap (λ l. is_removed l x) (deletes_in-append done (op ∷ [])) ∙ list_any-append (λ (r : OpId × OpId). id_eq r.0 x) (deletes_in done) (deletes_in (op ∷ [])));
    }
