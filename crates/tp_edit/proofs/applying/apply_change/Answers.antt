use Rattle.std.proofs.Common.{◌≡◌, ◌+◌, ◌∙◌, ◌++◌, [], ◌∷◌, length, ap, sym, subst, arith, append_assoc}
use Rattle.std.proofs.lemmas.List.{length-append}
use Rattle.tp_change.specs.Elements.{deletes_in}
use Rattle.tp_change.proofs.ElementLaws.{deletes_in-append}
use Rattle.tp_edit.specs.Applying.{CanApply}
use Rattle.tp_edit.proofs.Applied.{CanApply-rest, Extends-join}
use Rattle.tp_edit.proofs.applying.apply_change.Goals as goal

pub loop-op-preserved : goal.loop-op-preserved
loop-op-preserved g c =
    let start = g.S.Sequence.placed c.args.sequence.now in
    let before = g.S.Sequence.placed c.loop-op.sequence in
    let after = g.S.Sequence.placed c.apply_op.new.sequence in
    let done = c.loop-op.yielded in
    let op = c.in-Some.op in
    let rest = c.next.new.self in
    let left : c.loop-op.op-iterator ≡ op ∷ rest = c.in-Some.ensures.steps in
    let fits : CanApply before (op ∷ rest) = subst (CanApply before) left c.loop-op.invariant.fits in
    let fewer : length c.loop-op.op-iterator ≡ length rest + 1 = ap length left ∙ (let e : length (op ∷ rest) ≡ length rest + 1 = omega arith in e) in
    let more = length-append done (op ∷ []) in
    record {
      split = append_assoc done (op ∷ []) rest ∙ ap (λ l. done ++ l) (sym left) ∙ c.loop-op.invariant.split;
      fits = CanApply-rest before after op rest fits c.apply_op.ensures.elements;
      enough = let a = c.loop-op.invariant.enough in let b = c.apply_op.ensures.room in omega arith;
      elements = Extends-join start before after done (op ∷ []) c.loop-op.invariant.elements c.apply_op.ensures.elements;
      deletes =
          c.apply_op.ensures.removals ∙ ap (λ l. l ++ deletes_in (op ∷ [])) c.loop-op.invariant.deletes
          ∙ append_assoc (g.S.Sequence.removals c.args.sequence.now) (deletes_in done) (deletes_in (op ∷ []))
          ∙ ap (λ l. g.S.Sequence.removals c.args.sequence.now ++ l) (sym (deletes_in-append done (op ∷ [])));
      used = let a = c.loop-op.invariant.used in let b = c.apply_op.ensures.room in omega arith;
    }
