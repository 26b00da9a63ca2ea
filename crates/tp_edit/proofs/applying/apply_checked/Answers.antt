use Rattle.std.proofs.Common.{◌≡◌, ◌+◌, ◌∙◌, ◌++◌, List, [], ◌∷◌, Bool, true, Result, Ok, Err, length, refl, ap, sym, subst, arith, append_assoc, append-nil}
use Rattle.std.specs.Result.{IsErr}
use Rattle.std.proofs.lemmas.List.{length-append}
use Rattle.tp_opid.specs.Insert.{Insert}
use Rattle.tp_change.specs.declared.op.Op.{Op}
use Rattle.tp_change.specs.Operations.{ops_of, id_of}
use Rattle.tp_change.specs.Elements.{deletes_in, refers}
use Rattle.tp_change.proofs.ElementLaws.{deletes_in-append}
use Rattle.tp_change.proofs.Numbered.{Numbered-ops_of, Numbered}
use Rattle.tp_edit.specs.Applying.{CanApply, Extends, IsPartlyApplied, IsRemainder}
use Rattle.tp_edit.proofs.Applied.{Extends-join, Extends-none}
use Rattle.tp_edit.proofs.Checked.{CanApply-next, Numbered-rest, IsAboveAll-next, refers-next}
use Rattle.tp_opid.specs.Tree.{IsAboveAll}
use Rattle.tp_edit.proofs.applying.apply_checked.Goals as goal

pub loop-op-init : goal.loop-op-init
loop-op-init g c =
    let change = c.args.change.now in
    let all : c.into_iter-op-iterator.result ≡ ops_of change = c.into_iter-op-iterator.ensures.into_iter_gives ∙ c.ops-op-items.ensures in
    let from : change.start + 0 ≡ change.start = omega arith in
    let placed = g.S.Sequence.placed c.args.sequence.now in
    record {
      split = all;
      numbered = subst (λ n. Numbered change.actor n c.into_iter-op-iterator.result) (sym from) (subst (Numbered change.actor change.start) (sym all) (Numbered-ops_of change));
      under = subst (λ n. IsAboveAll placed (id_of change.actor n)) (sym from) c.requires;
      refers_left = ap (refers placed) (sym all);
      elements = Extends-none placed;
      deletes = sym (append-nil (g.S.Sequence.removals c.args.sequence.now));
    }

pub apply_op-requires-clause-fits : goal.apply_op-requires-clause-fits
apply_op-requires-clause-fits g c =
    let change = c.args.change.now in
    let before = g.S.Sequence.placed c.loop-op.sequence in
    let n = change.start + length c.loop-op.yielded in
    let numbered : Numbered change.actor n (c.in-Some.op ∷ c.next.new.self) = subst (Numbered change.actor n) c.in-Some.ensures.steps c.loop-op.invariant.numbered in
    let there : refers before (c.in-Some.op ∷ []) ≡ true = sym c.has_reference.ensures ∙ c.if-not-has_reference.false in
    subst (λ l. CanApply l (c.in-Some.op ∷ [])) (sym c.reserve.ensures.placed)
    (CanApply-next before c.in-Some.op c.next.new.self change.actor n numbered c.loop-op.invariant.under there)

pub loop-op-preserved : goal.loop-op-preserved
loop-op-preserved g c =
    let change = c.args.change.now in
    let start = g.S.Sequence.placed c.args.sequence.now in
    let before = g.S.Sequence.placed c.loop-op.sequence in
    let after = g.S.Sequence.placed c.apply_op.new.sequence in
    let removals = g.S.Sequence.removals in
    let done = c.loop-op.yielded in
    let op = c.in-Some.op in
    let rest = c.next.new.self in
    let n = change.start + length done in
    let left : c.loop-op.op-iterator ≡ op ∷ rest = c.in-Some.ensures.steps in
    let numbered : Numbered change.actor n (op ∷ rest) = subst (Numbered change.actor n) left c.loop-op.invariant.numbered in
    let there : refers before (op ∷ []) ≡ true = sym c.has_reference.ensures ∙ c.if-not-has_reference.false in
    let grown : Extends before after (op ∷ []) = subst (λ l. Extends l after (op ∷ [])) c.reserve.ensures.placed c.apply_op.ensures.elements in
    let next : n + 1 ≡ change.start + length (done ++ op ∷ []) = let more = length-append done (op ∷ []) in omega arith in
    record {
      split = append_assoc done (op ∷ []) rest ∙ ap (λ l. done ++ l) (sym left) ∙ c.loop-op.invariant.split;
      numbered = subst (λ m. Numbered change.actor m rest) next (Numbered-rest op rest change.actor n numbered);
      under = subst (λ m. IsAboveAll after (id_of change.actor m)) next (IsAboveAll-next before after op rest change.actor n numbered c.loop-op.invariant.under grown);
      refers_left = c.loop-op.invariant.refers_left ∙ ap (refers before) left ∙ refers-next before after op rest there grown;
      elements = Extends-join start before after done (op ∷ []) c.loop-op.invariant.elements grown;
      deletes =
          c.apply_op.ensures.removals ∙ ap (λ l. l ++ deletes_in (op ∷ [])) (c.reserve.ensures.removals ∙ c.loop-op.invariant.deletes)
          ∙ append_assoc (removals c.args.sequence.now) (deletes_in done) (deletes_in (op ∷ []))
          ∙ ap (λ l. removals c.args.sequence.now ++ l) (sym (deletes_in-append done (op ∷ [])));
    }

left_err : {E : Type 0} (new : List Insert) (r : Result Bool E) (op : Op) (rest : List Op) → IsErr r → IsRemainder new r (op ∷ rest)
left_err new (Ok all) op rest h = cc
left_err new (Err e) op rest h = (op, rest, refl)

pub returns-in_err-reserve-clause-begun : goal.returns-in_err-reserve-clause-begun
returns-in_err-reserve-clause-begun g c =
    let start = g.S.Sequence.placed c.args.sequence.now in
    let done = c.loop-op.yielded in
    let left = c.in-Some.op ∷ c.next.new.self in
    let held = c.loop-op.invariant in
    let begun : IsPartlyApplied start (g.S.Sequence.placed c.reserve.new.self) (g.S.Sequence.removals c.args.sequence.now) (g.S.Sequence.removals c.reserve.new.self) (ops_of c.args.change.now) done left =
    record {
      whole = ap (λ l. done ++ l) (sym c.in-Some.ensures.steps) ∙ held.split;
      elements = subst (λ l. Extends start l done) (sym c.reserve.ensures.placed) held.elements;
      removals = c.reserve.ensures.removals ∙ held.deletes;
    } in
    (done, left, begun, left_err (g.S.Sequence.placed c.reserve.new.self) c.from_residual.result c.in-Some.op c.next.new.self c.from_residual.ensures.0)
