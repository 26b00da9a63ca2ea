use Rattle.std.proofs.lemmas.Bool.{eqb-true}
use Rattle.std.proofs.Common.{◌≡◌, ◌++◌, ◌∙◌, List, [], ℕ, length, refl, subst, sym, arith}
use Rattle.tp_recovery.specs.Whole.{HoldsRecord}
use Rattle.tp_recovery.proofs.WholeLaws.{end_later, holds_later, holds_none}
use Rattle.tp_recovery.proofs.rescuing.holds_record.Goals as goal

pub bytes-init : goal.bytes-init
bytes-init c = record { end = ([], refl); none = λ holds. holds }

pub bytes-preserved : goal.bytes-preserved
bytes-preserved c =
    let none = rw c.in-None.is at c.in_ok-change.ensures.none in
    let end = end_later c.args.bytes.now c.bytes.invariant.end.0 c.bytes.rest.now c.bytes.invariant.end.1 in
    record {
      end = (end.0, subst (λ (l : List ℕ). c.args.bytes.now ≡ end.0 ++ l) (sym c.split_at.ensures.back) end.1);
      none = λ holds. subst HoldsRecord (sym c.split_at.ensures.back) (holds_later c.bytes.rest.now none (c.bytes.invariant.none holds));
    }

pub returns-clause-ok : goal.returns-clause-ok
returns-clause-ok c =
    let empty : length c.bytes.rest.now ≡ 0 = eqb-true (length c.bytes.rest.now) 0 (sym c.is_empty.ensures ∙ c.bytes-test.false) in
    λ holds. holds_none c.bytes.rest.now (omega (arith, empty)) (c.bytes.invariant.none holds)
