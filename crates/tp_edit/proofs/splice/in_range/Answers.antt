use Rattle.std.proofs.Common.{◌≡◌, ◌+◌, ◌-◌, length, [], arith, refl, sym, subst, ap, drop, get_or}
use Rattle.std.proofs.lemmas.Bool.{false≢true}
use Rattle.std.proofs.lemmas.List.{drop_all}
use Rattle.tp_edit.specs.declared.splice.Splice.{Splice}
use Rattle.tp_edit.specs.Splices.{AllInRange, inserted_chars}
use Rattle.tp_edit.proofs.SpliceLists.{AllInRange-next, AllInRange-step}
use Rattle.tp_edit.proofs.splice.in_range.Goals as goal

pub loop-splice-init : goal.loop-splice-init
loop-splice-init c = record { near = omega arith; ahead = (λ h. h, λ h. h) }

pub returns-then-splice-length : goal.returns-then-splice-length
returns-then-splice-length c =
    let d : Splice = record { at = 0; del = 0; text = record { ref_ptr = (0, 0); now = [] } } in (
      λ e. absurd (false≢true e),
      λ h. let next = AllInRange-next c.args.splices.now c.loop-splice.splice-index d c.loop-splice.length c.loop-splice-test.true (c.loop-splice.invariant.ahead.0 h) in
          absurd (omega (arith, next.0, c.if-splice-length.true)),
    )

pub loop-splice-preserved : goal.loop-splice-preserved
loop-splice-preserved c =
    let ss = c.args.splices.now in
    let i = c.loop-splice.splice-index in
    let d : Splice = record { at = 0; del = 0; text = record { ref_ptr = (0, 0); now = [] } } in
    let after : c.loop-splice.length - (get_or ss i d).del + c.inserted_count.result ≡ c.loop-splice.length - (get_or ss i d).del + length (inserted_chars (get_or ss i d)) =
    ap (λ k. c.loop-splice.length - (get_or ss i d).del + k) c.inserted_count.ensures.count in
    record {
      near = omega (arith, c.loop-splice.invariant.near, c.inserted_count.type_inv);
      ahead = (
        λ h. subst (λ k. AllInRange k (drop (i + 1) ss)) (sym after) (AllInRange-next ss i d c.loop-splice.length c.loop-splice-test.true (c.loop-splice.invariant.ahead.0 h)).1,
        λ h. c.loop-splice.invariant.ahead.1 (AllInRange-step ss i d c.loop-splice.length c.loop-splice-test.true c.if-splice-length.false (subst (λ k. AllInRange k (drop (i + 1) ss)) after h)),
      );
    }

pub returns : goal.returns
returns c =
    let none = drop_all c.loop-splice.splice-index c.args.splices.now c.loop-splice-test.false in
    (λ _. c.loop-splice.invariant.ahead.1 (subst (AllInRange c.loop-splice.length) (sym none) tt), λ _. refl)
