use Rattle.tp_ancestry.proofs.Common.{◌≡◌, ◌<◌, ◌≤◌, ◌∙◌, ℕ, List, false, sym, refl, subst, length, get_or, arith, take_more_same, take_all, never, Hash, same_hash, same_hash-same, same_hash-itself}
use Rattle.tp_ancestry.proofs.walk.same_hashes.Goals as goal

pub loop-i-preserved : goal.loop-i-preserved
loop-i-preserved c =
    let other : c.loop-i.i < length c.args.ys.now = omega arith in
    take_more_same c.args.xs.now c.args.ys.now c.loop-i.i _ c.loop-i-test.true other c.loop-i.invariant
    (same_hash-same _ _ (sym c.is.ensures ∙ c.if-not-is.false))

pub returns : goal.returns
returns c = (
  λ yes.
      let past : length c.args.ys.now ≤ c.loop-i.i = omega arith in
      sym (take_all c.loop-i.i c.args.xs.now c.loop-i-test.false) ∙ c.loop-i.invariant ∙ take_all c.loop-i.i c.args.ys.now past,
  λ e. refl,
)

differ : (xs ys : List Hash) (i : ℕ) (d : Hash) → same_hash (get_or xs i d) (get_or ys i d) ≡ false → xs ≡ ys → ⊥
differ xs ys i d vectors e = never (same_hash-itself (get_or xs i d)) (subst (λ l. same_hash (get_or xs i d) (get_or l i d) ≡ false) (sym e) vectors)

pub returns-then-not-is : goal.returns-then-not-is
returns-then-not-is c = (λ yes. cc, λ e. absurd (differ c.args.xs.now c.args.ys.now c.loop-i.i _ (sym c.is.ensures ∙ c.if-not-is.true) e))
