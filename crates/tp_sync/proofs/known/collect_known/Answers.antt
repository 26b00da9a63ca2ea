use Rattle.tp_sync.proofs.Common.{◌≡◌, ◌≤◌, ◌<◌, ◌+◌, ◌-◌, ◌*◌, ◌∙◌, Vec, Global, List, Some, length, ap, sym, subst, refl, arith, slice_get, put, rising, Hash, hash_cmp, ChangeParts, slice_get_read, powers_before_end}
use Rattle.tp_sync.proofs.KnownLaws.{KnownSoFar, so_far-begins, so_far-past, so_far-positive, so_far-rises, so_far-small, so_far-there}
use Rattle.tp_sync.proofs.known.collect_known.Goals.{then-back-applied+in_ok-put, else-back-applied}
use Rattle.tp_sync.proofs.known.collect_known.Goals as goal

pub loop-k-init : goal.loop-k-init
loop-k-init g c = subst (KnownSoFar c.args.document.now.applied 0 1) (sym c.in_ok-known.ensures.items) (so_far-begins c.args.document.now.applied)

pub bounds-applied-applied : goal.bounds-applied-applied
bounds-applied-applied g c = omega (arith, so_far-positive _ _ _ _ c.loop-k.invariant, c.if-back-applied.true)

pub put-requires : goal.put-requires
put-requires g c = so_far-rises _ _ _ _ c.loop-k.invariant

pub overflow_mul-back : goal.overflow_mul-back
overflow_mul-back g c = omega (arith, so_far-small _ _ _ _ c.loop-k.invariant c.loop-k-test.true)

pub loop-k-preserved : goal.loop-k-preserved
loop-k-preserved g c =
    let C : List ChangeParts = c.args.document.now.applied in
    let same : c.changes-applied.result.now ≡ C = c.changes-applied.ensures.changes in
    elim c.if-back-applied.branch [
      | then-back-applied+in_ok-put w ↦
          let within : c.loop-k.back ≤ length c.changes-applied.result.now = w.if-back-applied.true in
          let place = length c.changes-applied.result.now - c.loop-k.back in
          let small : place < length c.changes-applied.result.now = omega (arith, so_far-positive _ _ _ _ c.loop-k.invariant, within) in
          so_far-there C c.loop-k._k c.loop-k.back w.index-applied-applied.result c.loop-k.known.items c.if-back-applied.known.items c.loop-k.invariant
          (subst (λ (l : List ChangeParts). c.loop-k.back ≤ length l) same within)
          (subst (λ (l : List ChangeParts). slice_get l (length l - c.loop-k.back) ≡ Some w.index-applied-applied.result) same
          (slice_get_read c.changes-applied.result.now _ place w.index-applied-applied.result refl small w.index-applied-applied.is))
          (ap (λ (v : Vec Hash Global). v.items) w.known-is ∙ w.in_ok-put.ensures ∙ ap (λ h. put hash_cmp h c.loop-k.known.items) w.hash.ensures.hash)
      | else-back-applied w ↦
          subst (λ (v : Vec Hash Global). KnownSoFar C (c.loop-k._k + 1) (c.loop-k.back * 2) v.items) (sym w.known-is)
          (so_far-past C c.loop-k._k c.loop-k.back c.loop-k.known.items c.loop-k.invariant
          (subst (λ (l : List ChangeParts). length l < c.loop-k.back) same w.if-back-applied.false))
    ]

pub returns-clause-known : goal.returns-clause-known
returns-clause-known g c =
    let all : c.loop-k._k ≡ 32 = omega (arith, c.loop-k.auto._k-end, c.loop-k-test.false) in
    c.loop-k.invariant.gathered ∙ ap (λ n. rising hash_cmp (powers_before_end c.args.document.now.applied n)) all
