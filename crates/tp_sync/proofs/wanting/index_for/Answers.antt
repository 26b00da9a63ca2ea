use Rattle.tp_sync.proofs.Common.{◌≡◌, ◌<◌, ◌-◌, ◌+◌, ℕ, length, drop, sym, subst, arith, IsBelowAll, put, hash_cmp, insert}
use Rattle.tp_sync.proofs.WantLaws.{put_at_index, put_again, put_first}
use Rattle.tp_sync.proofs.wanting.index_for.Goals as goal

pub returns-in-Equal : goal.returns-in-Equal
returns-in-Equal c = put_again c.args.hash.now c.args.hashes.now (length c.args.hashes.now - c.loop-passed.passed - 1) _ (omega arith) c.requires (sym c.in-Equal.ensures)

pub returns-in-Greater : goal.returns-in-Greater
returns-in-Greater c =
    let H = c.args.hashes.now in
    let j : ℕ = length H - c.loop-passed.passed - 1 in
    let same : j + 1 ≡ length H - c.loop-passed.passed = omega arith in
    let small : j < length H = omega arith in
    let below : IsBelowAll hash_cmp c.args.hash.now (drop (j + 1) H) = subst (λ n. IsBelowAll hash_cmp c.args.hash.now (drop n H)) (sym same) c.loop-passed.invariant in (
      omega arith,
      subst (λ n. put hash_cmp c.args.hash.now H ≡ insert H n c.args.hash.now) same (put_at_index c.args.hash.now H j _ small c.requires (sym c.in-Greater.ensures) below),
    )

pub returns : goal.returns
returns c =
    let H = c.args.hashes.now in
    let none : length H - c.loop-passed.passed ≡ 0 = omega arith in (
      omega arith,
      put_first c.args.hash.now H (subst (λ n. IsBelowAll hash_cmp c.args.hash.now (drop n H)) none c.loop-passed.invariant),
    )
