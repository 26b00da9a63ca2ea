use Rattle.std.proofs.Common.{◌≡◌, ◌<◌, ◌+◌, ◌-◌, ◌*◌, ◌++◌, ◌∷◌, [], true, not, min, length, take, drop, sum, vec_capacity, ◌∙◌, ap, mul_comm, arith}
use Rattle.std.specs.Result.{is_ok}
use Rattle.std.proofs.lemmas.List.{length-append}
use Rattle.std.proofs.lemmas.Nat.{mul-le}
use Rattle.tp_posindex.specs.CountsState.{AreSums}
use Rattle.tp_posindex.proofs.Laying.{sum_stretch-le}
use Rattle.tp_posindex.proofs.Grouping.{AreSums-push, group_begins, below_times}
use Rattle.tp_posindex.proofs.counts.sum_up.Goals as goal

pub overflow_mul-from : goal.overflow_mul-from
overflow_mul-from c =
    let begins = group_begins c.args.size c.len-in-groups.result c.div_ceil-groups.result (length c.args.counts.now) (omega arith) (omega arith) c.div_ceil-groups.ensures in
    omega (arith, begins)

pub total-sum-requires : goal.total-sum-requires
total-sum-requires c =
    let from = c.len-in-groups.result * c.args.size in
    let le = sum_stretch-le from (from + c.min-whole.result - from) c.args.counts.now in
    omega (arith, le, c.requires.fits)

pub overflow_cast-sum : goal.overflow_cast-sum
overflow_cast-sum c =
    let from = c.len-in-groups.result * c.args.size in
    let le = sum_stretch-le from (from + c.min-whole.result - from) c.args.counts.now in
    omega (arith, le, c.requires.fits, c.total-sum.ensures)

pub groups-preserved : goal.groups-preserved
groups-preserved c =
    let C = c.args.counts.now in
    let S = c.groups.sums.items in
    let size = c.args.size in
    let n = c.min-whole.result in
    let from = c.len-in-groups.result * size in
    let pushed : is_ok c.push.result ≡ true = c.is_err.ensures.negation ∙ ap not c.if-is_err.false in
    let sums_is = rw pushed at c.push.ensures.items in
    let count : c.len-in-groups.result ≡ length S = omega arith in
    let begin : from ≡ size * length S = ap (λ k. k * size) count ∙ mul_comm (length S) size in
    let n_is : n ≡ min size (length C - size * length S) = c.min-whole.ensures ∙ ap (λ m. min size (length C - m)) begin in
    let short : from + n - from ≡ n = omega arith in
    let stretch : c.total-sum.result ≡ sum (take n (drop (size * length S) C)) = c.total-sum.ensures ∙ ap (λ m. sum (take m (drop from C))) short ∙ ap (λ m. sum (take n (drop m C))) begin in
    let more : AreSums size C (S ++ c.total-sum.result ∷ []) = AreSums-push size C S n c.total-sum.result c.groups.invariant.0 n_is stretch in
    let longer = ap (λ k. size * k) (length-append S (c.total-sum.result ∷ [])) in
    let begins = group_begins size c.len-in-groups.result c.div_ceil-groups.result (length C) (omega arith) (omega arith) c.div_ceil-groups.ensures in
    let few : size * length (S ++ c.total-sum.result ∷ []) < length C + size = omega (arith, begins, longer) in
    rw sums_is (more, few, omega (arith, c.push.ensures.capacity, c.groups.invariant.2))

pub unreachable-requires : goal.unreachable-requires
unreachable-requires c =
    let n = c.args.size in
    let g = c.len-in-groups.result in
    let begins = group_begins n g c.div_ceil-groups.result (length c.args.counts.now) (omega arith) (omega arith) c.div_ceil-groups.ensures in
    let more = mul-le n (vec_capacity c.args.sums.now) n (vec_capacity c.groups.sums) (omega arith) c.groups.invariant.2 in
    let inside = below_times n g (vec_capacity c.groups.sums) (omega (arith, begins, more, c.requires.room)) in
    grind (arith, inside)
