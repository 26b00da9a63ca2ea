use Rattle.std.proofs.lemmas.List.Sorted.{list_any-IsPermutation}
use Rattle.tp_receive.proofs.Common.{sym, same_hash}
use Rattle.tp_opid.specs.Order.{hash_cmp}
use Rattle.tp_receive.proofs.hashes.Sorted.of.Goals as goal

pub invariant_of-result : goal.invariant_of-result
unfolding hash_cmp
invariant_of-result c = c.sort_unstable.ensures.sorted

pub returns : goal.returns
returns c = λ h. sym (list_any-IsPermutation (same_hash h) c.args.hashes.items c.sort_unstable.new.self.items c.sort_unstable.ensures.permutation)
