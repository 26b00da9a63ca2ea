use Rattle.std.proofs.Common.{◌≡◌, true}
use Rattle.std.specs.List.{AllWithin}
use Rattle.tp_opid.specs.Tree.{IsReferenceBelow}
use Rattle.tp_rga.specs.Same.{is_only}
use Rattle.tp_rga.proofs.by_chains.is_tree.Given as goal

-- each insert so far has its place and no other of its identifier
abbrev pub invariant-loop-i : goal.invariant-loop-i
invariant-loop-i l = AllWithin (λ e. IsReferenceBelow l.inserts e.id e.after × (is_only l.inserts e ≡ true)) l.inserts 0 l.i
