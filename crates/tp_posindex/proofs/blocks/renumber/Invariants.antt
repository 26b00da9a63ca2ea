use Rattle.std.proofs.Common.{◌≡◌, ℕ, ◌<◌, get_or}
use Rattle.tp_posindex.proofs.blocks.renumber.Given as goal

-- the blocks that were passed are numbered
abbrev pub invariant-loop-p : goal.invariant-loop-p
invariant-loop-p l = (p : ℕ) → p < l.p → get_or l.index (get_or l.order p 0) 0 ≡ p
