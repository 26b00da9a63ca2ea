use Rattle.std.proofs.Common.{◌≡◌, ℕ, take, get_or}
use Rattle.tp_list.specs.Members.{In}
use Rattle.tp_posindex.proofs.blocks.rename.Given as goal

-- the numbers that were passed are renamed, and no others
abbrev pub invariant-loop-number : goal.invariant-loop-number
invariant-loop-number l = ((k : ℕ) → In k (take l.number-index l.numbers) → get_or l.home k 0 ≡ l.block) × ((k : ℕ) → (In k (take l.number-index l.numbers) → ⊥) → get_or l.home k 0 ≡ get_or l.initial.home k 0)
