use Rattle.std.proofs.Common.{◌≡◌, ℕ, ◌++◌, take}
use Rattle.std.specs.Prelude.{codes, encode_utf8}
use Rattle.std.specs.List.{flat_map}
use Rattle.std.specs.String.{string_bytes}
use Rattle.tp_opid.specs.declared.op_id.OpId.{OpId}
use Rattle.tp_simulate.proofs.simulating.order_line.Given as goal

-- the characters so far
abbrev pub invariant-loop-pair : goal.invariant-loop-pair
invariant-loop-pair l = string_bytes l.line ≡ codes "order " ++ flat_map (λ (p : OpId × ℕ). encode_utf8 p.1) (take l.pair-index l.list)
