use Rattle.std.proofs.Common.{◌≡◌, take}
use Rattle.std.specs.List.{flat_map}
use Rattle.tp_c.specs.Earlier.{text_bytes}
use Rattle.tp_c.proofs.earlier.texts_of.Given as goal

abbrev pub invariant-loop-difference : goal.invariant-loop-difference
invariant-loop-difference l = l.texts.items ≡ flat_map text_bytes (take l.difference-index l.found)
