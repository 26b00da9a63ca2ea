-- How long spellings are.
use Rattle.std.proofs.Common.{◌≡◌, ◌+◌, length, arith, length-append}
use Rattle.std.specs.Prelude.{encode_utf8_all}
use Rattle.std.specs.List.{flat_map}
use Rattle.tp_opid.specs.declared.hash.Hash.{Hash}
use Rattle.tp_layout.specs.declared.parts.ChangeParts.{ChangeParts}
use Rattle.tp_layout.specs.Spelling.{spelling, spelling_of_record}

-- the fields of fixed length, and the others
pub length_spelling : (c : ChangeParts) → length (spelling c) ≡ 33 + length c.actor.0 + length (encode_utf8_all c.message) + length (flat_map (λ (h : Hash). h.0) c.deps) + length (flat_map spelling_of_record c.records)
unfolding spelling
length_spelling c = simp length-append (omega arith)
