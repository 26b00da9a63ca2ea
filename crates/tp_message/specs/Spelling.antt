-- The bytes of a message: all numbers big-endian.
use Rattle.std.specs.Prelude.{ℕ, ◌==◌, List, [], ◌∷◌, ◌++◌, length, if◌then◌else◌}
use Rattle.tp_message.specs.Common.{w32, flat_map, Hash, ChangeParts, to_be_bytes}
use Rattle.tp_layout.specs.Spelling.{spelling, framed_change}
use Rattle.tp_message.specs.Message.{MessageParts}

-- a count of 4 bytes, and 32 bytes for each hash
abbrev pub spelling_of_hashes : List Hash → List ℕ
spelling_of_hashes hashes = to_be_bytes w32 (length hashes) ++ flat_map (λ (h : Hash). h.0) hashes

-- a count of 4 bytes, and the changes, each after its length
abbrev pub spelling_of_changes : List ChangeParts → List ℕ
spelling_of_changes changes = to_be_bytes w32 (length changes) ++ flat_map framed_change changes

-- the hashes of known changes, which version 2 has alone
unfoldable pub spelling_of_known : ℕ → List Hash → List ℕ
spelling_of_known version known = if version == 2 then spelling_of_hashes known else []

-- the bytes of a message
unfoldable pub message_spelling : MessageParts → List ℕ
message_spelling m =
    m.version ∷ (spelling_of_hashes m.heads ++ (spelling_of_hashes m.wants ++ (spelling_of_known m.version m.known ++ spelling_of_changes m.changes)))
