-- What `log` prints: a line for each change.
use Rattle.std.specs.Prelude.{◌≡◌, ℕ, ◌-◌, List, [], ◌∷◌, ◌++◌, drop, length, codes, ◌||◌, ◌==◌, if◌then◌else◌, encode_utf8_all}
use Rattle.std.specs.Char.{is_control}
use Rattle.std.specs.Char.Escape.{backslash, escape_default}
use Rattle.std.specs.Fmt.{decimal}
use Rattle.std.specs.List.{flat_map}
use Rattle.hex.specs.Hex.{encode_lower}
use Rattle.tp_change.specs.ChangeHash.{hash_of}
use Rattle.tp_change.specs.Elements.{deletes_in, inserts_in}
use Rattle.tp_change.specs.Operations.{ops_of}
use Rattle.tp_layout.specs.declared.parts.ChangeParts.{ChangeParts}
use Rattle.tp_layout.specs.declared.record.Record.{Record}
use Rattle.tp_layout.specs.declared.record.Record.TheVariants.{Insert, Delete, DeleteRun}
use Rattle.tp_commands.specs.Reading.{HasChanges}
use Rattle.tp_list.specs.Bytes.{line}

-- how many of a change's operations insert a character
abbrev pub inserted_count : ChangeParts → ℕ
inserted_count c = length (inserts_in (ops_of c))

-- how many of them delete one
abbrev pub deleted_count : ChangeParts → ℕ
deleted_count c = length (deletes_in (ops_of c))

-- how many operations of a record delete a character
abbrev pub delete_count : Record → ℕ
delete_count (Insert after text) = 0
delete_count (Delete target) = 1
delete_count (DeleteRun first count) = count

-- The bytes of a message's character: a control character and the backslash as Rust escapes them (`\n`, `\\`,
-- `\u{7f}`), each other as it is. So a message stays in its line.
abbrev pub escaped_char : ℕ → List ℕ
escaped_char ch = encode_utf8_all (if is_control ch || ch == backslash then escape_default ch else ch ∷ [])

-- what is after the counts: of an empty message nothing, of another a blank and its characters
abbrev pub message_part : List ℕ → List ℕ
message_part [] = []
message_part (ch ∷ rest) = codes " " ++ flat_map escaped_char (ch ∷ rest)

-- the hash, the actor, the sequence number, the time, and what the change inserts and deletes
abbrev pub fields_part : ChangeParts → List ℕ
fields_part c =
    encode_lower (hash_of c).0 ++ codes " " ++ encode_lower c.actor.0 ++ codes " " ++ decimal c.seq ++ codes " " ++ decimal c.time
    ++ codes " +" ++ decimal (inserted_count c) ++ codes " -" ++ decimal (deleted_count c)

-- the line of a change
abbrev pub change_line : ChangeParts → List ℕ
change_line c = line (fields_part c ++ message_part c.message)

-- the newest of the changes, which entered last: `most`, or all where they are fewer
abbrev pub newest : ℕ → List ChangeParts → List ChangeParts
newest most C = drop (length C - most) C

-- What is printed are the lines of the newest of a journal's changes, in the order in which they entered.
pub record AreChangeLines (journal : List ℕ) (most : ℕ) (printed : List ℕ) : Type 0 where
  pub changes : List ChangeParts
  pub recovers : HasChanges journal changes
  pub spelled : printed ≡ flat_map change_line (newest most changes)
