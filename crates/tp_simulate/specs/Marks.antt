-- Names for heads.
use Rattle.std.specs.Prelude.{ℕ, ◌-◌, Bool, true, false, List, [], ◌∷◌, ◌++◌, length, Option, Some, None, if◌then◌else◌, bytes_eq, encode_utf8_all}
use Rattle.std.specs.List.{slice_get}
use Rattle.std.specs.Str.{chars}
use Rattle.tp_opid.specs.declared.hash.Hash.{Hash}
use Rattle.tp_peer.specs.PeerStep.{Text}
use Rattle.tp_headline.specs.Reply.{EventReply, Answered}
use Rattle.tp_headline.specs.Headline.{ReadRecord}
use Rattle.tp_headline.specs.World.{World}
use Rattle.tp_simulate.specs.declared.mark.Mark.{Mark}

-- the heads of the latest mark with the name; those found before, where there is none
abbrev pub latest : List ℕ → Option (List Hash) → List Mark → Option (List Hash)
latest name found [] = found
latest name found (m ∷ marks) =
    latest name (if bytes_eq (encode_utf8_all m.name) name then Some m.heads else found) marks

-- the heads of a read, if there is one
abbrev pub heads_in : Option ReadRecord → List Hash
heads_in None = []
heads_in (Some r) = r.heads

-- the heads of the last read
abbrev pub last_heads : List ReadRecord → List Hash
last_heads reads = heads_in (slice_get reads (length reads - 1))

-- the name for the heads of the last read
abbrev pub mark_of : List ℕ → World → Mark
mark_of name w = record { name = chars name; heads = last_heads w.reads }

-- a text was read
abbrev pub is_text : EventReply → Bool
is_text (Answered (Text text)) = true
is_text _ = false

-- the marks after a read for a mark was replied to, where the world is w then: one more, if a text was read
abbrev pub marks_named : List Mark → List ℕ → EventReply → World → List Mark
marks_named marks name reply w = if is_text reply then marks ++ mark_of name w ∷ [] else marks
