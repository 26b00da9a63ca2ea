-- What `graph` prints: the changes as a graph in DOT, the language of Graphviz.
use Rattle.std.specs.Prelude.{◌≡◌, ◌==◌, ℕ, List, [], ◌∷◌, ◌++◌, Bool, true, false, codes, encode_utf8, if◌then◌else◌, take}
use Rattle.std.specs.Fmt.{decimal}
use Rattle.std.specs.List.{flat_map}
use Rattle.std.specs.Str.{chars}
use Rattle.hex.specs.Hex.{encode_lower}
use Rattle.tp_opid.specs.declared.hash.Hash.{Hash}
use Rattle.tp_change.specs.ChangeHash.{hash_of}
use Rattle.tp_layout.specs.declared.parts.ChangeParts.{ChangeParts}
use Rattle.tp_history.specs.Heads.{heads}
use Rattle.tp_history.specs.Named.{among}
use Rattle.tp_commands.specs.Log.{deleted_count, inserted_count, message_part}
use Rattle.tp_commands.specs.Reading.{HasChanges}

-- the name of a change's node: the whole hash, in double quotes
abbrev pub node_name : Hash → List ℕ
node_name h = codes "\"" ++ encode_lower h.0 ++ codes "\""

-- what is shown in it: the first eight digits of the hash, the time, what the change inserts and deletes, and its message as
-- `log` prints it
abbrev pub node_text : ChangeParts → List ℕ
node_text c =
    encode_lower (take 4 (hash_of c).0) ++ codes " " ++ decimal c.time ++ codes " +" ++ decimal (inserted_count c) ++ codes " -"
    ++ decimal (deleted_count c) ++ message_part c.message

-- A character of a label. A quote would end the label, and Graphviz reads a backslash or an ampersand with what follows as
-- something else (`\N`, `\n`, `&lt;`).
abbrev pub label_char : ℕ → List ℕ
label_char ch = if ch == 34 then codes "\\\"" else if ch == 92 then codes "\\\\" else if ch == 38 then codes "&amp;" else encode_utf8 ch

-- the label that shows a text
abbrev pub label_of : List ℕ → List ℕ
label_of text = flat_map label_char (chars text)

-- What a reader of DOT takes for a string, of the bytes after the quote that opens it: all before the quote that ends it. A
-- backslash takes along the byte after it.
abbrev pub string_in : Bool → List ℕ → List ℕ
string_in along [] = []
string_in true (b ∷ bs) = b ∷ string_in false bs
string_in false (b ∷ bs) = if b == 34 then [] else b ∷ string_in (b == 92) bs

-- the hash is one of the heads
abbrev pub is_head : List ChangeParts → Hash → Bool
is_head C h = among (heads C) h

-- a head has a thick border
abbrev pub border_of : Bool → List ℕ
border_of true = codes ", penwidth=2"
border_of false = []

-- the line of the node of a change, which is one of C
abbrev pub node_line : List ChangeParts → ChangeParts → List ℕ
node_line C c =
    codes "  " ++ node_name (hash_of c) ++ codes " [label=\"" ++ label_of (node_text c) ++ codes "\"" ++ border_of (is_head C (hash_of c)) ++ codes "];\n"

-- the line of the edge from a change to one that it depends on
abbrev pub edge_line : Hash → Hash → List ℕ
edge_line from to = codes "  " ++ node_name from ++ codes " -> " ++ node_name to ++ codes ";\n"

-- the lines of a change: its node, and an edge for each dependency
abbrev pub change_part : List ChangeParts → ChangeParts → List ℕ
change_part C c = node_line C c ++ flat_map (edge_line (hash_of c)) c.deps

-- the graph of the changes
abbrev pub graph_of : List ChangeParts → List ℕ
graph_of C = codes "digraph changes {\n  rankdir=BT;\n  node [shape=box, fontname=monospace];\n" ++ flat_map (change_part C) C ++ codes "}\n"

-- What is printed is the graph of a journal's changes, in the order in which they entered.
pub record IsChangeGraph (journal printed : List ℕ) : Type 0 where
  pub changes : List ChangeParts
  pub recovers : HasChanges journal changes
  pub spelled : printed ≡ graph_of changes
