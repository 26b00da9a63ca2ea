-- What is printed.
use Rattle.std.specs.Prelude.{ℕ, Bool, true, false, List, [], ◌∷◌, ◌++◌, length, Some, None, codes, encode_utf8, encode_utf8_all, if◌then◌else◌}
use Rattle.std.specs.Fmt.{decimal}
use Rattle.std.specs.List.{flat_map}
use Rattle.tp_opid.specs.declared.op_id.OpId.{OpId}
use Rattle.tp_peer.specs.Taking.{Report}
use Rattle.tp_peer.specs.PeerStep as peer
use Rattle.tp_headline.specs.Reply.{EventReply, Peer, Wire, Reopened, Armed, Answered, Refused}
use Rattle.tp_simulate.specs.Names.{name_of_peer, name_of_world}
use Rattle.tp_simulate.specs.declared.asked.Asked.{Asked}
use Rattle.tp_list.specs.Bytes.{line}
use Rattle.tp_simulate.specs.declared.asked.Asked.TheVariants as asks

-- the line that says how many changes of a message entered, are held and were refused
abbrev pub counts : Report → List ℕ
counts r =
    codes "applied " ++ (decimal (length r.applied)
    ++ (codes " held " ++ (decimal (length r.held)
    ++ (codes " refused " ++ line (decimal (length r.refused))))))

-- the line is that of a mark
abbrev pub is_mark : Asked → Bool
is_mark (asks.Mark name peer) = true
is_mark _ = false

-- what is printed of a text that was read: of that of a mark only that it is set
abbrev pub reported_text : Asked → List ℕ → List ℕ
reported_text asked text = if is_mark asked then line (codes "marked") else line (codes "text " ++ encode_utf8_all text)

-- what is printed of what a peer answered. No line asks it to forget a link, or for its heads.
abbrev pub reported_answer : Asked → peer.Reply → List ℕ
reported_answer asked (peer.Made (Some h)) = line (codes "made")
reported_answer asked (peer.Made None) = line (codes "nothing")
reported_answer asked (peer.Merged report) = line (codes "applied " ++ decimal (length report.applied))
reported_answer asked (peer.Received report same_heads) = counts report
reported_answer asked (peer.Text text) = reported_text asked text
reported_answer asked (peer.Refused error) = line (codes "refused " ++ name_of_peer error)
reported_answer asked answer = line (codes "quiet")

-- what is printed of a line, which was replied to so
abbrev pub line_of_reply : Asked → EventReply → List ℕ
line_of_reply asked (Peer n) = line (codes "peer " ++ decimal n)
line_of_reply asked (Wire n) = line (codes "wire " ++ decimal n)
line_of_reply asked Reopened = line (codes "reopened")
line_of_reply asked Armed = line (codes "armed")
line_of_reply asked (Answered answer) = reported_answer asked answer
line_of_reply asked (Refused why) = line (codes "refused " ++ name_of_world why)

-- the line of the one list of all elements, deleted ones among them: their characters
abbrev pub order_line : List (OpId × ℕ) → List ℕ
order_line pairs = line (codes "order " ++ flat_map (λ (p : OpId × ℕ). encode_utf8 p.1) pairs)
