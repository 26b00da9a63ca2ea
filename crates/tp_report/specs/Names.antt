-- What is printed of a refusal.
use Rattle.std.specs.Prelude.{ℕ, List, [], ◌++◌, Option, None, Some, codes}
use Rattle.std.specs.List.{flat_map}
use Rattle.std.specs.Fmt.{decimal}
use Rattle.hex.specs.Hex.{encode_lower}
use Rattle.std.specs.Net.Text.{socket_text}
use Rattle.tp_opid.specs.declared.hash.Hash.{Hash}
use Rattle.tp_commands.specs.Reading.{hash_line}
use Rattle.tp_net.specs.declared.gate.Report.{Report}
use Rattle.tp_commands.specs.declared.error.CommandError.{CommandError}
use Rattle.tp_commands.specs.declared.error.CommandError.TheVariants.{Io, OutOfMemory, Peer, Doc, Store, Busy, NotText, NotEmpty, NotQuiet, BothHaveText, BadState}
use Rattle.tp_session.specs.declared.error.NetError.{NetError}
use Rattle.tp_session.specs.declared.error.NetError.TheVariants as net
use Rattle.tp_simulate.specs.Names.{name_of_bytes, name_of_document, name_of_peer}
use Rattle.tp_textpeer.specs.Refusal.{show_refusal_text as text_of_log_refusal}
use Rattle.tp_report.specs.declared.error.JobError.{JobError}
use Rattle.tp_report.specs.declared.error.JobError.TheVariants.{Command, Show, Line, Session, Unreached, Closed, Unsaid, HalfWay}
use Rattle.tp_report.specs.declared.error.Made.{Made}
use Rattle.tp_report.specs.declared.error.Made.TheVariants.{Document, Change, Changes}
use Rattle.tp_list.specs.Bytes.{line}

-- of what a layer below refused, the innermost refusal's name
abbrev pub name_of_command : CommandError → List ℕ
name_of_command Io = codes "Io"
name_of_command OutOfMemory = codes "OutOfMemory"
name_of_command (Peer e) = name_of_peer e
name_of_command (Doc e) = name_of_document e
name_of_command (Store e) = name_of_bytes e
name_of_command Busy = codes "Busy"
name_of_command (NotText at) = codes "NotText"
name_of_command NotEmpty = codes "NotEmpty"
name_of_command NotQuiet = codes "NotQuiet"
name_of_command BothHaveText = codes "BothHaveText"
name_of_command BadState = codes "BadState"

-- of a session that was broken off, the innermost cause's name
abbrev pub name_of_session : NetError → List ℕ
name_of_session net.Io = codes "Io"
name_of_session net.Frame = codes "Frame"
name_of_session net.OtherDocument = codes "OtherDocument"
name_of_session net.Version = codes "Version"
name_of_session net.Unexpected = codes "Unexpected"
name_of_session (net.RefusedByOther code) = codes "RefusedByOther"
name_of_session (net.Peer e) = name_of_peer e
name_of_session net.OutOfMemory = codes "OutOfMemory"

-- of a session, that it ended well, or why it was broken off
abbrev pub name_of_outcome : Option NetError → List ℕ
name_of_outcome None = codes "done"
name_of_outcome (Some e) = name_of_session e

-- the line of a session: where the client is, how many changes entered, how many were sent, and how it ended
abbrev pub session_line : Report → List ℕ
session_line r =
    line (socket_text r.client ++ codes " +" ++ decimal r.tally.entered ++ codes " -" ++ decimal r.tally.sent ++ codes " " ++ name_of_outcome r.error)

-- what is printed of a refusal, without a newline
abbrev pub refusal_text : JobError → List ℕ
refusal_text (Command e) = codes "textpeer: " ++ name_of_command e
refusal_text (Show r) = text_of_log_refusal r.0
refusal_text (Line number) = codes "textpeer: line " ++ decimal number
refusal_text (Session e) = codes "textpeer: " ++ name_of_session e
refusal_text (Unreached cause) = codes "textpeer: Io"
refusal_text Closed = codes "textpeer: Io"
refusal_text (Unsaid made) = codes "textpeer: Io"
refusal_text (HalfWay e place) = codes "textpeer: " ++ name_of_command e

-- the lines of what was made, as the output has them: of an identifier, or of hashes
abbrev pub output_of_made : Made → List ℕ
output_of_made (Document id) = line (encode_lower id.0)
output_of_made (Change h) = hash_line h
output_of_made (Changes hs) = flat_map hash_line hs.items

-- the line that says of a change that it was made
abbrev pub change_made_line : Hash → List ℕ
change_made_line h = codes "made " ++ hash_line h

-- the lines that say what was made
abbrev pub lines_of_unsaid : Made → List ℕ
lines_of_unsaid (Document id) = codes "made " ++ line (encode_lower id.0)
lines_of_unsaid (Change h) = change_made_line h
lines_of_unsaid (Changes hs) = flat_map change_made_line hs.items

-- the line that says up to where a text is new
abbrev pub half_way_line : ℕ → List ℕ
half_way_line place = line (codes "the text is new up to character " ++ decimal place)

abbrev pub made_text : JobError → List ℕ
made_text (Unsaid made) = lines_of_unsaid made
made_text (HalfWay e place) = half_way_line place
made_text e = []

-- Where something was made that isn't said, P holds of the lines that would have said it.
abbrev pub WasMade : (List ℕ → Type 0) → JobError → Type 0
WasMade P (Unsaid made) = P (output_of_made made)
WasMade P e = Unit {0}

-- what is printed of a refusal: its line, and others where something was made that isn't said, or a text in part
abbrev pub refusal_lines : JobError → List ℕ
refusal_lines e = line (refusal_text e) ++ made_text e
