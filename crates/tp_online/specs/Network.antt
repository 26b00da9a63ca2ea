-- What the commands over a network print.
use Rattle.std.specs.Prelude.{◌≡◌, ℕ, List, [], ◌++◌, ◌==◌, if◌then◌else◌, Option, None, Some, is_some, codes}
use Rattle.std.specs.Fmt.{decimal}
use Rattle.std.specs.List.{flat_map}
use Rattle.std.specs.Net.Socket.{socket_ip}
use Rattle.std.specs.Net.Text.{socket_text}
use Rattle.std.specs.declared.net.socket_addr.SocketAddr.{SocketAddr}
use Rattle.hex.specs.Hex.{encode_lower}
use Rattle.tp_frame.specs.declared.frame.Frame.{Frame}
use Rattle.tp_frame.specs.Frame.{frame_spelling}
use Rattle.tp_command_line.specs.declared.job.Hosting.{Hosting}
use Rattle.tp_report.specs.Telling.{applied_line}
use Rattle.tp_list.specs.Bytes.{line}

-- the line of the port on which a server listens
abbrev pub listening_line : ℕ → List ℕ
listening_line port = line (codes "listening " ++ decimal port)

-- the line of how many sessions were held
abbrev pub served_line : ℕ → List ℕ
served_line sessions = line (codes "served " ++ decimal sessions)

-- what is printed of a session among others: how many changes entered, where any did
abbrev pub met_line : ℕ → List ℕ
met_line applied = if applied == 0 then [] else applied_line applied

-- the line of a page's address, with the key that its windows have to know
abbrev pub page_line : SocketAddr → List ℕ → List ℕ
page_line page key = line (codes "http://" ++ socket_text page ++ codes "/#" ++ encode_lower key)

-- the line of the port at which a page's program serves sessions, where it does
abbrev pub beside_line : Option ℕ → List ℕ
beside_line None = []
beside_line (Some port) = listening_line port

-- The bytes are what is printed of a page: where it is, at the IP address that was asked for, some key, and the port at which
-- sessions are served beside it, where that was asked for.
abbrev pub IsPageShown : Hosting → List ℕ → Type 0
IsPageShown hosting printed = (page : SocketAddr) × (key : List ℕ) × (port : Option ℕ) × (socket_ip page ≡ socket_ip hosting.page)
    × (is_some port ≡ is_some hosting.serve) × (printed ≡ page_line page key ++ beside_line port)

-- The bytes are what a server prints that held this many sessions: first the port on which it listens.
abbrev pub IsServeOutput : ℕ → List ℕ → Type 0
IsServeOutput sessions printed = (port : ℕ) × (printed ≡ listening_line port ++ served_line sessions)

-- the bytes are what a client prints: how many changes entered
abbrev pub IsSynced : List ℕ → Type 0
IsSynced printed = (applied : ℕ) × (printed ≡ applied_line applied)

-- the bytes are frames, each whole
abbrev pub AreFrames : List ℕ → Type 0
AreFrames printed = (sent : List Frame) × (printed ≡ flat_map frame_spelling sent)
