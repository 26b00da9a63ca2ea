-- Which refusals of a session may pass, and which one says that the peer has stopped.
use Rattle.std.specs.Prelude.{Bool, true, false}
use Rattle.tp_commands.specs.declared.error.CommandError.TheVariants.{Busy, Io, Peer}
use Rattle.tp_peer.specs.declared.error.PeerError.TheVariants.{JournalFailed}
use Rattle.tp_report.specs.declared.error.JobError.{JobError}
use Rattle.tp_report.specs.declared.error.JobError.TheVariants.{Command, Unreached}

-- whether a later session may be held all the same: the server is away, or another has the journal
abbrev pub may_pass : JobError → Bool
may_pass (Command Io) = true
may_pass (Command Busy) = true
may_pass (Unreached cause) = true
may_pass _ = false

-- whether it says that the journal failed
abbrev pub tells_stop : JobError → Bool
tells_stop (Command (Peer JournalFailed)) = true
tells_stop _ = false
