-- What is seen of a journal in a file, or of none.
use Rattle.std.specs.Prelude.{ℕ, List}
use Rattle.tp_journal.specs.Calls.{FileCalls, IsAllSynced, nothing_asked}
use Rattle.tp_journal.specs.Journal.{Device, failing, no_device}
use Rattle.tp_journal.specs.declared.optional.OptionalJournal.{OptionalJournal}
use Rattle.tp_journal.specs.declared.optional.OptionalJournal.TheVariants.{None, Durable}

abbrev pub content_of : OptionalJournal → List ℕ
content_of (None j) = j.content.bytes
content_of (Durable j) = j.file.content

abbrev pub device_of : OptionalJournal → Device
device_of (None j) = no_device
device_of (Durable j) = failing j.file.failures

abbrev pub asked_of : OptionalJournal → FileCalls
asked_of (None j) = nothing_asked
asked_of (Durable j) = j.file.asked

abbrev pub is_settled_of : OptionalJournal → Type 0
is_settled_of (None j) = Unit {0}
is_settled_of (Durable j) = IsAllSynced j.file.asked
