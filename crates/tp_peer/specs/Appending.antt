-- What an append of a change's record does to a journal.
use Rattle.std.specs.Prelude.{◌≡◌, ℕ, List, ◌++◌, true, false}
use Rattle.tp_peer.specs.Common.{ChangeParts, IsChange, JournalError, Device, DeviceFailsOnce, GrowsInPart, record_of, without_fuse}
use Rattle.tp_receive.specs.declared.keeper.KeepError.{KeepError}
use Rattle.tp_receive.specs.declared.keeper.KeepError.TheVariants.{NotKept, OutOfMemory}
use Rattle.tp_journal.specs.declared.error.JournalError.TheVariants as journal

-- what is seen of a journal: its content and its device
pub record JournalState : Type 0 where
  pub content : List ℕ
  pub device : Device

-- the state of these parts
abbrev pub journal_state : List ℕ → Device → JournalState
journal_state content device = record { content = content; device = device }

-- Some journal has this content and this device, and keeps all of it for good. Where nothing is known of a type but
-- that it is a journal, only settling gives one.
pub record IsDurable {J : Type 0} (content : J → List ℕ) (device : J → Device) (settled : J → Type 0) (k : JournalState) : Type 0 where
  pub journal : J
  pub same : journal_state (content journal) (device journal) ≡ k
  pub is_settled : settled journal

-- The record of the change was appended, which ends the arming of the device.
pub record AppendsRecord (k : JournalState) (c : ChangeParts) (k' : JournalState) : Type 0 where
  pub limits : IsChange c
  pub content : k'.content ≡ k.content ++ record_of c
  pub device : k'.device ≡ without_fuse k.device

-- The device failed while the record was appended, or the journal settled after it: a beginning of it may be there.
pub record TearsRecord (k : JournalState) (c : ChangeParts) (k' : JournalState) : Type 0 where
  pub limits : IsChange c
  pub part : GrowsInPart k.content k'.content (record_of c)
  pub device : DeviceFailsOnce true k.device k'.device

-- The device failed as the journal was settled.
pub record StaysUnsettled (k k' : JournalState) : Type 0 where
  pub content : k'.content ≡ k.content
  pub device : DeviceFailsOnce false k.device k'.device

-- what a refused append leaves
abbrev pub RefusesRecord : JournalState → ChangeParts → KeepError → JournalState → Type 0
RefusesRecord k c NotKept k' = TearsRecord k c k'
RefusesRecord k c OutOfMemory k' = k' ≡ k

-- why a change wasn't kept, where its append was refused
abbrev pub keep_error_of : JournalError → KeepError
keep_error_of journal.Io = NotKept
keep_error_of journal.OutOfMemory = OutOfMemory
