-- What the calls of a journal leave, by its content and by what is seen of its device.
use Rattle.std.specs.Prelude.{◌≡◌, ℕ, ◌+◌, ◌-◌, ◌^◌, min, List, ◌++◌, take, Bool, true, false, ◌||◌, ◌&&◌, Option, Some, None, is_some, IsTrue}
use Rattle.tp_journal.specs.Calls.{FileCalls}
use Rattle.tp_journal.specs.declared.error.JournalError.{JournalError}
use Rattle.tp_journal.specs.declared.error.JournalError.TheVariants.{Io, OutOfMemory}

-- One failure more was counted. At 2^64 - 1 the number stays.
abbrev pub HasGrown : ℕ → ℕ → Type 0
HasGrown before after = after ≡ min (before + 1) (2 ^ 64 - 1)

-- what is seen of a journal's device: how often it failed; whether any call on it can fail; and, where it is armed, how many bytes
-- the next append keeps as it fails
pub record Device : Type 0 where
  pub failures : ℕ
  pub can_fail : Bool
  pub fuse : Option ℕ

-- that of a journal which has none
abbrev pub no_device : Device
no_device = record { failures = 0; can_fail = false; fuse = None }

-- one that can always fail, and did so often
abbrev pub failing : ℕ → Device
failing failures = record { failures = failures; can_fail = true; fuse = None }

-- the device where its next append is to fail and to keep that many bytes; and once an append was made, which ends the
-- arming
abbrev pub with_fuse : ℕ → Device → Device
with_fuse kept device = record device { fuse = Some kept }

abbrev pub without_fuse : Device → Device
without_fuse device = record device { fuse = None }

-- the device where any call on it can fail, and where none can
abbrev pub fallible : Device → Device
fallible device = record device { can_fail = true }

abbrev pub infallible : Device → Device
infallible device = record device { can_fail = false; fuse = None }

-- the fuse that a call leaves, an append or another one
abbrev pub fuse_left : Bool → Option ℕ → Option ℕ
fuse_left true fuse = None
fuse_left false fuse = fuse

-- The device failed in a call, an append or another one: it could, or an append was armed to; one failure more was counted. An
-- append ends the arming, and another call leaves it. Whether a device that can fail can do so from then on is open.
pub record DeviceFailsOnce (is_append : Bool) (before after : Device) : Type 0 where
  pub could : IsTrue ((is_append && is_some before.fuse) || before.can_fail)
  pub counted : HasGrown before.failures after.failures
  pub calm : before.can_fail ≡ false → after.can_fail ≡ false
  pub fuse : after.fuse ≡ fuse_left is_append before.fuse

-- what a refused call, an append or another one, did to the device: it failed for `Io`, and for want of memory it is as it was
abbrev pub CountsFailure : Bool → JournalError → Device → Device → Type 0
CountsFailure is_append Io before after = DeviceFailsOnce is_append before after
CountsFailure is_append OutOfMemory before after = after ≡ before

-- The content is what it was, and then a beginning of the bytes.
abbrev pub GrowsInPart : List ℕ → List ℕ → List ℕ → Type 0
GrowsInPart before after bytes = (k : ℕ) × (after ≡ before ++ take k bytes)

-- what a refused append leaves: where the device failed a beginning of the bytes may be there
abbrev pub RefusesAppend : List ℕ → List ℕ → JournalError → List ℕ → Type 0
RefusesAppend before bytes Io after = GrowsInPart before after bytes
RefusesAppend before bytes OutOfMemory after = after ≡ before

-- what contracts see of a journal in a file: its content, how often its device failed, and what was asked of the file
pub record FileState : Type 0 where
  pub content : List ℕ
  pub failures : ℕ
  pub asked : FileCalls

-- what contracts see of a journal that fails where it is set to: its content; how often it failed; how many bytes the
-- next append keeps as it fails, if it is to; and whether the next cut fails
pub record FuseState : Type 0 where
  pub content : List ℕ
  pub failures : ℕ
  pub append : Option ℕ
  pub cut : Bool

-- one failure more was counted
abbrev pub with_failure : FuseState → FuseState
with_failure j = record j { failures = min (j.failures + 1) (2 ^ 64 - 1) }

-- What an append of the bytes leaves of a journal that is armed to keep `kept` of them, once it was refused so: where
-- the device failed these are after the content, and the arming has ended; for want of memory it is as it was.
abbrev pub RefusesArmedAppend : FuseState → ℕ → List ℕ → JournalError → FuseState → Type 0
RefusesArmedAppend j kept bytes Io j' = j' ≡ record (with_failure j) { content = j.content ++ take kept bytes; append = None }
RefusesArmedAppend j kept bytes OutOfMemory j' = j' ≡ j
