-- What is seen of a disk.
use Rattle.std.specs.Prelude.{ℕ, List}

-- Of the file at a path: these bytes were read of it; its lock was taken, and then these were read of it; it was left with
-- these, on the disk; its lock was tried so often, one time after another, and was another's each time.
pub data DiskView : Type 0 where
  WasRead : List ℕ → List ℕ → DiskView
  WasLocked : List ℕ → List ℕ → DiskView
  WasLeft : List ℕ → List ℕ → DiskView
  WasRefused : List ℕ → ℕ → DiskView

-- Of bytes that were read of the file P holds.
abbrev pub OfFile : (DiskView → Type 0) → List ℕ → (List ℕ → Type 0) → Type 0
OfFile saw file P = (bytes : List ℕ) × saw (WasRead file bytes) × P bytes

-- Of bytes that were read of the file, once its lock was taken, P holds.
abbrev pub OfLocked : (DiskView → Type 0) → List ℕ → (List ℕ → Type 0) → Type 0
OfLocked saw file P = (bytes : List ℕ) × saw (WasLocked file bytes) × P bytes

-- Some bytes were read of the file, once its lock was taken, and it was left with others, and of these and those P holds.
abbrev pub ChangesFile : (DiskView → Type 0) → List ℕ → (List ℕ → List ℕ → Type 0) → Type 0
ChangesFile saw file P = (before : List ℕ) × (after : List ℕ) × saw (WasLocked file before) × P before after × saw (WasLeft file after)
