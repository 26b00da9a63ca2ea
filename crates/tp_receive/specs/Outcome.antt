-- The one outcome of receiving: all changes were received, or those up to a refusal.
use Rattle.std.specs.Prelude.{◌≡◌, List, [], Option, IsSomeAnd, Result, Ok, Err, false, IsTrue}
use Rattle.tp_receive.specs.Common.{Hash, ChangeParts, GraphError}
use Rattle.tp_receive.specs.declared.error.ReceiveError.{ReceiveError}
use Rattle.tp_receive.specs.declared.error.ReceiveError.TheVariants.{PendingFull, NotKept, OutOfMemory}
use Rattle.tp_receive.specs.declared.intake.Applied.{Applied}
use Rattle.tp_receive.specs.declared.keeper.KeepError.{KeepError}
use Rattle.tp_receive.specs.declared.keeper.NoKeeper.{NoKeeper}
use Rattle.tp_receive.specs.Receiving.{EachOnce, hashes, held_of}
use Rattle.tp_receive.specs.Delivery.{is_full}
use Rattle.tp_receive.specs.Intake.{IsIntakeDone, Intake, Receiver, SomeTurns, Stops, begin, intake, receiver}

-- What receiving reports: the hashes of the changes that entered, of those that came and wait now, and of those that
-- were refused, each with its cause.
pub record Report : Type 0 where
  pub applied : List Hash
  pub held : List Hash
  pub refused : List (Hash × GraphError)

-- the report of what a call answers
abbrev pub report_of : Applied → Report
report_of a = record { applied = a.applied.items; held = a.held.items; refused = a.refused.items }

-- All changes were received, as is reported; or it stopped for a refusal.
pub data Outcome : Type 0 where
  Done : Report → Outcome
  Stopped : ReceiveError → Outcome

-- what is seen and reported at the end, where none is to come
abbrev pub at_end : {S : Type 0} → Receiver S → Report → Intake S
at_end t r = intake t.keeper t.applied t.waiting [] r.applied r.refused

-- All of the changes K were received from s on, which left t, and r is reported: a run to its end. There was space for
-- all that had to wait. Held are those of K that wait now, each hash once.
pub record Finishes {S : Type 0} (keeps : S → ChangeParts → S → Type 0) (s : Receiver S) (K : List ChangeParts) (t : Receiver S) (r : Report) : Type 0 where
  pub space : is_full s.applied s.waiting K ≡ false
  pub run : SomeTurns keeps (begin s.keeper s.applied s.waiting K) (at_end t r)
  pub ends : IsIntakeDone (at_end t r)
  pub held : r.held ≡ held_of (hashes K) t.waiting
  pub once : EachOnce r.held

-- What receiving the changes K did to s, by its outcome. More than may wait are refused before anything is done. A
-- refusal of the keeper, or for want of memory, stops it at some turn; the latter may come before it is known that more
-- would wait than may, and then nothing was done either.
abbrev pub ReceivesWith : {S : Type 0} → (S → ChangeParts → S → Type 0) → (S → ChangeParts → KeepError → S → Type 0) → Receiver S → List ChangeParts → Receiver S → Outcome → Type 0
ReceivesWith keeps refuses s K t (Done r) = Finishes keeps s K t r
ReceivesWith keeps refuses s K t (Stopped PendingFull) = IsTrue (is_full s.applied s.waiting K) × (t ≡ s)
ReceivesWith keeps refuses s K t (Stopped NotKept) = (is_full s.applied s.waiting K ≡ false) × Stops keeps refuses (begin s.keeper s.applied s.waiting K) NotKept t
ReceivesWith keeps refuses s K t (Stopped OutOfMemory) = (IsTrue (is_full s.applied s.waiting K) → t ≡ s) × Stops keeps refuses (begin s.keeper s.applied s.waiting K) OutOfMemory t

-- nobody: it keeps nothing, and refuses nothing
abbrev pub keeps_nothing : NoKeeper → ChangeParts → NoKeeper → Type 0
keeps_nothing k c k' = k ≡ k'

abbrev pub refuses_nothing : NoKeeper → ChangeParts → KeepError → NoKeeper → Type 0
refuses_nothing k c e k' = ⊥

-- what receives alone: nobody keeps its changes
abbrev pub unkept_receiver : List ChangeParts → List ChangeParts → Receiver NoKeeper
unkept_receiver C W = receiver (record {}) C W

-- The outcome of receiving K, where nobody keeps the changes, and so nobody refuses to.
abbrev pub ReceivesAlone : Receiver NoKeeper → List ChangeParts → Receiver NoKeeper → Outcome → Type 0
ReceivesAlone s K t o = ReceivesWith keeps_nothing refuses_nothing s K t o

-- The outcome that a call answered is as P says, where f gives the refusal of receiving that an error is. It answers no
-- other error.
abbrev pub HasOutcome : {E : Type 0} → (E → Option ReceiveError) → Result Applied E → (Outcome → Type 0) → Type 0
HasOutcome f (Ok a) P = P (Done (report_of a))
HasOutcome f (Err e) P = IsSomeAnd (f e) (λ why. P (Stopped why))
