-- Receiving, by three rules over what it sees and has reported.
use Rattle.std.specs.Prelude.{◌≡◌, ◌⊎◌, ℕ, zero, suc, ◌+◌, List, [], ◌∷◌, ◌++◌, length, Bool, false, if◌then◌else◌, Some, None, nat_lt, IsTrue}
use Rattle.tp_receive.specs.Common.{Hash, ChangeParts, hash_of, GraphError, MissingDeps, has, cause, most_waiting}
use Rattle.tp_receive.specs.declared.error.ReceiveError.{ReceiveError}
use Rattle.tp_receive.specs.declared.error.ReceiveError.TheVariants.{PendingFull, NotKept, OutOfMemory}
use Rattle.tp_receive.specs.declared.keeper.KeepError.{KeepError}
use Rattle.tp_receive.specs.declared.keeper.KeepError.TheVariants as keep
use Rattle.tp_receive.specs.Receiving.{AllWait, lacks_deps, is_refusal}
use Rattle.tp_receive.specs.Delivery.{delivery, with_slots, slots}

-- What receiving sees: the keeper, the applied changes, those that wait, and those of the list that are still to
-- come, each with whether a slot is reserved for it. And what it has reported: the hashes of those that entered, and of
-- those that were refused, each with why.
pub record Intake (S : Type 0) : Type 0 where
  pub keeper : S
  pub applied : List ChangeParts
  pub waiting : List ChangeParts
  pub coming : List (ChangeParts × Bool)
  pub entered : List Hash
  pub refused : List (Hash × GraphError)

-- the intake of these parts
abbrev pub intake : {S : Type 0} → S → List ChangeParts → List ChangeParts → List (ChangeParts × Bool) → List Hash → List (Hash × GraphError) → Intake S
intake k C W P t r = record { keeper = k; applied = C; waiting = W; coming = P; entered = t; refused = r }

-- ---- what becomes of a change whose turn it is

-- it enters, and is reported
abbrev pub enter : {S : Type 0} → Intake S → ChangeParts → S → Intake S
enter s c k = record s { keeper = k; applied = s.applied ++ c ∷ []; entered = s.entered ++ hash_of c ∷ [] }

-- it is dropped, and reported with why
abbrev pub refuse : {S : Type 0} → Intake S → ChangeParts → GraphError → Intake S
refuse s c e = record s { refused = s.refused ++ (hash_of c, e) ∷ [] }

-- It waits as the last. Where its hash waits already nothing changes, and where no slot is left beside the reserved
-- ones it is dropped, and reported as lacking a dependency.
abbrev pub hold : {S : Type 0} → Intake S → ChangeParts → Intake S
hold s c =
    if has s.waiting (hash_of c) then s
    else if nat_lt (length s.waiting + slots s.coming) most_waiting then record s { waiting = s.waiting ++ c ∷ [] }
    else refuse s c MissingDeps

-- The change c, whose turn it was, took s to t: it entered, and the keeper kept it first; it lacks a dependency; or it
-- was refused for good.
abbrev pub DecidesChange : {S : Type 0} → (S → ChangeParts → S → Type 0) → Intake S → ChangeParts → Intake S → Type 0
DecidesChange {S} keeps s c t =
    ((cause s.applied c ≡ None) × (k : S) × keeps s.keeper c k × (t ≡ enter s c k))
    ⊎ (((cause s.applied c ≡ Some MissingDeps) × (t ≡ hold s c))
    ⊎ ((e : GraphError) × (cause s.applied c ≡ Some e) × IsTrue (is_refusal (Some e)) × (t ≡ refuse s c e)))

-- ---- the three rules

-- The earliest waiting change that lacks nothing has its turn.
pub record NextWaits {S : Type 0} (s : Intake S) (c : ChangeParts) (rest : Intake S) : Type 0 where
  pub before : List ChangeParts
  pub beyond : List ChangeParts
  pub waits : s.waiting ≡ before ++ c ∷ beyond
  pub earliest : AllWait s.applied before
  pub ready : lacks_deps (cause s.applied c) ≡ false
  pub without : rest ≡ record s { waiting = before ++ beyond }

-- Where there is none, the next that came has its turn.
pub record NextComes {S : Type 0} (s : Intake S) (c : ChangeParts) (rest : Intake S) : Type 0 where
  pub slot : Bool
  pub beyond : List (ChangeParts × Bool)
  pub comes : s.coming ≡ (c, slot) ∷ beyond
  pub settled : AllWait s.applied s.waiting
  pub without : rest ≡ record s { coming = beyond }

-- It ends where none is left: all that waits lacks something, and none is still to come.
pub record IsIntakeDone {S : Type 0} (s : Intake S) : Type 0 where
  pub settled : AllWait s.applied s.waiting
  pub came : s.coming ≡ []

-- It is the turn of c, and the rest is s without it.
abbrev pub NextChange : {S : Type 0} → Intake S → ChangeParts → Intake S → Type 0
NextChange s c rest = NextWaits s c rest ⊎ NextComes s c rest

-- One change had its turn.
pub record Turn {S : Type 0} (keeps : S → ChangeParts → S → Type 0) (s t : Intake S) : Type 0 where
  pub change : ChangeParts
  pub rest : Intake S
  pub next : NextChange s change rest
  pub meets : DecidesChange keeps rest change t

-- n changes had their turns, one after another.
abbrev pub Turns : {S : Type 0} → (S → ChangeParts → S → Type 0) → ℕ → Intake S → Intake S → Type 0
Turns keeps zero s t = s ≡ t
Turns {S} keeps (suc n) s t = (m : Intake S) × Turn keeps s m × Turns keeps n m t

-- Some changes had their turns.
pub record SomeTurns {S : Type 0} (keeps : S → ChangeParts → S → Type 0) (s t : Intake S) : Type 0 where
  pub count : ℕ
  pub turns : Turns keeps count s t

-- ---- a call

-- What receives: who keeps its changes, those that are applied, in the order in which they entered, and those that wait.
pub record Receiver (S : Type 0) : Type 0 where
  pub keeper : S
  pub applied : List ChangeParts
  pub waiting : List ChangeParts

-- the receiver of these parts
abbrev pub receiver : {S : Type 0} → S → List ChangeParts → List ChangeParts → Receiver S
receiver k C W = record { keeper = k; applied = C; waiting = W }

-- The changes K come where C is applied and W waits.
abbrev pub begin : {S : Type 0} → S → List ChangeParts → List ChangeParts → List ChangeParts → Intake S
begin k C W K = intake k C W (with_slots W (delivery C K)) [] []

-- The keeper refused the change whose turn it was.
pub record RefusesTurn {S : Type 0} (refuses : S → ChangeParts → KeepError → S → Type 0) (why : KeepError) (at : Intake S) (k : S) : Type 0 where
  pub change : ChangeParts
  pub rest : Intake S
  pub next : NextChange at change rest
  pub fits : cause at.applied change ≡ None
  pub refused : refuses at.keeper change why k

-- What stopped a run at that turn, and left the keeper as k.
abbrev pub StoppedBy : {S : Type 0} → (S → ChangeParts → KeepError → S → Type 0) → ReceiveError → Intake S → S → Type 0
StoppedBy refuses PendingFull at k = ⊥
StoppedBy refuses NotKept at k = RefusesTurn refuses keep.NotKept at k
StoppedBy refuses OutOfMemory at k = (k ≡ at.keeper) ⊎ RefusesTurn refuses keep.OutOfMemory at k

-- A run from s stopped for the refusal, and left t.
pub record Stops {S : Type 0} (keeps : S → ChangeParts → S → Type 0) (refuses : S → ChangeParts → KeepError → S → Type 0) (s : Intake S) (why : ReceiveError) (t : Receiver S) : Type 0 where
  pub at : Intake S
  pub run : SomeTurns keeps s at
  pub applied : t.applied ≡ at.applied
  pub waiting : t.waiting ≡ at.waiting
  pub by : StoppedBy refuses why at t.keeper
