-- What becomes of one change while it is tried.
use Rattle.std.specs.Prelude.{◌≡◌, ◌⊎◌, ℕ, ◌+◌, ◌<◌, ◌≤◌, List, [], ◌∷◌, ◌++◌, length, take, Bool, false, if◌then◌else◌, Some, None, IsTrue}
use Rattle.tp_receive.specs.Common.{slice_get, Hash, ChangeParts, hash_of, GraphError, MissingDeps, has, cause, most_waiting}
use Rattle.tp_receive.specs.declared.admit.Admission.{Admission}
use Rattle.tp_receive.specs.declared.admit.Admission.TheVariants.{Entered, Refused, Waits}
use Rattle.tp_receive.specs.declared.error.ReceiveError.{ReceiveError}
use Rattle.tp_receive.specs.declared.error.ReceiveError.TheVariants.{PendingFull, NotKept, OutOfMemory}
use Rattle.tp_receive.specs.declared.keeper.KeepError.{KeepError}
use Rattle.tp_receive.specs.declared.keeper.KeepError.TheVariants as keep
use Rattle.tp_receive.specs.declared.log.Log.{Log}
use Rattle.tp_receive.specs.Intake.{Intake, intake}
use Rattle.tp_receive.specs.Receiving.{AllWait, lacks_deps, is_refusal}
use Rattle.tp_receive.specs.Delivery.{takes_slot}
use Rattle.tp_receive.specs.HashSets.{IsHashSetOf}

-- What is seen and reported so far, where P is still to come.
abbrev pub so_far : {S : Type 0} → S → List ChangeParts → List ChangeParts → List (ChangeParts × Bool) → Log → Intake S
so_far k C W P reported = intake k C W P reported.applied.items reported.refused.items

-- What trying the change c did of what was seen and reported: it entered, after it was kept, or it was refused and
-- reported, or it is given back since it must wait.
abbrev pub TriesChange : {S : Type 0} → (S → ChangeParts → S → Type 0) → Intake S → ChangeParts → Intake S → Admission → Type 0
TriesChange keeps s c t Entered =
    (cause s.applied c ≡ None) × keeps s.keeper c t.keeper × (t.applied ≡ s.applied ++ c ∷ []) × (t.entered ≡ s.entered ++ hash_of c ∷ []) × (t.refused ≡ s.refused)
TriesChange keeps s c t Refused =
    (e : GraphError) × (cause s.applied c ≡ Some e) × IsTrue (is_refusal (Some e)) × (t.refused ≡ s.refused ++ (hash_of c, e) ∷ [])
    × (t.keeper ≡ s.keeper) × (t.applied ≡ s.applied) × (t.entered ≡ s.entered)
TriesChange keeps s c t (Waits d) =
    (cause s.applied c ≡ Some MissingDeps) × (d ≡ c) × (t.refused ≡ s.refused) × (t.keeper ≡ s.keeper) × (t.applied ≡ s.applied) × (t.entered ≡ s.entered)

-- How trying c after C failed and left the keeper: c could enter and the keeper refused it, or memory was refused
-- and the keeper stays as it was.
abbrev pub RefusesTry : {S : Type 0} → (S → ChangeParts → KeepError → S → Type 0) → List ChangeParts → ChangeParts → S → ReceiveError → S → Type 0
RefusesTry refuses C c m PendingFull k = ⊥
RefusesTry refuses C c m NotKept k = (cause C c ≡ None) × refuses m c keep.NotKept k
RefusesTry refuses C c m OutOfMemory k = (k ≡ m) ⊎ ((cause C c ≡ None) × refuses m c keep.OutOfMemory k)

-- What a change that must wait meets: it is the last that waits, or one with its hash waits already, or there is
-- no space beside the reserved slots, and it is dropped and reported.
abbrev pub WaitsOrIsDropped : List ChangeParts → ChangeParts → ℕ → List ChangeParts → List (Hash × GraphError) → List (Hash × GraphError) → Type 0
WaitsOrIsDropped W c reserved W' r r' =
    (IsTrue (has W (hash_of c)) × (W' ≡ W) × (r' ≡ r))
    ⊎ (((has W (hash_of c) ≡ false) × (length W + reserved < most_waiting) × (W' ≡ W ++ c ∷ []) × (r' ≡ r))
    ⊎ ((has W (hash_of c) ≡ false) × (most_waiting ≤ length W + reserved) × (W' ≡ W) × (r' ≡ r ++ (hash_of c, MissingDeps) ∷ [])))

-- The waiting change with the number i is the earliest that lacks nothing.
pub record IsEarliest (C W : List ChangeParts) (i : ℕ) : Type 0 where
  pub within : i < length W
  pub before : AllWait C (take i W)
  pub ready : (c : ChangeParts) → slice_get W i ≡ Some c → lacks_deps (cause C c) ≡ false

-- The next change was noted, with whether it is deliverable, where D are the deliverable ones and V have slots: with
-- their hashes now, and whether the change takes a slot of its own.
pub record IsNoted (D V : List ChangeParts) (next : ChangeParts × Bool) (delivered slotted : List Hash) (slot : Bool) : Type 0 where
  pub delivers : IsHashSetOf delivered (if next.1 then D ++ next.0 ∷ [] else D)
  pub takes : slot ≡ takes_slot V next
  pub slots : IsHashSetOf slotted (if takes_slot V next then V ++ next.0 ∷ [] else V)
