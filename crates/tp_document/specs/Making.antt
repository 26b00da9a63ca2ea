-- What the steps of an edit answer.
use Rattle.std.specs.Prelude.{◌≡◌, ℕ, ◌+◌, ◌<◌, ◌≤◌, ◌^◌, List, length, Bool, true, false, Result, Ok, Err, encode_utf8_all, IsTrue}
use Rattle.tp_document.specs.Common.{MAX_BYTES, IsChange, Actor, hash_of, has, most_changes, Hash, OpId, ChangeParts, spelling, AllInRange, total_count, records_of_edit, all_scalars, MAX_OPS, MAX_DEPS, COUNTERS_END, next_counter, MAX_MESSAGE_BYTES, Splice, IsActor, AllScalars}
use Rattle.tp_history.specs.Heads as head
use Rattle.tp_document.specs.Editing.{EditRequest, asking, AsksNothing, RefusesMaking, IsEdit, AreInRange}
use Rattle.tp_document.specs.declared.error.DocError.{DocError}
use Rattle.tp_document.specs.declared.error.DocError.TheVariants.{OutOfRange, TooManyOps, HashTaken, OutOfMemory, TooLong, Full}

-- ---- the steps, each after those before it

-- The edit asks for some operations, not too many, within the text.
pub record AsksSome (C : List ChangeParts) (asked : EditRequest) : Type 0 where
  pub range : AreInRange C asked.splices
  pub some : 0 < total_count asked.splices
  pub few : total_count asked.splices ≤ MAX_OPS

-- And there aren't too many heads.
pub record HasFewHeads (C : List ChangeParts) (asked : EditRequest) : Type 0 where
  pub asks : AsksSome C asked
  pub heads : length (head.heads C) ≤ MAX_DEPS

-- And its counters are within their limit.
pub record HasCounters (C : List ChangeParts) (asked : EditRequest) : Type 0 where
  pub before : HasFewHeads C asked
  pub counters : next_counter C + total_count asked.splices ≤ COUNTERS_END

-- And so are its message and the bytes of its change.
pub record HasSize (C : List ChangeParts) (asked : EditRequest) : Type 0 where
  pub before : HasCounters C asked
  pub message : length (encode_utf8_all asked.message) ≤ MAX_MESSAGE_BYTES
  pub change : (c : ChangeParts) × IsEdit C asked c × (length (spelling c) ≤ MAX_BYTES)

-- ---- what they answer

-- why the splices of a text of that many characters are refused
abbrev pub IsBad : ℕ → List Splice → DocError → Type 0
IsBad len ss OutOfRange = AllInRange len ss → ⊥
IsBad len ss TooManyOps = AllInRange len ss × (MAX_OPS < total_count ss)
IsBad len ss _ = ⊥

-- how many operations the splices take, or why they are refused
abbrev pub IsValidated : ℕ → List Splice → Result ℕ DocError → Type 0
IsValidated len ss (Ok n) = AllInRange len ss × (total_count ss ≡ n) × (n ≤ MAX_OPS) × AllScalars ss
IsValidated len ss (Err e) = IsBad len ss e

-- the parts are too long for a change, or memory is short
abbrev pub IsLong : ChangeParts → DocError → Type 0
IsLong parts OutOfMemory = Unit {0}
IsLong parts TooLong = MAX_BYTES < length (spelling parts)
IsLong parts _ = ⊥

-- what the types of a program say of what an actor asks
pub record IsTypedAsk (asked : EditRequest) : Type 0 where
  pub actor : IsActor asked.actor
  pub time : asked.time < 2 ^ 64
  pub message : IsTrue (all_scalars asked.message)
  pub texts : AllScalars asked.splices

-- the parts of the change of an edit, where V are the identifiers of the visible elements
abbrev pub parts_made : EditRequest → ℕ → ℕ → List Hash → List OpId → ChangeParts
parts_made asked seq start deps V = record {
  actor = asked.actor;
  seq = seq;
  start = start;
  time = asked.time;
  message = asked.message;
  deps = deps;
  records = records_of_edit asked.actor start V asked.splices;
}

-- The edit is within all limits that are judged before its records are made.
pub record IsWithinLimits (C : List ChangeParts) (asked : EditRequest) : Type 0 where
  pub counters : HasCounters C asked
  pub message : length (encode_utf8_all asked.message) ≤ MAX_MESSAGE_BYTES
  pub spelled : IsTrue (all_scalars asked.message)
  pub texts : AllScalars asked.splices

-- Whoever asks, and whenever: Ok true where the edit is within limits, Ok false where it asks nothing.
abbrev pub IsAllowed : List ChangeParts → List Splice → List ℕ → Result Bool DocError → Type 0
IsAllowed C ss message (Ok true) = (a : Actor) (time : ℕ) → IsWithinLimits C (asking a ss time message)
IsAllowed C ss message (Ok false) = (a : Actor) (time : ℕ) → AsksNothing C (asking a ss time message)
IsAllowed C ss message (Err e) = (a : Actor) (time : ℕ) → RefusesMaking C (asking a ss time message) e

-- c is the change of the edit, and within limits.
pub record IsWithinSize (C : List ChangeParts) (asked : EditRequest) (c : ChangeParts) : Type 0 where
  pub edit : IsEdit C asked c
  pub size : HasSize C asked
  pub limits : IsChange c

-- why the graph has no place for c
abbrev pub IsShut : List ChangeParts → ChangeParts → DocError → Type 0
IsShut C c Full = length C ≡ most_changes
IsShut C c HashTaken = (length C < most_changes) × IsTrue (has C (hash_of c))
IsShut C c _ = ⊥
