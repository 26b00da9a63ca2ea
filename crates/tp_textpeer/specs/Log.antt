-- Logs: one actor's changes, each on the one before.
use Rattle.std.specs.Prelude.{◌≡◌, ℕ, ◌+◌, ◌==◌, ◌<◌, nat_lt, ◌&&◌, Bool, true, false, if◌then◌else◌, List, [], ◌∷◌, ◌++◌, length, take, drop, ◌≤◌, IfSome, Option, Some, None, Result, Ok, Err}
use Rattle.std.specs.Int.{w32, from_be_bytes, to_be_bytes}
use Rattle.std.specs.Io.KnownBytes.{Consumes, IsAtEnd}
use Rattle.std.specs.List.{flat_map, AllByRecursion}
use Rattle.tp_opid.specs.declared.actor.Actor.{Actor}
use Rattle.tp_opid.specs.declared.hash.Hash.{Hash}
use Rattle.tp_opid.specs.Same.{same_actor, same_hash}
use Rattle.tp_layout.specs.declared.limits.TheConstants.{MAX_BYTES}
use Rattle.tp_layout.specs.declared.error.ChangeError.{ChangeError}
use Rattle.tp_layout.specs.declared.error.ChangeError.TheVariants as change_error
use Rattle.tp_layout.specs.declared.parts.ChangeParts.{ChangeParts}
use Rattle.tp_change.specs.ChangeHash.{hash_of}
use Rattle.tp_change.specs.Elements.{inserts, refers, next_counter}
use Rattle.tp_layout.specs.Limits.{IsChange}
use Rattle.tp_change.specs.Operations.{ops_of}
use Rattle.tp_layout.specs.Reading.{change_at}
use Rattle.tp_layout.specs.Spelling.{spelling, framed_change}
use Rattle.tp_textpeer.specs.declared.error.ShowFault.{ShowFault}
use Rattle.tp_textpeer.specs.declared.error.ShowFault.TheVariants.{NotChain, BadSeq, BadStart, BadReference, Change}

-- the bytes of a log: its changes one after another
abbrev pub log_of : List ChangeParts → List ℕ
log_of C = flat_map framed_change C

-- whose log it is: the first change's actor
abbrev pub first_actor : List ChangeParts → Option Actor
first_actor [] = None
first_actor (c ∷ C) = Some c.actor

-- the hash of the last change
abbrev pub last_hash : List ChangeParts → Option Hash
last_hash [] = None
last_hash (c ∷ []) = Some (hash_of c)
last_hash (c ∷ d ∷ C) = last_hash (d ∷ C)

-- the actor is the one whose log it is, if it is anyone's yet
abbrev pub is_by : Option Actor → Actor → Bool
is_by None b = true
is_by (Some a) b = same_actor a b

-- the dependencies are just the hash, or none where there is no hash
abbrev pub depends_on : Option Hash → List Hash → Bool
depends_on None [] = true
depends_on None (h ∷ hs) = false
depends_on (Some g) [] = false
depends_on (Some g) (h ∷ []) = same_hash g h
depends_on (Some g) (h ∷ k ∷ hs) = false

-- What is wrong with the change c after the changes C of a log, the first that holds; None where it may follow.
unfoldable pub link_fault : List ChangeParts → ChangeParts → Option ShowFault
link_fault C c =
    if is_by (first_actor C) c.actor && depends_on (last_hash C) c.deps then
    (if c.seq == length C + 1 then
    (if c.start == next_counter C then (if refers (inserts C) (ops_of c) then None else Some BadReference)
    else Some BadStart)
    else Some BadSeq)
    else Some NotChain

-- Each change may follow those of `before` and those of the list that are before it.
abbrev pub LinkedAfter : List ChangeParts → List ChangeParts → Type 0
LinkedAfter before [] = Unit {0}
LinkedAfter before (c ∷ C) = (link_fault before c ≡ None) × LinkedAfter (before ++ c ∷ []) C

-- The bytes are the log of the changes C: one actor's, each on the one before.
pub record IsLog (bytes : List ℕ) (C : List ChangeParts) : Type 0 where
  pub spelled : bytes ≡ log_of C
  pub each : AllByRecursion IsChange C
  pub linked : LinkedAfter [] C

-- ---- what is wrong with bytes that are no log

abbrev pub with_rest : Result ChangeParts ChangeError → List ℕ → Result (ChangeParts × List ℕ) ShowFault
with_rest (Ok c) rest = Ok (c, rest)
with_rest (Err e) rest = Err (Change e)

-- a change of n bytes, and the bytes after it
abbrev pub sized_entry_at : ℕ → List ℕ → Result (ChangeParts × List ℕ) ShowFault
sized_entry_at n bytes =
    if n == 0 then Err (Change change_error.Short)
    else if nat_lt MAX_BYTES n then Err (Change change_error.Limit)
    else if nat_lt (length bytes) n then Err (Change change_error.Short)
    else with_rest (change_at (take n bytes)) (drop n bytes)

-- the change at the start of the bytes and the bytes after it, or what is wrong there
unfoldable pub logged_change_at : List ℕ → Result (ChangeParts × List ℕ) ShowFault
logged_change_at bytes =
    if nat_lt (length bytes) 4 then Err (Change change_error.Short)
    else sized_entry_at (from_be_bytes w32 (take 4 bytes)) (drop 4 bytes)

-- What is at the start of the known bytes has the fault.
abbrev pub StartsBadly : Option (List ℕ) → ShowFault → Type 0
StartsBadly known f = IfSome known (λ b. (0 < length b) × (logged_change_at b ≡ Err f))

-- Between the two the length n of a change was read, which is within the limit.
pub record ReadsLength (before after : Option (List ℕ)) (n : ℕ) : Type 0 where
  pub some : 0 < n
  pub few : n ≤ MAX_BYTES
  pub bytes : Consumes before after (to_be_bytes w32 n)

-- what is wrong with what is after the changes C
abbrev pub fault_after : List ChangeParts → Result (ChangeParts × List ℕ) ShowFault → Option ShowFault
fault_after C (Ok x) = link_fault C x.0
fault_after C (Err f) = Some f

-- The bytes begin as a log of n changes, and what is after these has the fault.
pub record IsLogFault (bytes : List ℕ) (n : ℕ) (fault : ShowFault) : Type 0 where
  pub good : List ChangeParts
  pub rest : List ℕ
  pub count : length good ≡ n
  pub spelled : bytes ≡ log_of good ++ rest
  pub each : AllByRecursion IsChange good
  pub linked : LinkedAfter [] good
  pub more : 0 < length rest
  pub wrong : fault_after good (logged_change_at rest) ≡ Some fault

-- Between the two nothing was read, and nothing is left.
abbrev pub FindsEnd : Option (List ℕ) → Option (List ℕ) → Type 0
FindsEnd before after = Consumes before after [] × IsAtEnd after

-- Of the known bytes `whole`, `left` are left after the n changes C of a log.
pub record IsAfterLog (whole left : Option (List ℕ)) (n : ℕ) (C : List ChangeParts) : Type 0 where
  pub count : length C ≡ n
  pub each : AllByRecursion IsChange C
  pub linked : LinkedAfter [] C
  pub bytes : Consumes whole left (log_of C)
