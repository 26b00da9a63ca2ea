-- The change that an edit makes, and when an edit is refused.
use Rattle.std.specs.Prelude.{◌≡◌, ℕ, ◌+◌, ◌<◌, ◌≤◌, List, [], ◌∷◌, ◌++◌, length, false, None, Some, Option, encode_utf8_all, Result, Ok, Err}
use Rattle.tp_document.specs.Common.{Actor, Hash, Insert, MAX_BYTES, ChangeParts, hash_of, inserts, deletes, IsChange, spelling, IsInOrder, IsTextOf, has, cause, most_changes, AllInRange, total_count, records_of_edit, visible_ids, MAX_OPS, MAX_MESSAGE_BYTES, next_counter, count_by, Splice, MAX_DEPS, COUNTERS_END, all_spliced}
use Rattle.tp_history.specs.Heads as head
use Rattle.tp_document.specs.declared.error.DocError.{DocError}
use Rattle.tp_document.specs.declared.error.DocError.TheVariants.{OutOfRange, CounterLimit, TooManyOps, TooManyHeads, HashTaken, OutOfMemory, TooLong, Full}
use Rattle.tp_list.specs.FailsFirst.{FailsFirst}

-- What an actor asks: the splices, the time and the message.
pub record EditRequest : Type 0 where
  pub actor : Actor
  pub splices : List Splice
  pub time : ℕ
  pub message : List ℕ

-- The splices are within the text of the changes, each within what the ones before it leave.
abbrev pub AreInRange : List ChangeParts → List Splice → Type 0
AreInRange C ss = (t : List ℕ) × IsTextOf C t × AllInRange (length t) ss

-- c is what the edit makes of the changes C: on their heads, with the actor's next sequence number and the next
-- counter, and with the records of the splices over the identifiers of the visible elements.
pub record IsEdit (C : List ChangeParts) (asked : EditRequest) (c : ChangeParts) : Type 0 where
  pub actor : c.actor ≡ asked.actor
  pub seq : c.seq ≡ count_by asked.actor C + 1
  pub start : c.start ≡ next_counter C
  pub time : c.time ≡ asked.time
  pub message : c.message ≡ asked.message
  pub deps : c.deps ≡ head.heads C
  pub elements : List Insert
  pub order : IsInOrder (inserts C) elements
  pub records : c.records ≡ records_of_edit asked.actor (next_counter C) (visible_ids (deletes C) elements) asked.splices

-- c is the change of an edit that isn't refused.
pub record IsAcceptedEdit (C : List ChangeParts) (asked : EditRequest) (c : ChangeParts) : Type 0 where
  pub edit : IsEdit C asked c
  pub range : AreInRange C asked.splices
  pub some : 0 < total_count asked.splices
  pub limits : IsChange c
  pub enters : cause C c ≡ None

-- What each refusal asks of an edit.
-- OutOfRange: each splice is within the text that those before it leave.
-- TooManyOps, TooManyHeads, CounterLimit: operations, heads and the last counter are within their limits.
-- TooLong: so are the message's bytes, and those of the change.
-- Full: there is room for one change more.
-- HashTaken: no change that is there has the hash of the edit's.
-- The others: nothing.
abbrev pub PassesEdit : List ChangeParts → EditRequest → DocError → Type 0
PassesEdit C asked OutOfRange = AreInRange C asked.splices
PassesEdit C asked TooManyOps = total_count asked.splices ≤ MAX_OPS
PassesEdit C asked TooManyHeads = length (head.heads C) ≤ MAX_DEPS
PassesEdit C asked CounterLimit = next_counter C + total_count asked.splices ≤ COUNTERS_END
PassesEdit C asked TooLong =
    (length (encode_utf8_all asked.message) ≤ MAX_MESSAGE_BYTES) × ((c : ChangeParts) → IsEdit C asked c → length (spelling c) ≤ MAX_BYTES)
PassesEdit C asked Full = length C < most_changes
PassesEdit C asked HashTaken = (c : ChangeParts) → IsEdit C asked c → has C (hash_of c) ≡ false
PassesEdit C asked e = Unit {0}

-- in which order the tests are judged
abbrev pub number_of_test : DocError → ℕ
number_of_test OutOfRange = 0
number_of_test TooManyOps = 1
number_of_test TooManyHeads = 2
number_of_test CounterLimit = 3
number_of_test TooLong = 4
number_of_test Full = 5
number_of_test HashTaken = 6
number_of_test e = 7

-- Nothing is asked: the splices are in range and change nothing.
abbrev pub AsksNothing : List ChangeParts → EditRequest → Type 0
AsksNothing C asked = AreInRange C asked.splices × (total_count asked.splices ≡ 0)

-- The edit is refused for this: it asks something, and this is the first test that it doesn't pass. Memory can be short at
-- any time.
abbrev pub RefusesMaking : List ChangeParts → EditRequest → DocError → Type 0
RefusesMaking C asked OutOfMemory = Unit {0}
RefusesMaking C asked e = (AsksNothing C asked → ⊥) × FailsFirst number_of_test (PassesEdit C asked) e

-- what is asked, of its parts
abbrev pub asking : Actor → List Splice → ℕ → List ℕ → EditRequest
asking actor splices time message = record { actor = actor; splices = splices; time = time; message = message }

-- What an edit did of the changes C, where D are those afterwards: nothing where it asked nothing, and else one change
-- more, whose hash is answered.
abbrev pub IsEditDone : List ChangeParts → EditRequest → List ChangeParts → Option Hash → Type 0
IsEditDone C asked D None = AsksNothing C asked × (D ≡ C)
IsEditDone C asked D (Some h) = (c : ChangeParts) × IsAcceptedEdit C asked c × (D ≡ C ++ c ∷ []) × (h ≡ hash_of c)

-- What an edit answered of the changes C, where D are those afterwards: a refusal leaves them.
abbrev pub EditsTo : List ChangeParts → EditRequest → List ChangeParts → Result (Option Hash) DocError → Type 0
EditsTo C asked D (Ok made) = IsEditDone C asked D made
EditsTo C asked D (Err e) = RefusesMaking C asked e × (D ≡ C)

-- The text of D is that of C with each splice done in turn.
abbrev pub DoesSplices : List ChangeParts → List ChangeParts → List Splice → Type 0
DoesSplices C D ss = (t : List ℕ) → IsTextOf C t → IsTextOf D (all_spliced t ss)
