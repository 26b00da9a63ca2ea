-- The cause is the first test that a change doesn't pass.
use Rattle.tp_history.proofs.Common.{Option, ◌≡◌, List, true, false, Some, ◌+◌, ◌==◌, ◌↔◌, Bool, None, ChangeParts, hash_of, GraphError, Known, MissingDeps, BadSeq, BadStart, BadReference, has, has_all, past, or_clash, clashes, count_by, ops_of, inserts, refers, next_counter, ◌<◌, length, arith, or_full, most_changes}
use Rattle.std.proofs.Common.{ℕ, MatchOption, refl}
use Rattle.std.specs.Prelude.{if◌then◌else◌}
use Rattle.tp_list.specs.FailsFirst.{FailsFirst}
use Rattle.tp_history.specs.declared.error.GraphError.TheVariants.{SeqClash, UnknownHead, Full, OutOfMemory}
use Rattle.tp_history.specs.GraphError.{code_of}
use Rattle.tp_history.specs.Fit.{defect, defect_after, cause, PassesEntry}

-- The tests with a smaller number than n are passed, where each is that has one.
judged : (P : GraphError → Type 0) (n : ℕ) → P UnknownHead → P OutOfMemory → (1 < n → P Known) → (2 < n → P MissingDeps) → (3 < n → P BadSeq) → (4 < n → P BadStart) → (5 < n → P BadReference)
    → (6 < n → P SeqClash) → (8 < n → P Full) → (other : GraphError) → code_of other < n → P other
judged P n unknown memory known deps seq start refs clash full Known k = known k
judged P n unknown memory known deps seq start refs clash full MissingDeps k = deps k
judged P n unknown memory known deps seq start refs clash full BadSeq k = seq k
judged P n unknown memory known deps seq start refs clash full BadStart k = start k
judged P n unknown memory known deps seq start refs clash full BadReference k = refs k
judged P n unknown memory known deps seq start refs clash full SeqClash k = clash k
judged P n unknown memory known deps seq start refs clash full UnknownHead k = unknown
judged P n unknown memory known deps seq start refs clash full Full k = full k
judged P n unknown memory known deps seq start refs clash full OutOfMemory k = memory

-- by the tests' outcomes, each of which is what a cause asks
first_by_tests : (P : GraphError → Type 0) (k a q s t b f : Bool) → P UnknownHead → P OutOfMemory → (k ≡ false) ↔ P Known → (a ≡ true) ↔ P MissingDeps → (q ≡ true) ↔ P BadSeq → (s ≡ true) ↔ P BadStart
    → (t ≡ true) ↔ P BadReference → (b ≡ false) ↔ P SeqClash → (f ≡ false) ↔ P Full
    → MatchOption (or_full (if k then Some Known else if a then or_clash (if q then (if s then (if t then None else Some BadReference) else Some BadStart) else Some BadSeq) b else Some MissingDeps) f)
    ((e : GraphError) → P e) (FailsFirst code_of P)
first_by_tests P true a q s t b f u o ik ia iq is it ib full = record {
  before = judged P 1 u o (λ k. absurd (omega arith)) (λ k. absurd (omega arith)) (λ k. absurd (omega arith)) (λ k. absurd (omega arith)) (λ k. absurd (omega arith)) (λ k. absurd (omega arith)) (λ k. absurd (omega arith));
  fails = λ p. let bad = ik.1 p in cc;
}
first_by_tests P false false q s t b f u o ik ia iq is it ib full = record {
  before = judged P 2 u o (λ k. ik.0 refl) (λ k. absurd (omega arith)) (λ k. absurd (omega arith)) (λ k. absurd (omega arith)) (λ k. absurd (omega arith)) (λ k. absurd (omega arith)) (λ k. absurd (omega arith));
  fails = λ p. let bad = ia.1 p in cc;
}
first_by_tests P false true false s t b f u o ik ia iq is it ib full = record {
  before = judged P 3 u o (λ k. ik.0 refl) (λ k. ia.0 refl) (λ k. absurd (omega arith)) (λ k. absurd (omega arith)) (λ k. absurd (omega arith)) (λ k. absurd (omega arith)) (λ k. absurd (omega arith));
  fails = λ p. let bad = iq.1 p in cc;
}
first_by_tests P false true true false t b f u o ik ia iq is it ib full = record {
  before = judged P 4 u o (λ k. ik.0 refl) (λ k. ia.0 refl) (λ k. iq.0 refl) (λ k. absurd (omega arith)) (λ k. absurd (omega arith)) (λ k. absurd (omega arith)) (λ k. absurd (omega arith));
  fails = λ p. let bad = is.1 p in cc;
}
first_by_tests P false true true true false b f u o ik ia iq is it ib full = record {
  before = judged P 5 u o (λ k. ik.0 refl) (λ k. ia.0 refl) (λ k. iq.0 refl) (λ k. is.0 refl) (λ k. absurd (omega arith)) (λ k. absurd (omega arith)) (λ k. absurd (omega arith));
  fails = λ p. let bad = it.1 p in cc;
}
first_by_tests P false true true true true true f u o ik ia iq is it ib full = record {
  before = judged P 6 u o (λ k. ik.0 refl) (λ k. ia.0 refl) (λ k. iq.0 refl) (λ k. is.0 refl) (λ k. it.0 refl) (λ k. absurd (omega arith)) (λ k. absurd (omega arith));
  fails = λ p. let bad = ib.1 p in cc;
}
first_by_tests P false true true true true false true u o ik ia iq is it ib full = record {
  before = judged P 8 u o (λ k. ik.0 refl) (λ k. ia.0 refl) (λ k. iq.0 refl) (λ k. is.0 refl) (λ k. it.0 refl) (λ k. ib.0 refl) (λ k. absurd (omega arith));
  fails = λ p. let bad = full.1 p in cc;
}
first_by_tests P false true true true true false false u o ik ia iq is it ib full = λ e. passed e where
  passed : (e : GraphError) → P e
  passed Known = ik.0 refl
  passed MissingDeps = ia.0 refl
  passed BadSeq = iq.0 refl
  passed BadStart = is.0 refl
  passed BadReference = it.0 refl
  passed SeqClash = ib.0 refl
  passed UnknownHead = u
  passed Full = full.0 refl
  passed OutOfMemory = o

itself : {A : Type 0} → A ↔ A
itself = (λ a. a, λ a. a)

pub first_cause : (C : List ChangeParts) (c : ChangeParts) → MatchOption (cause C c) ((e : GraphError) → PassesEntry C c e) (FailsFirst code_of (PassesEntry C c))
unfolding cause defect defect_after
first_cause C c =
    first_by_tests (PassesEntry C c) (has C (hash_of c)) (has_all C c.deps) (c.seq == count_by c.actor (past C c.deps) + 1) (c.start == next_counter (past C c.deps)) (refers (inserts (past C c.deps)) (ops_of c)) (clashes C c) (length C == most_changes)
    tt tt itself itself itself itself itself itself itself
