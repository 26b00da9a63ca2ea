-- What an edit answers, exit by exit.
use Rattle.tp_document.proofs.Common.{◌≡◌, ℕ, zero, suc, ◌+◌, ◌<◌, ◌≤◌, List, length, refl, sym, ap, ◌∙◌, subst, arith, length-map, Hash, OpId, Insert, ChangeParts, next_counter, visible_of, chars_of, count_by, AllInRange, total_count, records_of_edit, visible_ids, DocumentInvariant, EditRequest, AreInRange, IsEdit, Splice, DocError, OutOfRange, CounterLimit, TooManyOps, TooManyHeads, UnknownHead, UnknownElement, PendingFull, HashTaken, OutOfMemory, OtherDocument, TooLong, Full, NotKept, RefusesMaking, AsksNothing, AsksSome, HasCounters, IsBad, IsWithinSize, parts_made, Sound, encode_utf8_all, has, hash_of, most_changes, true, false}
use Rattle.tp_layout.specs.Spelling.{spelling}
use Rattle.tp_document.specs.Editing.{PassesEdit, number_of_test}
use Rattle.tp_document.specs.Making.{HasFewHeads, IsShut}
use Rattle.tp_document.proofs.EditFits.{range_of, edit_determined}
use Rattle.tp_history.specs.Heads as head
use Rattle.tp_snapshot.proofs.ShowingLaws.{DocumentInvariant-text}

-- the length that the sequence knows is that of the text
pub in_range_of : (C : List ChangeParts) (L : List Insert) (R : List (OpId × OpId)) (n : ℕ) (ss : List Splice) → DocumentInvariant C L R → n ≡ length (visible_of R L) → AllInRange n ss → AreInRange C ss
in_range_of C L R n ss h len range =
    (chars_of (visible_of R L), DocumentInvariant-text C L R h, subst (λ k. AllInRange k ss) (len ∙ sym (length-map (visible_of R L) (λ (x : Insert). x.ch))) range)

-- ---- which test fails first

above_limit : (n limit : ℕ) → limit < n → n ≤ limit → ⊥
above_limit n limit over within = omega arith

-- The tests with a smaller number than n are passed, where each is that has one.
judged : (C : List ChangeParts) (asked : EditRequest) (n : ℕ) → (0 < n → PassesEdit C asked OutOfRange) → (1 < n → PassesEdit C asked TooManyOps) → (2 < n → PassesEdit C asked TooManyHeads)
    → (3 < n → PassesEdit C asked CounterLimit) → (4 < n → PassesEdit C asked TooLong) → (5 < n → PassesEdit C asked Full) → (6 < n → PassesEdit C asked HashTaken)
    → (other : DocError) → number_of_test other < n → PassesEdit C asked other
judged C asked n range ops heads counters size room hash OutOfRange k = range k
judged C asked n range ops heads counters size room hash TooManyOps k = ops k
judged C asked n range ops heads counters size room hash TooManyHeads k = heads k
judged C asked n range ops heads counters size room hash CounterLimit k = counters k
judged C asked n range ops heads counters size room hash TooLong k = size k
judged C asked n range ops heads counters size room hash Full k = room k
judged C asked n range ops heads counters size room hash HashTaken k = hash k
judged C asked n range ops heads counters size room hash UnknownHead k = tt
judged C asked n range ops heads counters size room hash UnknownElement k = tt
judged C asked n range ops heads counters size room hash PendingFull k = tt
judged C asked n range ops heads counters size room hash OutOfMemory k = tt
judged C asked n range ops heads counters size room hash OtherDocument k = tt
judged C asked n range ops heads counters size room hash NotKept k = tt

something : (C : List ChangeParts) (asked : EditRequest) → AsksSome C asked → AsksNothing C asked → ⊥
something C asked some nothing = let s = some.some in let n = nothing.1 in omega arith

refuses_range : (C : List ChangeParts) (asked : EditRequest) → (AreInRange C asked.splices → ⊥) → RefusesMaking C asked OutOfRange
refuses_range C asked out = (
  λ nothing. out nothing.0,
  record {
    before = judged C asked 0 (λ k. absurd (omega arith)) (λ k. absurd (omega arith)) (λ k. absurd (omega arith)) (λ k. absurd (omega arith)) (λ k. absurd (omega arith)) (λ k. absurd (omega arith)) (λ k. absurd (omega arith));
    fails = out;
  },
)

refuses_ops : (C : List ChangeParts) (asked : EditRequest) → AreInRange C asked.splices → 65536 < total_count asked.splices → RefusesMaking C asked TooManyOps
refuses_ops C asked range over = (
  λ nothing. let n = nothing.1 in omega arith,
  record {
    before = judged C asked 1 (λ k. range) (λ k. absurd (omega arith)) (λ k. absurd (omega arith)) (λ k. absurd (omega arith)) (λ k. absurd (omega arith)) (λ k. absurd (omega arith)) (λ k. absurd (omega arith));
    fails = above_limit (total_count asked.splices) 65536 over;
  },
)

pub refuses_heads : (C : List ChangeParts) (asked : EditRequest) → AsksSome C asked → 65535 < length (head.heads C) → RefusesMaking C asked TooManyHeads
refuses_heads C asked asks over = (
  something C asked asks,
  record {
    before = judged C asked 2 (λ k. asks.range) (λ k. asks.few) (λ k. absurd (omega arith)) (λ k. absurd (omega arith)) (λ k. absurd (omega arith)) (λ k. absurd (omega arith)) (λ k. absurd (omega arith));
    fails = above_limit (length (head.heads C)) 65535 over;
  },
)

pub refuses_counters : (C : List ChangeParts) (asked : EditRequest) → HasFewHeads C asked → 281474976710656 < next_counter C + total_count asked.splices → RefusesMaking C asked CounterLimit
refuses_counters C asked few over = (
  something C asked few.asks,
  record {
    before = judged C asked 3 (λ k. few.asks.range) (λ k. few.asks.few) (λ k. few.heads) (λ k. absurd (omega arith)) (λ k. absurd (omega arith)) (λ k. absurd (omega arith)) (λ k. absurd (omega arith));
    fails = above_limit (next_counter C + total_count asked.splices) 281474976710656 over;
  },
)

too_long : (C : List ChangeParts) (asked : EditRequest) → HasCounters C asked → (PassesEdit C asked TooLong → ⊥) → RefusesMaking C asked TooLong
too_long C asked counted long = (
  something C asked counted.before.asks,
  record {
    before = judged C asked 4 (λ k. counted.before.asks.range) (λ k. counted.before.asks.few) (λ k. counted.before.heads) (λ k. counted.counters) (λ k. absurd (omega arith)) (λ k. absurd (omega arith)) (λ k. absurd (omega arith));
    fails = long;
  },
)

pub refuses_message : (C : List ChangeParts) (asked : EditRequest) → HasCounters C asked → 65535 < length (encode_utf8_all asked.message) → RefusesMaking C asked TooLong
refuses_message C asked counted over = too_long C asked counted (λ passed. above_limit (length (encode_utf8_all asked.message)) 65535 over passed.0)

-- the change of an edit within the limits is within them, whoever names it
sized : (C : List ChangeParts) (asked : EditRequest) (c : ChangeParts) → Sound C → IsWithinSize C asked c → PassesEdit C asked TooLong
sized C asked c s w = (w.size.message, λ d is. subst (λ (x : ChangeParts). length (spelling x) ≤ 4194304) (edit_determined C asked w.size.change.0 d s w.size.change.1 is) w.size.change.2)

-- a graph that has no place for the change refuses the edit
pub refuses_shut : (C : List ChangeParts) (asked : EditRequest) (c : ChangeParts) (e : DocError) → Sound C → IsWithinSize C asked c → IsShut C c e → RefusesMaking C asked e
refuses_shut C asked c Full s w shut =
    let before = w.size.before in (
      something C asked before.before.asks,
      record {
        before = judged C asked 5 (λ k. before.before.asks.range) (λ k. before.before.asks.few) (λ k. before.before.heads) (λ k. before.counters) (λ k. sized C asked c s w) (λ k. absurd (omega arith)) (λ k. absurd (omega arith));
        fails = λ room. let same : length C ≡ most_changes = shut in omega arith;
      },
    )
refuses_shut C asked c HashTaken s w shut =
    let before = w.size.before in (
      something C asked before.before.asks,
      record {
        before = judged C asked 6 (λ k. before.before.asks.range) (λ k. before.before.asks.few) (λ k. before.before.heads) (λ k. before.counters) (λ k. sized C asked c s w) (λ k. shut.0) (λ k. absurd (omega arith));
        fails = λ free. let no : has C (hash_of c) ≡ false = free c w.edit in let yes : has C (hash_of c) ≡ true = shut.1 in cc;
      },
    )
refuses_shut C asked c OutOfRange s w shut = absurd shut
refuses_shut C asked c TooManyOps s w shut = absurd shut
refuses_shut C asked c TooManyHeads s w shut = absurd shut
refuses_shut C asked c CounterLimit s w shut = absurd shut
refuses_shut C asked c TooLong s w shut = absurd shut
refuses_shut C asked c UnknownHead s w shut = absurd shut
refuses_shut C asked c UnknownElement s w shut = absurd shut
refuses_shut C asked c PendingFull s w shut = absurd shut
refuses_shut C asked c OutOfMemory s w shut = absurd shut
refuses_shut C asked c OtherDocument s w shut = absurd shut
refuses_shut C asked c NotKept s w shut = absurd shut

-- refused splices are a refused edit
pub bad_refused : (C : List ChangeParts) (L : List Insert) (R : List (OpId × OpId)) (n : ℕ) (asked : EditRequest) (e : DocError) → DocumentInvariant C L R → n ≡ length (visible_of R L) → IsBad n asked.splices e → RefusesMaking C asked e
bad_refused C L R n asked OutOfRange h len bad =
    refuses_range C asked (λ range. bad (subst (λ k. AllInRange k asked.splices) (sym len)
    (subst (λ (D : List (OpId × OpId)). AllInRange (length (visible_of D L)) asked.splices) (sym h.deletes) (range_of C L asked.splices h.sound h.order range))))
bad_refused C L R n asked TooManyOps h len bad = refuses_ops C asked (in_range_of C L R n asked.splices h len bad.0) bad.1
bad_refused C L R n asked OutOfMemory h len bad = tt
bad_refused C L R n asked TooManyHeads h len bad = absurd bad
bad_refused C L R n asked CounterLimit h len bad = absurd bad
bad_refused C L R n asked TooLong h len bad = absurd bad
bad_refused C L R n asked Full h len bad = absurd bad
bad_refused C L R n asked HashTaken h len bad = absurd bad
bad_refused C L R n asked UnknownHead h len bad = absurd bad
bad_refused C L R n asked UnknownElement h len bad = absurd bad
bad_refused C L R n asked PendingFull h len bad = absurd bad
bad_refused C L R n asked OtherDocument h len bad = absurd bad
bad_refused C L R n asked NotKept h len bad = absurd bad

-- the parts that are made are those of the edit
pub edit_made : (C : List ChangeParts) (L : List Insert) (R : List (OpId × OpId)) (asked : EditRequest) (seq start : ℕ) (H : List Hash) (p : ChangeParts) → DocumentInvariant C L R → seq ≡ count_by asked.actor C + 1 → start ≡ next_counter C → H ≡ head.heads C → p ≡ parts_made asked seq start H (visible_ids R L) → IsEdit C asked p
edit_made C L R asked seq start H p h numbered counted heads is = record {
  actor = ap (λ (c : ChangeParts). c.actor) is;
  seq = ap (λ (c : ChangeParts). c.seq) is ∙ numbered;
  start = ap (λ (c : ChangeParts). c.start) is ∙ counted;
  time = ap (λ (c : ChangeParts). c.time) is;
  message = ap (λ (c : ChangeParts). c.message) is;
  deps = ap (λ (c : ChangeParts). c.deps) is ∙ heads;
  elements = L;
  order = h.order;
  records =
      ap (λ (c : ChangeParts). c.records) is
      ∙ ap (λ n. records_of_edit asked.actor n (visible_ids R L) asked.splices) counted
      ∙ ap (λ D. records_of_edit asked.actor (next_counter C) (visible_ids D L) asked.splices) h.deletes;
}

-- ---- within limits, one after another

pub asks_some : (C : List ChangeParts) (L : List Insert) (R : List (OpId × OpId)) (n k : ℕ) (asked : EditRequest) → DocumentInvariant C L R → n ≡ length (visible_of R L) → AllInRange n asked.splices → total_count asked.splices ≡ k → k ≤ 65536 → (k ≡ 0 → ⊥) → AsksSome C asked
asks_some C L R n k asked h len range count few some = record {
  range = in_range_of C L R n asked.splices h len range;
  some = above (total_count asked.splices) k count some;
  few = subst (λ m. m ≤ 65536) (sym count) few;
} where
  above : (t k : ℕ) → t ≡ k → (k ≡ 0 → ⊥) → 0 < t
  above t zero e some = absurd (some refl)
  above t (suc k) e some = omega arith
