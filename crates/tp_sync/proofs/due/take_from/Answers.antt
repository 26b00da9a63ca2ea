use Rattle.tp_sync.proofs.Common.{◌≡◌, ◌∙◌, ◌+◌, ◌≤◌, ℕ, List, ChangeParts, ap, arith, drop, false, is_message_full, length, length-map, map, nat_lt, pick, refl, sym, subst, slice_get, slice_get_read, Some, Hash, marks_since, length-marks_since, Stretch, IsStretch}
use Rattle.std.specs.Borrow.{Bor}
use Rattle.tp_sync.specs.declared.due.Taken.{Taken}
use Rattle.tp_sync.proofs.NextLaws.{begins, over, ended, none_is_left, one_is_left}
use Rattle.tp_sync.proofs.TakeLaws.{TakesOn, TakesOn-laden, TakesOn-on}
use Rattle.tp_sync.proofs.due.take_from.Goals as goal

-- what the message has taken
abbrev now_of : Taken → List ChangeParts
now_of t = map (λ c. c.now) t.changes.items

laden_now : (t : Taken) → is_message_full (length t.changes.items) t.bytes ≡ is_message_full (length (now_of t)) t.bytes
laden_now t = ap (λ n. is_message_full n t.bytes) (sym (length-map t.changes.items (λ c. c.now)))

-- its end is no place after all changes
end_is_there : (C : List ChangeParts) (H K : List Hash) (next : ℕ) (st : Stretch) → IsStretch (marks_since C H K) next st → st.end ≤ length C
end_is_there C H K next st is = let long = length-marks_since C H K in omega (arith, long, is.end)

pub places-init : goal.places-init
places-init c = (
  refl,
  λ H K is.
      let C = c.args.graph.now.applied in
      let marks = marks_since C H K in
      let st = c.args.stretch.now in
      over C marks st.from c.args.next st.end st.from st.first (now_of (record { changes = c.in_ok-with_capacity.field-0; bytes = 0; next = c.args.next; left = false })) 0 c.args.next
      (length-marks_since C H K) (c.requires.stretch H K is).first
      (subst (λ (l : List ChangeParts). TakesOn C marks st.from c.args.next st.from l 0 c.args.next) (sym (ap (map (λ (r : Bor ChangeParts). r.now)) c.in_ok-with_capacity.ensures.items)) (begins C marks st.from c.args.next)),
)

pub returns-then-is_laden-clause-changes : goal.returns-then-is_laden-clause-changes
returns-then-is_laden-clause-changes c = λ H K is.
    let C = c.args.graph.now.applied in
    let t = c.places.taken in
    TakesOn-laden C (marks_since C H K) c.args.stretch.now.from c.args.next c.places.place (now_of t) t.bytes t.next (c.places.invariant.1 H K is).takes
    (sym (c.is_laden.ensures ∙ laden_now t) ∙ c.if-is_laden.true)

pub returns-then-is_laden-clause-next : goal.returns-then-is_laden-clause-next
returns-then-is_laden-clause-next c = (c.places.invariant.1 c.requires.due.0 c.requires.due.1 c.requires.due.2).takes.moved

pub returns-then-is_laden-clause-left : goal.returns-then-is_laden-clause-left
returns-then-is_laden-clause-left c = λ H K is.
    let C = c.args.graph.now.applied in
    let marks = marks_since C H K in
    let st = c.args.stretch.now in
    let t = c.places.taken in
    one_is_left C marks st.from c.args.next st.end c.places.place (now_of t) t.bytes t.next (length-marks_since C H K) (c.requires.stretch H K is).end c.places-test.true (c.places.invariant.1 H K is)
    ∙ ap (λ n. nat_lt n (length (pick (drop st.from marks) (drop st.from C)))) (length-map t.changes.items (λ c. c.now))

pub bounds-applied-place : goal.bounds-applied-place
bounds-applied-place c =
    let C = c.args.graph.now.applied in
    let same : length c.changes-applied.result.now ≡ length C = ap length c.changes-applied.ensures.changes in
    let most = end_is_there C c.requires.due.0 c.requires.due.1 c.args.next c.args.stretch.now (c.requires.stretch c.requires.due.0 c.requires.due.1 c.requires.due.2) in
    omega (arith, same, most, c.places-test.true)

pub offset_bounds-applied-place : goal.offset_bounds-applied-place
offset_bounds-applied-place c = let small = bounds-applied-place c in omega (arith, small, c.changes-applied.ensures.few)

pub places-preserved : goal.places-preserved
places-preserved c = (
  c.take.ensures.left ∙ c.places.invariant.0,
  λ H K is.
      let C = c.args.graph.now.applied in
      let X = c.changes-applied.result.now in
      let marks = marks_since C H K in
      let st = c.args.stretch.now in
      let t = c.places.taken in
      let u = c.take.new.self in
      let x = c.index-applied-place.result in
      let goes = c.places.invariant.1 H K is in
      let long : length marks ≡ length C = length-marks_since C H K in
      let same : length X ≡ length C = ap length c.changes-applied.ensures.changes in
      let most = end_is_there C H K c.args.next st (c.requires.stretch H K is) in
      over C marks st.from c.args.next st.end (c.places.place + 1) c.next_outside_before-place.result (now_of u) u.bytes u.next long (c.next_outside_before-place.ensures H K is)
      (TakesOn-on C marks st.from c.args.next c.places.place (now_of t) (now_of u) t.bytes t.next u.bytes u.next x long
      (subst (λ (l : List ChangeParts). slice_get l c.places.place ≡ Some x) c.changes-applied.ensures.changes (slice_get_read X _ c.places.place x refl (omega (arith, same, most, c.places-test.true)) c.index-applied-place.is))
      (goes.at c.places-test.true) (sym (c.is_laden.ensures ∙ laden_now t) ∙ c.if-is_laden.false)
      c.in_ok-take.ensures.changes c.in_ok-take.ensures.bytes c.in_ok-take.ensures.next goes.takes),
)

pub returns-clause-changes : goal.returns-clause-changes
returns-clause-changes c = λ H K is.
    let C = c.args.graph.now.applied in
    let st = c.args.stretch.now in
    let t = c.places.taken in
    ended C (marks_since C H K) st.from c.args.next st.end c.places.place (now_of t) t.bytes t.next (length-marks_since C H K) (c.requires.stretch H K is).none
    (omega (arith, c.places-test.false)) (c.places.invariant.1 H K is).takes

pub returns-clause-next : goal.returns-clause-next
returns-clause-next c = (c.places.invariant.1 c.requires.due.0 c.requires.due.1 c.requires.due.2).takes.moved

pub returns-clause-left : goal.returns-clause-left
returns-clause-left c = λ H K is.
    let C = c.args.graph.now.applied in
    let marks = marks_since C H K in
    let st = c.args.stretch.now in
    let t = c.places.taken in
    c.places.invariant.0
    ∙ none_is_left C marks st.from c.args.next st.end c.places.place (now_of t) t.bytes t.next (length-marks_since C H K) (c.requires.stretch H K is).none
    (omega (arith, c.places-test.false)) (c.places.invariant.1 H K is).takes
    ∙ ap (λ n. nat_lt n (length (pick (drop st.from marks) (drop st.from C)))) (length-map t.changes.items (λ c. c.now))
