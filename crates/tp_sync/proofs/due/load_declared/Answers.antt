use Rattle.tp_sync.proofs.Common.{◌≡◌, ◌∙◌, ℕ, refl, subst, message_changes, MovesOn, List, Bool, length, length-map, map, cond, drop, ap, sym, list_any, ChangeParts, Hash, marks_since, SyncParts, begins_at, IsOutside, IsStretch, Stretch}
use Rattle.std.proofs.Common.{rules}
use Rattle.tp_sync.proofs.LoadLaws.{AreMarks, are_marks, again_by, begins_by, carried_by, left_out_by}
use Rattle.tp_sync.proofs.due.load_declared.Goals as goal

-- the stretch goes on, and begins, as the state has it
goes_on_by : (C : List ChangeParts) (s : SyncParts) (marks : List Bool) (next : ℕ) (st : Stretch) → next ≡ s.next → IsStretch marks next st → st.goes_on ≡ list_any (λ (b : Bool). b) (drop s.next marks)
goes_on_by C s marks next st e is = is.on ∙ ap (λ n. list_any (λ (b : Bool). b) (drop n marks)) e

from_by : (C : List ChangeParts) (s : SyncParts) (marks : List Bool) (next : ℕ) (st : Stretch) → AreMarks C s marks → next ≡ s.next → IsStretch marks next st → st.from ≡ begins_at C s
from_by C s marks next st are e is = begins_by C s marks st.goes_on st.from are (goes_on_by C s marks next st e is) (is.from ∙ ap (λ n. cond st.goes_on n 0) e)

pub returns-clause-changes : goal.returns-clause-changes
returns-clause-changes c =
    let C : List ChangeParts = c.args.graph.now.applied in
    let s : SyncParts = c.args.state.now in
    let marks : List Bool = marks_since C c.args.theirs.now c.as_slice.result.now in
    let are : AreMarks C s marks = are_marks C c.args.theirs.now s marks c.changes-changes.ensures.sound c.requires
    (ap (marks_since C c.args.theirs.now) (c.as_slice.ensures ∙ ap (λ (t : SyncParts). t.wants) c.state.view_is)) in
    let next : c.state.inside.next ≡ s.next = ap (λ (t : SyncParts). t.next) c.state.view_is in
    let st : Stretch = c.find_stretch-stretch.result in
    carried_by C s marks st.from (map (λ c. c.now) c.in_ok-taken.taken.changes.items) are
    (from_by C s marks c.state.inside.next st are next (c.find_stretch-stretch.ensures _ _ c.in-Ok.ensures.outside))
    (c.in_ok-taken.ensures.changes _ _ c.in-Ok.ensures.outside)

pub returns-clause-next : goal.returns-clause-next
returns-clause-next c =
    let C : List ChangeParts = c.args.graph.now.applied in
    let s : SyncParts = c.args.state.now in
    let t = c.in_ok-taken.taken in
    subst (λ (n : ℕ). MovesOn C (message_changes C s) n t.next) (ap (λ (u : SyncParts). u.next) c.state.view_is)
    (subst (λ (l : List ChangeParts). MovesOn C l c.state.inside.next t.next) (returns-clause-changes c) c.in_ok-taken.ensures.next)

pub returns-clause-again : goal.returns-clause-again
returns-clause-again c =
    let C : List ChangeParts = c.args.graph.now.applied in
    let s : SyncParts = c.args.state.now in
    let marks : List Bool = marks_since C c.args.theirs.now c.as_slice.result.now in
    let are : AreMarks C s marks = are_marks C c.args.theirs.now s marks c.changes-changes.ensures.sound c.requires
    (ap (marks_since C c.args.theirs.now) (c.as_slice.ensures ∙ ap (λ (t : SyncParts). t.wants) c.state.view_is)) in
    let next : c.state.inside.next ≡ s.next = ap (λ (t : SyncParts). t.next) c.state.view_is in
    let st : Stretch = c.find_stretch-stretch.result in
    let many : c.len.result ≡ length c.in_ok-taken.taken.changes.items = search rules in
    c.begins_again-again.ensures
    ∙ again_by C s marks st.goes_on c.len.result are (goes_on_by C s marks c.state.inside.next st next (c.find_stretch-stretch.ensures _ _ c.in-Ok.ensures.outside))
    (many ∙ sym (length-map c.in_ok-taken.taken.changes.items (λ c. c.now)) ∙ ap length (returns-clause-changes c))

pub returns-clause-rest : goal.returns-clause-rest
returns-clause-rest c =
    let C : List ChangeParts = c.args.graph.now.applied in
    let s : SyncParts = c.args.state.now in
    let marks : List Bool = marks_since C c.args.theirs.now s.wants in
    let are : AreMarks C s marks = are_marks C c.args.theirs.now s marks c.changes-changes.ensures.sound c.requires refl in
    let next : c.state.inside.next ≡ s.next = ap (λ (t : SyncParts). t.next) c.state.view_is in
    let outside = subst (λ (K : List Hash). IsOutside C c.args.theirs.now K c.in-Ok.due) (c.as_slice.ensures ∙ ap (λ (t : SyncParts). t.wants) c.state.view_is) c.in-Ok.ensures.outside in
    let st : Stretch = c.find_stretch-stretch.result in
    let t = c.in_ok-taken.taken in (
      c.args.theirs.now,
      c.requires,
      outside,
      left_out_by C s marks st.from (length t.changes.items) t.left are
          (from_by C s marks c.state.inside.next st are next (c.find_stretch-stretch.ensures _ _ outside))
          (sym (length-map t.changes.items (λ c. c.now)) ∙ ap length (returns-clause-changes c))
          (c.in_ok-taken.ensures.left _ _ outside),
    )
