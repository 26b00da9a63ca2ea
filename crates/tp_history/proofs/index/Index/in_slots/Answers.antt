use Rattle.tp_history.proofs.Common.{◌≡◌, ℕ, ◌+◌, ◌-◌, ◌<◌, length, get_or, set, Some, true, arith, sym, subst, ◌∙◌, slice_get, place_in, AreInSlots, WINDOW, length-set, and_le_r, slice_get-get_or}
use Rattle.tp_history.proofs.NotesLaws.{marked_more}
use Rattle.tp_history.proofs.index.Index.in_slots.Goals as goal

pub loop-slot-preserved : goal.loop-slot-preserved
loop-slot-preserved c =
    let slots = c.as_slice-slots.result.now in
    let i = c.loop-slot.slot-index in
    let marks = c.loop-slot.marks.items in
    let slot = get_or slots i 0 in
    let at : slice_get slots i ≡ Some slot = slice_get-get_or slots i 0 c.loop-slot-test.true in
    let is : c.place_in.result ≡ place_in (length slots) slot = c.place_in.ensures in
    let within : place_in (length slots) slot < length marks = omega (arith, and_le_r slot (length slots - WINDOW), c.loop-slot.invariant.count) in
    record {
      count = length-set marks c.place_in.result true ∙ c.loop-slot.invariant.count;
      marked = subst (λ (p : ℕ). AreInSlots slots (i + 1) (set marks p true)) (sym is) (marked_more slots i slot marks at within c.loop-slot.invariant.marked);
    }
