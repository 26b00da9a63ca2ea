use Rattle.tp_history.proofs.Common.{◌≡◌, ◌+◌, length, arith, sym, subst, ap, ◌∙◌, with_items_is, Notes, AreCarried}
use Rattle.tp_history.proofs.NotesLaws.{carried_all}
use Rattle.tp_history.proofs.index.Index.grow.Goals as goal

pub loop-place-preserved : goal.loop-place-preserved
loop-place-preserved c =
    let C = c.args.changes.now in
    let last = c.args.last.now in
    let place = c.loop-place.place in
    let count : length c.carry.new.larger ≡ c.loop-place.larger.len = omega (arith, c.carry.auto.larger, c.as_mut_slice-slots.ensures.len) in
    let from : AreCarried C last c.loop-place.self.slots place c.as_mut_slice-slots.result.now c.loop-place.self.hashes
    = subst (λ l. AreCarried C last c.loop-place.self.slots place l c.loop-place.self.hashes) (sym c.as_mut_slice-slots.ensures.value) c.loop-place.invariant.carried in
    record {
      slots = c.carry.ensures.slots ∙ c.loop-place.invariant.slots;
      noted = c.carry.ensures.noted c.loop-place.invariant.noted;
      carried = subst (λ l. AreCarried C last c.carry.new.self.slots (place + 1) l c.carry.new.self.hashes) (sym (with_items_is c.loop-place.larger c.carry.new.larger count))
          (subst (λ l. AreCarried C last l (place + 1) c.carry.new.larger c.carry.new.self.hashes) (sym c.carry.ensures.slots) (c.in_ok-carry.ensures.carried from));
    }

pub returns : goal.returns
returns c = record {
  noted = carried_all c.args.changes.now c.args.last.now c.loop-place.self _ c.loop-place.place (omega arith) (ap (λ (n : Notes). n.hashes) c.self-2.view_is) c.loop-place.invariant.carried c.loop-place.invariant.noted;
}
