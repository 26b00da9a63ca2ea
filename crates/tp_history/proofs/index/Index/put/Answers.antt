use Rattle.tp_history.proofs.Common.{◌≡◌, length, arith, Some, sym, subst, cond, ◌∙◌, ap, with_items_is, Notes, StandStill, note_at}
use Rattle.tp_opid.specs.Same.{same_hash}
use Rattle.tp_opid.specs.Order.{hash_cmp}
use Rattle.tp_history.proofs.NotesLaws.{AreNoted-hash, AreNoted-slot, noted_hash}
use Rattle.tp_history.proofs.index.Index.put.Goals as goal

pub returns-then-take_free-clause-notes : goal.returns-then-take_free-clause-notes
returns-then-take_free-clause-notes c = λ C end lacks w.
    let old : c.as_mut_slice.result.now ≡ c.args.self.now.slots = c.as_mut_slice.ensures.value ∙ ap (λ (n : Notes). n.slots) c.self.view_is in
    let count : length c.take_free.new.slots ≡ c.self.inside.slots.len = omega (arith, c.take_free.auto.slots, c.as_mut_slice.ensures.len) in
    let still : StandStill c.args.self.now.slots c.take_free.new.slots c.args.place = subst (λ l. StandStill l c.take_free.new.slots c.args.place) old c.take_free.ensures.still in
    AreNoted-slot C c.args.self.now _ c.args.place end
    (subst (λ l. StandStill c.args.self.now.slots l c.args.place) (sym (with_items_is c.self.inside.slots c.take_free.new.slots count)) still) (ap (λ (n : Notes). n.hashes) c.self.view_is) w

pub returns-clause-notes : goal.returns-clause-notes
unfolding same_hash hash_cmp
returns-clause-notes c = λ C end lacks w.
    let count : length c.take_free.new.slots ≡ c.self.inside.slots.len = omega (arith, c.take_free.auto.slots, c.as_mut_slice.ensures.len) in
    let same : c.take_free.new.slots ≡ c.args.self.now.slots
    = c.take_free.ensures.full c.if-take_free.false ∙ c.as_mut_slice.ensures.value ∙ ap (λ (n : Notes). n.slots) c.self.view_is in
    AreNoted-hash C c.args.self.now _ c.args.hash.now c.args.place lacks (with_items_is c.self.inside.slots c.take_free.new.slots count ∙ same)
    (λ other. c.in_ok-insert.ensures.updates.0 other ∙ ap (λ (n : Notes). cond (same_hash c.args.hash.now other) (Some c.args.place) (note_at n.hashes other)) c.self.view_is) w

pub returns-clause-at : goal.returns-clause-at
unfolding same_hash hash_cmp
returns-clause-at c =
    noted_hash c.args.self.now _ c.args.hash.now c.args.place
    (λ other. c.in_ok-insert.ensures.updates.0 other ∙ ap (λ (n : Notes). cond (same_hash c.args.hash.now other) (Some c.args.place) (note_at n.hashes other)) c.self.view_is)
