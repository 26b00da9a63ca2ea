use Rattle.tp_ancestry.proofs.Common.{◌≡◌, ◌<◌, ◌∙◌, false, refl, inl, inr, ap, length, AncestryState, most_changes, has}
use Rattle.tp_ancestry.proofs.KeptLaws.{room_stays}
use Rattle.tp_ancestry.proofs.ancestry.Ancestry.reserve.Goals as goal

pub invariant_of-self-2 : goal.invariant_of-self-2
invariant_of-self-2 c =
    let kept = c.self.invariant in
    let same = c.grow.ensures.same in
    record {
      sound = rw same.changes kept.sound;
      few = rw same.changes kept.few;
      heads_are = rw (same.heads, same.changes) kept.heads_are;
      ends_are = rw (same.ends, same.changes) kept.ends_are;
      pasts = rw (same.changes, same.prefixes, same.vectors) kept.pasts;
      next_is = rw same.changes kept.next_is;
      notes = rw c.as_slice-2.ensures.value at c.in_ok-note.ensures.noted;
      by_actor = rw c.as_slice.ensures.value at c.catch_up.ensures.by_actor;
      ready = record {
        noted = rw c.as_slice-2.ensures.value at c.in_ok-note.ensures.at;
        listed = rw c.as_slice.ensures.value at c.in_ok-catch_up.ensures.ok;
        lists = c.in_ok-grow.ensures.room;
      };
    }

pub invariant_of-self-in_err-catch_up : goal.invariant_of-self-in_err-catch_up
invariant_of-self-in_err-catch_up c =
    let kept = c.self.invariant in
    let same = c.grow.ensures.same in
    record {
      sound = rw same.changes kept.sound;
      few = rw same.changes kept.few;
      heads_are = rw (same.heads, same.changes) kept.heads_are;
      ends_are = rw (same.ends, same.changes) kept.ends_are;
      pasts = rw (same.changes, same.prefixes, same.vectors) kept.pasts;
      next_is = rw same.changes kept.next_is;
      notes = rw same.changes kept.notes;
      by_actor = rw c.as_slice.ensures.value at c.catch_up.ensures.by_actor;
      ready = room_stays c.self.inside _ c.self.inside.room same c.grow.ensures.stays refl (inl c.in_err-catch_up.ensures.err) kept.ready;
    }

pub invariant_of-self-in_err-note : goal.invariant_of-self-in_err-note
invariant_of-self-in_err-note c =
    let kept = c.self.invariant in
    let same = c.grow.ensures.same in
    record {
      sound = rw same.changes kept.sound;
      few = rw same.changes kept.few;
      heads_are = rw (same.heads, same.changes) kept.heads_are;
      ends_are = rw (same.ends, same.changes) kept.ends_are;
      pasts = rw (same.changes, same.prefixes, same.vectors) kept.pasts;
      next_is = rw same.changes kept.next_is;
      notes = rw (same.changes, c.in_err-note.ensures.err) kept.notes;
      by_actor = rw c.as_slice.ensures.value at c.catch_up.ensures.by_actor;
      ready = room_stays c.self.inside _ c.self.inside.room same c.grow.ensures.stays c.in_err-note.ensures.err (inr (rw (c.as_slice.ensures.value, same.changes) at c.in_ok-catch_up.ensures.ok)) kept.ready;
    }

pub invariant_of-self : goal.invariant_of-self
invariant_of-self c =
    let kept = c.self.invariant in
    let same = c.grow.ensures.same in
    record {
      sound = rw same.changes kept.sound;
      few = rw same.changes kept.few;
      heads_are = rw (same.heads, same.changes) kept.heads_are;
      ends_are = rw (same.ends, same.changes) kept.ends_are;
      pasts = rw (same.changes, same.prefixes, same.vectors) kept.pasts;
      next_is = rw same.changes kept.next_is;
      notes = rw same.changes kept.notes;
      by_actor = rw same.changes kept.by_actor;
      ready = room_stays c.self.inside _ c.self.inside.room same c.grow.ensures.stays refl (inl refl) kept.ready;
    }

pub note-requires : goal.note-requires
note-requires c =
    let g = c.self.inside in
    let C = g.lists.changes.items in
    let kept = c.self.invariant in
    let few : length C < most_changes = rw (ap (λ (s : AncestryState). length s.changes) c.self.view_is) c.requires.few in
    let lacks : has C c.args.hash.now ≡ false = ap (λ (s : AncestryState). has s.changes c.args.hash.now) c.self.view_is ∙ c.requires.lacks in
    let same : c.as_slice-2.result.now ≡ C = c.as_slice-2.ensures.value ∙ c.grow.ensures.same.changes in
    record {
      sound = rw same kept.sound;
      few = rw same few;
      lacks = rw same lacks;
      noted = rw same kept.notes;
    }
