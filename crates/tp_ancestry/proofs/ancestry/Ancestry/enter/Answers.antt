use Rattle.tp_ancestry.proofs.Common.{◌≡◌, ◌<◌, ◌≤◌, ◌+◌, ◌∙◌, ◌++◌, ◌∷◌, [], ap, sym, subst, Some, None, length, arith, length-append, hash_of, next_counter-push, cause, most_changes, IsKnown, AncestryState}
use Rattle.tp_history.proofs.HeadsLaws.{heads-push}
use Rattle.tp_history.proofs.CauseLaws.{Fits-from_cause, room_for_one}
use Rattle.tp_history.proofs.ListedLaws.{IsByActor-push}
use Rattle.tp_ancestry.proofs.KeptLaws.{room_of}
use Rattle.tp_ancestry.proofs.EndLaws.{AreEnds-push}
use Rattle.tp_history.proofs.NotesLaws.{AreNoted-push}
use Rattle.tp_history.proofs.SoundLaws.{Sound-push}
use Rattle.tp_ancestry.proofs.ancestry.Ancestry.enter.Goals as goal

pub push-requires : goal.push-requires
push-requires c =
    let room_is : c.self.inside.room ≡ Some (hash_of c.args.change) = ap (λ (s : AncestryState). s.room) c.self.view_is ∙ c.requires.room in
    (room_of c.self.inside c.self.inside.room (hash_of c.args.change) room_is c.self.invariant.ready).lists

pub invariant_of-self : goal.invariant_of-self
invariant_of-self c =
    let g = c.self.inside in
    let C = g.lists.changes.items in
    let x = c.args.change in
    let kept = c.self.invariant in
    let pushed = c.push.ensures in
    let none : cause C x ≡ None = ap (λ (s : AncestryState). cause s.changes x) c.self.view_is ∙ c.requires.enters in
    let f = Fits-from_cause C x none in
    let room_is : g.room ≡ Some (hash_of x) = ap (λ (s : AncestryState). s.room) c.self.view_is ∙ c.requires.room in
    let room = room_of g g.room (hash_of x) room_is kept.ready in
    let known : IsKnown C x.deps c.args.past = subst (λ (s : AncestryState). IsKnown s.changes x.deps c.args.past) (sym c.self.view_is) c.requires.past in
    let less : length C < most_changes = room_for_one C x none kept.few in
    let more : length (C ++ x ∷ []) ≡ length C + 1 = length-append C (x ∷ []) in
    let few : length (C ++ x ∷ []) ≤ most_changes = omega arith in
    record {
      sound = rw pushed.changes (Sound-push C x kept.sound f);
      few = rw pushed.changes few;
      heads_are = rw (pushed.heads, pushed.changes, kept.heads_are) (sym (heads-push C x kept.sound f));
      ends_are = rw (pushed.ends, pushed.changes) (AreEnds-push C x g.lists.ends.items c.narrow.result kept.ends_are (λ small. c.narrow.ensures small ∙ c.next_start-end.ensures));
      pasts = pushed.pasts kept.sound f kept.pasts known;
      next_is = rw (pushed.changes, c.later-self-inside.ensures, kept.next_is, c.next_start-end.ensures) (sym (next_counter-push C x));
      notes = rw pushed.changes (AreNoted-push C x g.index kept.notes room.noted);
      by_actor = rw pushed.changes (IsByActor-push C x g.by_actor room.listed kept.by_actor);
      ready = tt;
    }
