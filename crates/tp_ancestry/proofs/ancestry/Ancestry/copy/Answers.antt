use Rattle.tp_ancestry.proofs.CopyLaws.{ArePasts-same}
use Rattle.tp_history.proofs.ListedLaws.{IsByActor-same}
use Rattle.tp_ancestry.proofs.ancestry.Ancestry.copy.Goals as goal

pub invariant_of-result : goal.invariant_of-result
invariant_of-result c =
    let kept = c.self.invariant in
    let g = c.self.inside in
    let C = g.lists.changes.items in
    let same = c.in_ok-copy.ensures in
    record {
      sound = rw same.changes kept.sound;
      few = rw same.changes kept.few;
      heads_are = rw (same.heads, same.changes) kept.heads_are;
      ends_are = rw (same.changes, same.ends) kept.ends_are;
      pasts = rw same.changes (ArePasts-same C g.lists.pasts _ same.pasts kept.pasts);
      next_is = rw same.changes kept.next_is;
      notes = rw (same.changes, c.in_ok-clone.ensures.cases) kept.notes;
      by_actor = rw same.changes (IsByActor-same C g.by_actor _ c.in_ok-clone-2.ensures.cases kept.by_actor);
      ready = tt;
    }
