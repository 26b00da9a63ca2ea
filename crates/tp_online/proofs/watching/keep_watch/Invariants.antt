use Rattle.tp_online.specs.Watching.{Watches, note_of}
use Rattle.tp_online.proofs.watching.keep_watch.Given as goal

-- the seat went on by the turns so far
abbrev pub invariant-loop : goal.invariant-loop
invariant-loop g l = record {
  can : (goal.iterator-loop g).can_next l.iterator';
  finite : (goal.iterator-loop g).is_finite l.iterator';
  watches : Watches (g.R.Folders.saw l.rt) (note_of l.mirrored) l.fn.seat l.own;
}
