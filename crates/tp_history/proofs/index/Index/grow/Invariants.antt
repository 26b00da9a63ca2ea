use Rattle.tp_history.proofs.Common.{◌≡◌, AreCarried, AreNotedWith}
use Rattle.tp_history.proofs.index.Index.grow.Given as goal

abbrev pub invariant-loop-place : goal.invariant-loop-place
invariant-loop-place l = record {
  slots : l.self.slots ≡ l.fn.self.slots;
  noted : AreNotedWith l.changes l.last l.self;
  carried : AreCarried l.changes l.last l.self.slots l.place l.larger.items l.self.hashes;
}
