use Rattle.tp_ancestry.proofs.Common.{◌≡◌, length, arith, marked_of}
use Rattle.tp_ancestry.proofs.OutsideLaws.{length-marked}
use Rattle.tp_ancestry.proofs.ancestry.Ancestry.next_outside.Goals as goal

pub returns : goal.returns
returns c =
    let long : length (marked_of c.args.outside.now.marked c.args.self.now.changes) ≡ length c.args.self.now.changes = length-marked c.args.outside.now.marked c.args.self.now.changes c.requires in
    let next = c.next_outside_before.ensures in
    record {
      beyond = next.beyond;
      none = next.none;
      at = λ small. next.at (omega (arith, small, long, c.len.ensures.len));
    }
