use Rattle.tp_history.proofs.Common.{arith}
use Rattle.tp_history.proofs.MarksLaws.{hashes_once}
use Rattle.tp_history.proofs.NotesLaws.{carried_if, carried_there, carried_unmarked, hashes_stay, AreNotedWith-stays}
use Rattle.tp_history.proofs.index.Index.carry.Goals as goal

pub returns-then-not-is_marked-clause-carried : goal.returns-then-not-is_marked-clause-carried
returns-then-not-is_marked-clause-carried c =
    let few = c.requires.few in
    carried_unmarked c.args.changes.now c.args.last.now c.args.self.now.slots c.args.place c.args.marks.now c.args.larger.now c.args.self.now.hashes (omega arith) c.requires.marks (c.is_marked.ensures c.if-not-is_marked.true)

pub returns-clause-noted : goal.returns-clause-noted
returns-clause-noted c =
    AreNotedWith-stays c.args.changes.now c.args.last.now c.args.self.now c.carry_to.new.self c.carry_to.ensures.slots
    (hashes_stay c.args.changes.now c.args.last.now c.args.self.now.hashes c.carry_to.new.self.hashes c.hash_at.result c.args.place (hashes_once c.args.changes.now c.requires.sound) c.requires.lacks c.hash_at.ensures c.carry_to.ensures.hashes)

pub returns-clause-carried : goal.returns-clause-carried
returns-clause-carried c =
    let few = c.requires.few in
    let stay = hashes_stay c.args.changes.now c.args.last.now c.args.self.now.hashes c.carry_to.new.self.hashes c.hash_at.result c.args.place (hashes_once c.args.changes.now c.requires.sound) c.requires.lacks c.hash_at.ensures c.carry_to.ensures.hashes in
    carried_if c.carry_to.result
    (carried_there c.args.changes.now c.args.last.now c.args.self.now.slots c.args.place c.hash_at.result c.args.larger.now c.carry_to.new.larger c.args.self.now.hashes c.carry_to.new.self.hashes
    (omega arith) c.hash_at.ensures c.carry_to.ensures.still stay) c.carry_to.ensures.there
