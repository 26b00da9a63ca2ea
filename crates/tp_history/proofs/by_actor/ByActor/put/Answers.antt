use Rattle.tp_history.proofs.Common.{subst, actor_word}
use Rattle.tp_history.proofs.ListedLaws.{IsNoted, is_noted, AreBelow-note, listed-note}
use Rattle.tp_history.proofs.by_actor.ByActor.put.Goals as goal

-- the entries after the note
noted : (c : goal.In_ok-insert) → IsNoted c.args.self.now.firsts.entries c.insert.new.self.entries (actor_word c.args.actor) c.args.place
noted c =
    subst (λ word. IsNoted c.args.self.now.firsts.entries c.insert.new.self.entries word c.args.place) c.word_of.ensures
    (is_noted c.args.self.now.firsts.entries c.insert.new.self.entries c.word_of.result c.args.place (λ w. c.in_ok-insert.ensures.updates.0 w))

pub returns-then-is_new-clause-below : goal.returns-then-is_new-clause-below
returns-then-is_new-clause-below c =
    λ below. AreBelow-note c.args.self.now.firsts.entries c.insert.new.self.entries (actor_word c.args.actor) c.args.place (noted c) below

pub returns-then-is_new-clause-ok : goal.returns-then-is_new-clause-ok
returns-then-is_new-clause-ok c = λ C x a at mine.
    listed-note C x c.args.self.now.firsts.entries c.insert.new.self.entries c.args.self.now.lists.entries c.args.actor a c.args.place
    (c.is_new.ensures.noted c.if-is_new.true) (c.is_new.ensures.more c.if-is_new.true) (noted c) at mine
