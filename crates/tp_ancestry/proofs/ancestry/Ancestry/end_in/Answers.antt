use Rattle.tp_ancestry.proofs.Common.{◌-◌, ◌∙◌, sym, past_changes}
use Rattle.tp_ancestry.proofs.ClockLaws.{end_of-last, end_of-none, held_within}
use Rattle.tp_history.proofs.ActorChangesLaws.{own_within}
use Rattle.tp_ancestry.proofs.ancestry.Ancestry.end_in.Goals as goal

pub returns-then-held-eq0 : goal.returns-then-held-eq0
returns-then-held-eq0 c = end_of-none (past_changes c.args.past_set.now c.args.self.now.changes) c.args.actor.now (sym (c.count_in-held.ensures.count c.args.actor.now c.changes_by-own.ensures) ∙ c.if-held-eq0.true)

pub get-requires : goal.get-requires
get-requires c =
    (held_within c.args.past_set.now c.args.self.now.changes c.args.actor.now c.changes_by-own.result c.count_in-held.result c.requires.past c.changes_by-own.ensures (c.count_in-held.ensures.count c.args.actor.now c.changes_by-own.ensures) c.if-held-eq0.false).0

pub end_at-requires : goal.end_at-requires
end_at-requires c =
    let w = held_within c.args.past_set.now c.args.self.now.changes c.args.actor.now c.changes_by-own.result c.count_in-held.result c.requires.past c.changes_by-own.ensures (c.count_in-held.ensures.count c.args.actor.now c.changes_by-own.ensures) c.if-held-eq0.false in
    own_within c.args.self.now.changes c.args.actor.now c.changes_by-own.result _ c.get.result c.changes_by-own.ensures w.0 c.get.ensures

pub returns : goal.returns
returns c =
    let w = held_within c.args.past_set.now c.args.self.now.changes c.args.actor.now c.changes_by-own.result c.count_in-held.result c.requires.past c.changes_by-own.ensures (c.count_in-held.ensures.count c.args.actor.now c.changes_by-own.ensures) c.if-held-eq0.false in
    c.end_at.ensures
    ∙ end_of-last c.args.past_set.now c.args.self.now.changes c.args.actor.now c.changes_by-own.result (c.count_in-held.result - 1) c.get.result c.changes-changes.ensures.sound c.requires.past c.changes_by-own.ensures w.1 w.0 c.get.ensures
