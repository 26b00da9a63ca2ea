use Rattle.tp_event.proofs.Common.{◌++◌, ◌∷◌, [], List, inl, refl, ap, ◌∙◌, None, Actor, event_reply_of, world_of}
use Rattle.tp_headline.specs.Event as events
use Rattle.tp_event.proofs.Happenings.{between_meets, room_for}
use Rattle.tp_event.proofs.ThereLaws.{there_below}
use Rattle.tp_event.proofs.state.State.crash_between.Goals as goal

pub reopen_at-opened-requires : goal.reopen_at-opened-requires
reopen_at-opened-requires c = there_below (world_of c.args.self.now) (events.Crash c.args.n None c.args.kept c.args.actor) c.args.n c.requires.may (inl refl)

pub push_reserved-requires : goal.push_reserved-requires
push_reserved-requires c = room_for c.reserve.result c.is_err.result _ _ c.is_err.ensures.value c.if-is_err.false c.reserve.ensures.ok

pub returns : goal.returns
returns c =
    between_meets (world_of c.args.self.now) c.args.n c.args.kept c.args.actor c.reopen_at-opened.new.members.items c.push_reserved.new.self.items (event_reply_of c.reopen_at-opened.result) c.requires.carried
    c.reopen_at-opened.ensures (c.push_reserved.ensures.items ∙ ap (λ (l : List Actor). l ++ c.args.actor ∷ []) c.reserve.ensures.items)
