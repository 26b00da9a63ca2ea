use Rattle.std.proofs.Common.{refl, sym, inl, inr, ◌∙◌}
use Rattle.tp_window.proofs.NumberLaws.{came, came_before, came_stays, same_kept}
use Rattle.tp_window.proofs.memory.Memory.remember.Goals as goal

pub returns-clause-ok : goal.returns-clause-ok
returns-clause-ok c = came c.make_room.new.self _ c.args.heads _ refl c.in_ok-push.ensures.items c.make_room.ensures.next

pub returns-clause-stay : goal.returns-clause-stay
returns-clause-stay c n H has late = came_stays c.make_room.new.self _ c.args.heads n H refl c.in_ok-push.ensures.items (c.make_room.ensures.stay n H has late)

pub returns-clause-before : goal.returns-clause-before
returns-clause-before c n H has =
    elim (came_before c.make_room.new.self _ c.args.heads n H refl c.in_ok-push.ensures.items has) [
      | inl old ↦ inl (c.make_room.ensures.before n H old)
      | inr new ↦ inr (new.0 ∙ c.make_room.ensures.next, new.1)
    ]

pub returns-in_err-push-clause-stay : goal.returns-in_err-push-clause-stay
returns-in_err-push-clause-stay c n H has late = same_kept c.make_room.new.self _ n H refl c.in_err-push.ensures.items (c.make_room.ensures.stay n H has late)

pub returns-in_err-push-clause-before : goal.returns-in_err-push-clause-before
returns-in_err-push-clause-before c n H has = inl (c.make_room.ensures.before n H (same_kept _ c.make_room.new.self n H refl (sym c.in_err-push.ensures.items) has))
