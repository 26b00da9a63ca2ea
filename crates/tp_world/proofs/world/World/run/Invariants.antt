use Rattle.tp_world.proofs.Common.{◌≡◌, ◌≤◌, length, take, map, GoesOnWith, event_of, event_reply_of}
use Rattle.std.specs.Vec.{vec_capacity, vec_len}
use Rattle.tp_world.proofs.world.World.run.Given as goal

-- the events so far happened, and there is room for the replies to the others
abbrev pub invariant-loop-event : goal.invariant-loop-event
invariant-loop-event l = record {
  goes : GoesOnWith l.fn.self (map event_of (take l.event-index l.all)) (map event_reply_of l.replies.items) l.self;
  count : vec_len l.replies ≡ l.event-index;
  room : length l.all ≤ vec_capacity l.replies;
}
