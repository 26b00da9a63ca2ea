-- Steps of a world that is carried.
use Rattle.tp_world.proofs.Common.{inl, inr, List, refl, WorldError, OutOfMemory, WorldInvariant, Event, Next, RefusesHappening, MayHappen, GoesOnWith, World, goes_on_acts, next_acts}
use Rattle.tp_event.specs.Meeting.{EventStep}
use Rattle.tp_headline.specs.Reply.{EventReply}
use Rattle.tp_headline.specs.Reply.{Refused}

-- an event that may happen, and did or was refused memory
pub meets_next : (w : World) (e : Event) (reply : EventReply) (w' : World) → MayHappen w e → EventStep w e reply w' → Next w e reply w'
meets_next w e reply w' may (inl short) = inl (record { why = OutOfMemory; refused = tt; replied = short.0; left = short.1 })
meets_next w e reply w' may (inr happens) = inr (record { may = may; happens = happens })

-- an event that is refused
pub refused_next : (w : World) (e : Event) (why : WorldError) → RefusesHappening w e why → Next w e (Refused why) w
refused_next w e why is = inl (record { why = why; refused = is; replied = refl; left = refl })

pub step_carried : (w : World) (e : Event) (reply : EventReply) (w' : World) → WorldInvariant w → Next w e reply w' → WorldInvariant w'
step_carried w e reply w' h next = (next_acts w e reply w' h next).carries.carried

pub run_carried : (w : World) (events : List Event) (replies : List EventReply) (w' : World) → WorldInvariant w → GoesOnWith w events replies w' → WorldInvariant w'
run_carried w events replies w' h goes = (goes_on_acts goes.both w w' h goes.run).carried
