-- What becomes of an event.
use Rattle.std.specs.Prelude.{◌≡◌, ◌⊎◌}
use Rattle.tp_event.specs.Common.{OutOfMemory, Event, EventReply, Refused, World}
use Rattle.tp_headline.specs.Happening.{Happens}

-- A growth of the world's own was refused and nothing changed, or the event happened.
abbrev pub EventStep : World → Event → EventReply → World → Type 0
EventStep w e reply w' = ((reply ≡ Refused OutOfMemory) × (w' ≡ w)) ⊎ Happens w e reply w'
