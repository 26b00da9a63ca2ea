-- Many events, one after another.
use Rattle.std.specs.Prelude.{◌≡◌, List, map}
use Rattle.tp_headline.specs.Common.{DocId}
use Rattle.tp_list.specs.Traces.{Trace}
use Rattle.tp_headline.specs.Event.{Event}
use Rattle.tp_headline.specs.Happening.{Next}
use Rattle.tp_headline.specs.Reply.{EventReply}
use Rattle.tp_headline.specs.World.{World, beginning}

-- The world w met the event, gave the reply, and is w' then.
abbrev pub MeetsEvent : World → Event × EventReply → World → Type 0
MeetsEvent w e w' = Next w e.0 e.1 w'

-- The world w met the events one after another, gave to each its reply, and is w' from then on.
abbrev pub GoesOn : World → List (Event × EventReply) → World → Type 0
GoesOn w events w' = Trace MeetsEvent w events w'

-- A whole run: from the beginning.
abbrev pub Run : DocId → List (Event × EventReply) → World → Type 0
Run id events w = GoesOn (beginning id) events w

-- The world w met these events, gave these replies, one to each, and is w' from then on.
pub record GoesOnWith (w : World) (events : List Event) (replies : List EventReply) (w' : World) : Type 0 where
  pub both : List (Event × EventReply)
  pub first : map (λ (e : Event × EventReply). e.0) both ≡ events
  pub second : map (λ (e : Event × EventReply). e.1) both ≡ replies
  pub run : GoesOn w both w'
