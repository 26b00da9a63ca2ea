-- What follows on a world, and what is promised of each moment of a run.
use Rattle.std.specs.Prelude.{ℕ, List, length, take, drop}
use Rattle.tp_headline.specs.Event.{Event}
use Rattle.tp_headline.specs.Happening.{Next}
use Rattle.tp_headline.specs.Headline.{Headline, Lasts}
use Rattle.tp_headline.specs.Refining.{AreActs, IsOneAct}
use Rattle.tp_headline.specs.Reply.{EventReply}
use Rattle.tp_headline.specs.Running.{GoesOn, GoesOnWith}
use Rattle.tp_headline.specs.World.{WireEntry, World, HasEntry, lists_of}

-- What follows on a world w, whatever happens from then on, over crashes and restarts too.
pub record Follows (w : World) : Type 0 where
  pub lasts : Lasts (lists_of w)
  -- what happens are acts, each event one
  pub acts : (events : List (Event × EventReply)) (w' : World) → GoesOn w events w' → AreActs w (length events) w'
  pub each : (events : List (Event × EventReply)) (m : World) (e : Event) (r : EventReply) (w' : World) → GoesOn w events m → Next m e r w' → IsOneAct m e r w'
  -- an entry of the wire stays there under its number, so it may be delivered at any time
  pub wire : (events : List (Event × EventReply)) (w' : World) (n : ℕ) (e : WireEntry) → GoesOn w events w' → HasEntry w n e → HasEntry w' n e

-- The moment of a run from w to w' after its first k events: the world then, which these led to and from which the others
-- lead on; and what is promised of it.
pub record IsMoment (w : World) (events : List Event) (replies : List EventReply) (w' : World) (k : ℕ) : Type 0 where
  pub world : World
  pub before : GoesOnWith w (take k events) (take k replies) world
  pub acts : AreActs w (length (take k events)) world
  pub after : GoesOnWith world (drop k events) (drop k replies) w'
  pub headline : Headline (lists_of world)
  pub follows : Follows world
