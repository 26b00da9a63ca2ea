-- What the lines of a script do to a world.
use Rattle.std.specs.Prelude.{◌≡◌, ℕ, List, [], ◌∷◌, length, map, Option, Some, None, MatchOption}
use Rattle.std.specs.List.{flat_map}
use Rattle.std.specs.Option.{option_map}
use Rattle.std.specs.Str.{chars}
use Rattle.tp_list.specs.Traces.{Trace}
use Rattle.tp_opid.specs.declared.actor.Actor.{Actor}
use Rattle.tp_opid.specs.declared.doc_id.DocId.{DocId}
use Rattle.tp_recovery.specs.Layout.{IsDocId}
use Rattle.tp_peer.specs.PeerStep as peer
use Rattle.tp_headline.specs.Call as call
use Rattle.tp_headline.specs.Call.{EventCall}
use Rattle.tp_headline.specs.Event as event
use Rattle.tp_headline.specs.Event.{Event}
use Rattle.tp_headline.specs.Happening.{Next}
use Rattle.tp_headline.specs.Headline.{Headline}
use Rattle.tp_headline.specs.Reply.{EventReply}
use Rattle.tp_headline.specs.Running.{Run}
use Rattle.tp_headline.specs.World.{World, beginning, lists_of}
use Rattle.tp_simulate.specs.declared.asked.Asked.{Asked}
use Rattle.tp_simulate.specs.declared.asked.Asked.TheVariants as asks
use Rattle.tp_simulate.specs.declared.asked.AskedCall.{AskedCall}
use Rattle.tp_simulate.specs.declared.asked.AskedCall.TheVariants as within
use Rattle.tp_simulate.specs.declared.mark.Mark.{Mark}
use Rattle.tp_simulate.specs.Marks.{latest, marks_named}
use Rattle.tp_simulate.specs.Telling.{line_of_reply}

-- The call that is asked for where these marks are set; none where it names a mark that isn't. Every edit is made at the
-- time 0, with an empty message.
abbrev pub call_with_marks : List Mark → AskedCall → Option EventCall
call_with_marks marks (within.Edit splice) = Some (call.Alone (peer.Edit (splice ∷ []) 0 (chars [])))
call_with_marks marks (within.Merge from) = Some (call.Merge from)
call_with_marks marks (within.Send to) = Some (call.Alone (peer.Generate to))
call_with_marks marks (within.Deliver entry) = Some (call.Deliver entry)
call_with_marks marks (within.Bytes from bytes) = Some (call.Alone (peer.Receive from bytes.items))
call_with_marks marks within.Read = Some (call.Alone peer.Read)
call_with_marks marks (within.ReadAt name) = option_map (λ hashes. call.Alone (peer.ReadAt hashes)) (latest name.now None marks)

-- the event in which the peer numbered n makes the call, or crashes during it and comes back under the actor, its journal
-- keeping a number of bytes of what the call appends
abbrev pub event_with : ℕ → Option (ℕ × Actor) → EventCall → Event
event_with n None c = event.Call n c
event_with n (Some crash) c = event.Crash n (Some c) crash.0 crash.1

-- the event that a line asks for where these marks are set; none where it names a mark that isn't
abbrev pub event_in : List Mark → Asked → Option Event
event_in marks (asks.Start actor) = Some (event.Start actor)
event_in marks (asks.Fork of actor) = Some (event.Fork of actor)
event_in marks (asks.Call n made crash) = option_map (λ c. event_with n crash c) (call_with_marks marks made)
event_in marks (asks.Crash n actor) = Some (event.Crash n None 0 actor)
event_in marks (asks.Fail n kept) = Some (event.Fail n kept)
event_in marks (asks.Mark name n) = Some (event_with n None (call.Alone peer.Read))

-- There is an event, and the world w meets it as its own steps do.
abbrev pub NextIfEvent : World → Option Event → EventReply → World → Type 0
NextIfEvent w e reply w' = MatchOption e ⊥ (λ (x : Event). Next w x reply w')

-- the marks after the reply to a line, where the world is w then
abbrev pub marks_after : List Mark → Asked → EventReply → World → List Mark
marks_after marks (asks.Mark name peer) reply w = marks_named marks name.now reply w
marks_after marks _ reply w = marks

-- A line was carried out in the world w with these marks, and replied to.
pub record Carries (w : World) (marks : List Mark) (asked : Asked) (reply : EventReply) (w' : World) (marks' : List Mark) : Type 0 where
  pub next : NextIfEvent w (event_in marks asked) reply w'
  pub marked : marks' ≡ marks_after marks asked reply w'

-- a line with its reply was carried out, from the world and the marks before to those after
abbrev pub CarriesLine : World × List Mark → Asked × EventReply → World × List Mark → Type 0
CarriesLine s line s' = Carries s.0 s.1 line.0 line.1 s'.0 s'.1

-- The lines were carried out one after another, and these bytes were printed of them.
pub record Plays (w : World) (marks : List Mark) (asked : List Asked) (printed : List ℕ) (w' : World) (marks' : List Mark) : Type 0 where
  pub lines : List (Asked × EventReply)
  pub asks : map (λ (line : Asked × EventReply). line.0) lines ≡ asked
  pub tells : flat_map (λ (line : Asked × EventReply). line_of_reply line.0 line.1) lines ≡ printed
  pub carried : Trace CarriesLine (w, marks) lines (w', marks')

-- The lines were carried out from the beginning of a world that is w then: it is a run of as many events, so the headline
-- holds of it, and these bytes were printed.
pub record PlaysTo (asked : List Asked) (printed : List ℕ) (w : World) : Type 0 where
  pub id : DocId
  pub is_id : IsDocId id
  pub marks : List Mark
  pub plays : Plays (beginning id) [] asked printed w marks
  pub events : List (Event × EventReply)
  pub one_each : length events ≡ length asked
  pub run : Run id events w
  pub headline : Headline (lists_of w)
