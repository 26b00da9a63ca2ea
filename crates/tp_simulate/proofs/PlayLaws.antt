-- Lines carried out one after another.
use Rattle.std.proofs.Common.{◌≡◌, ℕ, suc, List, [], ◌∷◌, ◌++◌, length, Option, None, Some, refl, sym, ap, ◌∙◌}
use Rattle.std.proofs.lemmas.List.{flat_map_more, length-map, map-append}
use Rattle.tp_list.specs.Traces.{Trace}
use Rattle.tp_list.proofs.TraceLaws.{trace_push}
use Rattle.tp_opid.specs.declared.doc_id.DocId.{DocId}
use Rattle.tp_recovery.specs.Layout.{IsDocId}
use Rattle.tp_headline.specs.Event.{Event}
use Rattle.tp_headline.specs.Happening.{Next}
use Rattle.tp_headline.specs.Reply.{EventReply}
use Rattle.tp_headline.specs.Running.{GoesOn}
use Rattle.tp_headline.specs.World.{World, beginning}
use Rattle.tp_headline.proofs.EventLaws.{beginning_carried, goes_on_acts}
use Rattle.tp_headline.proofs.FollowLaws.{carried_headline}
use Rattle.tp_simulate.specs.declared.asked.Asked.{Asked}
use Rattle.tp_simulate.specs.declared.mark.Mark.{Mark}
use Rattle.tp_simulate.specs.Playing.{Carries, CarriesLine, NextIfEvent, PlaysTo, Plays, event_in}
use Rattle.tp_simulate.specs.Telling.{line_of_reply}

-- one line more
pub plays_push : (asked : List Asked) (w m w' : World) (M N M' : List Mark) (out : List ℕ) (a : Asked) (r : EventReply) → Plays w M asked out m N → Carries m N a r w' M'
    → Plays w M (asked ++ a ∷ []) (out ++ line_of_reply a r) w' M'
plays_push asked w m w' M N M' out a r h carries =
    let line : Asked × EventReply = (a, r) in
    record {
      lines = h.lines ++ line ∷ [];
      asks = map-append (λ (l : Asked × EventReply). l.0) h.lines (line ∷ []) ∙ ap (λ (l : List Asked). l ++ a ∷ []) h.asks;
      tells = sym (flat_map_more (λ (l : Asked × EventReply). line_of_reply l.0 l.1) [] h.lines line) ∙ ap (λ (l : List ℕ). l ++ line_of_reply a r) h.tells;
      carried = trace_push CarriesLine (w, M) h.lines (m, N) line (w', M') h.carried carries;
    }

-- what a line asked for is an event that happened
meets_event : (w w' : World) (o : Option Event) (r : EventReply) → NextIfEvent w o r w' → (e : Event) × Next w e r w'
meets_event w w' None r h = absurd h
meets_event w w' (Some e) r h = (e, h)

-- lines are a run of as many events
lines_run : (lines : List (Asked × EventReply)) (s s' : World × List Mark) → Trace CarriesLine s lines s' → (events : List (Event × EventReply)) × (length events ≡ length lines) × GoesOn s.0 events s'.0
lines_run [] s s' h = ([], refl, ap (λ (x : World × List Mark). x.0) h)
lines_run (line ∷ lines) s s' h =
    let e = meets_event s.0 h.0.0 (event_in s.1 line.0) line.1 h.1.next in
    let rest = lines_run lines h.0 s' h.2 in
    ((e.0, line.1) ∷ rest.0, ap suc rest.1, (h.0.0, e.1, rest.2))

-- so the headline holds of what they led to
pub played_of : (id : DocId) → IsDocId id → (asked : List Asked) (out : List ℕ) (w : World) (M : List Mark) → Plays (beginning id) [] asked out w M → PlaysTo asked out w
played_of id is asked out w M plays =
    let run = lines_run plays.lines (beginning id, []) (w, M) plays.carried in
    record {
      id = id;
      is_id = is;
      marks = M;
      plays = plays;
      events = run.0;
      one_each = run.1 ∙ sym (length-map plays.lines (λ (l : Asked × EventReply). l.0)) ∙ ap length plays.asks;
      run = run.2;
      headline = carried_headline w (goes_on_acts run.0 (beginning id) w (beginning_carried id is) run.2).carried;
    }
