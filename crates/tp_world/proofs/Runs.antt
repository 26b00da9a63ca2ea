-- Runs of a world, event by event.
use Rattle.tp_world.proofs.Common.{◌≡◌, ℕ, ◌+◌, ◌<◌, ◌≤◌, List, [], ◌∷◌, ◌++◌, length, take, map, get_or, refl, sym, ap, ◌∙◌, subst, map-append, take_all, take_more, Next, GoesOnWith, MeetsEvent, World, event_of, event_reply_of}
use Rattle.tp_list.proofs.TraceLaws.{trace_push}
use Rattle.tp_headline.specs.Event as event
use Rattle.tp_headline.specs.Reply as reply
use Rattle.tp_event.specs.declared.event.Event.{Event}
use Rattle.tp_event.specs.declared.reply.Reply.{Reply}

-- nothing happened yet
pub goes_none : (w : World) (R : List Reply) → R ≡ [] → GoesOnWith w [] (map event_reply_of R) w
goes_none w R e = record { both = []; first = refl; second = ap (map event_reply_of) (sym e); run = refl }

-- one event more
pub goes_push : (w m w' : World) (E : List Event) (i : ℕ) (d : Event) (R S : List Reply) (r : Reply) → i < length E → S ≡ R ++ r ∷ [] → GoesOnWith w (map event_of (take i E)) (map event_reply_of R) m
    → Next m (event_of (get_or E i d)) (event_reply_of r) w' → GoesOnWith w (map event_of (take (i + 1) E)) (map event_reply_of S) w'
goes_push w m w' E i d R S r lt more goes next =
    let x = get_or E i d in
    let one : event.Event × reply.EventReply = (event_of x, event_reply_of r) in
    let events : map event_of (take (i + 1) E) ≡ map event_of (take i E) ++ event_of x ∷ [] = ap (map event_of) (take_more E i d lt) ∙ map-append event_of (take i E) (x ∷ []) in
    let replies : map event_reply_of S ≡ map event_reply_of R ++ event_reply_of r ∷ [] = ap (map event_reply_of) more ∙ map-append event_reply_of R (r ∷ []) in
    record {
      both = goes.both ++ one ∷ [];
      first = map-append (λ (e : event.Event × reply.EventReply). e.0) goes.both (one ∷ []) ∙ ap (λ (l : List event.Event). l ++ event_of x ∷ []) goes.first ∙ sym events;
      second = map-append (λ (e : event.Event × reply.EventReply). e.1) goes.both (one ∷ []) ∙ ap (λ (l : List reply.EventReply). l ++ event_reply_of r ∷ []) goes.second ∙ sym replies;
      run = trace_push MeetsEvent w goes.both m one w' goes.run next;
    }

-- all events happened
pub goes_whole : (w w' : World) (E F : List Event) (i : ℕ) (R : List Reply) → length E ≤ i → E ≡ F → GoesOnWith w (map event_of (take i E)) (map event_reply_of R) w' → GoesOnWith w (map event_of F) (map event_reply_of R) w'
goes_whole w w' E F i R le same goes = subst (λ (l : List Event). GoesOnWith w (map event_of l) (map event_reply_of R) w') (take_all i E le ∙ same) goes
