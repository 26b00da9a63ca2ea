-- What lasts from one moment of a world to a later one, and what each act leaves carried.
use Rattle.tp_headline.proofs.Common.{◌≡◌, ℕ, List, [], ◌++◌, false, refl, sym, ap, ◌∙◌, subst, append_assoc, append-nil, inl, inr, ◌⊎◌, Some, option_map, In, AllIn, In-left, ChangeParts, IsPrefixOf, PeerState, Act, ActStep, HasList, set_list, Event, IsActOf, EventReply, WireEntry, World, HasEntry, HasPeer, lists_of, with_made, with_peer, WorldInvariant, IsCarried, IsMessageOf, LivesApart, ReadRecord, Actor, slice_get, slice_set}
use Rattle.std.proofs.lemmas.Option.{slice_get-map}
use Rattle.tp_headline.specs.Headline.{Nothing}
use Rattle.tp_headline.proofs.ActLaws.{step_coheres}
use Rattle.tp_headline.proofs.PlaceLaws.{map-slice_set, slice_set-still}

-- From w to w' the document is the same, what was made and used is so still, and each entry of the wire stays.
pub record Grows (w w' : World) : Type 0 where
  pub id : w'.id ≡ w.id
  pub made : IsPrefixOf w.made w'.made
  pub used : AllIn w.used w'.used
  pub wire : (n : ℕ) (e : WireEntry) → HasEntry w n e → HasEntry w' n e

-- w goes on as w', which is carried, by the act.
pub record Carries (w : World) (a : Act) (w' : World) : Type 0 where
  pub grows : Grows w w'
  pub step : ActStep (lists_of w) a (lists_of w')
  pub carried : WorldInvariant w'

-- The event, with its reply, is an act by which w goes on as w'.
pub record Acts (w : World) (e : Event) (reply : EventReply) (w' : World) : Type 0 where
  pub act : Act
  pub carries : Carries w act w'
  pub is : IsActOf w e reply act

pub begins_still : (C : List ChangeParts) → IsPrefixOf C C
begins_still C = ([], sym (append-nil C))

begins_on : (C D E : List ChangeParts) → IsPrefixOf C D → IsPrefixOf D E → IsPrefixOf C E
begins_on C D E d e = (d.0 ++ e.0, e.1 ∙ ap (λ l. l ++ e.0) d.1 ∙ append_assoc C d.0 e.0)

pub begins-In : (C D : List ChangeParts) → IsPrefixOf C D → AllIn C D
begins-In C D b c i = subst (λ l. In c l) (sym b.1) (In-left c C b.0 i)

pub grows_still : (w : World) → Grows w w
grows_still w = record { id = refl; made = begins_still w.made; used = λ a i. i; wire = λ n e i. i }

pub grows_on : (w m w' : World) → Grows w m → Grows m w' → Grows w w'
grows_on w m w' first next = record {
  id = next.id ∙ first.id;
  made = begins_on w.made m.made w'.made first.made next.made;
  used = λ a i. next.used a (first.used a i);
  wire = λ n e i. next.wire n e (first.wire n e i);
}

-- nothing changed
pub still : (w w' : World) → WorldInvariant w → w' ≡ w → Carries w Nothing w'
still w w' h is = subst (λ x. Carries w Nothing x) (sym is) (record { grows = grows_still w; step = refl; carried = h })

pub becomes : (w : World) (a : Act) (w' m : World) → w' ≡ m → Carries w a m → Carries w a w'
becomes w a w' m is c = subst (λ x. Carries w a x) (sym is) c

-- an act after nothing, and nothing after an act
pub acts_after : (w m : World) (a : Act) (w' : World) → Carries w Nothing m → Carries m a w' → Carries w a w'
acts_after w m a w' first next = record {
  grows = grows_on w m w' first.grows next.grows;
  step = subst (λ s. ActStep s a (lists_of w')) first.step next.step;
  carried = next.carried;
}

pub acts_before : (w : World) (a : Act) (m w' : World) → Carries w a m → Carries m Nothing w' → Carries w a w'
acts_before w a m w' first next = record {
  grows = grows_on w m w' first.grows next.grows;
  step = subst (λ s. ActStep (lists_of w) a s) (sym next.step) first.step;
  carried = next.carried;
}

-- ---- the lists of a world

-- the list of a peer
pub has_list : (w : World) (n : ℕ) (p : PeerState) → HasPeer w n p → HasList (lists_of w) n p.applied
has_list w n p present = slice_get-map (λ (x : PeerState). x.applied) w.peers n ∙ ap (option_map (λ (x : PeerState). x.applied)) present

-- the lists, once a peer has another one and changes were made
pub lists_are : (w : World) (n : ℕ) (p' : PeerState) (made : List ChangeParts) (C M : List ChangeParts) → p'.applied ≡ C → w.made ++ made ≡ M
    → (let s = set_list (lists_of w) n C in lists_of (with_made (with_peer w n p') made) ≡ record s { made = M })
lists_are w n p' made C M applied all =
    let s = lists_of w in
    ap (λ (l : List (List ChangeParts)). record s { lists = l; made = w.made ++ made }) (map-slice_set (λ (x : PeerState). x.applied) w.peers n p' ∙ ap (λ D. slice_set s.lists n D) applied)
    ∙ ap (λ m. record s { lists = slice_set s.lists n C; made = m }) all

-- a peer that has its list
pub set_still : (w : World) (n : ℕ) (p : PeerState) → HasPeer w n p → set_list (lists_of w) n p.applied ≡ lists_of w
set_still w n p present =
    let s = lists_of w in
    ap (λ (l : List (List ChangeParts)). record s { lists = l }) (slice_set-still s.lists n p.applied (has_list w n p present))

-- ---- what stays carried

-- A peer that stays as it is stays carried, where its actor made nothing new.
pub carried_stays : (w w' : World) (p : PeerState) → Grows w w' → (p.stopped ≡ false → (c : ChangeParts) → In c w'.made → c.actor ≡ p.actor → In c w.made) → IsCarried w p → IsCarried w' p
carried_stays w w' p grows own h = record {
  id = h.id ∙ sym grows.id;
  history = h.history;
  applied = λ c i. begins-In w.made w'.made grows.made c (h.applied c i);
  waiting = λ c i. begins-In w.made w'.made grows.made c (h.waiting c i);
  used = grows.used p.actor h.used;
  calm = h.calm;
  live = λ runs. record { journal = (h.live runs).journal; own = λ c i by. (h.live runs).own c (own runs c i by) by };
  dead = λ stopped.
      let d = h.dead stopped in
      record { more = d.more; few = d.few; were_made = λ c i. begins-In w.made w'.made grows.made c (d.were_made c i); keep = d.keep; recovers = d.recovers };
}

-- a message of changes that were made is one still
pub message_stays : (C D : List ChangeParts) (bytes : List ℕ) → AllIn C D → IsMessageOf C bytes → IsMessageOf D bytes
message_stays C D bytes all h = record { message = h.message; reads = h.reads; carries = λ c i. all c (h.carries c i) }

-- What was made stays, and further peers, actors, entries and reads are there, each as it should be.
pub adds : (w : World) (peers : List PeerState) (used : List Actor) (wire : List WireEntry) (reads : List ReadRecord) (a : Act) → WorldInvariant w → AllIn w.used used
    → ((n : ℕ) (e : WireEntry) → HasEntry w n e → slice_get wire n ≡ Some e)
    → (let w' : World = record w { peers = peers; used = used; wire = wire; reads = reads } in ActStep (lists_of w) a (lists_of w')
    → ((n : ℕ) (p : PeerState) → HasPeer w' n p → HasPeer w n p ⊎ IsCarried w' p) → LivesApart w' → ((e : WireEntry) → In e wire → In e w.wire ⊎ IsMessageOf w.made e.bytes) → Carries w a w')
adds w peers used wire reads a h more entries step carried lives sent =
    let w' : World = record w { peers = peers; used = used; wire = wire; reads = reads } in
    let grows : Grows w w' = record { id = refl; made = begins_still w.made; used = more; wire = entries } in
    record {
      grows = grows;
      step = step;
      carried = record {
        is_id = h.is_id;
        coherent = step_coheres (lists_of w) a (lists_of w') h.coherent step;
        limits = h.limits;
        used = λ c i. more c.actor (h.used c i);
        peers = λ n p i. elim (carried n p i) [ inl old ↦ carried_stays w w' p grows (λ runs c j by. j) (h.peers n p old) | inr fresh ↦ fresh ];
        lives = lives;
        wire = λ e i. elim (sent e i) [ inl old ↦ h.wire e old | inr fresh ↦ fresh ];
      };
    }
