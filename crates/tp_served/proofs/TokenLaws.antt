-- What a seat's token is after a step.
use Rattle.tp_served.proofs.Common.{◌≡◌, ◌≢◌, ℕ, eqb, eq-eqb, ne_eqb, ◌+◌, arith, List, [], ◌∷◌, Option, Some, None, refl, sym, ap, ◌∙◌, subst, MatchBool, Step, rest, step, TableId, PeerState, Call, PeerStep, Reply, SeatKnowledge, CallTakesTurn, gave, missed_by, took, ViewState, idle_seat, holding_seat, idle, IsSeat, seat_of, StepsAsSeat, AcquiresPeer, Token, give_step, join_views, try_step, TryOutcome, Replied, EndsTurn, EndsVisit, IsOnlyOn, IsTurn, Tries, Visits}
use Rattle.tp_served.specs.Seats.{IsKeptIn}
use mathlib.Core.Option as maybe
use Rattle.tp_peer.proofs.StepLaws.{step_keeps}

-- a step, where what it tells doesn't hang on it
abbrev pub any_step : Step (Option PeerState)
any_step = step 0 0 0 0 maybe.none

-- the first of the views
first_view : List ViewState → ViewState
first_view [] = idle []
first_view (v ∷ vs) = v

-- what the slot taken last has
top : List (ℕ × Option PeerState) → Option PeerState
top [] = None
top (x ∷ xs) = x.1

-- the token of a seat
pub token_is : (v : ViewState) (m : Token) (views : List ViewState) → views ≡ m.0 ∷ [] → views ≡ v ∷ [] → m.1 ≡ [] → m ≡ (v, [])
unfolding first_view
token_is v m views e d none = λ i. (ap first_view (sym e ∙ d) i, none i)

pub tried_miss : (st : Step (Option PeerState)) (m : Token) (r : ℕ) (m' : Token) (t : SeatKnowledge) → try_step st m r m' → r ≢ 0 → m ≡ (idle_seat t, []) → m' ≡ (idle_seat (missed_by 1 t), [])
tried_miss st m r m' t tells other e =
    let now : MatchBool (eqb r 0) (AcquiresPeer t m') (m' ≡ (idle_seat (missed_by 1 t), [])) = tells t e in
    subst (λ b. MatchBool b (AcquiresPeer t m') (m' ≡ (idle_seat (missed_by 1 t), []))) (ne_eqb r 0 other) now

pub tried_take : (st : Step (Option PeerState)) (m : Token) (r : ℕ) (m' : Token) (t : SeatKnowledge) → try_step st m r m' → r ≡ 0 → m ≡ (idle_seat t, []) → AcquiresPeer t m'
tried_take st m r m' t tells zero e =
    let now : MatchBool (eqb r 0) (AcquiresPeer t m') (m' ≡ (idle_seat (missed_by 1 t), [])) = tells t e in
    subst (λ b. MatchBool b (AcquiresPeer t m') (m' ≡ (idle_seat (missed_by 1 t), []))) (eq-eqb r 0 zero) now

-- a seat that took the peer may read and write the slot
pub slot_out : (t : SeatKnowledge) (m : Token) → AcquiresPeer t m → (old : Option PeerState) × (m.1 ≡ (0, old) ∷ rest m.1)
slot_out t m takes =
    let e : m.1 ≡ (0, Some takes.found) ∷ [] = ap (λ (x : Token). x.1) takes.out in
    (Some takes.found, e ∙ ap (λ (l : List (ℕ × Option PeerState)). (0, Some takes.found) ∷ rest l) (sym e))

-- what the slot has is the peer
pub slot_has : (t : SeatKnowledge) (m : Token) (r : Option PeerState) → (takes : AcquiresPeer t m) → m.1 ≡ (0, r) ∷ rest m.1 → r ≡ Some takes.found
unfolding top
slot_has t m r takes e = ap top (sym e ∙ ap (λ (x : Token). x.1) takes.out)

some_or : PeerState → Option PeerState → PeerState
some_or h None = h
some_or h (Some g) = g

pub some_same : (h g : PeerState) → Some h ≡ Some g → h ≡ g
unfolding some_or
some_same h g e = ap (some_or h) e

-- the peer was taken out of the slot
pub turn_is : (t : SeatKnowledge) (m m' : Token) (r : Option PeerState) (h : PeerState) → AcquiresPeer t m → m.1 ≡ (0, r) ∷ rest m.1 → m' ≡ (m.0, (0, None) ∷ rest m.1) → r ≡ Some h → IsTurn t m' h
unfolding some_or
turn_is t m m' r h takes e out some =
    let is : takes.found ≡ h = ap (some_or h) (sym (slot_has t m r takes e) ∙ some) in
    subst (λ x. IsTurn t m' x) is (record { kept = takes.kept; out = out ∙ ap (λ (x : Token). (let y : Token = (x.0, (0, None) ∷ rest x.1) in y)) takes.out })

-- another was put into the slot
pub put_is : (t : SeatKnowledge) (h h' : PeerState) (m m' : Token) → m ≡ (holding_seat h t, (0, None) ∷ []) → m' ≡ (m.0, (0, Some h') ∷ rest m.1) → m' ≡ (holding_seat h t, (0, Some h') ∷ [])
put_is t h h' m m' e put = put ∙ ap (λ (x : Token). (let y : Token = (x.0, (0, Some h') ∷ rest x.1) in y)) e

-- two tokens joined
pub joined_token : (m v w : Token) (t u : SeatKnowledge) → v ≡ (idle_seat u, []) → w ≡ (idle_seat t, []) → m ≡ (join_views v.0 w.0, v.1) → m ≡ (idle (t ∷ u ∷ []), [])
joined_token m v w t u e d is = is ∙ λ i. (join_views (e i).0 (d i).0, (e i).1)

-- a seat again, by its views
pub seat_at : (n : ℕ) (served : TableId) (views : List ViewState) (t : SeatKnowledge) → views ≡ idle_seat t ∷ [] → t.number ≡ n → IsSeat n served views
seat_at n served views t e number = record { alone = e ∙ ap (λ (x : SeatKnowledge). idle_seat x ∷ []) (sym (ap seat_of e)); number = ap (λ (v : List ViewState). (seat_of v).number) e ∙ number }

pub missed_more : (k : ℕ) (t : SeatKnowledge) → missed_by 1 (missed_by k t) ≡ missed_by (k + 1) t
missed_more k t = let e : (t.missed + k) + 1 ≡ t.missed + (k + 1) = omega arith in ap (λ n. record t { missed = n }) e

-- ---- a call on a turn

pub ends_turn : (t : SeatKnowledge) (m : Token) (h h' : PeerState) (call : Call) (reply : Reply) (views : List ViewState) → IsTurn t m h → PeerStep h call reply h'
    → ((u : SeatKnowledge) (g : PeerState) → m ≡ (holding_seat g u, (0, None) ∷ []) → views ≡ idle_seat (gave g h' u) ∷ []) → EndsTurn t call reply views
ends_turn t m h h' call reply views turn step given = record {
  state = gave h h' (took t);
  shows = record { number = refl; taken = refl; step = step; kept = record { seen = turn.kept.seen; link = turn.kept.link }; mine = refl };
  missed = refl;
  alone = given (took t) h turn.out;
}

-- what a call on no link but the seat's does to the peer
serves : (n : ℕ) (p : PeerState) (call : Call) (reply : Reply) (p' : PeerState) → IsOnlyOn n call → PeerStep p call reply p' → StepsAsSeat n p p'
serves n p call reply p' on step = let k = step_keeps p call reply p' step in record { id = k.id; actor = k.actor; new = k.new; applied = k.applied; links = λ m other. k.others m (on m other) }

-- a turn that a peer may end
pub may_give : (m : Token) (h h' : PeerState) (call : Call) (reply : Reply) → (t : SeatKnowledge) × IsTurn t m h × IsOnlyOn t.number call → PeerStep h call reply h' → (u : SeatKnowledge) × (g : PeerState) × (m ≡ (holding_seat g u, (0, None) ∷ [])) × StepsAsSeat u.number g h'
may_give m h h' call reply turn step = (took turn.0, h, turn.1.out, serves turn.0.number h call reply h' turn.2 step)

-- misses before a turn show nothing else
pub shows_missed : (t t' : SeatKnowledge) (k : ℕ) (call : Call) (reply : Reply) → CallTakesTurn (missed_by k t) call reply t' → CallTakesTurn t call reply t'
shows_missed t t' k call reply s = record { number = s.number; taken = s.taken; step = s.step; kept = record { seen = s.kept.seen; link = s.kept.link }; mine = s.mine }

-- a seat is that of its views
pub state_is : (views : List ViewState) (t : SeatKnowledge) → views ≡ idle_seat t ∷ [] → t ≡ seat_of views
state_is views t e = sym (ap seat_of e)

-- what a try shows whose turn ended
pub tries_turn : (t old : SeatKnowledge) (call : Call) (reply : Reply) (answer : TryOutcome) (views : List ViewState) → t ≡ old → answer ≡ Replied reply → EndsTurn t call reply views → Tries old call answer (seat_of views)
tries_turn t old call reply answer views same is ends =
    subst (λ (u : SeatKnowledge). Tries u call answer (seat_of views)) same
    (subst (λ (a : TryOutcome). Tries t call a (seat_of views)) (sym is)
    (subst (λ (u : SeatKnowledge). Tries t call (Replied reply) u) (state_is views ends.state ends.alone) (ends.shows, ends.missed)))

-- what a call shows whose turn ended after some misses
pub shows_turn : (t old : SeatKnowledge) (k : ℕ) (call : Call) (reply : Reply) (views : List ViewState) → t ≡ old → EndsTurn (missed_by k t) call reply views → CallTakesTurn old call reply (seat_of views)
shows_turn t old k call reply views same ends =
    subst (λ (u : SeatKnowledge). CallTakesTurn u call reply (seat_of views)) same
    (subst (λ (u : SeatKnowledge). CallTakesTurn t call reply u) (state_is views ends.state ends.alone) (shows_missed t ends.state k call reply ends.shows))

-- ---- a visit on a turn

pub ends_visit : (t : SeatKnowledge) (m : Token) (h h' : PeerState) (done : PeerState → PeerState → Type 0) (views : List ViewState) → IsTurn t m h → done h h'
    → ((u : SeatKnowledge) (g : PeerState) → m ≡ (holding_seat g u, (0, None) ∷ []) → views ≡ idle_seat (gave g h' u) ∷ []) → EndsVisit t done views
ends_visit t m h h' done views turn did given = record {
  state = gave h h' (took t);
  visits = record { number = refl; taken = refl; visited = did; kept = record { seen = turn.kept.seen; link = turn.kept.link }; mine = refl };
  alone = given (took t) h turn.out;
}

-- misses before it show nothing else
visits_missed : (t t' : SeatKnowledge) (k : ℕ) (done : PeerState → PeerState → Type 0) → Visits (missed_by k t) done t' → Visits t done t'
visits_missed t t' k done s = record { number = s.number; taken = s.taken; visited = s.visited; kept = record { seen = s.kept.seen; link = s.kept.link }; mine = s.mine }

-- what a turn shows in which the peer was out
pub turn_visits : (t u : SeatKnowledge) (k : ℕ) (p p' : PeerState) (done : PeerState → PeerState → Type 0) → u ≡ took (missed_by k t) → IsKeptIn (missed_by k t) p → done p p' → Visits t done (gave p p' u)
turn_visits t u k p p' done is kept did =
    subst (λ (x : SeatKnowledge). Visits t done (gave p p' x)) (sym is)
    (visits_missed t (gave p p' (took (missed_by k t))) k done (record { number = refl; taken = refl; visited = did; kept = record { seen = kept.seen; link = kept.link }; mine = refl }))

-- what a visit shows whose turn ended after some misses
pub visits_turn : (t old : SeatKnowledge) (k : ℕ) (done : PeerState → PeerState → Type 0) (views : List ViewState) → t ≡ old → EndsVisit (missed_by k t) done views → Visits old done (seat_of views)
visits_turn t old k done views same ends =
    subst (λ (u : SeatKnowledge). Visits u done (seat_of views)) same
    (subst (λ (u : SeatKnowledge). Visits t done u) (state_is views ends.state ends.alone) (visits_missed t ends.state k done ends.visits))
