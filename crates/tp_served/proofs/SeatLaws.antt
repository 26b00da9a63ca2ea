-- Laws on lists of seats: as they are parted, and as they are joined.
use Rattle.tp_served.proofs.Common.{◌≡◌, ℕ, zero, suc, ◌+◌, ◌-◌, ◌<◌, List, [], ◌∷◌, ◌++◌, length, Option, Some, refl, sym, ap, ◌∙◌, subst, arith, append-nil, TableId, opening, PeerState, SeatState, SeatKnowledge, new_seat, fresh_from, seats_of, states_of, ServedInvariant, idle_seat, idle, first_view_of, others_of, AreOf}
use Rattle.tp_served.proofs.RuleLaws.{opens}

-- ---- parted

more : (n count : ℕ) → n < count → count - n ≡ suc (count - (n + 1))
more n count below = omega arith

pub first_fresh : (p : PeerState) (n count : ℕ) → n < count → first_view_of (idle (fresh_from p n (count - n))) ≡ idle_seat (new_seat p n)
first_fresh p n count below = ap (λ k. first_view_of (idle (fresh_from p n k))) (more n count below)

pub others_fresh : (p : PeerState) (n count : ℕ) → n < count → others_of (idle (fresh_from p n (count - n))) ≡ idle (fresh_from p (n + 1) (count - (n + 1)))
others_fresh p n count below = ap (λ k. others_of (idle (fresh_from p n k))) (more n count below)

fresh_push : (p : PeerState) (m k : ℕ) → fresh_from p m (suc k) ≡ fresh_from p m k ++ new_seat p (m + k) ∷ []
fresh_push p m zero = ap (λ n. new_seat p n ∷ []) (let e : m ≡ m + 0 = omega arith in e)
fresh_push p m (suc k) = ap (λ l. new_seat p m ∷ l) (fresh_push p (m + 1) k ∙ ap (λ n. fresh_from p (m + 1) k ++ new_seat p n ∷ []) (let e : (m + 1) + k ≡ m + suc k = omega arith in e))

map_push : (served : TableId) (ts : List SeatKnowledge) (t : SeatKnowledge) → seats_of served (ts ++ t ∷ []) ≡ seats_of served ts ++ record { served = served; state = t } ∷ []
map_push served [] t = refl
map_push served (u ∷ ts) t = ap (λ l. (let s : SeatState = record { served = served; state = u } in s) ∷ l) (map_push served ts t)

pub seats_push : (served : TableId) (p : PeerState) (n : ℕ) → seats_of served (fresh_from p 0 n) ++ record { served = served; state = new_seat p n } ∷ [] ≡ seats_of served (fresh_from p 0 (n + 1))
seats_push served p n =
    sym (map_push served (fresh_from p 0 n) (new_seat p n))
    ∙ ap (seats_of served) (ap (λ k. fresh_from p 0 n ++ new_seat p k ∷ []) (let e : n ≡ 0 + n = omega arith in e) ∙ (sym (fresh_push p 0 n) ∙ ap (fresh_from p 0) (let e : suc n ≡ n + 1 = omega arith in e)))

pub opens_at : (opened value : PeerState) (count : ℕ) (xs : List (Option PeerState)) → value ≡ opened → xs ≡ Some opened ∷ [] → 0 < count → ServedInvariant value count (opening (0 ∷ []) xs (idle (fresh_from value 0 count)))
opens_at opened value count xs same slots some =
    subst (λ (p : PeerState). ServedInvariant p count (opening (0 ∷ []) xs (idle (fresh_from p 0 count)))) (sym same)
    (subst (λ (l : List (Option PeerState)). ServedInvariant opened count (opening (0 ∷ []) l (idle (fresh_from opened 0 count)))) (sym slots) (opens opened count some))

-- ---- joined

pub states_push : (seats : List SeatState) (s : SeatState) (rest : List SeatKnowledge) → states_of (seats ++ s ∷ []) ++ rest ≡ states_of seats ++ s.state ∷ rest
states_push [] s rest = refl
states_push (u ∷ seats) s rest = ap (λ l. u.state ∷ l) (states_push seats s rest)

pub states_last : (seats : List SeatState) (s : SeatState) → states_of (seats ++ s ∷ []) ≡ states_of seats ++ s.state ∷ []
states_last seats s = sym (append-nil (states_of (seats ++ s ∷ []))) ∙ states_push seats s []

pub AreOf-push : (served : TableId) (seats : List SeatState) (s : SeatState) → AreOf served (seats ++ s ∷ []) → AreOf served seats × (s.served ≡ served)
AreOf-push served [] s all = (tt, all.0)
AreOf-push served (u ∷ seats) s all = let r = AreOf-push served seats s all.1 in ((all.0, r.0), r.1)

-- the last of some seats, and the others
pub last_is : (served : TableId) (all others : List SeatState) (s : SeatState) → all ≡ others ++ s ∷ [] → AreOf served all → AreOf served others × (s.served ≡ served)
last_is served all others s is are = AreOf-push served others s (subst (AreOf served) is are)

pub AreOf-seats : (served : TableId) (ts : List SeatKnowledge) → AreOf served (seats_of served ts)
AreOf-seats served [] = tt
AreOf-seats served (t ∷ ts) = (refl, AreOf-seats served ts)

-- the seats that an opening gives
pub opened_are : (served : TableId) (p : PeerState) (count : ℕ) (seats : List SeatState) → seats ≡ seats_of served (fresh_from p 0 count) → AreOf served seats
opened_are served p count seats is = subst (AreOf served) (sym is) (AreOf-seats served (fresh_from p 0 count))

pub length_states : (seats : List SeatState) → length (states_of seats) ≡ length seats
length_states [] = refl
length_states (s ∷ seats) = let r = length_states seats in omega arith
