-- Each step on the shared state keeps its rule.
use Rattle.tp_served.proofs.Common.{◌≡◌, ◌≢◌, ◌⊎◌, inl, inr, ⊎_elim, ℕ, zero, suc, ◌+◌, ◌<◌, eqb, cond, List, [], ◌∷◌, ◌++◌, length, set, get_or, take, drop, Option, Some, None, refl, sym, ap, ◌∙◌, subst, arith, length-append, append-nil, append_assoc, take-append-drop, MatchBool, Allows, Final, Joins, Seen, Splits, Step, gives, keeps, opening, takes, In, ChangeParts, IsPrefixOf, PeerState, HaveMet, SeatKnowledge, fresh_from, gave, missed_by, took, AllSeatsFit, SeatFits, IsCurrent, IsHome, IsLeft, IsOut, ServedInvariant, SharedState, ViewState, idle_seat, changes_of, entered_by, holding_seat, idle, each_with_number, times, first_seat, StepsAsSeat, AcquiresPeer, Token, first_view_of, give_step, join_views, look_step, others_of, spent_view, try_step, Closes}
use mathlib.Core.Logic.{dite}
use native.Mathlib.Decide.{ℕ_discrete}
use mathlib.Core.Option as maybe
use lib.ListN.{get_elem?}
use lib.Seq.{set-get_or}
use prog.Atomic.{either}
use Rattle.atomic_table.proofs.Lists.{at_last, at_longer, at_set, at_snoc, set_again, set_else, set_here}
use Rattle.tp_list.proofs.Members.{In-append, In-left, In-right}
use Rattle.tp_peer.specs.Links.{known_of}
use Rattle.tp_served.proofs.ListLaws.{begins_more, begins_same, both_begin, changes_more, drop_begin, entered-append, entered_all, entered_none, in_numbered}
use Rattle.tp_served.proofs.ViewLaws.{AllSeatsFit-append, AllSeatsFit-in, AllSeatsFit-map, AllSeatsFit-split, at_below, at_one, fresh_fit, fresh_once, length_fresh, length_parted, times-append, times_in, times_le, times_parted, total-push, total-set, total_le, two_le}
use Rattle.tp_peer.specs.PeerState.{gained_changes}

abbrev Slot : Type 0
Slot = maybe.Option (Option PeerState)

abbrev seats_in : ViewState → ℕ
seats_in v = length v.seats

-- no view both holds a peer and is idle
pub not_idle : {A : Type 0} (h : PeerState) → Some h ≡ None → A
not_idle h e = cc

-- the peer in the slot taken last
abbrev last_held : PeerState → List (ℕ × Option PeerState) → PeerState
last_held h [] = h
last_held h ((k, None) ∷ xs) = h
last_held h ((k, Some g) ∷ xs) = g

-- ---- one seat alone

-- The seat t of the view at `id` gives way to t', and the peer to h.
module _ (opened : PeerState) (count : ℕ) where
  -- another seat has another number
  apart : (s : SharedState) (k : ServedInvariant opened count s) (id j : ℕ) (v u : ViewState) (t x : SeatKnowledge) → get_elem? s.views id ≡ maybe.some v → v.seats ≡ t ∷ []
      → j ≢ id → get_elem? s.views j ≡ maybe.some u → In x u.seats → x.number ≢ t.number
  apart s k id j v u t x at one other there i e =
      let mine : In t v.seats = subst (In t) (sym one) (inl refl) in
      let fit = AllSeatsFit-in count k.entered k.current v.seats t (k.fits id v at) mine in
      let all = k.once t.number fit.number in
      let two = two_le (λ (w : ViewState). times t.number w.seats) s.views id j v u other at there in
      let here = times_in t.number v.seats t mine refl in
      let there' = times_in t.number u.seats x i e in
      absurd (omega arith)

  reset : (s : SharedState) (k : ServedInvariant opened count s) (id : ℕ) (v w : ViewState) (t t' : SeatKnowledge) (h : PeerState) (entered : List (ℕ × ChangeParts)) (words : List ℕ) (homes : List Slot)
      → get_elem? s.views id ≡ maybe.some v → v.seats ≡ t ∷ [] → w.seats ≡ t' ∷ [] → t'.number ≡ t.number
      → IsCurrent opened count entered h
      → IsHome h (record { words = words; homes = homes; views = set s.views id w }) ⊎ IsOut h (record { words = words; homes = homes; views = set s.views id w })
      → SeatFits count entered h t'
      → ((u : SeatKnowledge) → u.number ≢ t.number → SeatFits count k.entered k.current u → SeatFits count entered h u)
      → IsLeft h (set s.views id w)
      → ServedInvariant opened count (record { words = words; homes = homes; views = set s.views id w })
  reset s k id v w t t' h entered words homes at one one' number is place fit others left =
      let same_times : (n : ℕ) → times n w.seats ≡ times n v.seats = λ n. ap (times n) one' ∙ (ap (λ (m : ℕ). cond (eqb m n) 1 0 + 0) number ∙ sym (ap (times n) one)) in
      let same_length : length w.seats ≡ length v.seats = ap length one' ∙ sym (ap length one) in
      record {
        current = h;
        entered = entered;
        is = is;
        place = place;
        fits = λ j u there. ⊎_elim
            (λ (x : (j ≡ id) × (w ≡ u)). subst (λ (y : ViewState). AllSeatsFit count entered h y.seats) x.1 (subst (AllSeatsFit count entered h) (sym one') (fit, tt)))
            (λ (x : (j ≢ id) × (get_elem? s.views j ≡ maybe.some u)). AllSeatsFit-map count k.entered entered k.current h u.seats (λ y i f. others y (apart s k id j v u t y at one x.0 x.1 i) f) (k.fits j u x.1))
            (at_set s.views id j w u there);
        once = λ n below. let a = k.once n below in let b = total-set (λ (y : ViewState). times n y.seats) s.views id v w at in let c = same_times n in omega arith;
        all = let a = k.all in let b = total-set (λ (y : ViewState). length y.seats) s.views id v w at in let c = same_length in omega arith;
        left = left;
      }

  -- a peer is still left by a seat where that notes something else
  left_still : (views : List ViewState) (id : ℕ) (v w : ViewState) (t t' : SeatKnowledge) (h : PeerState) → get_elem? views id ≡ maybe.some v → v.seats ≡ t ∷ [] → w.seats ≡ t' ∷ [] → t'.after ≡ t.after
      → IsLeft h views → IsLeft h (set views id w)
  left_still views id v w t t' h at one one' same l = dite (ℕ_discrete l.view id)
      (λ e. let here : v ≡ l.state = maybe.some-injective v l.state (sym at ∙ (ap (get_elem? views) (sym e) ∙ l.there)) in
      let member : In l.seat (t ∷ []) = subst (In l.seat) (ap (λ (y : ViewState). y.seats) (sym here) ∙ one) l.member in
      let is : l.seat ≡ t = ⊎_elim (λ e. e) absurd member in
      record {
        view = id;
        state = w;
        there = set_here views id w (at_below views id v at);
        seat = t';
        member = subst (In t') (sym one') (inl refl);
        left = l.left ∙ (ap (λ (y : SeatKnowledge). y.after) is ∙ sym same);
      })
      (λ ne. record { view = l.view; state = l.state; there = set_else views id l.view w ne ∙ l.there; seat = l.seat; member = l.member; left = l.left })

  -- what a seat notes of tries changes nothing else
  fits_noting : (C : List (ℕ × ChangeParts)) (h : PeerState) (t t' : SeatKnowledge) → t'.number ≡ t.number → t'.after ≡ t.after → t'.mine ≡ t.mine → SeatFits count C h t → SeatFits count C h t'
  fits_noting C h t t' number after mine f = record {
    number = subst (λ n. n < count) (sym number) f.number;
    kept = record {
      seen = subst (λ (p : PeerState). IsPrefixOf p.applied h.applied) (sym after) f.kept.seen;
      link = ap (known_of h.links) number ∙ (f.kept.link ∙ λ i. known_of (sym after i).links (sym number i));
    };
    mine = ap (λ n. entered_by n C) number ∙ (f.mine ∙ sym mine);
  }

  -- the one who holds the peer is none that is idle
  holder_apart : (s : SharedState) (h : PeerState) (out : IsOut h s) (j : ℕ) (v : ViewState) → get_elem? s.views j ≡ maybe.some v → v.holding ≡ None → out.holder ≢ j
  holder_apart s h out j v at none e =
      let here : holding_seat h out.seat ≡ v = maybe.some-injective (holding_seat h out.seat) v (sym out.held ∙ (ap (get_elem? s.views) e ∙ at)) in
      not_idle h (ap (λ (y : ViewState). y.holding) here ∙ none)

  -- ---- take and miss

  takes_home : (s : SharedState) (k : ServedInvariant opened count s) (id : ℕ) (t : SeatKnowledge) → get_elem? s.views id ≡ maybe.some (idle_seat t) → IsHome k.current s
      → ServedInvariant opened count (record { words = set s.words 0 (either (eqb (get_or s.words 0 0) 0) 1 (get_or s.words 0 0)); homes = set s.homes 0 maybe.none; views = set s.views id (holding_seat k.current (took t)) })
  takes_home s k id t at home =
      reset s k id (idle_seat t) (holding_seat k.current (took t)) t (took t) k.current k.entered (set s.words 0 (either (eqb (get_or s.words 0 0) 0) 1 (get_or s.words 0 0))) (set s.homes 0 maybe.none)
      at refl refl refl k.is
      (inr (record {
        word = ap (λ (ws : List ℕ). set ws 0 (either (eqb (get_or ws 0 0) 0) 1 (get_or ws 0 0))) home.word;
        slot = ap (λ (hs : List Slot). set hs 0 maybe.none) home.slot;
        holder = id;
        seat = took t;
        held = set_here s.views id (holding_seat k.current (took t)) (at_below s.views id (idle_seat t) at);
        idle = λ j v there other. ⊎_elim (λ (x : (j ≡ id) × (holding_seat k.current (took t) ≡ v)). absurd (other x.0)) (λ (x : (j ≢ id) × (get_elem? s.views j ≡ maybe.some v)). home.idle j v x.1)
            (at_set s.views id j (holding_seat k.current (took t)) v there);
      }))
      (fits_noting k.entered k.current t (took t) refl refl refl (AllSeatsFit-in count k.entered k.current (t ∷ []) t (k.fits id (idle_seat t) at) (inl refl)))
      (λ u other f. f)
      (left_still s.views id (idle_seat t) (holding_seat k.current (took t)) t (took t) k.current at refl refl refl k.left)

  misses_out : (s : SharedState) (k : ServedInvariant opened count s) (id : ℕ) (t : SeatKnowledge) → get_elem? s.views id ≡ maybe.some (idle_seat t) → IsOut k.current s
      → ServedInvariant opened count (record { words = set s.words 0 (either (eqb (get_or s.words 0 0) 0) 1 (get_or s.words 0 0)); homes = s.homes; views = set s.views id (idle_seat (missed_by 1 t)) })
  misses_out s k id t at out =
      reset s k id (idle_seat t) (idle_seat (missed_by 1 t)) t (missed_by 1 t) k.current k.entered (set s.words 0 (either (eqb (get_or s.words 0 0) 0) 1 (get_or s.words 0 0))) s.homes
      at refl refl refl k.is
      (inr (record {
        word = ap (λ (ws : List ℕ). set ws 0 (either (eqb (get_or ws 0 0) 0) 1 (get_or ws 0 0))) out.word;
        slot = out.slot;
        holder = out.holder;
        seat = out.seat;
        held = set_else s.views id out.holder (idle_seat (missed_by 1 t)) (holder_apart s k.current out id (idle_seat t) at refl) ∙ out.held;
        idle = λ j v there other. ⊎_elim (λ (x : (j ≡ id) × (idle_seat (missed_by 1 t) ≡ v)). sym (ap (λ (y : ViewState). y.holding) x.1)) (λ (x : (j ≢ id) × (get_elem? s.views j ≡ maybe.some v)). out.idle j v x.1 other)
            (at_set s.views id j (idle_seat (missed_by 1 t)) v there);
      }))
      (fits_noting k.entered k.current t (missed_by 1 t) refl refl refl (AllSeatsFit-in count k.entered k.current (t ∷ []) t (k.fits id (idle_seat t) at) (inl refl)))
      (λ u other f. f)
      (left_still s.views id (idle_seat t) (idle_seat (missed_by 1 t)) t (missed_by 1 t) k.current at refl refl refl k.left)

  same_seat : (t u : SeatKnowledge) (xs ys : List (ℕ × Option PeerState)) → (let m : Token = (idle_seat t, xs) in m) ≡ (idle_seat u, ys) → t ≡ u
  same_seat t u xs ys e = ap (λ (m : Token). first_seat m.0.seats) e

  pub tries : (slots id : ℕ) (st : Step (Option PeerState)) (m : Token) (t : SeatKnowledge) → m ≡ (idle_seat t, []) → Allows (ServedInvariant opened count) slots id m 0 (λ n. either (eqb n 0) 1 n) (try_step st m)
  tries slots id st m t e = subst (λ (x : Token). Allows (ServedInvariant opened count) slots id x 0 (λ n. either (eqb n 0) 1 n) (try_step st x)) (sym e) (λ s k _ at _.
      ⊎_elim
      (λ (home : IsHome k.current s). (
        holding_seat k.current (took t),
        takes 0 (Some k.current),
        ap (λ (hs : List Slot). get_elem? hs 0) home.slot,
        takes_home s k id t at home,
        λ u same. subst (λ (x : SeatKnowledge). MatchBool (eqb (get_or s.words 0 0) 0) (AcquiresPeer x (holding_seat k.current (took t), (0, Some k.current) ∷ [])) ((let m' : Token = (holding_seat k.current (took t), (0, Some k.current) ∷ []) in m') ≡ (idle_seat (missed_by 1 x), [])))
            (same_seat t u [] [] same)
            (subst (λ (n : ℕ). MatchBool (eqb n 0) (AcquiresPeer t (holding_seat k.current (took t), (0, Some k.current) ∷ [])) ((let m' : Token = (holding_seat k.current (took t), (0, Some k.current) ∷ []) in m') ≡ (idle_seat (missed_by 1 t), [])))
            (sym (ap (λ (ws : List ℕ). get_or ws 0 0) home.word))
            (record { found = k.current; kept = (AllSeatsFit-in count k.entered k.current (t ∷ []) t (k.fits id (idle_seat t) at) (inl refl)).kept; out = refl })),
      ))
      (λ (out : IsOut k.current s). (
        idle_seat (missed_by 1 t),
        keeps,
        tt,
        misses_out s k id t at out,
        λ u same. subst (λ (x : SeatKnowledge). MatchBool (eqb (get_or s.words 0 0) 0) (AcquiresPeer x (idle_seat (missed_by 1 t), [])) ((let m' : Token = (idle_seat (missed_by 1 t), []) in m') ≡ (idle_seat (missed_by 1 x), [])))
            (same_seat t u [] [] same)
            (subst (λ (n : ℕ). MatchBool (eqb n 0) (AcquiresPeer t (idle_seat (missed_by 1 t), [])) ((let m' : Token = (idle_seat (missed_by 1 t), []) in m') ≡ (idle_seat (missed_by 1 t), [])))
            (sym (ap (λ (ws : List ℕ). get_or ws 0 0) out.word)) refl),
      ))
      k.place)

  -- ---- give back

  serves_current : (C : List (ℕ × ChangeParts)) (n : ℕ) (h h' : PeerState) → n < count → IsCurrent opened count C h → (sv : StepsAsSeat n h h') → IsCurrent opened count (C ++ each_with_number n sv.new) h'
  serves_current C n h h' below is sv = record {
    id = sv.id ∙ is.id;
    actor = sv.actor ∙ is.actor;
    applied = sv.applied ∙ (ap (λ l. l ++ sv.new) is.applied ∙ (append_assoc opened.applied (changes_of C) sv.new ∙ ap (λ l. opened.applied ++ l) (sym (changes_more C n sv.new))));
    seats = λ x i. ⊎_elim (is.seats x) (λ j. subst (λ m. m < count) (sym (in_numbered x n sv.new j)) below) (In-append x C (each_with_number n sv.new) i);
  }

  serves_other : (C : List (ℕ × ChangeParts)) (n : ℕ) (h h' : PeerState) (u : SeatKnowledge) → (sv : StepsAsSeat n h h') → u.number ≢ n → SeatFits count C h u → SeatFits count (C ++ each_with_number n sv.new) h' u
  serves_other C n h h' u sv other f = record {
    number = f.number;
    kept = record { seen = subst (IsPrefixOf u.after.applied) (sym sv.applied) (begins_more u.after.applied h.applied sv.new f.kept.seen); link = sv.links u.number other ∙ f.kept.link };
    mine = entered-append u.number C (each_with_number n sv.new) ∙ (ap (λ l. entered_by u.number C ++ l) (entered_none u.number n sv.new (λ e. other (sym e))) ∙ (append-nil (entered_by u.number C) ∙ f.mine));
  }

  serves_own : (C : List (ℕ × ChangeParts)) (h h' : PeerState) (t : SeatKnowledge) → (sv : StepsAsSeat t.number h h') → SeatFits count C h t → SeatFits count (C ++ each_with_number t.number sv.new) h' (gave h h' t)
  serves_own C h h' t sv f =
      let past_is : gained_changes h h' ≡ sv.new = ap (drop (length h.applied)) sv.applied ∙ drop_begin h.applied sv.new in record {
        number = f.number;
        kept = record { seen = begins_same h'.applied; link = refl };
        mine = entered-append t.number C (each_with_number t.number sv.new) ∙ λ i. f.mine i ++ (entered_all t.number sv.new ∙ sym past_is) i;
      }

  gives_home : (s : SharedState) (k : ServedInvariant opened count s) (id : ℕ) (t : SeatKnowledge) (h h' : PeerState) → get_elem? s.views id ≡ maybe.some (holding_seat h t) → h ≡ k.current → (out : IsOut k.current s) → id ≡ out.holder
      → StepsAsSeat t.number h h' → ServedInvariant opened count (record { words = set s.words 0 0; homes = set s.homes 0 (maybe.some (Some h')); views = set s.views id (idle_seat (gave h h' t)) })
  gives_home s k id t h h' at current out e sv =
      let is : IsCurrent opened count k.entered h = subst (IsCurrent opened count k.entered) (sym current) k.is in
      let all : AllSeatsFit count k.entered h (t ∷ []) = subst (λ x. AllSeatsFit count k.entered x (t ∷ [])) (sym current) (k.fits id (holding_seat h t) at) in
      reset s k id (holding_seat h t) (idle_seat (gave h h' t)) t (gave h h' t) h' (k.entered ++ each_with_number t.number sv.new) (set s.words 0 0) (set s.homes 0 (maybe.some (Some h')))
      at refl refl refl (serves_current k.entered t.number h h' all.0.number is sv)
      (inl (record {
        word = ap (λ (ws : List ℕ). set ws 0 0) out.word;
        slot = ap (λ (hs : List Slot). set hs 0 (maybe.some (Some h'))) out.slot;
        idle = λ j v there. ⊎_elim (λ (x : (j ≡ id) × (idle_seat (gave h h' t) ≡ v)). sym (ap (λ (y : ViewState). y.holding) x.1))
            (λ (x : (j ≢ id) × (get_elem? s.views j ≡ maybe.some v)). out.idle j v x.1 (λ f. x.0 (f ∙ sym e))) (at_set s.views id j (idle_seat (gave h h' t)) v there);
      }))
      (serves_own k.entered h h' t sv all.0)
      (λ u other f. serves_other k.entered t.number h h' u sv other (subst (λ x. SeatFits count k.entered x u) (sym current) f))
      (record { view = id; state = idle_seat (gave h h' t); there = set_here s.views id (idle_seat (gave h h' t)) (at_below s.views id (holding_seat h t) at); seat = gave h h' t; member = inl refl; left = refl })

  abbrev held_or : PeerState → Option PeerState → PeerState
  held_or h None = h
  held_or h (Some g) = g

  pub gives_back : (slots id n : ℕ) (st : Step (Option PeerState)) (m : Token) (t : SeatKnowledge) (h h' : PeerState) → m ≡ (holding_seat h t, (0, Some h') ∷ []) → StepsAsSeat t.number h h'
      → Allows (ServedInvariant opened count) slots id m 0 (λ _. 0) (λ _. give_step st m n)
  gives_back slots id n st m t h h' e sv = subst (λ (x : Token). Allows (ServedInvariant opened count) slots id x 0 (λ _. 0) (λ _. give_step st x n)) (sym e) (λ s k _ at _.
      ⊎_elim
      (λ (home : IsHome k.current s). not_idle h (home.idle id (holding_seat h t) at))
      (λ (out : IsOut k.current s). dite (ℕ_discrete id out.holder)
      (λ same.
      let here : holding_seat h t ≡ holding_seat k.current out.seat = maybe.some-injective (holding_seat h t) (holding_seat k.current out.seat) (sym at ∙ (ap (get_elem? s.views) same ∙ out.held)) in (
        idle_seat (gave h h' t),
        gives,
        tt,
        gives_home s k id t h h' at (ap (λ (y : ViewState). held_or h y.holding) here) out same sv,
        λ u g g' eq.
            let seat : t ≡ u = ap (λ (x : Token). first_seat x.0.seats) eq in
            let found : h ≡ g = ap (λ (x : Token). held_or h x.0.holding) eq in
            let left : h' ≡ g' = ap (λ (x : Token). last_held h x.1) eq in
            λ i. (idle_seat (gave (found i) (left i) (seat i)), []),
      ))
      (λ other. not_idle h (out.idle id (holding_seat h t) at other)))
      k.place)

  -- ---- look

  still : (s : SharedState) (id : ℕ) (v : ViewState) → get_elem? s.views id ≡ maybe.some v → ServedInvariant opened count s → ServedInvariant opened count (record { words = set s.words 0 (get_or s.words 0 0); homes = s.homes; views = set s.views id v })
  still s id v at k = subst (ServedInvariant opened count) (λ i. record { words = sym (set-get_or s.words 0 0) i; homes = s.homes; views = sym (set_again s.views id v at) i }) k

  pub looks : (slots id : ℕ) (st : Step (Option PeerState)) (m : Token) (t u : SeatKnowledge) → m ≡ (idle (t ∷ u ∷ []), []) → Allows (ServedInvariant opened count) slots id m 0 (λ n. n) (look_step st m)
  looks slots id st m t u e = subst (λ (x : Token). Allows (ServedInvariant opened count) slots id x 0 (λ n. n) (look_step st x)) (sym e) (λ s k _ at _.
      let all = k.fits id (idle (t ∷ u ∷ [])) at in
      let met : HaveMet t u = both_begin t.after.applied u.after.applied k.current.applied all.0.kept.seen all.1.0.kept.seen in (
        idle (t ∷ u ∷ []),
        keeps,
        tt,
        still s id (idle (t ∷ u ∷ [])) at k,
        λ x y same.
            let one : t ≡ x = ap (λ (z : Token). first_seat z.0.seats) same in
            let two : u ≡ y = ap (λ (z : Token). first_seat (drop 1 z.0.seats)) same in
            (refl, subst (λ (z : SeatKnowledge). HaveMet z y) one (subst (λ (z : SeatKnowledge). HaveMet t z) two met)),
      ))

  -- ---- join

  pub joins : (id other : ℕ) (ts us : List SeatKnowledge) → Joins (ServedInvariant opened count) id (idle ts) other (idle us) (idle (us ++ ts)) spent_view
  joins id other ts us s k at apart' there =
      let B : ViewState = idle (us ++ ts) in
      let V : List ViewState = set s.views id B in
      let theirs : get_elem? s.views other ≡ maybe.some (idle us) = sym (set_else s.views id other B apart') ∙ there in
      let sides : (j : ℕ) (v : ViewState) → get_elem? (set V other spent_view) j ≡ maybe.some v → (spent_view ≡ v) ⊎ ((B ≡ v) ⊎ (get_elem? s.views j ≡ maybe.some v)) = λ j v at'.
      ⊎_elim (λ (x : (j ≡ other) × (spent_view ≡ v)). inl x.1)
      (λ (x : (j ≢ other) × (get_elem? V j ≡ maybe.some v)). ⊎_elim (λ (y : (j ≡ id) × (B ≡ v)). inr (inl y.1)) (λ (y : (j ≢ id) × (get_elem? s.views j ≡ maybe.some v)). inr (inr y.1)) (at_set s.views id j B v x.1))
      (at_set V other j spent_view v at') in
      record {
        current = k.current;
        entered = k.entered;
        is = k.is;
        place = ⊎_elim
            (λ (home : IsHome k.current s). inl (record {
              word = home.word;
              slot = home.slot;
              idle = λ j v at'. ⊎_elim (λ (x : spent_view ≡ v). sym (ap (λ (y : ViewState). y.holding) x)) (⊎_elim (λ (x : B ≡ v). sym (ap (λ (y : ViewState). y.holding) x)) (λ x. home.idle j v x)) (sides j v at');
            }))
            (λ (out : IsOut k.current s). inr (record {
              word = out.word;
              slot = out.slot;
              holder = out.holder;
              seat = out.seat;
              held = set_else V other out.holder spent_view (holder_apart s k.current out other (idle us) theirs refl) ∙ (set_else s.views id out.holder B (holder_apart s k.current out id (idle ts) at refl) ∙ out.held);
              idle = λ j v at' ne. ⊎_elim (λ (x : spent_view ≡ v). sym (ap (λ (y : ViewState). y.holding) x)) (⊎_elim (λ (x : B ≡ v). sym (ap (λ (y : ViewState). y.holding) x)) (λ x. out.idle j v x ne)) (sides j v at');
            }))
            k.place;
        fits = λ j v at'. ⊎_elim (λ (x : spent_view ≡ v). subst (λ (y : ViewState). AllSeatsFit count k.entered k.current y.seats) x tt)
            (⊎_elim (λ (x : B ≡ v). subst (λ (y : ViewState). AllSeatsFit count k.entered k.current y.seats) x (AllSeatsFit-append count k.entered k.current us ts (k.fits other (idle us) theirs) (k.fits id (idle ts) at))) (λ x. k.fits j v x))
            (sides j v at');
        once = λ n below. let a = k.once n below in let f : ViewState → ℕ = λ y. times n y.seats in
            let b = total-set f s.views id (idle ts) B at in let c = total-set f V other (idle us) spent_view there in let d = times-append n us ts in omega arith;
        all = let a = k.all in let b = total-set seats_in s.views id (idle ts) B at in let c = total-set seats_in V other (idle us) spent_view there in let d = length-append us ts in omega arith;
        left = let l = k.left in dite (ℕ_discrete l.view id)
            (λ e. let here : idle ts ≡ l.state = maybe.some-injective (idle ts) l.state (sym at ∙ (ap (get_elem? s.views) (sym e) ∙ l.there)) in record {
              view = id;
              state = B;
              there = set_else V other id spent_view (λ f. apart' (sym f)) ∙ set_here s.views id B (at_below s.views id (idle ts) at);
              seat = l.seat;
              member = In-right l.seat us ts (subst (λ (y : ViewState). In l.seat y.seats) (sym here) l.member);
              left = l.left;
            })
            (λ ne. dite (ℕ_discrete l.view other)
            (λ e. let here : idle us ≡ l.state = maybe.some-injective (idle us) l.state (sym theirs ∙ (ap (get_elem? s.views) (sym e) ∙ l.there)) in record {
              view = id;
              state = B;
              there = set_else V other id spent_view (λ f. apart' (sym f)) ∙ set_here s.views id B (at_below s.views id (idle ts) at);
              seat = l.seat;
              member = In-left l.seat us ts (subst (λ (y : ViewState). In l.seat y.seats) (sym here) l.member);
              left = l.left;
            })
            (λ ne'. record { view = l.view; state = l.state; there = set_else V other l.view spent_view ne' ∙ (set_else s.views id l.view B ne ∙ l.there); seat = l.seat; member = l.member; left = l.left }));
      }

  -- ---- split

  pub splits : (id : ℕ) (ts : List SeatKnowledge) → Splits (ServedInvariant opened count) id (idle ts) (idle (take 1 ts)) (idle (drop 1 ts))
  splits id ts s k at =
      let L : ViewState = idle (take 1 ts) in
      let R : ViewState = idle (drop 1 ts) in
      let V : List ViewState = set s.views id L in
      let sides : (j : ℕ) (v : ViewState) → get_elem? (V ++ R ∷ []) j ≡ maybe.some v → (R ≡ v) ⊎ ((L ≡ v) ⊎ (get_elem? s.views j ≡ maybe.some v)) = λ j v at'.
      ⊎_elim (λ (x : get_elem? V j ≡ maybe.some v). ⊎_elim (λ (y : (j ≡ id) × (L ≡ v)). inr (inl y.1)) (λ (y : (j ≢ id) × (get_elem? s.views j ≡ maybe.some v)). inr (inr y.1)) (at_set s.views id j L v x)) (λ (x : R ≡ v). inl x)
      (at_snoc V R v j at') in
      let parts : AllSeatsFit count k.entered k.current (take 1 ts ++ drop 1 ts) = subst (AllSeatsFit count k.entered k.current) (sym (take-append-drop 1 ts)) (k.fits id (idle ts) at) in
      let both = AllSeatsFit-split count k.entered k.current (take 1 ts) (drop 1 ts) parts in
      record {
        current = k.current;
        entered = k.entered;
        is = k.is;
        place = ⊎_elim
            (λ (home : IsHome k.current s). inl (record {
              word = home.word;
              slot = home.slot;
              idle = λ j v at'. ⊎_elim (λ (x : R ≡ v). sym (ap (λ (y : ViewState). y.holding) x)) (⊎_elim (λ (x : L ≡ v). sym (ap (λ (y : ViewState). y.holding) x)) (λ x. home.idle j v x)) (sides j v at');
            }))
            (λ (out : IsOut k.current s). inr (record {
              word = out.word;
              slot = out.slot;
              holder = out.holder;
              seat = out.seat;
              held = at_longer V (R ∷ []) out.holder (holding_seat k.current out.seat) (set_else s.views id out.holder L (holder_apart s k.current out id (idle ts) at refl) ∙ out.held);
              idle = λ j v at' ne. ⊎_elim (λ (x : R ≡ v). sym (ap (λ (y : ViewState). y.holding) x)) (⊎_elim (λ (x : L ≡ v). sym (ap (λ (y : ViewState). y.holding) x)) (λ x. out.idle j v x ne)) (sides j v at');
            }))
            k.place;
        fits = λ j v at'. ⊎_elim (λ (x : R ≡ v). subst (λ (y : ViewState). AllSeatsFit count k.entered k.current y.seats) x both.1)
            (⊎_elim (λ (x : L ≡ v). subst (λ (y : ViewState). AllSeatsFit count k.entered k.current y.seats) x both.0) (λ x. k.fits j v x)) (sides j v at');
        once = λ n below. let a = k.once n below in let f : ViewState → ℕ = λ y. times n y.seats in
            let b = total-set f s.views id (idle ts) L at in let c = total-push f V R in let d = times_parted n ts in omega arith;
        all = let a = k.all in let b = total-set seats_in s.views id (idle ts) L at in let c = total-push seats_in V R in let d = length_parted ts in omega arith;
        left = let l = k.left in dite (ℕ_discrete l.view id)
            (λ e. let here : idle ts ≡ l.state = maybe.some-injective (idle ts) l.state (sym at ∙ (ap (get_elem? s.views) (sym e) ∙ l.there)) in
            let member : In l.seat (take 1 ts ++ drop 1 ts) = subst (In l.seat) (sym (take-append-drop 1 ts)) (subst (λ (y : ViewState). In l.seat y.seats) (sym here) l.member) in
            ⊎_elim
            (λ i. record { view = id; state = L; there = at_longer V (R ∷ []) id L (set_here s.views id L (at_below s.views id (idle ts) at)); seat = l.seat; member = i; left = l.left })
            (λ i. record { view = length V; state = R; there = at_last V R (length V) refl; seat = l.seat; member = i; left = l.left })
            (In-append l.seat (take 1 ts) (drop 1 ts) member))
            (λ ne. record { view = l.view; state = l.state; there = at_longer V (R ∷ []) l.view l.state (set_else s.views id l.view L ne ∙ l.there); seat = l.seat; member = l.member; left = l.left });
      }

  -- ---- the beginning and the end

  first_left : (k : ℕ) → 0 < k → IsLeft opened (idle (fresh_from opened 0 k) ∷ [])
  first_left zero some = absurd (omega arith)
  first_left (suc k) some = record { view = 0; state = idle (fresh_from opened 0 (suc k)); there = refl; seat = record { number = 0; before = opened; after = opened; mine = []; taken = 0; missed = 0 }; member = inl refl; left = refl }

  pub opens : 0 < count → ServedInvariant opened count (opening (0 ∷ []) (Some opened ∷ []) (idle (fresh_from opened 0 count)))
  opens some = record {
    current = opened;
    entered = [];
    is = record { id = refl; actor = refl; applied = sym (append-nil opened.applied); seats = λ x i. absurd i };
    place = inl (record { word = refl; slot = refl; idle = λ j v at. sym (ap (λ (y : ViewState). y.holding) (at_one (idle (fresh_from opened 0 count)) v j at)) });
    fits = λ j v at. subst (λ (y : ViewState). AllSeatsFit count [] opened y.seats) (at_one (idle (fresh_from opened 0 count)) v j at) (fresh_fit opened count 0 count (omega arith));
    once = λ n below. let a = fresh_once opened n 0 count (omega arith) (omega arith) in omega arith;
    all = let a = length_fresh opened 0 count in omega arith;
    left = first_left count some;
  }

  -- one view has all seats: no other has any
  others_none : (s : SharedState) (k : ServedInvariant opened count s) (id j : ℕ) (v u : ViewState) → get_elem? s.views id ≡ maybe.some v → length v.seats ≡ count → j ≢ id → get_elem? s.views j ≡ maybe.some u → length u.seats ≡ 0
  others_none s k id j v u at all other there = let a = k.all in let b = two_le seats_in s.views id j v u other at there in omega arith

  all_once : (s : SharedState) (k : ServedInvariant opened count s) (id : ℕ) (v : ViewState) → get_elem? s.views id ≡ maybe.some v → length v.seats ≡ count → (n : ℕ) → n < count → times n v.seats ≡ 1
  all_once s k id v at all n below =
      let f : ViewState → ℕ = λ y. times n y.seats in
      let a = k.once n below in
      let b = total-set f s.views id v spent_view at in
      let c = k.all in
      let d = total-set seats_in s.views id v spent_view at in
      let e = total_le f seats_in (set s.views id spent_view) (λ y. times_le n y.seats) in
      omega arith

  none_in : (t : SeatKnowledge) (ts : List SeatKnowledge) → length ts ≡ 0 → In t ts → ⊥
  none_in t [] e i = i
  none_in t (u ∷ ts) e i = absurd (omega arith)

  -- who left the peer is among them
  all_left : (s : SharedState) (k : ServedInvariant opened count s) (id : ℕ) (v : ViewState) → get_elem? s.views id ≡ maybe.some v → length v.seats ≡ count → In k.left.seat v.seats
  all_left s k id v at all = let l = k.left in dite (ℕ_discrete l.view id)
      (λ e. subst (λ (y : ViewState). In l.seat y.seats) (sym (maybe.some-injective v l.state (sym at ∙ (ap (get_elem? s.views) (sym e) ∙ l.there)))) l.member)
      (λ ne. absurd (none_in l.seat l.state.seats (others_none s k id l.view v l.state at all ne l.there) l.member))

  closed : (s : SharedState) (k : ServedInvariant opened count s) (id : ℕ) (states : List SeatKnowledge) → get_elem? s.views id ≡ maybe.some (idle states) → length states ≡ count → Closes opened count states k.current
  closed s k id states at all = record {
    id = k.is.id;
    actor = k.is.actor;
    seat = k.left.seat;
    member = all_left s k id (idle states) at all;
    left = k.left.left;
    kept = λ t i. (AllSeatsFit-in count k.entered k.current states t (k.fits id (idle states) at) i).kept;
    entered = k.entered;
    applied = k.is.applied;
    seats = k.is.seats;
    once = all_once s k id (idle states) at all;
    mine = λ t i. (AllSeatsFit-in count k.entered k.current states t (k.fits id (idle states) at) i).mine;
  }

  -- with all seats in one view that holds nothing, the peer is in the slot
  pub closes : (id : ℕ) (states : List SeatKnowledge) (ws : List ℕ) (xs : List (Option PeerState)) → length states ≡ count → Final (Seen (ServedInvariant opened count) id (idle states)) ws xs
      → (h : PeerState) × (get_elem? xs 0 ≡ maybe.some (Some h)) × Closes opened count states h
  closes id states ws xs all final =
      let s = final.0 in
      let k = final.1.0 in
      let at = final.1.1 in
      ⊎_elim
      (λ (home : IsHome k.current s). (k.current, final.4 0 (Some k.current) (ap (λ (hs : List Slot). get_elem? hs 0) home.slot), closed s k id states at all))
      (λ (out : IsOut k.current s). let none = others_none s k id out.holder (idle states) (holding_seat k.current out.seat) at all (holder_apart s k.current out id (idle states) at refl) out.held in absurd (omega arith))
      k.place

  -- ---- the steps of views that are equal to these

  pub joins_at : (id other : ℕ) (v w : ViewState) (ts us : List SeatKnowledge) → v ≡ idle ts → w ≡ idle us → Joins (ServedInvariant opened count) id v other w (join_views v w) spent_view
  joins_at id other v w ts us e d =
      subst (λ (x : ViewState). Joins (ServedInvariant opened count) id x other w (join_views x w) spent_view) (sym e)
      (subst (λ (x : ViewState). Joins (ServedInvariant opened count) id (idle ts) other x (join_views (idle ts) x) spent_view) (sym d) (joins id other ts us))

  pub splits_at : (id : ℕ) (v : ViewState) (ts : List SeatKnowledge) → v ≡ idle ts → Splits (ServedInvariant opened count) id v (first_view_of v) (others_of v)
  splits_at id v ts e = subst (λ (x : ViewState). Splits (ServedInvariant opened count) id x (first_view_of x) (others_of x)) (sym e) (splits id ts)

  pub closes_at : (id : ℕ) (v : ViewState) (states : List SeatKnowledge) (ws : List ℕ) (xs : List (Option PeerState)) → v ≡ idle states → length states ≡ count → Final (Seen (ServedInvariant opened count) id v) ws xs
      → (h : PeerState) × (get_elem? xs 0 ≡ maybe.some (Some h)) × Closes opened count states h
  closes_at id v states ws xs e all final = closes id states ws xs all (subst (λ (x : ViewState). Final (Seen (ServedInvariant opened count) id x) ws xs) e final)
