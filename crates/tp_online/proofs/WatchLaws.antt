-- Looks at a served peer, one after another.
use Rattle.std.proofs.Common.{◌≡◌, ◌∙◌, ◌⊎◌, refl, subst, sym, ℕ, ◌+◌, [], ◌∷◌, ◌++◌, List, Option, Some, None, inl, inr}
use Rattle.std.specs.Prelude.{min}
use Rattle.tp_command_line.specs.declared.job.Hosting.{Hosting}
use Rattle.tp_disk.specs.DiskView.{DiskView}
use Rattle.tp_net.specs.Sessions.{AllSit}
use Rattle.tp_list.proofs.TraceLaws.{trace_join}
use Rattle.tp_peer.specs.PeerState.{PeerState}
use Rattle.tp_served.specs.Seats.{SeatKnowledge, SeatState, Visits}
use Rattle.tp_served.specs.Seats.{ServedState}
use Rattle.tp_online.specs.Sessions.{EndsRunning, WasServed, opened_seats}
use Rattle.tp_online.specs.Showing.{AllTakePart, WasShown}
use Rattle.tp_online.specs.Watching.{IsLookedAt, IsMirrored, LooksOnce, MayTurn, Watches}

-- no look
pub not_yet : (saw : DiskView → Type 0) (note : Option (List ℕ)) (s : SeatState) → Watches saw note s s
not_yet saw note s = record { served = refl; times = []; looks = refl }

-- and one more turn
one_more : (saw : DiskView → Type 0) (note : Option (List ℕ)) (s u v : SeatState) → Watches saw note s u → v.served ≡ u.served → Visits u.state (MayTurn saw note) v.state → Watches saw note s v
one_more saw note s u v first same looked = record {
  served = same ∙ first.served;
  times = first.times ++ tt ∷ [];
  looks = trace_join (LooksOnce saw note) s.state first.times u.state (tt ∷ []) v.state first.looks (v.state, looked, refl);
}

-- a visit that does what another one may
visits_as : (done more : PeerState → PeerState → Type 0) (t t' : SeatKnowledge) → ((p p' : PeerState) → done p p' → more p p') → Visits t done t' → Visits t more t'
visits_as done more t t' leads v = record { number = v.number; taken = v.taken; visited = leads _ _ v.visited; kept = record { seen = v.kept.seen; link = v.kept.link }; mine = v.mine }

may_look : (saw : DiskView → Type 0) (note : Option (List ℕ)) (p p' : PeerState) → IsLookedAt p p' → MayTurn saw note p p'
may_look saw None p p' is = is
may_look saw (Some note) p p' is = inl is

-- a look
pub once_more : (saw : DiskView → Type 0) (note : Option (List ℕ)) (s u v : SeatState) → Watches saw note s u → v.served ≡ u.served → Visits u.state IsLookedAt v.state → Watches saw note s v
once_more saw note s u v first same looked = one_more saw note s u v first same (visits_as IsLookedAt (MayTurn saw note) u.state v.state (may_look saw note) looked)

-- a turn with the text file, or none
pub turned_more : (saw : DiskView → Type 0) (note : Option (List ℕ)) (s u v : SeatState) → Watches saw note s u → v.served ≡ u.served → (v ≡ u) ⊎ Visits u.state (MayTurn saw note) v.state → Watches saw note s v
turned_more saw note s u v first same (inl is) = subst (λ (x : SeatState). Watches saw note s x) (sym is) first
turned_more saw note s u v first same (inr turned) = one_more saw note s u v first same turned

-- a turn with the text file at the path
pub visits_mirrored : (saw : DiskView → Type 0) (note : List ℕ) (s v : SeatState) → (v ≡ s) ⊎ Visits s.state (IsMirrored saw note) v.state → (v ≡ s) ⊎ Visits s.state (MayTurn saw (Some note)) v.state
visits_mirrored saw note s v (inl is) = inl is
visits_mirrored saw note s v (inr turned) = inr (visits_as (IsMirrored saw note) (MayTurn saw (Some note)) s.state v.state (λ p p' is. inr is) turned)

-- ---- a served peer and its watch, from the opening to the closing

module _ (saw : DiskView → Type 0) (note : Option (List ℕ)) (p p' : PeerState) (d : ServedState) (first back : List SeatState) (last watched : SeatState) where
  pub was_served : (workers count : ℕ) → d.opened ≡ p → d.count ≡ count → count ≡ min (workers + 1) 64 → opened_seats d ≡ first ++ last ∷ []
      → AllSit d.opened.id first back → Watches saw note last watched → EndsRunning d (back ++ watched ∷ []) p' → WasServed saw note p workers p'
  was_served workers count opened number is seats sat watches ends = record {
    served = d;
    opened = opened;
    number = number ∙ is;
    back = back ++ watched ∷ [];
    sat = record { first = first; last = last; are = seats; back = back; watch = watched; are_back = refl; led = sat; watches = watches };
    ends = ends;
  }

  pub was_shown : (hosting : Hosting) → d.opened ≡ p → opened_seats d ≡ first ++ last ∷ []
      → AllTakePart hosting d.opened.id first back → Watches saw note last watched → EndsRunning d (back ++ watched ∷ []) p' → WasShown saw note hosting p p'
  was_shown hosting opened seats went watches ends = record {
    served = d;
    opened = opened;
    back = back ++ watched ∷ [];
    parts = record { first = first; last = last; are = seats; back = back; watch = watched; are_back = refl; led = went; watches = watches };
    ends = ends;
  }
