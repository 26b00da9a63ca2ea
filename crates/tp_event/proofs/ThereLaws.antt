-- What may happen names peers and an entry that are there.
use Rattle.tp_event.proofs.Common.{◌≡◌, ℕ, ◌<◌, List, [], ◌∷◌, length, false, zero, suc, IsSome, Some, refl, arith, slice_get, In, PeerState, Event, wire_entries_of, peers_of, running_of, MayHappen, World}
use Rattle.tp_headline.specs.declared.error.WorldError.TheVariants.{NoPeer, Stopped, NoEntry}

pub below_some : {X : Type 0} (xs : List X) (n : ℕ) → IsSome (slice_get xs n) → n < length xs
below_some [] n h = absurd cc
below_some (x ∷ xs) zero h = omega arith
below_some (x ∷ xs) (suc n) h = let below = below_some xs n h in omega arith

some_of : (peers : List PeerState) (n : ℕ) → IsSome (slice_get peers n) → (p : PeerState) × (slice_get peers n ≡ Some p)
some_of [] n h = absurd cc
some_of (p ∷ peers) zero h = (p, refl)
some_of (p ∷ peers) (suc n) h = some_of peers n h

pub there_below : (w : World) (e : Event) (n : ℕ) → MayHappen w e → In n (peers_of e) → n < length w.peers
there_below w e n may i = below_some w.peers n (may NoPeer n i)

-- and an entry that is there
pub sent_below : (w : World) (e : Event) (n : ℕ) → MayHappen w e → In n (wire_entries_of e) → n < length w.wire
sent_below w e n may i = below_some w.wire n (may NoEntry n i)

pub runs_there : (w : World) (e : Event) (n : ℕ) → MayHappen w e → In n (peers_of e) → In n (running_of e) → (p : PeerState) × (slice_get w.peers n ≡ Some p) × (p.stopped ≡ false)
runs_there w e n may i j = let p = some_of w.peers n (may NoPeer n i) in (p.0, p.1, may Stopped n p.0 j p.1)
