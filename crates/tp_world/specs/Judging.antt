-- What an event names, and what is asked of it before it happens.
use Rattle.std.specs.Prelude.{◌≡◌, ℕ, ◌<◌, List, [], ◌∷◌, ◌++◌, Bool, false, ◌&&◌, ◌||◌, Option, Some, None, IsSome, MatchBool}
use Rattle.tp_world.specs.Common.{ChangeParts}
use Rattle.std.specs.List.{slice_get}
use Rattle.tp_opid.specs.declared.actor.Actor.{Actor}
use Rattle.tp_peer.specs.PeerState.{PeerState}
use Rattle.tp_headline.specs.Event.{Event}
use Rattle.tp_headline.specs.Refusing.{Passes, keeps_whole}
use Rattle.tp_headline.specs.World.{World}
use Rattle.std.specs.Option.{option_to_list}
use Rattle.tp_list.specs.Members.{In}
use Rattle.tp_opid.specs.Same.{same_actor}
use Rattle.tp_change.specs.ChangeHash.{hash_of}
use Rattle.tp_history.specs.Named.{has}
use Rattle.tp_peer.specs.PeerStep as peer
use Rattle.tp_headline.specs.declared.error.WorldError.{WorldError}
use Rattle.tp_headline.specs.WorldError.{code_of}
use Rattle.tp_event.specs.Making.{IsRunningEdit}

-- the numbers of two peers at most
abbrev pub numbers_in : Option ℕ × Option ℕ → List ℕ
numbers_in x = option_to_list x.0 ++ option_to_list x.1

-- There is one, a peer or an entry of the wire, with each of the numbers.
abbrev pub AllThere : {X : Type 0} → List X → List ℕ → Type 0
AllThere xs ns = (n : ℕ) → In n ns → IsSome (slice_get xs n)

-- None of the peers with the numbers has stopped.
abbrev pub AllRun : List PeerState → List ℕ → Type 0
AllRun peers ns = (n : ℕ) (p : PeerState) → In n ns → slice_get peers n ≡ Some p → p.stopped ≡ false

-- one of the actors is this one
abbrev pub is_named : List Actor → Actor → Bool
is_named [] a = false
is_named (b ∷ used) a = same_actor b a || is_named used a

-- The actor isn't one of those that were named.
abbrev pub IsFresh : List Actor → Option Actor → Type 0
IsFresh used actor = (a : Actor) → actor ≡ Some a → In a used → ⊥

-- The change is that of the edit that the call of the peer with the number is, or there is none.
abbrev pub IsJustEditAt : List PeerState → ℕ → peer.Call → Option ChangeParts → Type 0
IsJustEditAt peers n made (Some c) = (p : PeerState) × (slice_get peers n ≡ Some p) × IsRunningEdit p made c
IsJustEditAt peers n made None = (p : PeerState) → slice_get peers n ≡ Some p → (c : ChangeParts) → IsRunningEdit p made c → ⊥

-- A change that was made has the hash of the one that the event would make, and keeps whole.
abbrev pub clashes_in : List ChangeParts → Event → Option ChangeParts → Bool
clashes_in made e None = false
clashes_in made e (Some c) = has made (hash_of c) && keeps_whole e c

-- The event passes every test with a smaller number than this one.
abbrev pub PassesBefore : World → Event → WorldError → Type 0
PassesBefore w e why = (other : WorldError) → code_of other < code_of why → Passes w e other

-- It says whether the event passes the test.
abbrev pub Judges : World → Event → WorldError → Bool → Type 0
Judges w e why b = MatchBool b (Passes w e why) (Passes w e why → ⊥)
