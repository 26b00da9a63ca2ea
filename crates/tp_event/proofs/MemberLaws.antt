-- What calls on the peers of a world did.
use Rattle.tp_event.proofs.Common.{◌≡◌, inl, inr, ℕ, zero, suc, ◌^◌, ◌<◌, List, [], ◌∷◌, length, take, slice_set, Bool, true, false, ◌||◌, cond, Some, refl, sym, ap, ◌∙◌, subst, arith, MatchBool, slice_get, AllIn, Actor, ChangeParts, hash_of, has, In-has, PeerState, disarming, opened_peer, Merge, Merged, Refused, Runs, needs_stopped, ReceivesAndAppends, journal_of, slice_get-set, MergesAt, OpensAgainAt, OpensOn, left_with, or_right, neither}
use Rattle.tp_opid.specs.declared.doc_id.DocId.{DocId}
use Rattle.tp_document.specs.Merging.{absent}
use Rattle.tp_journal.specs.Journal.{no_device}
use Rattle.tp_receive.proofs.TakingLaws.{Stops-still}
use Rattle.tp_peer.specs.declared.error.PeerError.TheVariants.{JournalFailed, Stopped, Doc, OutOfMemory}
use Rattle.tp_peer.specs.Appending.{AppendsRecord, RefusesRecord}
use Rattle.tp_call.specs.declared.call.Call.{Call as OwnCall}
use Rattle.tp_call.specs.Calls.{call_of}
use Rattle.tp_peer.specs.PeerStep.{Call, Reply, PeerStep}
use Rattle.tp_receive.specs.Intake.{begin}
use Rattle.tp_peer.proofs.StepLaws.{step_runs, step_stopped}
use Rattle.tp_headline.specs.Reply.{EventReply as Told}
use Rattle.tp_call.specs.declared.call.Call.TheVariants as own
use Rattle.tp_receive.specs.declared.error.ReceiveError.TheVariants as receive
use Rattle.tp_receive.specs.Outcome as outcome

-- a step stays one where equal peers and replies are put in
pub steps_as : (p q p' q' : PeerState) (call : Call) (a b : Reply) → p ≡ q → a ≡ b → p' ≡ q' → PeerStep p call a p' → PeerStep q call b q'
steps_as p q p' q' call a b e f g h =
    subst (λ (x : PeerState). PeerStep q call b x) g (subst (λ (r : Reply). PeerStep q call r p') f (subst (λ (x : PeerState). PeerStep x call a p') e h))

-- a peer that has only its journal left answers that it has stopped
pub left_steps : (p : PeerState) (id : DocId) (actor : Actor) (bytes : List ℕ) → p ≡ left_with id actor bytes → (call : Call) → needs_stopped (left_with id actor bytes) call ≡ true
    → PeerStep p call (Refused Stopped) p
left_steps p id actor bytes e call h =
    let q = left_with id actor bytes in
    subst (λ (x : PeerState). PeerStep x call (Refused Stopped) x) (sym e) (step_stopped q call h)

-- a call of the program asks for no other peer
pub alone_stopped : (c : OwnCall) (p : PeerState) → needs_stopped p (call_of c) ≡ p.stopped
alone_stopped (own.Receive link bytes) p = refl
alone_stopped c p = refl

-- one that takes from itself too, where it has stopped
pub itself_stopped : (p : PeerState) → p.stopped ≡ true → PeerStep p (Merge p) (Refused Stopped) p
itself_stopped p h = step_stopped p (Merge p) (or_right p.stopped p.stopped h)

-- one that runs, where the other has stopped
pub other_stopped : (p other : PeerState) → other.stopped ≡ true → PeerStep p (Merge other) (Refused Stopped) p
other_stopped p other h = step_stopped p (Merge other) (or_right p.stopped other.stopped h)

-- ---- merges from itself

drops_present : (b : Bool) (C : List ChangeParts) (d : ChangeParts) → b ≡ true → C ≡ [] → cond b C (d ∷ C) ≡ []
drops_present true C d e f = f
drops_present false C d e f = absurd cc

none_absent : (C D : List ChangeParts) → AllIn D C → absent C D ≡ []
none_absent C [] all = refl
none_absent C (d ∷ D) all = drops_present (has C (hash_of d)) (absent C D) d (In-has C d (hash_of d) (all d (inl refl)) refl) (none_absent C D (λ c i. all c (inr i)))

pub nothing_absent : (C : List ChangeParts) → [] ≡ absent C C
nothing_absent C = sym (none_absent C C (λ c i. i))

runs_of : (p : PeerState) (call : Call) (reply : Reply) (p' : PeerState) → needs_stopped p call ≡ false → PeerStep p call reply p' → Runs p call reply p'
unfolding PeerStep
runs_of p call reply p' e h = subst (λ b. MatchBool b ((reply ≡ Refused Stopped) × (p' ≡ p)) (Runs p call reply p')) e h

empty_to_itself : (p : PeerState) (reply : Reply) (p' : PeerState) → Runs p (Merge (opened_peer p.id p.actor [] no_device)) reply p' → Runs p (Merge p) reply p'
empty_to_itself p (Merged r) p' h = (refl, subst (λ K. ReceivesAndAppends p K (outcome.Done r) p') (nothing_absent p.applied) h.1)
empty_to_itself p (Refused (Doc e)) p' h = absurd (h.0.1 refl)
empty_to_itself p (Refused JournalFailed) p' h = (refl, subst (λ K. ReceivesAndAppends p K (outcome.Stopped receive.NotKept) p') (nothing_absent p.applied) h.1)
empty_to_itself p (Refused OutOfMemory) p' h = (refl, subst (λ K. ReceivesAndAppends p K (outcome.Stopped receive.OutOfMemory) p') (nothing_absent p.applied) h.1)
empty_to_itself p _ p' h = absurd h

-- what is taken from a peer with no changes is what is taken from itself
pub takes_from_itself : (p empty : PeerState) (reply : Reply) (p' : PeerState) → p.stopped ≡ false → empty ≡ opened_peer p.id p.actor [] no_device → PeerStep p (Merge empty) reply p' → PeerStep p (Merge p) reply p'
takes_from_itself p empty reply p' runs is h =
    let e = opened_peer p.id p.actor [] no_device in
    let steps = subst (λ (x : PeerState). PeerStep p (Merge x) reply p') is h in
    step_runs p (Merge p) reply p' (neither p.stopped p.stopped runs runs) (empty_to_itself p reply p' (runs_of p (Merge e) reply p' (neither p.stopped e.stopped runs refl) steps))

-- memory was refused before anything was taken
pub takes_nothing : (p : PeerState) → p.stopped ≡ false → PeerStep p (Merge p) (Refused OutOfMemory) p
takes_nothing p runs = step_runs p (Merge p) (Refused OutOfMemory) p (neither p.stopped p.stopped runs runs) (
  refl,
  record {
    receives = (λ full. refl, Stops-still AppendsRecord RefusesRecord (begin (journal_of p) p.applied p.waiting (absent p.applied p.applied)) (journal_of p) p.applied p.waiting refl refl refl);
    left = refl;
  },
)

-- ---- devices that aren't to fail

-- what is taken from a peer doesn't depend on its device
takes_calm : (p q : PeerState) (reply : Reply) (p' : PeerState) → Runs p (Merge (disarming q)) reply p' → Runs p (Merge q) reply p'
takes_calm p q (Merged r) p' h = h
takes_calm p q (Refused (Doc e)) p' h = h
takes_calm p q (Refused JournalFailed) p' h = h
takes_calm p q (Refused OutOfMemory) p' h = h
takes_calm p q _ p' h = absurd h

match_runs : (A B C : Type 0) (b : Bool) → (B → C) → MatchBool b A B → MatchBool b A C
match_runs A B C true f h = h
match_runs A B C false f h = f h

pub merge_calm : (p q : PeerState) (reply : Reply) (p' : PeerState) → PeerStep p (Merge (disarming q)) reply p' → PeerStep p (Merge q) reply p'
unfolding PeerStep
merge_calm p q reply p' h =
    match_runs ((reply ≡ Refused Stopped) × (p' ≡ p)) (Runs p (Merge (disarming q)) reply p') (Runs p (Merge q) reply p') (p.stopped || q.stopped) (takes_calm p q reply p') h

-- ---- by their numbers

pub set_set : {X : Type 0} (xs : List X) (n : ℕ) (x y : X) → slice_set (slice_set xs n x) n y ≡ slice_set xs n y
set_set [] n x y = refl
set_set (a ∷ xs) zero x y = refl
set_set (a ∷ xs) (suc n) x y = ap (λ l. a ∷ l) (set_set xs n x y)

-- a peer that was taken out took from another one, and was put back
pub merge_other : (peers mid after : List PeerState) (n m : ℕ) (p nobody other p' : PeerState) (answer : Reply) → slice_get peers n ≡ Some p → mid ≡ slice_set peers n nobody → slice_get mid m ≡ Some other
    → (n ≡ m → ⊥) → PeerStep p (Merge other) answer p' → after ≡ slice_set mid n p' → MergesAt peers n m answer after
merge_other peers mid after n m p nobody other p' answer present out there apart steps back = record {
  other = other;
  there = elim (slice_get-set peers n m nobody other (subst (λ l. slice_get l m ≡ Some other) out there)) [
    | inl same ↦ absurd (apart (sym same.0))
    | inr still ↦ still.1
  ];
  at = record { before = p; present = present; after = p'; steps = steps; left = back ∙ ap (λ l. slice_set l n p') out ∙ set_set peers n nobody p' };
}

-- a peer that was taken out was opened again, and put back
pub reopened_at : (peers mid after : List PeerState) (n keep : ℕ) (actor : Actor) (reply : Told) (p nobody p' : PeerState) → slice_get peers n ≡ Some p → mid ≡ slice_set peers n nobody
    → length p.journal < 2 ^ 64 → OpensOn p.id p.actor (take keep p.journal) actor reply p' → after ≡ slice_set mid n p' → OpensAgainAt peers n keep actor reply after
reopened_at peers mid after n keep actor reply p nobody p' present out small opens back = record {
  before = p;
  present = present;
  small = small;
  after = p';
  opens = opens;
  left = back ∙ ap (λ l. slice_set l n p') out ∙ set_set peers n nobody p';
}

pub set_below : {X : Type 0} (xs ys : List X) (n m : ℕ) (x : X) → ys ≡ slice_set xs n x → m < length xs → m < length ys
set_below xs ys n m x e h = subst (λ l. m < length l) (sym e) (below xs n m x h) where
  below : {X : Type 0} (xs : List X) (n m : ℕ) (x : X) → m < length xs → m < length (slice_set xs n x)
  below [] n m x h = absurd (omega arith)
  below (a ∷ xs) zero m x h = h
  below (a ∷ xs) (suc n) zero x h = omega arith
  below (a ∷ xs) (suc n) (suc m) x h = let more = below xs n m x (omega arith) in omega arith

-- what is taken from itself is what is taken from what it is
pub steps_itself : (p q p' q' : PeerState) (a b : Reply) → p ≡ q → a ≡ b → p' ≡ q' → PeerStep p (Merge p) a p' → PeerStep q (Merge q) b q'
steps_itself p q p' q' a b e f g h =
    subst (λ (x : PeerState). PeerStep q (Merge q) b x) g (subst (λ (r : Reply). PeerStep q (Merge q) r p') f (subst (λ (x : PeerState). PeerStep x (Merge x) a p') e h))
