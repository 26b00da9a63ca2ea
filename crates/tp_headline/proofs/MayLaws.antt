-- What may happen in a world.
use Rattle.tp_headline.proofs.Common.{◌≡◌, inl, inr, ℕ, List, [], ◌∷◌, ◌++◌, length, false, Option, Some, IsSome, refl, sym, ap, ◌∙◌, subst, slice_get, In, AllIn, never, Actor, ChangeParts, hash_of, has, In-has, no_device, IsDocId, journal, record_of, IsHistory, Recovers, journal-push, history_push, changes_in, PeerState, opened_peer, Alone, Deliver, IsAlone, made_by, WorldInvariant, Call, Start, foreign_bytes_of, wire_entries_of, named_by, needed_by, Next, IsEditAt, IsEditOf, IsOpen, MayHappen, WouldEdit, Answered, Peer, World, HasPeer, with_made, with_new_peer, with_peer, with_used}
use Rattle.tp_headline.specs.declared.error.WorldError.TheVariants.{NoPeer, ActorUsed, ForeignChange, HashClash, Stopped, NoEntry, OutOfMemory}
use Rattle.tp_headline.proofs.FollowLaws.{same_peer}
use Rattle.tp_headline.proofs.MakingLaws.{one_call, one_edit, one_named, recovers_all}
use Rattle.tp_peer.specs.PeerStep as peer
use Rattle.tp_headline.specs.Call as call

-- a peer may join under an actor that wasn't named
may_start : (w : World) (actor : Actor) → (In actor w.used → ⊥) → MayHappen w (Start actor)
may_start w actor fresh NoPeer = λ n i. absurd i
may_start w actor fresh ActorUsed = λ a e i. fresh (let same : actor ≡ a = cc in subst (λ x. In x w.used) (sym same) i)
may_start w actor fresh ForeignChange = λ bytes is. absurd cc
may_start w actor fresh HashClash = λ c d would i e. absurd (let called = would.0.called in cc)
may_start w actor fresh Stopped = λ n p i. absurd i
may_start w actor fresh NoEntry = λ n i. absurd i
may_start w actor fresh OutOfMemory = tt

pub start_happens : (w : World) (actor : Actor) → (In actor w.used → ⊥) → Next w (Start actor) (Peer (length w.peers)) (with_used (with_new_peer w (opened_peer w.id actor [] no_device)) actor)
start_happens w actor fresh = inr (record { may = may_start w actor fresh; happens = inl (opened_peer w.id actor [] no_device, refl, refl, refl) })

some_is : {X : Type 0} (o : Option X) (x : X) → o ≡ Some x → IsSome o
some_is o x e = rw e refl

-- ---- calls on a running peer

-- a call may be made that names what is there, brings what was made, and makes nothing with a hash that was made
may_call : (w : World) (n : ℕ) (p : PeerState) (named : call.EventCall) → HasPeer w n p → p.stopped ≡ false → ((m : ℕ) → In m (named_by named) → IsSome (slice_get w.peers m)) → needed_by named ≡ []
    → ((bytes : List ℕ) → foreign_bytes_of (Call n named) ≡ Some bytes → AllIn (changes_in bytes) w.made)
    → ((c d : ChangeParts) → WouldEdit w (Call n named) c → In d w.made → hash_of d ≡ hash_of c → d ≡ c)
    → ((m : ℕ) → In m (wire_entries_of (Call n named)) → IsSome (slice_get w.wire m)) → MayHappen w (Call n named)
may_call w n p named present runs there none brings apart sent NoPeer = λ m i. elim i [ inl is ↦ some_is (slice_get w.peers m) p (ap (slice_get w.peers) is ∙ present) | inr other ↦ there m other ]
may_call w n p named present runs there none brings apart sent ActorUsed = λ a is i. absurd cc
may_call w n p named present runs there none brings apart sent ForeignChange = brings
may_call w n p named present runs there none brings apart sent HashClash = λ c d would. apart c d would.0
may_call w n p named present runs there none brings apart sent Stopped = λ m q i also. elim i [
  | inl is ↦ subst (λ (x : PeerState). x.stopped ≡ false) (same_peer w n p q present (subst (λ k. HasPeer w k q) is also)) runs
  | inr other ↦ absurd (subst (λ l. In m l) none other)
]
may_call w n p named present runs there none brings apart sent NoEntry = sent
may_call w n p named present runs there none brings apart sent OutOfMemory = tt

-- ---- edits

-- an edit may happen whose change has a new hash
may_edit : (w : World) (n : ℕ) (made : peer.Call) (c : ChangeParts) → WorldInvariant w → IsEditAt w n made c → has w.made (hash_of c) ≡ false → MayHappen w (Call n (Alone made))
may_edit w n (peer.Edit ss time message) c h e new =
    let made = peer.Edit ss time message in
    may_call w n e.peer (Alone made) e.present e.runs (λ m i. absurd i) refl (λ bytes is. absurd cc)
    (λ d other would i same.
    let one = one_call would.number n would.made made (sym would.called) in
    let edit : IsEditAt w n made d = subst (λ k. IsEditAt w k made d) one.0 (subst (λ m. IsEditAt w would.number m d) one.1 would.edit) in
    absurd (never (In-has w.made other (hash_of c) i (same ∙ ap hash_of (one_edit w n made d c h edit e))) new))
    (λ m i. absurd i)
may_edit w n made c h e new = absurd e.edited

edit_steps : (p : PeerState) (made : peer.Call) (c : ChangeParts) → p.stopped ≡ false → IsEditOf p made c → peer.PeerStep p made (peer.Made (Some (hash_of c))) (peer.peer_with_change p c)
unfolding peer.PeerStep
edit_steps p (peer.Edit ss time message) c runs edited = rw runs (c, edited, refl, refl)
edit_steps p made c runs edited = absurd edited

edit_alone : (w : World) (n : ℕ) (p : PeerState) (made : peer.Call) (c : ChangeParts) → IsEditOf p made c → with_made (with_peer w n (peer.peer_with_change p c)) (c ∷ []) ≡ with_made (with_peer w n (peer.peer_with_change p c)) (made_by made (c ∷ []))
edit_alone w n p (peer.Edit ss time message) c edited = refl
edit_alone w n p made c edited = absurd edited

-- its journal has the change
edit_recovers : (p : PeerState) (made : peer.Call) (c : ChangeParts) → IsDocId p.id → IsHistory p.applied → p.journal ≡ journal p.id p.applied → IsEditOf p made c
    → Recovers (p.journal ++ record_of c) p.id (p.applied ++ c ∷ []) (length (journal p.id (p.applied ++ c ∷ [])))
edit_recovers p (peer.Edit ss time message) c is_id history own edited =
    let C = p.applied ++ c ∷ [] in
    subst (λ b. Recovers b p.id C (length (journal p.id C))) (journal-push p.id p.applied c ∙ ap (λ l. l ++ record_of c) (sym own)) (recovers_all p.id C is_id (history_push p.applied c history edited.limits edited.enters))
edit_recovers p made c is_id history own edited = absurd edited

needs_none : (w : World) (p : PeerState) (made : peer.Call) (c : ChangeParts) → IsEditOf p made c → IsAlone made
needs_none w p (peer.Edit ss time message) c edited = tt
needs_none w p made c edited = absurd edited

pub edit_happens : (w : World) (n : ℕ) (made : peer.Call) (c : ChangeParts) → WorldInvariant w → (e : IsEditAt w n made c) → has w.made (hash_of c) ≡ false
    → Next w (Call n (Alone made)) (Answered (peer.Made (Some (hash_of c)))) (with_made (with_peer w n (peer.peer_with_change e.peer c)) (c ∷ []))
edit_happens w n made c h e new =
    let p = e.peer in
    let q = h.peers n p e.present in
    inr (record {
      may = may_edit w n made c h e new;
      happens = record {
        before = p;
        present = e.present;
        made = made;
        is = (refl, needs_none w p made c e.edited);
        answer = peer.Made (Some (hash_of c));
        after = peer.peer_with_change p c;
        steps = edit_steps p made c e.runs e.edited;
        kept = c ∷ [];
        keep = length (journal p.id (p.applied ++ c ∷ []));
        recovers = edit_recovers p made c (subst IsDocId (sym q.id) h.is_id) q.history (q.live e.runs).journal e.edited;
        replied = refl;
        left = edit_alone w n p made c e.edited;
      };
    })

-- ---- messages

one_there : {X : Type 0} (xs : List X) (m n : ℕ) → IsSome (slice_get xs n) → In m (n ∷ []) → IsSome (slice_get xs m)
one_there xs m n there i = elim i [ inl is ↦ subst (λ k. IsSome (slice_get xs k)) (sym is) there | inr none ↦ absurd none ]

same_bytes : (a b : List ℕ) → (let o : Option (List ℕ) = Some a in o) ≡ Some b → a ≡ b
same_bytes a b e = cc

-- what makes no edit makes nothing
makes_nothing : {A : Type 0} (w : World) (n : ℕ) (made : peer.Call) (c : ChangeParts) → ((p : PeerState) → IsEditOf p made c → ⊥) → WouldEdit w (Call n (Alone made)) c → A
makes_nothing w n made c none would =
    absurd (none would.edit.peer (subst (λ m. IsEditOf would.edit.peer m c) (one_call would.number n would.made made (sym would.called)).1 would.edit.edited))

-- a running peer may be asked for a message to any peer, and given any entry of the wire and any bytes that carry what
-- was made
pub open_happens : (w : World) (n : ℕ) (p : PeerState) (named : call.EventCall) → HasPeer w n p → p.stopped ≡ false → IsOpen w named → MayHappen w (Call n named)
open_happens w n p (Alone (peer.Generate to)) present runs is =
    may_call w n p (Alone (peer.Generate to)) present runs (λ m i. one_there w.peers m to is i) refl (λ bytes b. absurd cc)
    (λ c d would. makes_nothing w n (peer.Generate to) c (λ q e. e) would) (λ m i. absurd i)
open_happens w n p (Alone (peer.Receive from bytes)) present runs is =
    may_call w n p (Alone (peer.Receive from bytes)) present runs (λ m i. one_there w.peers m from is.0 i) refl
    (λ b e. subst (λ x. AllIn (changes_in x) w.made) (same_bytes bytes b e) is.1)
    (λ c d would. makes_nothing w n (peer.Receive from bytes) c (λ q e. e) would) (λ m i. absurd i)
open_happens w n p (Deliver entry) present runs is =
    may_call w n p (Deliver entry) present runs (λ m i. absurd i) refl (λ bytes b. absurd cc) (λ c d would. absurd (let is = (one_named would.number n (Alone would.made) (Deliver entry) (sym would.called)).1 in cc)) (λ m i. one_there w.wire m entry is i)
open_happens w n p named present runs is = absurd is
