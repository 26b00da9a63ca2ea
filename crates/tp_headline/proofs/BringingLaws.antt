-- What merges and messages bring.
use Rattle.tp_headline.proofs.Common.{◌≡◌, ◌⊎◌, inl, inr, ℕ, List, [], ◌∷◌, ◌++◌, ◌<◌, length, Bool, true, false, Option, Some, refl, sym, ap, ◌∙◌, subst, slice_get, In, AllIn, In-append, In-left, filter-In, truth, Hash, ChangeParts, hash_of, absent, most_changes, heads, has_all, Sound, has_all-heads, In-has_all, has-In, has_all-In, NoTwins, Sound-prefix, hashes_apart, IsPrefixOf, changes_in, decoded_changes, known_of, PeerState, Report, message_at, all_carried, message_again, Alone, Deliver, Merge, Act, ActStep, ActSteps, after_call, WorldInvariant, Event, Call, Next, Answered, EventReply, Wire, reply_to, GoesOn, WireEntry, World, HasEntry, HasPeer, lists_of}
use Rattle.std.specs.Option.{option_map}
use Rattle.tp_sync.specs.Due.{message_changes, due_of, is_due, is_truncated}
use Rattle.tp_sync.specs.State.{declared_hashes}
use Rattle.tp_sync.proofs.UnionLaws.{not_due_held}
use Rattle.tp_headline.specs.Arriving.{HoldsAll, HoldsReady}
use Rattle.tp_headline.proofs.ArrivalLaws.{absent_or_there, all_arrive, takes_ready}
use Rattle.tp_headline.proofs.CallLaws.{runs_of_steps}
use Rattle.tp_headline.proofs.ActLaws.{later_on, step_later, steps_later}
use Rattle.tp_headline.proofs.EventLaws.{goes_on_acts, next_acts}
use Rattle.tp_headline.proofs.FollowLaws.{did, same_peer, present_after}
use Rattle.tp_headline.proofs.Lasting.{begins-In, has_list}
use Rattle.tp_headline.proofs.MakingLaws.{all_was_made}
use Rattle.tp_history.proofs.PlacesLaws.{at_last}
use Rattle.tp_peer.specs.PeerStep as peer

-- ---- merges

same_entry : (w : World) (n : ℕ) (e f : WireEntry) → HasEntry w n e → HasEntry w n f → e ≡ f
same_entry w n e f i j = let same : Some e ≡ Some f = sym i ∙ j in cc

pub merge_brings : (w : World) (into from : ℕ) (report : Report) (w' : World) (other : PeerState) → WorldInvariant w → HasPeer w from other → Next w (Call into (Merge from)) (Answered (peer.Merged report)) w'
    → HoldsAll w' into other.applied
merge_brings w into from report w' other h there next =
    let d = did w into (Merge from) (peer.Merged report) w' next in
    let c = d.calls in
    let source = c.is.0 in
    let p = c.before in
    let p' = c.after in
    let q = h.peers into p c.present in
    let o = h.peers from source c.is.1 in
    let steps = subst (λ m. peer.PeerStep p m (peer.Merged report) p') c.is.2 d.steps in
    let t = runs_of_steps p (peer.Merge source) (peer.Merged report) p' steps (λ e. cc) in
    let K = absent p.applied source.applied in
    let taken = takes_ready w p K report p' h q (all_was_made w (Merge from) (peer.Merge source) p h q (source, c.is.1, refl) (λ link bytes e. absurd cc)) t.1 in
    let came : (x : ChangeParts) → In x source.applied → In x p'.applied ⊎ In x K = λ x i. elim (absent_or_there p.applied source.applied x i) [
      | inl j ↦ inr j
      | inr known ↦
          let d = has-In p.applied (hash_of x) known in
          inl (taken.1 x (subst (λ y. In y p.applied) (hashes_apart w.made h.coherent.sound d.0 x (q.applied d.0 d.1) (o.applied x i) d.2) d.1))
    ] in
    let holds : HoldsAll w' into source.applied = record {
      peer = p';
      present = present_after w into (Merge from) (Answered (peer.Merged report)) w' c;
      all = λ few. all_arrive p'.applied K [] source.applied o.history.sound came (λ x i. absurd i) taken.0 few;
    } in
    subst (λ (x : PeerState). HoldsAll w' into x.applied) (same_peer w from source other c.is.1 there) holds

-- ---- deliveries

pub delivery_brings : (w : World) (n to : ℕ) (report : Report) (same : Bool) (w' : World) (e : WireEntry) → WorldInvariant w → HasEntry w n e → Next w (Call to (Deliver n)) (Answered (peer.Received report same)) w'
    → HoldsReady w' to (changes_in e.bytes)
delivery_brings w n to report same w' e h there next =
    let d = did w to (Deliver n) (peer.Received report same) w' next in
    let c = d.calls in
    let found = c.is.0 in
    let p = c.before in
    let p' = c.after in
    let q = h.peers to p c.present in
    let made = peer.Receive found.sender found.bytes in
    let steps = subst (λ m. peer.PeerStep p m (peer.Received report same) p') c.is.2 d.steps in
    let t = runs_of_steps p made (peer.Received report same) p' steps (λ x. cc) in
    let K = t.message.changes in
    let is : changes_in found.bytes ≡ K = ap decoded_changes t.decodes.reads in
    let came = all_was_made w (Deliver n) made p h q (found, c.is.1, refl) (λ link bytes x. absurd cc) in
    let ready = (takes_ready w p K report t.taken h q (subst (λ (l : List ChangeParts). AllIn (p.waiting ++ l) w.made) is came) t.takes).0 in
    let applied : p'.applied ≡ t.taken.applied = ap (λ (x : PeerState). x.applied) t.left in
    let holds : HoldsReady w' to K = record {
      peer = p';
      present = present_after w to (Deliver n) (Answered (peer.Received report same)) w' c;
      ready = subst (λ l. length l < most_changes → (x : ChangeParts) → In x K → has_all l x.deps ≡ true → In x l) (sym applied) ready;
    } in
    subst (λ (x : WireEntry). HoldsReady w' to (changes_in x.bytes)) (same_entry w n found e c.is.1 there) (subst (λ l. HoldsReady w' to l) (sym is) holds)

-- ---- messages

-- The message that p made for the link is on the wire.
record IsSent (m : World) (n : ℕ) (p : PeerState) (link : ℕ) : Type 0 where
  entry : WireEntry
  present : HasEntry m n entry
  changes : changes_in entry.bytes ≡ message_changes p.applied (known_of p.links link)

wire_of : (k n : ℕ) (answer : peer.Reply) → Wire n ≡ reply_to k answer → (message : List ℕ × Bool) × (answer ≡ peer.Generated (Some message)) × (n ≡ k)
wire_of k n (peer.Generated (Some message)) e = (message, refl, cc)
wire_of k n answer e = absurd cc

message_present : (w : World) (from to : ℕ) (n : ℕ) (m : World) (p : PeerState) → HasPeer w from p → Next w (Call from (Alone (peer.Generate to))) (Wire n) m → IsSent m n p to
message_present w from to n m p there (inl refused) = absurd (let replied = refused.replied in cc)
message_present w from to n m p there (inr does) =
    let c = does.happens in
    let sent = wire_of (length w.wire) n c.answer c.replied in
    let message = sent.0 in
    let answer = peer.Generated (Some message) in
    let steps = subst (λ a. peer.PeerStep c.before (peer.Generate to) a c.after) sent.1 (subst (λ x. peer.PeerStep c.before x c.answer c.after) c.is.0 c.steps) in
    let runs = runs_of_steps c.before (peer.Generate to) answer c.after steps (λ e. cc) in
    let entry : WireEntry = record { sender = from; bytes = message.0 } in
    let wire : m.wire ≡ w.wire ++ entry ∷ [] = ap (λ (y : World). y.wire) (c.left ∙ ap (λ a. after_call w from (c.before, c.after) c.made a c.kept) sent.1) in
    let present : slice_get m.wire n ≡ Some entry = ap (λ k. slice_get m.wire k) sent.2 ∙ ap (λ l. slice_get l (length w.wire)) wire ∙ at_last w.wire entry in
    subst (λ y. IsSent m n y to) (same_peer w from c.before p c.present there) (record {
      entry = entry;
      present = present;
      changes = ap decoded_changes (ap message_at runs.spelled ∙ message_again runs.message runs.limits) ∙ runs.answers.changes;
    })

-- what a peer has it has later on
list_stays : (w m v w' : World) (n : ℕ) (p p' : PeerState) (a : Act) (acts : List Act) (b : Act) → HasPeer w n p → HasPeer w' n p' → ActStep (lists_of w) a (lists_of m) → ActSteps (lists_of m) acts (lists_of v)
    → ActStep (lists_of v) b (lists_of w') → AllIn p.applied p'.applied
list_stays w m v w' n p p' a acts b present present' first on last =
    let later = later_on (lists_of w) (lists_of m) (lists_of w') (step_later (lists_of w) a (lists_of m) first)
    (later_on (lists_of m) (lists_of v) (lists_of w') (steps_later (lists_of m) acts (lists_of v) on) (step_later (lists_of v) b (lists_of w') last)) in
    let grown = later.lists n p.applied (has_list w n p present) in
    let same : p'.applied ≡ p.applied ++ grown.0 = let is : Some p'.applied ≡ Some (p.applied ++ grown.0) = sym (has_list w' n p' present') ∙ grown.1 in cc in
    λ c i. subst (λ l. In c l) (sym same) (In-left c p.applied grown.0 i)

has_all-append : (D : List ChangeParts) (H K : List Hash) → has_all D H ≡ true → has_all D K ≡ true → has_all D (H ++ K) ≡ true
has_all-append D H K a b = In-has_all D (H ++ K) (λ h i. elim (In-append h H K i) [ inl j ↦ has_all-In D H a h j | inr j ↦ has_all-In D K b h j ])

pub message_brings : (w : World) (from to n : ℕ) (p q : PeerState) (D : List ChangeParts) (m : World) (events : List (Event × EventReply)) (v : World) (report : Report) (same : Bool) (w' : World)
    → WorldInvariant w → HasPeer w from p → HasPeer w to q → IsPrefixOf D q.applied → (known_of p.links to).theirs ≡ Some (heads D)
    → has_all D (known_of p.links to).known ≡ true → is_truncated p.applied (known_of p.links to) ≡ false
    → Next w (Call from (Alone (peer.Generate to))) (Wire n) m → GoesOn m events v → Next v (Call to (Deliver n)) (Answered (peer.Received report same)) w' → HoldsAll w' to p.applied
message_brings w from to n p q D m events v report same w' h present_p present_q b reported knows whole send goes deliver =
    let C = p.applied in
    let s = known_of p.links to in
    let hp = h.peers from p present_p in
    let hq = h.peers to q present_q in
    let first = next_acts w (Call from (Alone (peer.Generate to))) (Wire n) m h send in
    let on = goes_on_acts events m v first.carries.carried goes in
    let last = next_acts v (Call to (Deliver n)) (Answered (peer.Received report same)) w' on.carried deliver in
    let sent = message_present w from to n m p present_p send in
    let e = sent.entry in
    let K = changes_in e.bytes in
    let ready = delivery_brings v n to report same w' e on.carried (on.grows.wire n e sent.present) deliver in
    let P = ready.peer in
    let longer : AllIn q.applied P.applied = list_stays w m v w' to q P first.act on.acts.acts last.act present_q ready.present first.carries.step on.acts.steps last.carries.step in
    let old : AllIn D q.applied = begins-In D q.applied b in
    let apart : NoTwins C D = λ c d i j same_hash. hashes_apart w.made h.coherent.sound c d (hp.applied c i) (hq.applied d (old d j)) same_hash in
    let sound : Sound D = Sound-prefix D b.0 (subst Sound b.1 hq.history.sound) in
    let theirs : List Hash = heads D ++ s.known in
    let there : has_all D theirs ≡ true = has_all-append D (heads D) s.known (has_all-heads D) knows in
    let declares : declared_hashes s ≡ Some theirs = ap (λ (o : Option (List Hash)). option_map (λ (hs : List Hash). hs ++ s.known) o) reported in
    let carries : K ≡ due_of C (Some theirs) s.wants C = sent.changes ∙ all_carried C s whole ∙ ap (λ o. due_of C o s.wants C) declares in
    let came : (c : ChangeParts) → In c C → In c P.applied ⊎ In c K = λ c i. elim (truth (is_due C theirs s.wants c)) [
      | inl is ↦ inr (subst (λ l. In c l) (sym carries) (filter-In (is_due C theirs s.wants) C c i is))
      | inr not ↦
          let held = has-In D (hash_of c) (not_due_held C D theirs s.wants c sound there apart i not) in
          let is : c ≡ held.0 = apart c held.0 i held.1 (sym held.2) in
          inl (longer c (old c (subst (λ x. In x D) (sym is) held.1)))
    ] in
    record { peer = P; present = ready.present; all = λ few. all_arrive P.applied K [] C hp.history.sound came (λ c i. absurd i) ready.ready few }
