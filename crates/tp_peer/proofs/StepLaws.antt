-- What each step of a peer keeps.
use Rattle.tp_peer.proofs.Common.{◌≡◌, ◌≢◌, ◌⊎◌, ℕ, ◌≤◌, inl, inr, List, [], ◌∷◌, ◌++◌, take, Bool, true, false, length, Option, Some, None, refl, sym, ap, ◌∙◌, subst, append_assoc, append-nil, arith, ◌==◌, MatchBool, AllIn, In, DocId, Hash, ChangeParts, IsChange, EditRequest, asking, absent, cause, most_waiting, Intake, Device, DeviceFails, DeviceFailsOnce, after_appends, is_some, or_right, IsDocId, journal, record_of, bytes_of_records, IsHistory, journal-append, PeerError, JournalFailed, TooManyLinks, Doc, Sync, OutOfMemory, JournalState, HasJournal, IsPeer, IsTorn, PeerState, Call, Decodes, Edit, Forget, Forgotten, Generate, Generated, Heads, ReceivesMessage, Made, Merge, Merged, Read, ReadAt, ReadHeads, Receive, Received, Refused, RefusesEdit, RefusesGenerate, RefusesMerge, RefusesReceive, RefusesText, Reply, Runs, Speaks, Text, peer_with_change, knowing, needs_stopped, Report, StopsAppending, StopsUnsettled, ReceivesAndAppends, Appends, AreFew, Keeps, MovesLinks, TouchesLink, came, decoded_changes, is_on, known_of, with_link, without_link, MessageParts, SyncParts, after_message, never, neither_left}
use Rattle.tp_list.proofs.Members.{In-left}
use Rattle.tp_peer.specs.PeerStep.{PeerStep}
use Rattle.tp_peer.proofs.LinkLaws.{moves_leave, other_with, other_without, stays}
use Rattle.tp_peer.proofs.KeepingLaws.{Advances, Reaches, history_grows, reaches_all, reaches_part, run_advances}
use Rattle.tp_peer.specs.declared.error.PeerError.TheVariants as error
use Rattle.tp_receive.specs.declared.error.ReceiveError.TheVariants as receive
use Rattle.tp_receive.specs.Outcome as outcome

-- ---- the kinds of steps

pub few_none : (p : PeerState) (call : Call) → AreFew p call []
few_none p (Edit splices time message) = omega arith
few_none p (Merge other) = tt
few_none p (Receive link bytes) = omega arith
few_none p (Generate link) = refl
few_none p (Forget link) = refl
few_none p Read = refl
few_none p (ReadAt H) = refl
few_none p ReadHeads = refl

-- what links stay, but for the one of a call
abbrev KeepsOthers : Call → List (ℕ × SyncParts) → List (ℕ × SyncParts) → Type 0
KeepsOthers call L L' = (n : ℕ) → is_on call n ≡ false → known_of L' n ≡ known_of L n

-- the links L' are what the call left of L
record LeavesLinks (call : Call) (L L' : List (ℕ × SyncParts)) : Type 0 where
  moves : MovesLinks call L L'
  others : KeepsOthers call L L'

all_stay : (call : Call) (L : List (ℕ × SyncParts)) → LeavesLinks call L L
all_stay call L = record { moves = stays call L; others = λ n h. refl }

-- one link changed, and nothing else
link_keeps : (p p' : PeerState) (call : Call) (reply : Reply) (L : List (ℕ × SyncParts)) → reply ≢ Refused JournalFailed → LeavesLinks call p.links L → p' ≡ record p { links = L } → Keeps p call reply p'
link_keeps p p' call reply L other links e = subst (λ (q : PeerState). Keeps p call reply q) (sym e) (record {
  id = refl;
  actor = refl;
  new = [];
  applied = sym (append-nil p.applied);
  few = few_none p call;
  fits = tt;
  limits = λ c i. absurd i;
  still = λ s. refl;
  waits = λ c i. In-left c p.waiting (came p call) i;
  few_wait = λ h. h;
  links = links.moves;
  others = links.others;
  journal = inl (record { journal = sym (append-nil p.journal); device = refl; goes_on = refl; answered = other });
})

-- nothing changed
pub same_keeps : (p p' : PeerState) (call : Call) (reply : Reply) → reply ≢ Refused JournalFailed → p' ≡ p → Keeps p call reply p'
same_keeps p p' call reply other e = link_keeps p p' call reply p.links other (all_stay call p.links) e

-- one change entered by an edit
pub edit_keeps : (p p' : PeerState) (call : Call) (reply : Reply) (c : ChangeParts) → reply ≢ Refused JournalFailed → AreFew p call (c ∷ []) → p.stopped ≡ false
    → cause p.applied c ≡ None → IsChange c → p' ≡ peer_with_change p c → Keeps p call reply p'
edit_keeps p p' call reply c other few running fits limits e = subst (λ (q : PeerState). Keeps p call reply q) (sym e) (record {
  id = refl;
  actor = refl;
  new = c ∷ [];
  applied = refl;
  few = few;
  fits = (fits, tt);
  limits = λ d i. elim i [ inl same ↦ subst IsChange (sym same) limits | inr none ↦ absurd none ];
  still = λ s. never s running;
  waits = λ d i. In-left d p.waiting (came p call) i;
  few_wait = λ h. h;
  links = stays call p.links;
  others = λ n h. refl;
  journal = inl (record { journal = ap (λ l. p.journal ++ l) (sym (append-nil (record_of c))); device = refl; goes_on = refl; answered = other });
})

-- the device failed before a change entered
stops_keeps : (p p' : PeerState) (call : Call) (bytes : List ℕ) → p.stopped ≡ false → p' ≡ record p { journal = p'.journal; device = p'.device; stopped = true }
    → IsTorn p.applied bytes → p'.journal ≡ p.journal ++ bytes → DeviceFails p.device p'.device → Keeps p call (Refused JournalFailed) p'
stops_keeps p p' call bytes running left torn content device = record {
  id = ap (λ (q : PeerState). q.id) left;
  actor = ap (λ (q : PeerState). q.actor) left;
  new = [];
  applied = ap (λ (q : PeerState). q.applied) left ∙ sym (append-nil p.applied);
  few = few_none p call;
  fits = tt;
  limits = λ d i. absurd i;
  still = λ t. refl;
  waits = λ d i. In-left d p.waiting (came p call) (subst (In d) (ap (λ (q : PeerState). q.waiting) left) i);
  few_wait = λ h. subst (λ (W : List ChangeParts). length W ≤ most_waiting) (sym (ap (λ (q : PeerState). q.waiting) left)) h;
  links = subst (MovesLinks call p.links) (sym (ap (λ (q : PeerState). q.links) left)) (stays call p.links);
  others = λ n h. ap (λ (q : PeerState). known_of q.links n) left;
  journal = inr (record {
    bytes = bytes;
    torn = subst (λ C. IsTorn C bytes) (sym (ap (λ (q : PeerState). q.applied) left)) torn;
    journal = content;
    device = device;
    running = running;
    stopped = ap (λ (q : PeerState). q.stopped) left;
    answered = refl;
  });
}

-- in an edit
pub edit_tears : (p p' : PeerState) (call : Call) (c : ChangeParts) → p.stopped ≡ false → cause p.applied c ≡ None → StopsAppending p c p' → Keeps p call (Refused JournalFailed) p'
edit_tears p p' call c running fits s =
    stops_keeps p p' call (take s.tears.part.0 (record_of c)) running s.left
    (inr (record { change = c; limits = s.tears.limits; fits = fits; count = s.tears.part.0; torn = refl })) s.tears.part.1 (true, s.tears.device)

-- as the journal was settled
unsettled_keeps : (p p' : PeerState) (call : Call) → p.stopped ≡ false → StopsUnsettled p p' → Keeps p call (Refused JournalFailed) p'
unsettled_keeps p p' call running s =
    stops_keeps p p' call [] running s.left (inl refl) (s.unsettled.content ∙ sym (append-nil p.journal)) (false, s.unsettled.device)

-- its links are those of another
links_left : (p q : PeerState) → q.links ≡ p.links → q ≡ record q { links = p.links }
links_left p q e = ap (λ (L : List (ℕ × SyncParts)). record q { links = L }) e

-- changes were received
received_keeps : (p p' : PeerState) (call : Call) (K : List ChangeParts) (L : List (ℕ × SyncParts)) (reply : Reply) (q : PeerState) → came p call ≡ K → reply ≢ Refused JournalFailed → p.stopped ≡ false
    → (t : Reaches p K q) → ((at : Intake JournalState) (a : Advances p K at) → AreFew p call a.new) → LeavesLinks call p.links L → p' ≡ record q { links = L } → Keeps p call reply p'
received_keeps p p' call K L reply q is kept running t few links e =
    let a = run_advances p K t.at t.run in
    subst (λ (q : PeerState). Keeps p call reply q) (sym (e ∙ ap (λ (x : PeerState). record x { links = L }) t.left)) (record {
      id = refl;
      actor = refl;
      new = a.new;
      applied = a.grows.begins;
      few = few t.at a;
      fits = a.grows.fits;
      limits = a.appended.limits;
      still = λ s. never s running;
      waits = subst (λ (D : List ChangeParts). AllIn t.at.waiting (p.waiting ++ D)) (sym is) a.waits;
      few_wait = a.few_wait;
      links = links.moves;
      others = links.others;
      journal = inl (record { journal = a.appended.content; device = a.appended.device; goes_on = refl; answered = kept });
    })

-- the device failed in an append, once others were made
fails_after : (new : List ChangeParts) (d k d' : Device) → k ≡ after_appends new d → DeviceFailsOnce true k d' → DeviceFails d d'
fails_after [] d k d' e f = (true, subst (λ (x : Device). DeviceFailsOnce true x d') e f)
fails_after (c ∷ new) d k d' e f =
    let g = subst (λ (x : Device). DeviceFailsOnce true x d') e f in
    (true, record { could = or_right (is_some d.fuse) d.can_fail g.could; counted = g.counted; calm = g.calm; fuse = g.fuse })

-- changes were received until the device failed
received_tears : (p p' : PeerState) (call : Call) (K : List ChangeParts) → came p call ≡ K → p.stopped ≡ false → ReceivesAndAppends p K (outcome.Stopped receive.NotKept) p' → ((at : Intake JournalState) (a : Advances p K at) → AreFew p call a.new)
    → Keeps p call (Refused JournalFailed) p'
received_tears p p' call K is running t few =
    let x = t.receives.1 in
    let a = run_advances p K x.at x.run in
    let c = x.by.change in
    let tears = x.by.refused in
    let part = tears.part in
    record {
      id = ap (λ (q : PeerState). q.id) t.left;
      actor = ap (λ (q : PeerState). q.actor) t.left;
      new = a.new;
      applied = x.applied ∙ a.grows.begins;
      few = few x.at a;
      fits = a.grows.fits;
      limits = a.appended.limits;
      still = λ z. never z running;
      waits = λ d i. subst (λ (D : List ChangeParts). AllIn x.at.waiting (p.waiting ++ D)) (sym is) a.waits d (subst (In d) x.waiting i);
      few_wait = λ h. subst (λ (W : List ChangeParts). length W ≤ most_waiting) (sym x.waiting) (a.few_wait h);
      links = subst (MovesLinks call p.links) (sym (ap (λ (q : PeerState). q.links) t.left)) (stays call p.links);
      others = λ n h. ap (λ (q : PeerState). known_of q.links n) t.left;
      journal = inr (record {
        bytes = take part.0 (record_of c);
        torn = inr (record { change = c; limits = tears.limits; fits = subst (λ C. cause C c ≡ None) (sym x.applied) x.by.fits; count = part.0; torn = refl });
        journal = part.1 ∙ ap (λ l. l ++ take part.0 (record_of c)) a.appended.content ∙ append_assoc p.journal (bytes_of_records a.new) (take part.0 (record_of c));
        device = fails_after a.new p.device x.at.keeper.device p'.device a.appended.device tears.device;
        running = running;
        stopped = ap (λ (q : PeerState). q.stopped) t.left;
        answered = refl;
      });
    }

-- ---- messages

-- what a message carries comes
carries : (p : PeerState) (link : ℕ) (bytes : List ℕ) (m : MessageParts) → Decodes bytes m → came p (Receive link bytes) ≡ m.changes
carries p link bytes m d = ap decoded_changes d.reads

-- and enters with what waited at most
few_enter : (p : PeerState) (link : ℕ) (bytes : List ℕ) (m : MessageParts) → Decodes bytes m → (at : Intake JournalState) (a : Advances p m.changes at) → AreFew p (Receive link bytes) a.new
few_enter p link bytes m d at a = let few = a.few in let most = d.limits.few in omega arith

-- the link alone is changed
one_changes : (p : PeerState) (call : Call) (link : ℕ) (s : SyncParts) → TouchesLink p.links link (with_link p.links link s) → MovesLinks call p.links (with_link p.links link s) → ((n : ℕ) → is_on call n ≡ (link == n))
    → LeavesLinks call p.links (with_link p.links link s)
one_changes p call link s touches moves is = record { moves = moves; others = λ n h. other_with p.links link n s (sym (is n) ∙ h) }

hears_keeps : (p p' : PeerState) (link : ℕ) (bytes : List ℕ) (r : Report) (same : Bool) → p.stopped ≡ false → ReceivesMessage p link bytes r same p' → Keeps p (Receive link bytes) (Received r same) p'
hears_keeps p p' link bytes r same running h =
    let m = h.message in
    let s = after_message (known_of p.links link) m in
    let touches : TouchesLink p.links link (with_link p.links link s) = inr (s, h.place, refl) in
    received_keeps p p' (Receive link bytes) m.changes (with_link p.links link s) (Received r same) h.taken (carries p link bytes m h.decodes) (λ x. cc) running
    (reaches_all p m.changes r h.taken h.takes) (few_enter p link bytes m h.decodes) (one_changes p (Receive link bytes) link s touches touches (λ n. refl))
    (h.left ∙ relinked h.taken h.takes.left) where
      -- receiving left the links as they were
      relinked : (q : PeerState) → q ≡ record p { applied = q.applied; waiting = q.waiting; journal = q.journal; device = q.device }
          → knowing q link (after_message (known_of p.links link) h.message) ≡ record q { links = with_link p.links link (after_message (known_of p.links link) h.message) }
      relinked q e = ap (λ (L : List (ℕ × SyncParts)). record q { links = with_link L link (after_message (known_of p.links link) h.message) }) (ap (λ (x : PeerState). x.links) e)

receive_refused : (p p' : PeerState) (link : ℕ) (bytes : List ℕ) (e : PeerError) → p.stopped ≡ false → RefusesReceive p link bytes e p' → Keeps p (Receive link bytes) (Refused e) p'
receive_refused p p' link bytes TooManyLinks running s = same_keeps p p' (Receive link bytes) (Refused TooManyLinks) (λ x. cc) s.1
receive_refused p p' link bytes (Sync e) running s = same_keeps p p' (Receive link bytes) (Refused (Sync e)) (λ x. cc) s.2
receive_refused p p' link bytes JournalFailed running s =
    let h = s.1 in
    received_tears p p' (Receive link bytes) h.message.changes (carries p link bytes h.message h.decodes) running h.takes (few_enter p link bytes h.message h.decodes)
receive_refused p p' link bytes OutOfMemory running s = elim s.1 [
  | inl same ↦ same_keeps p p' (Receive link bytes) (Refused OutOfMemory) (λ x. cc) same
  | inr h ↦
      received_keeps p p' (Receive link bytes) h.message.changes p.links (Refused OutOfMemory) p' (carries p link bytes h.message h.decodes) (λ x. cc) running
      (reaches_part p h.message.changes p' h.takes) (few_enter p link bytes h.message h.decodes) (all_stay (Receive link bytes) p.links) (links_left p p' (ap (λ (x : PeerState). x.links) h.takes.left))
]
receive_refused p p' link bytes _ running s = absurd s

speaks_keeps : (p p' : PeerState) (link : ℕ) (sent : Option (List ℕ × Bool)) → Speaks p link sent p' → Keeps p (Generate link) (Generated sent) p'
speaks_keeps p p' link None s = same_keeps p p' (Generate link) (Generated None) (λ x. cc) s.left
speaks_keeps p p' link (Some sent) s =
    let touches : TouchesLink p.links link (with_link p.links link s.state) = inr (s.state, s.place, refl) in
    link_keeps p p' (Generate link) (Generated (Some sent)) (with_link p.links link s.state) (λ x. cc)
    (one_changes p (Generate link) link s.state touches touches (λ n. refl)) s.left

generate_refused : (p p' : PeerState) (link : ℕ) (e : PeerError) → p.stopped ≡ false → RefusesGenerate p link e p' → Keeps p (Generate link) (Refused e) p'
generate_refused p p' link JournalFailed running s = unsettled_keeps p p' (Generate link) running s
generate_refused p p' link TooManyLinks running s = same_keeps p p' (Generate link) (Refused TooManyLinks) (λ x. cc) s.1
generate_refused p p' link (Sync e) running s = same_keeps p p' (Generate link) (Refused (Sync e)) (λ x. cc) s.3
generate_refused p p' link OutOfMemory running s = same_keeps p p' (Generate link) (Refused OutOfMemory) (λ x. cc) s.1
generate_refused p p' link _ running s = absurd s

forgets_keeps : (p p' : PeerState) (link : ℕ) → p' ≡ record p { links = without_link p.links link } → Keeps p (Forget link) Forgotten p'
forgets_keeps p p' link e =
    link_keeps p p' (Forget link) Forgotten (without_link p.links link) (λ x. cc)
    (record { moves = inr refl; others = λ n h. other_without p.links link n h }) e

-- ---- all steps

edit_refused : (p p' : PeerState) (call : Call) (asked : EditRequest) (e : PeerError) → p.stopped ≡ false → RefusesEdit p asked e p' → Keeps p call (Refused e) p'
edit_refused p p' call asked (Doc e) running s = same_keeps p p' call (Refused (Doc e)) (λ x. cc) s.2
edit_refused p p' call asked OutOfMemory running s = same_keeps p p' call (Refused OutOfMemory) (λ x. cc) s
edit_refused p p' call asked JournalFailed running s = edit_tears p p' call s.0 running s.1.enters s.2
edit_refused p p' call asked _ running s = absurd s

merge_refused : (p p' other : PeerState) (e : PeerError) → p.stopped ≡ false → RefusesMerge p other e p' → Keeps p (Merge other) (Refused e) p'
merge_refused p p' other (Doc e) running s = same_keeps p p' (Merge other) (Refused (Doc e)) (λ x. cc) s.1
merge_refused p p' other OutOfMemory running s =
    let K = absent p.applied other.applied in
    received_keeps p p' (Merge other) K p.links (Refused OutOfMemory) p' refl (λ x. cc) running (reaches_part p K p' s.1) (λ at a. tt) (all_stay (Merge other) p.links) (links_left p p' (ap (λ (x : PeerState). x.links) s.1.left))
merge_refused p p' other JournalFailed running s = received_tears p p' (Merge other) (absent p.applied other.applied) refl running s.1 (λ at a. tt)
merge_refused p p' other _ running s = absurd s

text_refused : (p p' : PeerState) (call : Call) (H : List Hash) (e : PeerError) → RefusesText p H e → p' ≡ p → Keeps p call (Refused e) p'
text_refused p p' call H (Doc e) s same = same_keeps p p' call (Refused (Doc e)) (λ x. cc) same
text_refused p p' call H OutOfMemory s same = same_keeps p p' call (Refused OutOfMemory) (λ x. cc) same
text_refused p p' call H _ s same = absurd s

pub runs_keep : (p : PeerState) (call : Call) (reply : Reply) (p' : PeerState) → p.stopped ≡ false → Runs p call reply p' → Keeps p call reply p'
runs_keep p (Edit ss t m) (Made None) p' running s = same_keeps p p' (Edit ss t m) (Made None) (λ x. cc) s.1
runs_keep p (Edit ss t m) (Made (Some h)) p' running s =
    edit_keeps p p' (Edit ss t m) (Made (Some h)) s.0 (λ x. cc) (omega arith) running s.1.enters s.1.limits s.3
runs_keep p (Edit ss t m) (Refused e) p' running s = edit_refused p p' (Edit ss t m) (asking p.actor ss t m) e running s
runs_keep p (Merge other) (Merged r) p' running s =
    let K = absent p.applied other.applied in
    received_keeps p p' (Merge other) K p.links (Merged r) p' refl (λ x. cc) running (reaches_all p K r p' s.1) (λ at a. tt) (all_stay (Merge other) p.links) (links_left p p' (ap (λ (x : PeerState). x.links) s.1.left))
runs_keep p (Merge other) (Refused e) p' running s = merge_refused p p' other e running s
runs_keep p Read (Text t) p' running s = same_keeps p p' Read (Text t) (λ x. cc) s.1
runs_keep p Read (Refused e) p' running s = same_keeps p p' Read (Refused e) (λ x. let e_is = s.0 in cc) s.1
runs_keep p (ReadAt H) (Text t) p' running s = same_keeps p p' (ReadAt H) (Text t) (λ x. cc) s.2
runs_keep p (ReadAt H) (Refused e) p' running s = text_refused p p' (ReadAt H) H e s.0 s.1
runs_keep p ReadHeads (Heads hs) p' running s = same_keeps p p' ReadHeads (Heads hs) (λ x. cc) s.1
runs_keep p (Receive link bytes) (Received r same) p' running s = hears_keeps p p' link bytes r same running s
runs_keep p (Receive link bytes) (Refused e) p' running s = receive_refused p p' link bytes e running s
runs_keep p (Generate link) (Generated sent) p' running s = speaks_keeps p p' link sent s
runs_keep p (Generate link) (Refused e) p' running s = generate_refused p p' link e running s
runs_keep p (Forget link) Forgotten p' running s = forgets_keeps p p' link s
runs_keep p _ _ p' running s = absurd s

-- a test that chose between two facts
cases_chosen : {A B : Type 0} (b : Bool) → MatchBool b A B → ((b ≡ true) × A) ⊎ ((b ≡ false) × B)
cases_chosen true h = inl (refl, h)
cases_chosen false h = inr (refl, h)

running_of : (p : PeerState) (call : Call) → needs_stopped p call ≡ false → p.stopped ≡ false
running_of p (Edit ss t m) h = h
running_of p (Merge other) h = neither_left p.stopped other.stopped h
running_of p (Receive link bytes) h = h
running_of p (Generate link) h = h
running_of p (Forget link) h = h
running_of p Read h = h
running_of p (ReadAt H) h = h
running_of p ReadHeads h = h

-- what every step is: refused since a peer has stopped, or one of a running peer
pub step_cases : (p : PeerState) (call : Call) (reply : Reply) (p' : PeerState) → PeerStep p call reply p' → ((reply ≡ Refused error.Stopped) × (p' ≡ p)) ⊎ ((p.stopped ≡ false) × Runs p call reply p')
unfolding PeerStep
step_cases p call reply p' s =
    elim (cases_chosen (needs_stopped p call) s) [ inl stopped ↦ inl stopped.1 | inr runs ↦ inr (running_of p call runs.0, runs.1) ]

pub step_keeps : (p : PeerState) (call : Call) (reply : Reply) (p' : PeerState) → PeerStep p call reply p' → Keeps p call reply p'
step_keeps p call reply p' s =
    elim (step_cases p call reply p' s) [
      | inl stopped ↦ same_keeps p p' call reply (λ x. let is = stopped.0 in cc) stopped.1
      | inr runs ↦ runs_keep p call reply p' runs.0 runs.1
    ]

-- ---- what every peer keeps

-- the journal of longer changes
pub journal_grows : (p p' : PeerState) (new : List ChangeParts) (rest : List ℕ) → p'.id ≡ p.id → p'.applied ≡ p.applied ++ new → p.journal ≡ journal p.id p.applied
    → p.journal ++ (bytes_of_records new ++ rest) ≡ journal p'.id p'.applied ++ rest
journal_grows p p' new rest id applied is =
    ap (λ l. l ++ (bytes_of_records new ++ rest)) is
    ∙ sym (append_assoc (journal p.id p.applied) (bytes_of_records new) rest)
    ∙ ap (λ l. l ++ rest) (sym (journal-append p.id p.applied new) ∙ ap (λ C. journal p.id C) (sym applied) ∙ ap (λ (i : DocId). journal i p'.applied) (sym id))

-- the journal of a peer that runs
pub running_journal : (s : Bool) (id : DocId) (C : List ChangeParts) (content : List ℕ) → s ≡ false → HasJournal s id C content → content ≡ journal id C
running_journal false id C content running h = h
running_journal true id C content running h = absurd cc

kept_on : (p p' : PeerState) (reply : Reply) (new : List ChangeParts) (s : Bool) → p.stopped ≡ s → p'.id ≡ p.id → p'.applied ≡ p.applied ++ new → (s ≡ true → new ≡ [])
    → HasJournal s p.id p.applied p.journal → Appends p new reply p' → HasJournal s p'.id p'.applied p'.journal
kept_on p p' reply new false is id applied still h a =
    a.journal ∙ ap (λ l. p.journal ++ l) (sym (append-nil (bytes_of_records new))) ∙ journal_grows p p' new [] id applied h ∙ append-nil (journal p'.id p'.applied)
kept_on p p' reply new true is id applied still h a =
    let none : new ≡ [] = still refl in
    let content : p'.journal ≡ p.journal = a.journal ∙ ap (λ (l : List ChangeParts). p.journal ++ bytes_of_records l) none ∙ append-nil p.journal in
    let same : p'.applied ≡ p.applied = applied ∙ ap (λ (l : List ChangeParts). p.applied ++ l) none ∙ append-nil p.applied in (
      h.0,
      subst (λ (C : List ChangeParts). IsTorn C h.0) (sym same) h.1,
      content ∙ h.2 ∙ ap (λ (C : List ChangeParts). journal p.id C ++ h.0) (sym same) ∙ ap (λ (i : DocId). journal i p'.applied ++ h.0) (sym id),
    )

pub keeping_leaves_peer : (p : PeerState) (call : Call) (reply : Reply) (p' : PeerState) → IsPeer p → Keeps p call reply p' → IsPeer p'
keeping_leaves_peer p call reply p' h k =
    record {
      is_id = subst IsDocId (sym k.id) h.is_id;
      history = subst IsHistory (sym k.applied) (history_grows k.new p.applied h.history k.fits k.limits);
      kept = elim k.journal [
        | inl a ↦ subst (λ b. HasJournal b p'.id p'.applied p'.journal) (sym a.goes_on) (kept_on p p' reply k.new p.stopped refl k.id k.applied k.still h.kept a)
        | inr t ↦ subst (λ b. HasJournal b p'.id p'.applied p'.journal) (sym t.stopped)
            (t.bytes, t.torn, t.journal ∙ journal_grows p p' k.new t.bytes k.id k.applied (running_journal p.stopped p.id p.applied p.journal t.running h.kept))
      ];
      few = k.few_wait h.few;
      links = moves_leave call p.links p'.links k.links h.links;
    }

pub step_leaves_peer : (p : PeerState) (call : Call) (reply : Reply) (p' : PeerState) → IsPeer p → PeerStep p call reply p' → IsPeer p'
step_leaves_peer p call reply p' h s = keeping_leaves_peer p call reply p' h (step_keeps p call reply p' s)

-- ---- making steps

-- a call that a stopped peer keeps from going on
pub step_stopped : (p : PeerState) (call : Call) → needs_stopped p call ≡ true → PeerStep p call (Refused error.Stopped) p
unfolding PeerStep
step_stopped p call is = subst (λ b. MatchBool b ((Refused error.Stopped ≡ Refused error.Stopped) × (p ≡ p)) (Runs p call (Refused error.Stopped) p)) (sym is) (refl, refl)

-- a call on running peers
pub step_runs : (p : PeerState) (call : Call) (reply : Reply) (p' : PeerState) → needs_stopped p call ≡ false → Runs p call reply p' → PeerStep p call reply p'
unfolding PeerStep
step_runs p call reply p' is runs = subst (λ b. MatchBool b ((reply ≡ Refused error.Stopped) × (p' ≡ p)) (Runs p call reply p')) (sym is) runs
