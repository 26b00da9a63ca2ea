-- What calls leave of a peer.
use Rattle.tp_headline.proofs.Common.{length, ◌≤◌, arith, append-nil, ◌≡◌, ◌⊎◌, inl, inr, ℕ, List, [], ◌∷◌, ◌++◌, take, Bool, true, false, Some, None, refl, sym, ap, ◌∙◌, subst, append_assoc, append_cancel_left, In, AllIn, ChangeParts, IsChange, AllChanges, absent, record_of, bytes_of_records, Outcome, Done, Stopped, ReceivesWith, at_end, EntersAfter, AppendsRecord, JournalState, RefusesRecord, Appends, AreFew, came, changes_in, decoded_changes, Keeps, known_of, PeerState, Device, DeviceFails, after_appends, infallible, disarming, ReceivesAndAppends, receiver_of, coming, run_advances, step_cases, step_keeps, message_at, message_changes-In, message_again, IsMessageOf, MayEnter, IsEditOf}
use Rattle.tp_edit.specs.declared.splice.Splice.{Splice}
use Rattle.tp_receive.specs.declared.error.ReceiveError.{ReceiveError}
use Rattle.tp_receive.specs.Intake.{Intake, Receiver, SomeTurns}
use Rattle.tp_receive.proofs.TurnLaws.{SomeTurns-one, SomeTurns-then}
use Rattle.tp_peer.specs.PeerStep.{Call, Edit, Merge, Receive, Generate, Read, ReadAt, Decodes, HearsPart, Reply, Made, Merged, Received, Generated, Refused, PeerStep, Runs}
use Rattle.tp_peer.proofs.PeerLaws.{whole_turn}
use Rattle.tp_message.specs.Message.{MessageParts}
use Rattle.tp_receive.specs.declared.error.ReceiveError.TheVariants as receive
use Rattle.tp_peer.specs.declared.error.PeerError.TheVariants as error

-- ---- what a call may enter

-- a list of applied changes grew by these alone
pub same_new : (p p' : PeerState) (new more : List ChangeParts) → p'.applied ≡ p.applied ++ new → p'.applied ≡ p.applied ++ more → new ≡ more
same_new p p' new more grown also = append_cancel_left p.applied new more (sym grown ∙ also)

pub none_new : (p p' : PeerState) (new : List ChangeParts) → p'.applied ≡ p.applied ++ new → p'.applied ≡ p.applied → new ≡ []
none_new p p' new grown same = same_new p p' new [] grown (same ∙ sym (append-nil p.applied))

none_In : (new K : List ChangeParts) → new ≡ [] → AllIn new K
none_In new K none c i = absurd (subst (λ l. In c l) none i)

pub as_it_was : (p p' : PeerState) → p' ≡ p → p'.applied ≡ p.applied
as_it_was p p' same = ap (λ (x : PeerState). x.applied) same

-- what receiving entered waited or came
taken : (p : PeerState) (K : List ChangeParts) (o : Outcome) (p' : PeerState) (new : List ChangeParts) → p'.applied ≡ p.applied ++ new → ReceivesAndAppends p K o p' → AllIn new (p.waiting ++ K)
taken p K o p' new grown t = by o t.receives where
  reached : (at : Intake JournalState) → SomeTurns AppendsRecord (coming p K) at → p'.applied ≡ at.applied → AllIn new (p.waiting ++ K)
  reached at run is =
      let a = run_advances p K at run in
      subst (λ l. AllIn l (p.waiting ++ K)) (same_new p p' a.new new (is ∙ a.grows.begins) grown) a.grows.came

  by : (o : Outcome) → ReceivesWith AppendsRecord RefusesRecord (receiver_of p) K (receiver_of p') o → AllIn new (p.waiting ++ K)
  by (Done r) h = reached (at_end (receiver_of p') r) h.run refl
  by (Stopped receive.PendingFull) h = none_In new (p.waiting ++ K) (none_new p p' new grown (ap (λ (s : Receiver JournalState). s.applied) h.1))
  by (Stopped receive.NotKept) h = reached h.1.at h.1.run h.1.applied
  by (Stopped receive.OutOfMemory) h = reached h.1.at h.1.run h.1.applied

-- What a call that was answered so entered: an edit the change that it made, and any other call changes that waited or
-- came.
abbrev pub Entered : PeerState → Call → Reply → List ChangeParts → Type 0
Entered p (Edit ss time message) (Made (Some hash)) new = (c : ChangeParts) × IsEditOf p (Edit ss time message) c × (new ≡ c ∷ [])
Entered p (Edit ss time message) answer new = new ≡ []
Entered p made (Made (Some hash)) new = ⊥
Entered p made answer new = AllIn new (p.waiting ++ came p made)

edit_entered : (p : PeerState) (ss : List Splice) (time : ℕ) (message : List ℕ) (answer : Reply) (p' : PeerState) (new : List ChangeParts) → p'.applied ≡ p.applied ++ new
    → Runs p (Edit ss time message) answer p' → Entered p (Edit ss time message) answer new
edit_entered p ss time message (Made None) p' new grown h = none_new p p' new grown (as_it_was p p' h.1)
edit_entered p ss time message (Made (Some hash)) p' new grown h = (h.0, h.1, same_new p p' new (h.0 ∷ []) grown (ap (λ (x : PeerState). x.applied) h.3))
edit_entered p ss time message (Refused (error.Doc e)) p' new grown h = none_new p p' new grown (as_it_was p p' h.2)
edit_entered p ss time message (Refused error.OutOfMemory) p' new grown h = none_new p p' new grown (as_it_was p p' h)
edit_entered p ss time message (Refused error.JournalFailed) p' new grown h = none_new p p' new grown (ap (λ (x : PeerState). x.applied) h.2.left)
edit_entered p ss time message _ p' new grown h = absurd h

merge_entered : (p other : PeerState) (answer : Reply) (p' : PeerState) (new : List ChangeParts) → p'.applied ≡ p.applied ++ new → Runs p (Merge other) answer p' → Entered p (Merge other) answer new
merge_entered p other (Merged r) p' new grown h = taken p (absent p.applied other.applied) (Done r) p' new grown h.1
merge_entered p other (Refused (error.Doc e)) p' new grown h = none_In new (p.waiting ++ absent p.applied other.applied) (none_new p p' new grown (as_it_was p p' h.1))
merge_entered p other (Refused error.JournalFailed) p' new grown h = taken p (absent p.applied other.applied) (Stopped receive.NotKept) p' new grown h.1
merge_entered p other (Refused error.OutOfMemory) p' new grown h = taken p (absent p.applied other.applied) (Stopped receive.OutOfMemory) p' new grown h.1
merge_entered p other _ p' new grown h = absurd h

-- what the changes of a message entered
heard : (p : PeerState) (bytes : List ℕ) (m : MessageParts) (o : Outcome) (p' : PeerState) (new : List ChangeParts) → p'.applied ≡ p.applied ++ new → Decodes bytes m → ReceivesAndAppends p m.changes o p'
    → AllIn new (p.waiting ++ changes_in bytes)
heard p bytes m o p' new grown d t = subst (λ (K : List ChangeParts). AllIn new (p.waiting ++ K)) (sym (ap decoded_changes d.reads)) (taken p m.changes o p' new grown t)

heard_part : (p : PeerState) (bytes : List ℕ) (why : ReceiveError) (p' : PeerState) (new : List ChangeParts) → p'.applied ≡ p.applied ++ new → HearsPart p bytes why p' → AllIn new (p.waiting ++ changes_in bytes)
heard_part p bytes why p' new grown h = heard p bytes h.message (Stopped why) p' new grown h.decodes h.takes

receive_entered : (p : PeerState) (link : ℕ) (bytes : List ℕ) (answer : Reply) (p' : PeerState) (new : List ChangeParts) → p'.applied ≡ p.applied ++ new → Runs p (Receive link bytes) answer p'
    → Entered p (Receive link bytes) answer new
receive_entered p link bytes (Received r same) p' new grown h =
    heard p bytes h.message (Done r) h.taken new (sym (ap (λ (x : PeerState). x.applied) h.left) ∙ grown) h.decodes h.takes
receive_entered p link bytes (Refused error.TooManyLinks) p' new grown h = none_In new (p.waiting ++ changes_in bytes) (none_new p p' new grown (as_it_was p p' h.1))
receive_entered p link bytes (Refused (error.Sync e)) p' new grown h = none_In new (p.waiting ++ changes_in bytes) (none_new p p' new grown (as_it_was p p' h.2))
receive_entered p link bytes (Refused error.JournalFailed) p' new grown h = heard_part p bytes receive.NotKept p' new grown h.1
receive_entered p link bytes (Refused error.OutOfMemory) p' new grown h = elim h.1 [
  | inl same ↦ none_In new (p.waiting ++ changes_in bytes) (none_new p p' new grown (as_it_was p p' same))
  | inr part ↦ heard_part p bytes receive.OutOfMemory p' new grown part
]
receive_entered p link bytes _ p' new grown h = absurd h

run_entered : (p : PeerState) (made : Call) (answer : Reply) (p' : PeerState) (new : List ChangeParts) → AreFew p made new → p'.applied ≡ p.applied ++ new → Runs p made answer p' → Entered p made answer new
run_entered p (Edit ss time message) answer p' new few grown h = edit_entered p ss time message answer p' new grown h
run_entered p (Merge other) answer p' new few grown h = merge_entered p other answer p' new grown h
run_entered p (Receive link bytes) answer p' new few grown h = receive_entered p link bytes answer p' new grown h
run_entered p made (Made (Some hash)) p' new few grown h = absurd h
run_entered p made answer p' new few grown h = none_In new (p.waiting ++ []) few

-- a stopped peer entered nothing
stopped_entered : (p : PeerState) (made : Call) (new : List ChangeParts) → new ≡ [] → Entered p made (Refused error.Stopped) new
stopped_entered p (Edit ss time message) new none = none
stopped_entered p made new none = none_In new (p.waiting ++ came p made) none

entered : (p : PeerState) (made : Call) (answer : Reply) (p' : PeerState) (new : List ChangeParts) → AreFew p made new → p'.applied ≡ p.applied ++ new → PeerStep p made answer p' → Entered p made answer new
entered p made answer p' new few grown step = elim (step_cases p made answer p' step) [
  | inl stopped ↦ subst (λ a. Entered p made a new) (sym stopped.0) (stopped_entered p made new (none_new p p' new grown (as_it_was p p' stopped.1)))
  | inr runs ↦ run_entered p made answer p' new few grown runs.1
]

pub may_enter : (p : PeerState) (made : Call) (answer : Reply) (new : List ChangeParts) → Entered p made answer new → MayEnter p made new
may_enter p (Edit ss time message) (Made (Some hash)) new e = inr e
may_enter p (Edit ss time message) answer new e = inl e
may_enter p made (Made (Some hash)) new e = absurd e
may_enter p made answer new e = e

-- ---- what a call leaves

-- The peer entered changes, and their records were appended. Its device didn't fail.
pub record Enters (p : PeerState) (made : Call) (answer : Reply) (p' : PeerState) : Type 0 where
  pub new : List ChangeParts
  pub applied : p'.applied ≡ p.applied ++ new
  pub entered : Entered p made answer new
  pub fits : EntersAfter p.applied new
  pub limits : AllChanges new
  pub waits : AllIn p'.waiting (p.waiting ++ came p made)
  pub journal : p'.journal ≡ p.journal ++ bytes_of_records new
  pub id : p'.id ≡ p.id
  pub actor : p'.actor ≡ p.actor
  pub stopped : p'.stopped ≡ p.stopped
  pub calm : p.device.can_fail ≡ false → p'.device.can_fail ≡ false

-- The device failed while the record of one change more was appended, or the journal settled, and the peer has stopped.
pub record Stops (p : PeerState) (made : Call) (p' : PeerState) : Type 0 where
  pub new : List ChangeParts
  pub torn : List ChangeParts
  pub one : length torn ≤ 1
  pub applied : p'.applied ≡ p.applied ++ new
  pub may : MayEnter p made (new ++ torn)
  pub fits : EntersAfter p.applied (new ++ torn)
  pub limits : AllChanges (new ++ torn)
  pub count : ℕ
  pub journal : p'.journal ≡ p.journal ++ (bytes_of_records new ++ take count (bytes_of_records torn))

-- what receiving left where the device failed
torn_takes : (p : PeerState) (made : Call) (K : List ChangeParts) (p' : PeerState) → ((new : List ChangeParts) → AllIn new (p.waiting ++ K) → MayEnter p made new) → ReceivesAndAppends p K (Stopped receive.NotKept) p'
    → Stops p made p'
torn_takes p made K p' may t =
    let s = t.receives.1 in
    let c = s.by.change in
    let tears = s.by.refused in
    let w = whole_turn s.at s.by.rest c s.by.next s.by.fits tears.limits in
    let run = SomeTurns-then AppendsRecord (coming p K) s.at w.0 s.run (SomeTurns-one AppendsRecord s.at w.0 w.1) in
    let a = run_advances p K s.at s.run in
    let b = run_advances p K w.0 run in
    let same : b.new ≡ a.new ++ c ∷ [] =
    append_cancel_left p.applied b.new (a.new ++ c ∷ []) (sym b.grows.begins ∙ w.2 ∙ ap (λ C. C ++ c ∷ []) a.grows.begins ∙ append_assoc p.applied a.new (c ∷ [])) in
    let count = tears.part.0 in
    record {
      new = a.new;
      torn = c ∷ [];
      one = omega arith;
      applied = s.applied ∙ a.grows.begins;
      may = may (a.new ++ c ∷ []) (subst (λ l. AllIn l (p.waiting ++ K)) same b.grows.came);
      fits = subst (λ l. EntersAfter p.applied l) same b.grows.fits;
      limits = subst AllChanges same b.appended.limits;
      count = count;
      journal = tears.part.1 ∙ ap (λ l. l ++ take count (record_of c)) a.appended.content ∙ append_assoc p.journal (bytes_of_records a.new) (take count (record_of c))
          ∙ ap (λ l. p.journal ++ (bytes_of_records a.new ++ take count l)) (sym (append-nil (record_of c)));
    }

stops : (p : PeerState) (made : Call) (p' : PeerState) → Runs p made (Refused error.JournalFailed) p' → Stops p made p'
stops p (Edit ss time message) p' h =
    let c = h.0 in
    let tears = h.2.tears in
    record {
      new = [];
      torn = c ∷ [];
      one = omega arith;
      applied = ap (λ (x : PeerState). x.applied) h.2.left ∙ sym (append-nil p.applied);
      may = inr (c, h.1, refl);
      fits = (h.1.enters, tt);
      limits = λ d i. elim i [ inl e ↦ subst IsChange (sym e) tears.limits | inr none ↦ absurd none ];
      count = tears.part.0;
      journal = tears.part.1 ∙ ap (λ l. p.journal ++ take tears.part.0 l) (sym (append-nil (record_of c)));
    }
stops p (Merge other) p' h = torn_takes p (Merge other) (absent p.applied other.applied) p' (λ new all. all) h.1
stops p (Receive link bytes) p' h =
    let x = h.1 in
    torn_takes p (Receive link bytes) x.message.changes p' (λ new all. subst (λ (K : List ChangeParts). AllIn new (p.waiting ++ K)) (sym (ap decoded_changes x.decodes.reads)) all) x.takes
stops p (Generate link) p' h = record {
  new = [];
  torn = [];
  one = omega arith;
  applied = ap (λ (x : PeerState). x.applied) h.left ∙ sym (append-nil p.applied);
  may = λ d i. absurd i;
  fits = tt;
  limits = λ d i. absurd i;
  count = 0;
  journal = h.unsettled.content ∙ sym (append-nil p.journal);
}
stops p Read p' h = absurd (let e = h.0 in cc)
stops p (ReadAt H) p' h = absurd h.0
stops p made p' h = absurd h

-- a call that wasn't refused as stopped ran
pub runs_of_steps : (p : PeerState) (made : Call) (answer : Reply) (p' : PeerState) → PeerStep p made answer p' → (answer ≡ Refused error.Stopped → ⊥) → Runs p made answer p'
runs_of_steps p made answer p' s on = elim (step_cases p made answer p' s) [ inl stopped ↦ absurd (on stopped.0) | inr runs ↦ runs.1 ]

-- records that were appended leave what the device can fail in
calm_appends : (new : List ChangeParts) (d d' : Device) → d' ≡ after_appends new d → d.can_fail ≡ false → d'.can_fail ≡ false
calm_appends [] d d' e calm = subst (λ (x : Device). x.can_fail ≡ false) (sym e) calm
calm_appends (c ∷ new) d d' e calm = subst (λ (x : Device). x.can_fail ≡ false) (sym e) calm

appends_enter : (p : PeerState) (made : Call) (answer : Reply) (p' : PeerState) → PeerStep p made answer p' → (k : Keeps p made answer p') → Appends p k.new answer p' → Enters p made answer p'
appends_enter p made answer p' s k a = record {
  new = k.new;
  applied = k.applied;
  entered = entered p made answer p' k.new k.few k.applied s;
  fits = k.fits;
  limits = k.limits;
  waits = k.waits;
  journal = a.journal;
  id = k.id;
  actor = k.actor;
  stopped = a.goes_on;
  calm = calm_appends k.new p.device p'.device a.device;
}

pub calm_kept : (p : PeerState) (made : Call) (answer : Reply) (p' : PeerState) → Keeps p made answer p' → p.device.can_fail ≡ false → p'.device.can_fail ≡ false
calm_kept p made answer p' k calm = elim k.journal [ inl a ↦ calm_appends k.new p.device p'.device a.device calm | inr t ↦ t.device.1.calm calm ]

-- A call that was made entered changes; or the device failed, and the peer has stopped.
pub steps_leave : (p : PeerState) (made : Call) (answer : Reply) (p' : PeerState) → PeerStep p made answer p' → Enters p made answer p' ⊎ (Stops p made p' × (p'.stopped ≡ true) × (answer ≡ Refused error.JournalFailed))
steps_leave p made answer p' s =
    let k = step_keeps p made answer p' s in
    elim k.journal [
      | inl a ↦ inl (appends_enter p made answer p' s k a)
      | inr t ↦ inr (stops p made p' (runs_of_steps p made (Refused error.JournalFailed) p' (subst (λ r. PeerStep p made r p') t.answered s) (λ e. cc)), t.stopped, t.answered)
    ]

-- a device that can't fail, and isn't set to, doesn't
infallible_stays : (d d' : Device) → DeviceFails (infallible d) d' → ⊥
infallible_stays d d' (true, f) = let could = f.could in cc
infallible_stays d d' (false, f) = let could = f.could in cc

calm_enters : (p : PeerState) (made : Call) (answer : Reply) (p' : PeerState) → PeerStep (disarming p) made answer p' → Enters (disarming p) made answer p'
calm_enters p made answer p' s =
    let q = disarming p in
    let k = step_keeps q made answer p' s in
    elim k.journal [ inl a ↦ appends_enter q made answer p' s k a | inr t ↦ absurd (infallible_stays p.device p'.device t.device) ]

-- what a device does is nothing to what comes and what is entered
same_came : (p : PeerState) (made : Call) → came (disarming p) made ≡ came p made
same_came p (Merge other) = refl
same_came p (Receive link bytes) = refl
same_came p made = refl

same_entered : (p : PeerState) (made : Call) (answer : Reply) (new : List ChangeParts) → Entered (disarming p) made answer new → Entered p made answer new
same_entered p (Edit ss time message) (Made (Some hash)) new e = e
same_entered p (Edit ss time message) answer new e = e
same_entered p made (Made (Some hash)) new e = absurd e
same_entered p (Merge other) answer new e = e
same_entered p (Receive link bytes) answer new e = e
same_entered p made answer new e = e

-- what a call of the peer enters whose device isn't set to fail
pub steps_enter : (p : PeerState) (made : Call) (answer : Reply) (p' : PeerState) → PeerStep (disarming p) made answer p' → Enters p made answer p'
steps_enter p made answer p' s =
    let e = calm_enters p made answer p' s in
    record {
      new = e.new;
      applied = e.applied;
      entered = same_entered p made answer e.new e.entered;
      fits = e.fits;
      limits = e.limits;
      waits = subst (λ (K : List ChangeParts). AllIn p'.waiting (p.waiting ++ K)) (same_came p made) e.waits;
      journal = e.journal;
      id = e.id;
      actor = e.actor;
      stopped = e.stopped;
      calm = λ c. e.calm refl;
    }

-- ---- what is sent

run_sends : (p : PeerState) (made : Call) (message : List ℕ × Bool) (p' : PeerState) → Runs p made (Generated (Some message)) p' → IsMessageOf p'.applied message.0
run_sends p (Generate link) message p' h =
    let known = known_of p.links link in
    let left : p'.applied ≡ p.applied = ap (λ (x : PeerState). x.applied) h.left in
    record {
      message = h.message;
      reads = ap message_at h.spelled ∙ message_again h.message h.limits;
      carries = λ c i. subst (λ l. In c l) (sym left) (message_changes-In p.applied known c (subst (λ l. In c l) h.answers.changes i));
    }
run_sends p made message p' h = absurd h

-- a message carries applied changes
pub steps_sends : (p : PeerState) (made : Call) (message : List ℕ × Bool) (p' : PeerState) → PeerStep p made (Generated (Some message)) p' → IsMessageOf p'.applied message.0
steps_sends p made message p' s = run_sends p made message p' (runs_of_steps p made (Generated (Some message)) p' s (λ e. cc))
