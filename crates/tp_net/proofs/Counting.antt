-- A session counts the changes that enter by it.
use Rattle.tp_net.proofs.Common.{◌≡◌, ap, ℕ, suc, ◌+◌, ◌-◌, ◌^◌, ◌≤◌, List, [], ◌∷◌, length, Bool, Ok, Err, inl, inr, refl, subst, arith, length-append, length-drop, Result, min, trace_keeps, DocId, Frame, Reply, Forgotten, Received, SeatKnowledge, NetError, Turn, SessionState, new_session, HostCall, SessionStep, IsFrameAnswered, AnsweredFrame, Traffic, IsWholeSession, Enters, HoldsSession, AttemptsSession, TakesTurn}
use Rattle.tp_layout.specs.declared.parts.ChangeParts.{ChangeParts}
use Rattle.tp_receive.specs.Outcome.{Report, at_end}
use Rattle.tp_receive.specs.Receiving.{hashes}
use Rattle.tp_receive.proofs.RunLaws.{progress}
use Rattle.tp_peer.specs.Appending.{AppendsRecord}
use Rattle.tp_peer.specs.PeerState.{PeerState}
use Rattle.tp_peer.specs.PeerStep.{PeerStep}
use Rattle.tp_peer.specs.Taking.{journal_of, receiver_of}
use Rattle.tp_peer.proofs.StepLaws.{step_cases, step_keeps}
use Rattle.tp_session.specs.declared.session.Role.{Role}
use Rattle.tp_session.specs.HostCalls.{Forget, Generate, Receive, on}
use Rattle.tp_net.specs.Sessions.{HoldsAlone, AttemptsSessionAlone, StepsOn}

-- ---- steps of a peer

length_hashes : (C : List ChangeParts) → length (hashes C) ≡ length C
length_hashes [] = refl
length_hashes (c ∷ C) = ap suc (length_hashes C)

-- a message that was received brought as many changes as are reported
received_grows : (p p' : PeerState) (link : ℕ) (bytes : List ℕ) (r : Report) (same : Bool) → PeerStep p (on link (Receive bytes)) (Received r same) p' → length p'.applied ≡ length p.applied + length r.applied
received_grows p p' link bytes r same step =
    elim (step_cases p (on link (Receive bytes)) (Received r same) p' step) [
      | inl stopped ↦ let e = stopped.0 in absurd cc
      | inr runs ↦
          let h = runs.1 in
          let came = progress AppendsRecord (journal_of p) p.applied p.waiting h.message.changes (at_end (receiver_of h.taken) r) h.takes.receives.run in
          let reported = length_hashes came.new in
          grind (arith, length-append, length-drop)
    ]

-- one that is made brings none
generated_stays : (p p' : PeerState) (link : ℕ) (reply : Reply) → PeerStep p (on link Generate) reply p' → length p'.applied ≡ length p.applied
generated_stays p p' link reply step =
    let k = step_keeps p (on link Generate) reply p' step in
    grind (arith, length-append)

-- nor does the end of the link
forgotten_stays : (p p' : PeerState) (link : ℕ) (reply : Reply) → PeerStep p (on link Forget) reply p' → length p'.applied ≡ length p.applied
forgotten_stays p p' link reply step =
    let k = step_keeps p (on link Forget) reply p' step in
    grind (arith, length-append)

-- ---- sessions

-- Of a host whose calls are these steps: how many changes it has, and what each call makes of that number.
record IsCounted {H : Type 0} (steps : H → HostCall → Reply → H → Type 0) (size : H → ℕ) : Type 0 where
  receives : (h h' : H) (bytes : List ℕ) (r : Report) (same : Bool) → steps h (Receive bytes) (Received r same) h' → size h' ≡ size h + length r.applied
  generates : (h h' : H) (reply : Reply) → steps h Generate reply h' → size h' ≡ size h
  forgets : (h h' : H) (reply : Reply) → steps h Forget reply h' → size h' ≡ size h

module _ {H : Type 0} (steps : H → HostCall → Reply → H → Type 0) (size : H → ℕ) (is : IsCounted steps size) where
  -- A session and its host went on: the host's changes grew, and the session counted by how many, up to the most.
  abbrev Counted : SessionState × H → SessionState × H → Type 0
  Counted a b = (size a.1 ≤ size b.1) × (a.0.applied ≤ 2 ^ 64 - 1 → b.0.applied ≡ min (a.0.applied + (size b.1 - size a.1)) (2 ^ 64 - 1))

  step_counts : (a b : SessionState × H) (f : Frame) (turn : Turn) → SessionStep steps a f (Ok turn) b → Counted a b
  step_counts a b f turn step = grind (arith, is.generates, is.receives)

  -- A whole session, and the ends of the link round it: the number reported is that of what entered.
  held_enters : (role : Role) (id : DocId) (h : H) (w : Traffic) (n : ℕ) (h' : H) → IsWholeSession steps (new_session role id) h w (Ok n) h' → Enters n (size h) (size h')
  held_enters role id h w n h' (inl never) = let e = never.reported in absurd cc
  held_enters role id h w n h' (inr f) =
      let start : SessionState × H = (new_session role id, f.start) in
      let takes = f.session.comes.takes in
      let c = trace_keeps (IsFrameAnswered steps) (Counted start) (λ a (x : AnsweredFrame) b step before. let on = step_counts a b x.frame x.turn step in (omega arith, λ small. omega arith))
      start takes.transcript (f.session.session, f.left) takes.trace (omega arith, λ small. omega arith) in
      let before = is.forgets h f.start Forgotten f.forgot in
      let after = is.forgets f.left h' f.reply f.forgot_again in
      let reported = f.session.count in
      record { more = size f.left - size f.start; grown = omega arith; reported = omega arith }

-- ---- on a seat

abbrev mine_of : SeatKnowledge → ℕ
mine_of t = length t.mine

seats_count : IsCounted TakesTurn mine_of
seats_count = record {
  receives = λ t t' bytes r same shows. let grown = received_grows t'.before t'.after t.number bytes r same shows.step in grind (arith, length-append, length-drop);
  generates = λ t t' reply shows. let same = generated_stays t'.before t'.after t.number reply shows.step in grind (arith, length-append, length-drop);
  forgets = λ t t' reply shows. let same = forgotten_stays t'.before t'.after t.number reply shows.step in grind (arith, length-append, length-drop);
}

pub meets : (role : Role) (id : DocId) (t : SeatKnowledge) (answer : Result ℕ NetError) (t' : SeatKnowledge) → HoldsSession role id t answer t' → AttemptsSession role id t answer t'
meets role id t (Ok n) t' held = (held, held_enters TakesTurn mine_of seats_count role id t held.0 n t' held.1)
meets role id t (Err e) t' held = inl held

-- ---- on a peer alone

abbrev own_of : ℕ × PeerState → ℕ
own_of a = length a.1.applied

peers_count : IsCounted StepsOn own_of
peers_count = record {
  receives = λ a b bytes r same step. received_grows a.1 b.1 a.0 bytes r same step.1;
  generates = λ a b reply step. generated_stays a.1 b.1 a.0 reply step.1;
  forgets = λ a b reply step. forgotten_stays a.1 b.1 a.0 reply step.1;
}

alone_as : (role : Role) (p : PeerState) (answer : Result ℕ NetError) (p' : PeerState) → HoldsAlone role p answer p' → AttemptsSessionAlone role p answer p'
alone_as role p (Ok n) p' held = (held, held_enters StepsOn own_of peers_count role p.id (0, p) held.0 n (0, p') held.1)
alone_as role p (Err e) p' held = inl held

pub meets_alone : (role : Role) (id : DocId) (link link' : ℕ) (p : PeerState) (answer : Result ℕ NetError) (p' : PeerState) → id ≡ p.id → link ≡ 0 → link' ≡ 0
    → (w : Traffic) × IsWholeSession StepsOn (new_session role id) (link, p) w answer (link', p') → AttemptsSessionAlone role p answer p'
meets_alone role id link link' p answer p' same zero still_zero held =
    let about = subst (λ (i : DocId). (w : Traffic) × IsWholeSession StepsOn (new_session role i) (link, p) w answer (link', p')) same held in
    let before = subst (λ (n : ℕ). (w : Traffic) × IsWholeSession StepsOn (new_session role p.id) (n, p) w answer (link', p')) zero about in
    alone_as role p answer p' (subst (λ (n : ℕ). (w : Traffic) × IsWholeSession StepsOn (new_session role p.id) (0, p) w answer (n, p')) still_zero before)
