-- What a tried change adds to a run.
use Rattle.tp_receive.proofs.Common.{◌≡◌, ℕ, ◌+◌, ◌-◌, ◌<◌, ◌≤◌, inl, inr, List, [], ◌∷◌, ◌++◌, length, Bool, true, false, Some, Result, Ok, Err, IfErr, OnOk, OnErr, refl, sym, ap, subst, arith, nat_lt, never, nat_tests, slice_get, remove, Hash, ChangeParts, hash_of, GraphError, MissingDeps, cause, most_waiting, ReceiveError, KeepError, delivery, with_slots, slots, AllWait, lacks_deps, is_refusal, Intake, DecidesChange, NextChange, Receiver, SomeTurns, Stops, Turn, begin, hold, intake, receiver, OutOfMemory, is_full, IsEarliest, PendingFull, NotKept, NextComes, TriesChange, RefusesTry, WaitsOrIsDropped, slice_get-there, IsOk}
use Rattle.std.specs.Result.{IsErrAnd}
use Rattle.tp_receive.specs.declared.admit.Admission.TheVariants as admission
use Rattle.tp_receive.specs.declared.intake.Applied.{Applied}
use Rattle.tp_receive.specs.Outcome.{HasOutcome, ReceivesWith, Stopped}
use Rattle.tp_receive.proofs.TurnLaws.{SomeTurns-none, Stops-then}
use Rattle.tp_receive.proofs.WaitLaws.{AllWait-push, next_waits}

-- what holds of the error that `?` hands on holds of the result
pub IfErr-residual : {T : Type 0} (P : ReceiveError → Type 0) (r : Result T ReceiveError) (e : ReceiveError) → P e → IsErrAnd r (λ x. x ≡ e) → IfErr r P
IfErr-residual P (Ok x) e p k = absurd k
IfErr-residual P (Err x) e p k = subst P (sym k) p

pub OnOk-map : {T E P Q : Type 0} (r : Result T E) → (P → Q) → OnOk r P → OnOk r Q
OnOk-map (Ok x) f h = f h
OnOk-map (Err x) f h = h

pub from_ok : {T E : Type 0} (P : Type 0) (r : Result T E) → OnOk r P → IsOk r → P
from_ok P (Ok x) h k = h
from_ok P (Err e) h k = cc

pub OnOk-both : {T E P Q R : Type 0} (r : Result T E) → (P → Q → R) → OnOk r P → OnOk r Q → OnOk r R
OnOk-both (Ok x) f p q = f p q
OnOk-both (Err x) f p q = p

-- ---- what the change met

pub meets_entered : {S : Type 0} (keeps : S → ChangeParts → S → Type 0) (k k' : S) (c : ChangeParts) (C C' V W : List ChangeParts) (P : List (ChangeParts × Bool)) (t t' : List Hash) (r r' : List (Hash × GraphError))
    → W ≡ V → TriesChange keeps (intake k C [] [] t r) c (intake k' C' [] [] t' r') admission.Entered → DecidesChange keeps (intake k C V P t r) c (intake k' C' W P t' r')
meets_entered keeps k k' c C C' V W P t t' r r' w a = inl (a.0, k', a.1, rw (w, a.2, a.3, a.4) refl)

pub meets_refused : {S : Type 0} (keeps : S → ChangeParts → S → Type 0) (k k' : S) (c : ChangeParts) (C C' V W : List ChangeParts) (P : List (ChangeParts × Bool)) (t t' : List Hash) (r r' : List (Hash × GraphError))
    → W ≡ V → TriesChange keeps (intake k C [] [] t r) c (intake k' C' [] [] t' r') admission.Refused → DecidesChange keeps (intake k C V P t r) c (intake k' C' W P t' r')
meets_refused keeps k k' c C C' V W P t t' r r' w a = inr (inr (a.0, a.1, a.2, rw (w, a.3, a.4, a.5, a.6) refl))

within : (n : ℕ) → n < most_waiting → nat_lt n most_waiting ≡ true
within n h = grind (arith, nat_tests)

past : (n : ℕ) → most_waiting ≤ n → nat_lt n most_waiting ≡ false
past n h = grind (arith, nat_tests)

held_is : {S : Type 0} (k : S) (C V : List ChangeParts) (P : List (ChangeParts × Bool)) (t : List Hash) (r : List (Hash × GraphError)) (c : ChangeParts) (W : List ChangeParts) (r' : List (Hash × GraphError))
    → WaitsOrIsDropped V c (slots P) W r r' → intake k C W P t r' ≡ hold (intake k C V P t r) c
held_is k C V P t r c W r' (inl h) = rw (h.0, h.1, h.2) refl
held_is k C V P t r c W r' (inr (inl h)) = rw (h.0, within (length V + slots P) h.1, h.2, h.3) refl
held_is k C V P t r c W r' (inr (inr h)) = rw (h.0, past (length V + slots P) h.1, h.2, h.3) refl

pub meets_held : {S : Type 0} (keeps : S → ChangeParts → S → Type 0) (k k1 : S) (c d : ChangeParts) (n : ℕ) (C C1 C2 V V1 W : List ChangeParts) (P : List (ChangeParts × Bool)) (t t1 t2 : List Hash) (r r1 r2 : List (Hash × GraphError))
    → V1 ≡ V → TriesChange keeps (intake k C [] [] t r) c (intake k1 C1 [] [] t1 r1) (admission.Waits d) → C2 ≡ C1 → t2 ≡ t1 → n ≡ slots P → WaitsOrIsDropped V1 d n W r1 r2
    → DecidesChange keeps (intake k C V P t r) c (intake k1 C2 W P t2 r2)
meets_held {S} keeps k k1 c d n C C1 C2 V V1 W P t t1 t2 r r1 r2 v a cs ts few h =
    let h2 : WaitsOrIsDropped V c (slots P) W r r2 = subst (λ (x : List (Hash × GraphError)). WaitsOrIsDropped V c (slots P) W x r2) a.2
    (subst (λ (x : ChangeParts). WaitsOrIsDropped V x (slots P) W r1 r2) a.1 (subst (λ (x : List ChangeParts). WaitsOrIsDropped x d (slots P) W r1 r2) v (subst (λ (x : ℕ). WaitsOrIsDropped V1 d x W r1 r2) few h))) in
    inr (inl (a.0, rw (a.3, cs, a.4, ts, a.5) (held_is k C V P t r c W r2 h2)))

-- ---- where a run stopped

-- Memory was refused while the keeper stayed as it was.
pub Stops-still : {S : Type 0} (keeps : S → ChangeParts → S → Type 0) (refuses : S → ChangeParts → KeepError → S → Type 0) (s : Intake S) (k : S) (C W : List ChangeParts)
    → k ≡ s.keeper → C ≡ s.applied → W ≡ s.waiting → Stops keeps refuses s OutOfMemory (receiver k C W)
Stops-still keeps refuses s k C W still applied waiting = record { at = s; run = SomeTurns-none keeps s; applied = applied; waiting = waiting; by = inl still }

-- Trying the change whose turn it was failed.
pub Stops-trying : {S : Type 0} (keeps : S → ChangeParts → S → Type 0) (refuses : S → ChangeParts → KeepError → S → Type 0) (s : Intake S) (c : ChangeParts) (rest : Intake S) (e : ReceiveError) (k : S) (C W : List ChangeParts)
    → NextChange s c rest → C ≡ s.applied → W ≡ s.waiting → RefusesTry refuses s.applied c s.keeper e k → Stops keeps refuses s e (receiver k C W)
Stops-trying keeps refuses s c rest PendingFull k C W next applied waiting f = absurd f
Stops-trying keeps refuses s c rest NotKept k C W next applied waiting f =
    record { at = s; run = SomeTurns-none keeps s; applied = applied; waiting = waiting; by = record { change = c; rest = rest; next = next; fits = f.0; refused = f.1 } }
Stops-trying keeps refuses s c rest OutOfMemory k C W next applied waiting (inl f) = Stops-still keeps refuses s k C W f applied waiting
Stops-trying keeps refuses s c rest OutOfMemory k C W next applied waiting (inr f) =
    record { at = s; run = SomeTurns-none keeps s; applied = applied; waiting = waiting; by = inr (record { change = c; rest = rest; next = next; fits = f.0; refused = f.1 }) }

-- Memory was refused before anything happened.
pub stops_for_memory : {S T : Type 0} (keeps : S → ChangeParts → S → Type 0) (refuses : S → ChangeParts → KeepError → S → Type 0) (s : Intake S) (k : S) (C W : List ChangeParts) (r : Result T ReceiveError) (e : ReceiveError)
    → e ≡ OutOfMemory → k ≡ s.keeper → C ≡ s.applied → W ≡ s.waiting → IsErrAnd r (λ x. x ≡ e) → IfErr r (λ e. Stops keeps refuses s e (receiver k C W))
stops_for_memory keeps refuses s k C W r e memory still applied waiting is =
    IfErr-residual (λ (x : ReceiveError). Stops keeps refuses s x (receiver k C W)) r e
    (subst (λ (x : ReceiveError). Stops keeps refuses s x (receiver k C W)) (sym memory) (Stops-still keeps refuses s k C W still applied waiting)) is

-- A run stopped later.
pub stops_on : {S T : Type 0} (keeps : S → ChangeParts → S → Type 0) (refuses : S → ChangeParts → KeepError → S → Type 0) (s m : Intake S) (k : S) (C W : List ChangeParts) (r : Result T ReceiveError) (e : ReceiveError)
    → SomeTurns keeps s m → Stops keeps refuses m e (receiver k C W) → IsErrAnd r (λ x. x ≡ e) → IfErr r (λ e. Stops keeps refuses s e (receiver k C W))
stops_on keeps refuses s m k C W r e run x is = IfErr-residual (λ (x : ReceiveError). Stops keeps refuses s x (receiver k C W)) r e (Stops-then keeps refuses s m e (receiver k C W) run x) is

pub stops_later : {S T : Type 0} (keeps : S → ChangeParts → S → Type 0) (refuses : S → ChangeParts → KeepError → S → Type 0) (s m : Intake S) (k : S) (C W : List ChangeParts) (r : Result T ReceiveError)
    → SomeTurns keeps s m → IfErr r (λ e. Stops keeps refuses m e (receiver k C W)) → IfErr r (λ e. Stops keeps refuses s e (receiver k C W))
stops_later keeps refuses s m k C W (Ok x) run h = h
stops_later keeps refuses s m k C W (Err e) run h = Stops-then keeps refuses s m e (receiver k C W) run h

-- ---- a waiting change that had its turn

pub turn_entered : {S T : Type 0} (keeps : S → ChangeParts → S → Type 0) (k k' : S) (C C' W W' : List ChangeParts) (i : ℕ) (P : List (ChangeParts × Bool)) (t t' : List Hash) (r r' : List (Hash × GraphError)) (res : Result T ReceiveError)
    → IsEarliest C W i → ((c : ChangeParts) → slice_get W i ≡ Some c → OnOk res (TriesChange keeps (intake k C [] [] t r) c (intake k' C' [] [] t' r') admission.Entered)) → OnOk res (W' ≡ remove W i)
    → OnOk res (Turn keeps (intake k C W P t r) (intake k' C' W' P t' r'))
turn_entered keeps k k' C C' W W' i P t t' r r' res first ok out =
    let there = slice_get-there W i first.within in
    OnOk-both res
    (λ a o. record {
      change = there.0;
      rest = intake k C (remove W i) P t r;
      next = inl (next_waits k C W P t r i there.0 first there.1);
      meets = meets_entered keeps k k' there.0 C C' (remove W i) W' P t t' r r' o a;
    })
    (ok there.0 there.1) out

pub turn_refused : {S T : Type 0} (keeps : S → ChangeParts → S → Type 0) (k : S) (C C' W W' : List ChangeParts) (i : ℕ) (f : GraphError) (P : List (ChangeParts × Bool)) (t t' : List Hash) (r r' : List (Hash × GraphError)) (res : Result T ReceiveError)
    → IsEarliest C W i → ((c : ChangeParts) → slice_get W i ≡ Some c → (cause C c ≡ Some f) × (is_refusal (Some f) ≡ true))
    → ((c : ChangeParts) → slice_get W i ≡ Some c → OnOk res (r' ≡ r ++ (hash_of c, f) ∷ [])) → t' ≡ t → C' ≡ C → OnOk res (W' ≡ remove W i)
    → OnOk res (Turn keeps (intake k C W P t r) (intake k C' W' P t' r'))
turn_refused keeps k C C' W W' i f P t t' r r' res first judged ok reported same out =
    let there = slice_get-there W i first.within in
    let j = judged there.0 there.1 in
    OnOk-both res
    (λ a o. record {
      change = there.0;
      rest = intake k C (remove W i) P t r;
      next = inl (next_waits k C W P t r i there.0 first there.1);
      meets = meets_refused keeps k k there.0 C C' (remove W i) W' P t t' r r' o (f, j.0, j.1, a, refl, same, reported);
    })
    (ok there.0 there.1) out

pub turn_stopped : {S T : Type 0} (keeps : S → ChangeParts → S → Type 0) (refuses : S → ChangeParts → KeepError → S → Type 0) (k k' : S) (C C' W W' : List ChangeParts) (i : ℕ) (P : List (ChangeParts × Bool)) (t : List Hash) (r : List (Hash × GraphError)) (res : Result T ReceiveError)
    → IsEarliest C W i → ((c : ChangeParts) → slice_get W i ≡ Some c → IfErr res (λ e. RefusesTry refuses C c k e k')) → OnErr res (C' ≡ C) → OnErr res (W' ≡ W)
    → IfErr res (λ e. Stops keeps refuses (intake k C W P t r) e (receiver k' C' W'))
turn_stopped keeps refuses k k' C C' W W' i P t r (Ok x) first err applied waiting = tt
turn_stopped keeps refuses k k' C C' W W' i P t r (Err e) first err applied waiting =
    let there = slice_get-there W i first.within in
    Stops-trying keeps refuses (intake k C W P t r) there.0 (intake k C (remove W i) P t r) e k' C' W'
    (inl (next_waits k C W P t r i there.0 first there.1)) applied waiting (err there.0 there.1)

-- Memory was refused before the change was reported.
pub turn_unreported : {S T : Type 0} (keeps : S → ChangeParts → S → Type 0) (refuses : S → ChangeParts → KeepError → S → Type 0) (s : Intake S) (k : S) (C W : List ChangeParts) (res : Result T ReceiveError)
    → IfErr res (λ e. e ≡ OutOfMemory) → k ≡ s.keeper → C ≡ s.applied → OnErr res (W ≡ s.waiting) → IfErr res (λ e. Stops keeps refuses s e (receiver k C W))
turn_unreported keeps refuses s k C W (Ok x) err still applied waiting = tt
turn_unreported keeps refuses s k C W (Err e) err still applied waiting =
    subst (λ (x : ReceiveError). Stops keeps refuses s x (receiver k C W)) (sym err) (Stops-still keeps refuses s k C W still applied waiting)

-- ---- a change that came and had its turn

-- Where all that waits lacks something, the next that came has its turn.
pub next_comes : {S : Type 0} (k : S) (C W : List ChangeParts) (P : List (ChangeParts × Bool)) (t : List Hash) (r : List (Hash × GraphError)) (c : ChangeParts) (slot : Bool)
    → AllWait C W → NextComes (intake k C W ((c, slot) ∷ P) t r) c (intake k C W P t r)
next_comes k C W P t r c slot settled = record { slot = slot; beyond = P; comes = refl; settled = settled; without = refl }

pub came : {S : Type 0} (keeps : S → ChangeParts → S → Type 0) (k k' : S) (c : ChangeParts) (slot : Bool) (C C' W W' : List ChangeParts) (P : List (ChangeParts × Bool)) (t t' : List Hash) (r r' : List (Hash × GraphError))
    → AllWait C W → DecidesChange keeps (intake k C W P t r) c (intake k' C' W' P t' r') → Turn keeps (intake k C W ((c, slot) ∷ P) t r) (intake k' C' W' P t' r')
came keeps k k' c slot C C' W W' P t t' r r' settled meets = record { change = c; rest = intake k C W P t r; next = inr (next_comes k C W P t r c slot settled); meets = meets }

-- Those that wait still do, with the one that was held.
pub wait_held : (C C' V W : List ChangeParts) (c : ChangeParts) (n : ℕ) (r r' : List (Hash × GraphError)) → C' ≡ C → AllWait C V → cause C c ≡ Some MissingDeps → WaitsOrIsDropped V c n W r r' → AllWait C' W
wait_held C C' V W c n r r' same all lacks (inl h) = rw (same, h.1) all
wait_held C C' V W c n r r' same all lacks (inr (inl h)) = rw (same, h.2) (AllWait-push C V c (ap lacks_deps lacks) all)
wait_held C C' V W c n r r' same all lacks (inr (inr h)) = rw (same, h.2) all

-- ---- a call

pub SomeTurns-begun : {S : Type 0} (keeps : S → ChangeParts → S → Type 0) (k : S) (C W K : List ChangeParts) (P : List (ChangeParts × Bool)) (a : List Hash) (r : List (Hash × GraphError)) (t : Intake S)
    → P ≡ with_slots W (delivery C K) → a ≡ [] → r ≡ [] → SomeTurns keeps (intake k C W P a r) t → SomeTurns keeps (begin k C W K) t
SomeTurns-begun {S} keeps k C W K P a r t p entered refused run = subst (λ (s : Intake S). SomeTurns keeps s t) (same p entered refused) run where
  same : P ≡ with_slots W (delivery C K) → a ≡ [] → r ≡ [] → intake k C W P a r ≡ begin k C W K
  same p entered refused = rw (p, entered, refused) refl

-- Memory was refused before anything was done.
pub nothing_done : {S : Type 0} (keeps : S → ChangeParts → S → Type 0) (refuses : S → ChangeParts → KeepError → S → Type 0) (s : Receiver S) (K : List ChangeParts) (r : Result Applied ReceiveError)
    → IsErrAnd r (λ x. x ≡ OutOfMemory) → HasOutcome Some r (ReceivesWith keeps refuses s K s)
nothing_done keeps refuses s K (Ok x) is = absurd is
nothing_done keeps refuses s K (Err x) is =
    let b = begin s.keeper s.applied s.waiting K in
    subst (λ (x : ReceiveError). HasOutcome Some (Err x) (ReceivesWith keeps refuses s K s)) (sym is) (λ full. refl, Stops-still keeps refuses b s.keeper s.applied s.waiting refl refl refl)

-- A run stopped, where there was space for all that had to wait.
pub stopped_for : {S : Type 0} (keeps : S → ChangeParts → S → Type 0) (refuses : S → ChangeParts → KeepError → S → Type 0) (s : Receiver S) (K : List ChangeParts) (t : Receiver S) (e : ReceiveError)
    → is_full s.applied s.waiting K ≡ false → Stops keeps refuses (begin s.keeper s.applied s.waiting K) e t → ReceivesWith keeps refuses s K t (Stopped e)
stopped_for keeps refuses s K t PendingFull space x = absurd x.by
stopped_for keeps refuses s K t NotKept space x = (space, x)
stopped_for keeps refuses s K t OutOfMemory space x = (λ full. never full space, x)

pub has_stopped : {S : Type 0} (keeps : S → ChangeParts → S → Type 0) (refuses : S → ChangeParts → KeepError → S → Type 0) (s : Receiver S) (K : List ChangeParts) (t : Receiver S) (r : Result Applied ReceiveError) (e : ReceiveError)
    → is_full s.applied s.waiting K ≡ false → Stops keeps refuses (begin s.keeper s.applied s.waiting K) e t → IsErrAnd r (λ x. x ≡ e) → HasOutcome Some r (ReceivesWith keeps refuses s K t)
has_stopped keeps refuses s K t (Ok x) e space stops is = absurd is
has_stopped keeps refuses s K t (Err x) e space stops is = stopped_for keeps refuses s K t x space (subst (λ (x : ReceiveError). Stops keeps refuses (begin s.keeper s.applied s.waiting K) x t) (sym is) stops)

-- There is space where the slots that are reserved are no more than are free.
pub is_space : (C W V K : List ChangeParts) (P : List (ChangeParts × Bool)) (reserved : ℕ) → V ≡ W → length W ≤ most_waiting → P ≡ with_slots W (delivery C K) → reserved ≡ slots P
    → reserved ≤ most_waiting - length V → is_full C W K ≡ false
is_space C W V K P reserved same few slotted count room =
    by (slots (with_slots W (delivery C K))) (ap slots (sym slotted)) where
      by : (n : ℕ) → n ≡ slots P → nat_lt most_waiting (length W + n) ≡ false
      by n e = grind (arith, nat_tests, room, few, ap length same, e, count)
