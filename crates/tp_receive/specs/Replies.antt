-- What receiving promises of where the changes are in the end, and of what it tells.
use Rattle.std.specs.Prelude.{◌≡◌, ◌⊎◌, List, [], ◌∷◌, ◌++◌, Some, false, IsTrue}
use Rattle.tp_receive.specs.Common.{In, AllIn, Hash, ChangeParts, hash_of, has, cause, GraphError, MissingDeps}
use Rattle.tp_receive.specs.Receiving.{IsPrefixOf, Grows, Receives, is_refusal, hashes}
use Rattle.tp_receive.specs.Delivery.{delivery, undeliverable}
use Rattle.tp_receive.specs.Intake.{Intake}

-- The keeper went from k to k' by keeping the changes one after another.
abbrev pub KeepsAll : {S : Type 0} → (S → ChangeParts → S → Type 0) → S → List ChangeParts → S → Type 0
KeepsAll keeps k [] k' = k ≡ k'
KeepsAll {S} keeps k (c ∷ cs) k' = (m : S) × keeps k c m × KeepsAll keeps m cs k'

-- A change of F with the hash was refused with the cause e, which it had at its turn, after some list between C and
-- `long`.
pub record WasRefused (C F long : List ChangeParts) (h : Hash) (e : GraphError) : Type 0 where
  pub change : ChangeParts
  pub came : In change F
  pub is : hash_of change ≡ h
  pub at : List ChangeParts
  pub after : IsPrefixOf C at
  pub before : IsPrefixOf at long
  pub caused : cause at change ≡ Some e

-- How far receiving F after C came: what entered is of F, each had no cause at its turn and was kept first, and it
-- is reported in its order; each that was refused had the cause that is reported at its turn; what waits is of F.
pub record Progress {S : Type 0} (keeps : S → ChangeParts → S → Type 0) (k : S) (C F : List ChangeParts) (t : Intake S) : Type 0 where
  pub new : List ChangeParts
  pub grows : Grows C F t.applied new
  pub kept : KeepsAll keeps k new t.keeper
  pub reported : t.entered ≡ hashes new
  pub refused : (h : Hash) (e : GraphError) → In (h, e) t.refused → WasRefused C F t.applied h e
  pub waits : AllIn t.waiting F

-- What becomes of the changes W that waited after C, where C' is applied and W' waits: each waits still, entered,
-- or is refused for good. What was applied or refused for good is so still.
pub record LosesNone (C C' W W' : List ChangeParts) : Type 0 where
  pub grown : AllIn C C'
  pub final : (c : ChangeParts) → IsTrue (is_refusal (cause C c)) → IsTrue (is_refusal (cause C' c))
  pub stays : (c : ChangeParts) → In c W → In c W' ⊎ (In c C' ⊎ IsTrue (is_refusal (cause C' c)))

-- No change was dropped for want of space.
abbrev pub NoneDropped : List (Hash × GraphError) → Type 0
NoneDropped refused = (h : Hash) → In (h, MissingDeps) refused → ⊥

-- What is reported as refused is each time a change of F, which waited or came, with the cause that it has after the
-- final list C'.
abbrev pub AreRefused : List ChangeParts → List ChangeParts → List (Hash × GraphError) → Type 0
AreRefused F C' refused = (h : Hash) (e : GraphError) → In (h, e) refused → (c : ChangeParts) × In c F × (hash_of c ≡ h) × (cause C' c ≡ Some e)

-- Where each change of F is in the end: one that lacks a dependency waits or was reported as dropped, one that waits
-- lacks a dependency, and one that neither entered nor waits was reported.
pub record AllAccounted (F C' W' : List ChangeParts) (applied : List Hash) (refused : List (Hash × GraphError)) : Type 0 where
  pub lacking : (c : ChangeParts) → In c F → cause C' c ≡ Some MissingDeps → In c W' ⊎ In (hash_of c, MissingDeps) refused
  pub waiting : (c : ChangeParts) → In c W' → cause C' c ≡ Some MissingDeps
  pub reported : (c : ChangeParts) → In c F → In (hash_of c) applied ⊎ (In c W' ⊎ ((e : GraphError) × In (hash_of c, e) refused))

-- No change that was dropped is one of these.
abbrev pub DropsNoneOf : List ChangeParts → List (Hash × GraphError) → Type 0
DropsNoneOf K refused = (h : Hash) → In (h, MissingDeps) refused → has K h ≡ false

-- What a whole run promises where no two different changes of what waited and came have one hash, where W waited
-- after C and K came: the result is complete, each reported cause is the cause now, each change is somewhere, and what
-- was dropped is none of the undeliverable ones.
pub record Results {S : Type 0} (C W K : List ChangeParts) (t : Intake S) : Type 0 where
  pub receives : Receives C (W ++ K) t.applied
  pub causes : AreRefused (W ++ K) t.applied t.refused
  pub placed : AllAccounted (W ++ K) t.applied t.waiting t.entered t.refused
  pub deliverable : DropsNoneOf (undeliverable (delivery C K)) t.refused

-- The two see and have reported one thing, the keepers aside.
pub record Alike {S R : Type 0} (s : Intake S) (t : Intake R) : Type 0 where
  pub applied : s.applied ≡ t.applied
  pub waiting : s.waiting ≡ t.waiting
  pub coming : s.coming ≡ t.coming
  pub entered : s.entered ≡ t.entered
  pub refused : s.refused ≡ t.refused
