-- Stages from which bytes of some number make no message, and what is known at those that are left.
use Rattle.tp_message.proofs.Common.{◌≡◌, ◌⊎◌, ℕ, ◌+◌, ◌<◌, ◌≤◌, List, ◌++◌, length, take, drop, true, false, eqb, Some, Err, refl, sym, ap, subst, ◌∙◌, arith, eqb-true, take-append-drop, not_true, MAX_BYTES, SyncError, BadMessage, BadChange, OutOfMemory, Stage, Body, Whole, Failed, MessageParts, is_whole, need, Steps, length-take-le, Moves, IsWithinField, fault_of_stage}
use Rattle.tp_codec.specs.Reading.{give}
use Rattle.tp_message.specs.Reading.{end_or_fail}
use Rattle.tp_message.specs.Stages.{rest_at}
use Rattle.tp_message.proofs.SizeLaws.{no_change}
use Rattle.tp_message.proofs.StepLaws.{body_fault}
use Rattle.tp_message.proofs.WholeMessage.{ended_of_err}

-- a change of no bytes, or of too many
pub body_judged : (len more : ℕ) (m : MessageParts) (rest : List ℕ) → len ≤ length rest → (len ≡ 0) ⊎ (MAX_BYTES < len) → end_or_fail (rest_at (Body len more) m rest) ≡ Err BadChange
body_judged len more m rest le bad =
    let size : length (take len rest) ≡ len = length-take-le len rest le in
    let no : (length (take len rest) ≡ 0) ⊎ (MAX_BYTES < length (take len rest)) = subst (λ (n : ℕ). (n ≡ 0) ⊎ (MAX_BYTES < n)) (sym size) bad in
    ap (λ (b : List ℕ). end_or_fail (rest_at (Body len more) m b)) (sym (take-append-drop len rest))
    ∙ ended_of_err (rest_at (Body len more) m (take len rest ++ drop len rest)) BadChange
    (body_fault len more m BadChange (take len rest) (drop len rest) size (no_change (take len rest) (drop len rest) no))

-- bytes after a whole message
pub whole_judged : (m : MessageParts) (rest : List ℕ) → 0 < length rest → end_or_fail (rest_at Whole m rest) ≡ Err BadMessage
unfolding rest_at give end_or_fail
whole_judged m rest lt = rw (not_true (eqb (length rest) 0) (λ t. absurd (omega (arith, eqb-true (length rest) 0 t, lt)))) refl

-- what is known where a field comes next, and the other way round
pub present_open : (stage : Stage) (held left : ℕ) → IsWithinField stage held left → (stage ≡ Whole → ⊥) → ((e : SyncError) → stage ≡ Failed e → ⊥) → (held < need stage) × (need stage ≤ held + left) × (need stage ≤ MAX_BYTES)
present_open Whole held left s w f = absurd (w refl)
present_open (Failed e) held left s w f = absurd (f e refl)
present_open stage held left s w f = s

pub fault_is : (stage : Stage) (e : SyncError) → fault_of_stage stage ≡ Some e → stage ≡ Failed e
fault_is (Failed d) e f = ap (λ (x : SyncError). Failed x) (let same : d ≡ e = cc in same)
fault_is stage e f = absurd cc

pub present_held : (stage : Stage) (held left : ℕ) → held < need stage → need stage ≤ held + left → need stage ≤ MAX_BYTES → IsWithinField stage held left
present_held Whole held left a b d = absurd (omega (arith, a))
present_held (Failed e) held left a b d = tt
present_held stage held left a b d = (a, b, d)

pub present_whole : (stage : Stage) (held left : ℕ) → is_whole stage ≡ true → IsWithinField stage held left → (stage ≡ Whole) × (held ≡ 0) × (left ≡ 0)
present_whole Whole held left w s = (refl, s.0, s.1)
present_whole stage held left w s = absurd (let no : false ≡ true = w in cc)

-- a refusal other than of memory
pub moves_fault : (stage : Stage) (before : MessageParts) (field : List ℕ) (left : ℕ) (e : SyncError) (after : MessageParts) → (e ≡ OutOfMemory → ⊥) → Moves stage before field left (Err e) after
    → (rest : List ℕ) → length rest ≡ left → end_or_fail (rest_at stage before (field ++ rest)) ≡ Err e
moves_fault stage before field left OutOfMemory after apart m = absurd (apart refl)
moves_fault stage before field left e after apart m = m

pub moves_of_steps : (stage : Stage) (before : MessageParts) (field : List ℕ) (left : ℕ) (e : SyncError) (after : MessageParts) → Steps stage before field (Err e) after → Moves stage before field left (Err e) after
moves_of_steps stage before field left OutOfMemory after s = s
moves_of_steps stage before field left e after s = λ rest len. ended_of_err (rest_at stage before (field ++ rest)) e (s rest)
