-- What a message says that is to be made.
use Rattle.tp_sync.proofs.Common.{◌≡◌, ◌∙◌, ◌≤◌, List, length, map, Some, ap, sym, subst, In, IsRising, Hash, hash_cmp, ChangeParts, AllChanges, MAX_CHANGES, MAX_HASHES, MAX_KNOWN, heads_rise, MessageParts, SyncParts}
use Rattle.tp_sync.specs.NextMessage.{SendsMessage}
use Rattle.tp_sync.specs.Saying.{IsToSay}
use Rattle.tp_sync.specs.declared.generating.Saying.{Saying}
use Rattle.tp_sync.proofs.KnownLaws.{known_few, known_rises}
use Rattle.tp_sync.proofs.TakeLaws.{message_changes-In, carried_few}
use Rattle.tp_sync.proofs.WantLaws.{wanted_few, wanted_rises}

-- its heads, what it wants and what it knows are within the limits

pub heads_fit : (C W : List ChangeParts) (s : SyncParts) (y : Saying) (H : List Hash) → IsToSay C W s y → H ≡ y.heads.items → IsRising hash_cmp H × (length H ≤ MAX_HASHES)
heads_fit C W s y H say e = (
  subst (IsRising hash_cmp) (sym (e ∙ say.heads)) (heads_rise C),
  subst (λ (l : List Hash). length l ≤ MAX_HASHES) (sym e) say.few,
)

pub wants_fit : (C W : List ChangeParts) (s : SyncParts) (y : Saying) (H : List Hash) → IsToSay C W s y → H ≡ y.wants.items → IsRising hash_cmp H × (length H ≤ MAX_HASHES)
wants_fit C W s y H say e = (
  subst (IsRising hash_cmp) (sym (e ∙ say.wants)) (wanted_rises C W s.theirs),
  subst (λ (l : List Hash). length l ≤ MAX_HASHES) (sym (e ∙ say.wants)) (wanted_few C W s.theirs),
)

pub known_fit : (C W : List ChangeParts) (s : SyncParts) (y : Saying) (H : List Hash) → IsToSay C W s y → H ≡ y.known.items → IsRising hash_cmp H × (length H ≤ MAX_KNOWN)
known_fit C W s y H say e = (
  subst (IsRising hash_cmp) (sym (e ∙ say.known)) (known_rises C),
  subst (λ (l : List Hash). length l ≤ MAX_KNOWN) (sym (e ∙ say.known)) (known_few C),
)

-- and so are the changes that it carries
pub changes_fit : (C W : List ChangeParts) (s : SyncParts) (y : Saying) (D : List ChangeParts) → AllChanges C → IsToSay C W s y → D ≡ map (λ c. c.now) y.load.changes.items → AllChanges D × (length D ≤ MAX_CHANGES)
changes_fit C W s y D limits say e = (
  λ d i. limits d (message_changes-In C s d (subst (In d) (e ∙ say.changes) i)),
  subst (λ (l : List ChangeParts). length l ≤ MAX_CHANGES) (sym (e ∙ say.changes)) (carried_few C s),
)

-- a message of its parts is what is answered
pub says_it : (C W : List ChangeParts) (s : SyncParts) (y : Saying) (m : MessageParts) (t : SyncParts) → IsToSay C W s y → m.version ≡ 2 → m.heads ≡ y.heads.items → m.wants ≡ y.wants.items → m.known ≡ y.known.items
    → m.changes ≡ map (λ c. c.now) y.load.changes.items → t ≡ record s { declared = Some y.heads.items; next = y.load.next; again = y.load.again } → SendsMessage C W s m t
says_it C W s y m t say version heads wants known changes left = record {
  loud = say.loud;
  version = version;
  heads = heads ∙ say.heads;
  wants = wants ∙ say.wants;
  known = known ∙ say.known;
  changes = changes ∙ say.changes;
  theirs = ap (λ (u : SyncParts). u.theirs) left;
  their_wants = ap (λ (u : SyncParts). u.wants) left;
  their_known = ap (λ (u : SyncParts). u.known) left;
  declared = ap (λ (u : SyncParts). u.declared) left ∙ ap Some say.heads;
  next = rw left say.next;
  again = ap (λ (u : SyncParts). u.again) left ∙ say.again;
}
