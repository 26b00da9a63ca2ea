-- What a refused append of a record leaves.
use Rattle.tp_peer.proofs.Common.{take_all, true, false, ◌≡◌, ℕ, List, ◌++◌, length, ap, sym, subst, ◌∙◌, arith, ChangeParts, IsChange, RefusesAppend, CountsFailure, Device, DeviceFailsOnce, without_fuse, is_some, or_right, record_of, AppendsRecord, JournalState, RefusesRecord, journal_state, StaysUnsettled, TearsRecord, keep_error_of}
use Rattle.tp_journal.specs.declared.error.JournalError.{JournalError}
use Rattle.tp_journal.specs.declared.error.JournalError.TheVariants.{Io, OutOfMemory}

pub record_refused : (k k' : JournalState) (c : ChangeParts) (e : JournalError) → IsChange c → RefusesAppend k.content (record_of c) e k'.content → CountsFailure true e k.device k'.device → RefusesRecord k c (keep_error_of e) k'
record_refused k k' c Io limits part counts = record { limits = limits; part = part; device = counts }
record_refused k k' c OutOfMemory limits part counts =
    ap (λ (b : List ℕ). journal_state b k'.device) part ∙ ap (λ (d : Device). journal_state k.content d) counts

-- a device that failed once an append had ended its arming failed by itself
fails_after : (k d d' : Device) → d ≡ without_fuse k → DeviceFailsOnce false d d' → DeviceFailsOnce true k d'
fails_after k d d' e f =
    let g = subst (λ (x : Device). DeviceFailsOnce false x d') e f in
    record { could = or_right (is_some k.fuse) k.can_fail g.could; counted = g.counted; calm = g.calm; fuse = g.fuse }

-- a record that was appended before the journal couldn't be settled
pub unsettled_tears : (k k1 k' : JournalState) (c : ChangeParts) → AppendsRecord k c k1 → StaysUnsettled k1 k' → TearsRecord k c k'
unsettled_tears k k1 k' c a s = record {
  limits = a.limits;
  part = (length (record_of c), s.content ∙ a.content ∙ ap (λ (l : List ℕ). k.content ++ l) (sym (take_all (length (record_of c)) (record_of c) (omega arith))));
  device = fails_after k.device k1.device k'.device a.device s.device;
}
