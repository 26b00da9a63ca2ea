-- From what receiving and making a message come to in the parts of a peer to what that is of the peer.
use Rattle.tp_peer.proofs.Common.{◌≡◌, inl, inr, ℕ, List, Bool, false, Some, Err, ap, ◌↔◌, IsTrue, Actor, Done, HasOutcome, ReceivesWith, Stopped, kept_by, DocState, IsMessage, MessageParts, message_spelling, SyncParts, after_message, AppendsRecord, JournalState, RefusesRecord, is_one_too_many, known_of, with_link, peer_state, is_failed, refusal_of_sync, Decodes, ReceivesMessage, RefusesDecoding, RefusesReceive}
use Rattle.tp_receive.specs.declared.intake.Applied.{Applied}
use Rattle.tp_receive.specs.Outcome.{report_of}
use Rattle.tp_sync.specs.Receiving.{receive_error_of}
use Rattle.tp_message.specs.declared.error.SyncError.{SyncError}
use Rattle.tp_codec.specs.Gives.{FailsWith}
use Rattle.tp_message.specs.Reading.{message_at}
use Rattle.tp_message.proofs.FaultLaws.{message_faults}
use Rattle.tp_message.proofs.WholeMessage.{message_again}
use Rattle.tp_peer.proofs.TakingLaws.{took, took_none}
use Rattle.tp_receive.specs.declared.error.ReceiveError.TheVariants as receive
use Rattle.tp_message.specs.declared.error.SyncError.TheVariants as sync

-- ---- messages that come

-- no other reason is one to refuse bytes
no_other : (bytes : List ℕ) (e : SyncError) → message_at bytes ≡ Err e → (e ≡ sync.BadMessage → ⊥) → (e ≡ sync.BadChange → ⊥) → ⊥
no_other bytes e h message change = elim (message_faults bytes e h) [ inl is ↦ message is | inr is ↦ change is ]

-- what a refused decoding says of the bytes
pub decoding_refused : (bytes : List ℕ) (e : SyncError) → FailsWith sync.OutOfMemory e (message_at bytes) → RefusesDecoding bytes (refusal_of_sync e)
decoding_refused bytes sync.BadMessage h = h (λ x. cc)
decoding_refused bytes sync.BadChange h = h (λ x. cc)
decoding_refused bytes sync.OutOfMemory h = tt
decoding_refused bytes sync.TooManyHeads h = no_other bytes sync.TooManyHeads (h (λ x. cc)) (λ x. cc) (λ x. cc)
decoding_refused bytes sync.PendingFull h = no_other bytes sync.PendingFull (h (λ x. cc)) (λ x. cc) (λ x. cc)
decoding_refused bytes sync.OtherDocument h = no_other bytes sync.OtherDocument (h (λ x. cc)) (λ x. cc) (λ x. cc)
decoding_refused bytes sync.NotKept h = no_other bytes sync.NotKept (h (λ x. cc)) (λ x. cc) (λ x. cc)

-- The spelling of a message is decoded to it.
pub decodes : (m : MessageParts) → IsMessage m → Decodes (message_spelling m) m
decodes m is = record { reads = message_again m is; limits = is }

-- all changes of the message were received
pub heard_all : (a : Actor) (d d' : DocState) (L L' : List (ℕ × SyncParts)) (k k' : JournalState) (link : ℕ) (bytes : List ℕ) (m : MessageParts) (r : Applied) (same : Bool) → is_one_too_many L link ≡ false → Decodes bytes m → d'.id ≡ d.id
    → ReceivesWith AppendsRecord RefusesRecord (kept_by k d) m.changes (kept_by k' d') (Done (report_of r))
    → IsTrue same ↔ ((known_of L link).theirs ≡ Some m.heads) → L' ≡ with_link L link (after_message (known_of L link) m)
    → ReceivesMessage (peer_state a d L k false) link bytes (report_of r) same (peer_state a d' L' k' false)
heard_all a d d' L L' k k' link bytes m r same place decodes id receives same_heads is = record {
  place = place;
  message = m;
  decodes = decodes;
  taken = peer_state a d' L k' false;
  takes = took a d d' L k k' false m.changes (Done (report_of r)) id receives;
  same = same_heads;
  left = ap (λ (M : List (ℕ × SyncParts)). peer_state a d' M k' false) is;
}

-- receiving them was refused
pub heard_part : (a : Actor) (d d' : DocState) (L : List (ℕ × SyncParts)) (k k' : JournalState) (link : ℕ) (bytes : List ℕ) (m : MessageParts) (e : SyncError) → is_one_too_many L link ≡ false → Decodes bytes m → d'.id ≡ d.id
    → HasOutcome receive_error_of (Err e) (ReceivesWith AppendsRecord RefusesRecord (kept_by k d) m.changes (kept_by k' d'))
    → RefusesReceive (peer_state a d L k false) link bytes (refusal_of_sync e) (peer_state a d' L k' (is_failed (refusal_of_sync e)))
heard_part a d d' L k k' link bytes m sync.PendingFull place decodes id h = (place, (m, decodes, h.0), took_none a d d' L k k' false id h.1)
heard_part a d d' L k k' link bytes m sync.NotKept place decodes id h = (place, record { message = m; decodes = decodes; takes = took a d d' L k k' false m.changes (Stopped receive.NotKept) id h })
heard_part a d d' L k k' link bytes m sync.OutOfMemory place decodes id h = (place, inr (record { message = m; decodes = decodes; takes = took a d d' L k k' false m.changes (Stopped receive.OutOfMemory) id h }))
heard_part a d d' L k k' link bytes m sync.BadMessage place decodes id h = absurd h
heard_part a d d' L k k' link bytes m sync.BadChange place decodes id h = absurd h
heard_part a d d' L k k' link bytes m sync.TooManyHeads place decodes id h = absurd h
heard_part a d d' L k k' link bytes m sync.OtherDocument place decodes id h = absurd h
