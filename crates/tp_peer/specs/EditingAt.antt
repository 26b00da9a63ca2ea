-- Edits of earlier texts: what one of them does to a peer, and why it is refused.
use Rattle.std.specs.Prelude.{◌≡◌, ◌≢◌, List, Bool, false, Option, Some, None, Result, Err, MatchBool, MatchResult, IsTrue}
use Rattle.tp_history.specs.Named.{has_all}
use Rattle.tp_history.specs.Past.{past}
use Rattle.tp_document.specs.Editing.{EditRequest, AsksNothing, IsAcceptedEdit, RefusesMaking}
use Rattle.tp_document.specs.declared.error.DocError.TheVariants as doc
use Rattle.tp_opid.specs.declared.hash.Hash.{Hash}
use Rattle.tp_peer.specs.Common.{ChangeParts, DocError, cause, hash_of}
use Rattle.tp_peer.specs.PeerState.{PeerState}
use Rattle.tp_peer.specs.PeerError.{is_failed}
use Rattle.tp_peer.specs.PeerStep.{peer_with_change}
use Rattle.tp_peer.specs.Taking.{StopsAppending}
use Rattle.tp_peer.specs.declared.error.PeerError.TheVariants.{Doc, JournalFailed, OutOfMemory, Stopped}
use Rattle.tp_peer.specs.declared.editing_at.EditAtError.{EditAtError}
use Rattle.tp_peer.specs.declared.editing_at.EditAtError.TheVariants.{Peer, Unfit}

-- the device of the journal failed
abbrev pub has_failed : EditAtError → Bool
has_failed (Unfit e) = false
has_failed (Peer e) = is_failed e

-- ---- a change that was made

-- The change entered after all others, and h is its hash.
abbrev pub EntersMade : PeerState → ChangeParts → Hash → PeerState → Type 0
EntersMade p c h p' = (cause p.applied c ≡ None) × (h ≡ hash_of c) × (p' ≡ peer_with_change p c)

-- Why it didn't: it doesn't fit there, the device failed while its record was appended, or memory ran out.
abbrev pub RefusesMade : PeerState → ChangeParts → EditAtError → PeerState → Type 0
RefusesMade p c (Unfit e) p' = (cause p.applied c ≡ Some e) × (p' ≡ p)
RefusesMade p c (Peer JournalFailed) p' = (cause p.applied c ≡ None) × StopsAppending p c p'
RefusesMade p c (Peer OutOfMemory) p' = p' ≡ p
RefusesMade p c (Peer _) p' = ⊥

-- ---- edits

-- Why no change is made of the text at the hashes: a hash isn't that of a change, or the edit is refused there.
abbrev pub RefusesMakingAt : List ChangeParts → List Hash → EditRequest → DocError → Type 0
RefusesMakingAt C H asked doc.UnknownHead = has_all C H ≡ false
RefusesMakingAt C H asked e = IsTrue (has_all C H) × RefusesMaking (past C H) asked e

-- What an edit of the text at the hashes did: nothing where it asked nothing, and else the change that it makes of their past
-- entered.
abbrev pub EditsAt : PeerState → List Hash → EditRequest → Option Hash → PeerState → Type 0
EditsAt p H asked None p' = IsTrue (has_all p.applied H) × AsksNothing (past p.applied H) asked × (p' ≡ p)
EditsAt p H asked (Some h) p' = (c : ChangeParts) × IsTrue (has_all p.applied H) × IsAcceptedEdit (past p.applied H) asked c × EntersMade p c h p'

-- What a refused one leaves: the peer as it was, or stopped where the device failed.
abbrev pub RefusesEditAt : PeerState → List Hash → EditRequest → EditAtError → PeerState → Type 0
RefusesEditAt p H asked (Peer (Doc e)) p' = RefusesMakingAt p.applied H asked e × (e ≢ doc.OutOfMemory) × (p' ≡ p)
RefusesEditAt p H asked (Peer OutOfMemory) p' = p' ≡ p
RefusesEditAt p H asked e p' = (c : ChangeParts) × IsAcceptedEdit (past p.applied H) asked c × RefusesMade p c e p'

-- From p on, an edit of the text at the hashes may give the answer and leave p'. A peer that has stopped refuses it.
unfoldable pub StepsAt : PeerState → List Hash → EditRequest → Result (Option Hash) EditAtError → PeerState → Type 0
StepsAt p H asked answer p' =
    MatchBool p.stopped ((answer ≡ Err (Peer Stopped)) × (p' ≡ p))
    (MatchResult answer (λ made. EditsAt p H asked made p') (λ e. RefusesEditAt p H asked e p'))
