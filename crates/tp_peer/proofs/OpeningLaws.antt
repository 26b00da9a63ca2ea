-- What a refused beginning of a journal is to a copy.
use Rattle.tp_peer.proofs.Common.{List, ChangeParts, journal, PeerError, JournalState, Actor, DocId, ActorInUse}
use Rattle.tp_peer.specs.Opening.{RefusesNewJournal, RefusesCopy}

-- a journal that wasn't begun is one to which nothing was copied
pub not_copied : (id : DocId) (C : List ChangeParts) (actor : Actor) (k k' : JournalState) (e : PeerError) → RefusesNewJournal (journal id C) k e k' → RefusesCopy id C actor k e k'
not_copied id C actor k k' ActorInUse h = absurd h
not_copied id C actor k k' e h = h
