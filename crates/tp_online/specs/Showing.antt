-- What a page came to, on the seats of a served peer.
use Rattle.std.specs.Prelude.{◌≡◌, ◌⊎◌, ℕ, List, [], ◌∷◌, is_some, Option, Result, IsTrue}
use Rattle.tp_command_line.specs.declared.job.Hosting.{Hosting}
use Rattle.tp_disk.specs.DiskView.{DiskView}
use Rattle.tp_disk.specs.Opening.{OpensUnder}
use Rattle.tp_list.specs.Traces.{Trace}
use Rattle.tp_net.specs.Sessions.{HoldsSession, Sits}
use Rattle.tp_online.specs.Sessions.{EndsRunning, GoWatched, opened_seats}
use Rattle.tp_opid.specs.declared.doc_id.DocId.{DocId}
use Rattle.tp_peer.specs.PeerState.{PeerState}
use Rattle.tp_served.specs.Seats.{SeatState, ServedState}
use Rattle.tp_session.specs.declared.error.NetError.{NetError}
use Rattle.tp_session.specs.declared.session.Role.TheVariants.{Client}
use Rattle.tp_web.specs.Visiting.{Attends}

-- The seat stayed at its served peer, and some sessions led it from the one to the other, each as the client.
pub record FollowsServer (id : DocId) (s s' : SeatState) : Type 0 where
  pub served : s'.served ≡ s.served
  pub answers : List (Result ℕ NetError)
  pub sessions : Trace (HoldsSession Client id) s.state answers s'.state

-- A seat of the page's peer went on by turns of windows, where the peer stayed or made one edit of a window in each
-- turn; or by sessions as the server, where these are served beside the page; or by sessions as the client, where a
-- server is followed.
abbrev pub TakesPart : Hosting → DocId → SeatState → SeatState → Type 0
TakesPart hosting id s s' = Attends s s'
    ⊎ ((IsTrue (is_some hosting.serve) × Sits id s s') ⊎ (IsTrue (is_some hosting.follow) × FollowsServer id s s'))

-- So it is of each seat, in their order, and as many are there.
abbrev pub AllTakePart : Hosting → DocId → List SeatState → List SeatState → Type 0
AllTakePart hosting id [] [] = Unit {0}
AllTakePart hosting id [] (s' ∷ seats') = ⊥
AllTakePart hosting id (s ∷ seats) [] = ⊥
AllTakePart hosting id (s ∷ seats) (s' ∷ seats') = TakesPart hosting id s s' × AllTakePart hosting id seats seats'

-- The peer p was opened, and shown on a page; with its seats, as they went on from the opening, all but the one that watched it, the
-- closing gives back the peer p'. Its journal didn't stop it.
pub record WasShown (saw : DiskView → Type 0) (note : Option (List ℕ)) (hosting : Hosting) (p p' : PeerState) : Type 0 where
  pub served : ServedState
  pub opened : served.opened ≡ p
  pub back : List SeatState
  pub parts : GoWatched saw note (AllTakePart hosting served.opened.id) (opened_seats served) back
  pub ends : EndsRunning served back p'

-- The peer that was opened on the bytes of a journal, under the actor that is drawn under the key, was shown on a page.
pub record ShowsJournal (saw : DiskView → Type 0) (note : Option (List ℕ)) (hosting : Hosting) (key : Option (List ℕ)) (bytes : List ℕ) (p' : PeerState) : Type 0 where
  pub peer : PeerState
  pub opens : OpensUnder key bytes peer
  pub shown : WasShown saw note hosting peer p'
