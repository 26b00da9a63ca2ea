-- What sessions came to, on the seats of a served peer and on a peer alone.
use Rattle.std.specs.Prelude.{◌≡◌, ◌⊎◌, ℕ, ◌+◌, min, List, [], ◌∷◌, ◌++◌, length, Ok, Option, Some, None, false}
use Rattle.std.specs.List.{All, flat_map}
use Rattle.tp_peer.specs.PeerState.{PeerState}
use Rattle.tp_session.specs.declared.session.Role.{Role}
use Rattle.tp_session.specs.declared.session.Role.TheVariants.{Client}
use Rattle.tp_disk.specs.DiskView.{DiskView, OfFile, OfLocked}
use Rattle.tp_disk.specs.Opening.{MayCutFile, OpensUnder}
use Rattle.tp_list.specs.Traces.{Trace}
use Rattle.tp_report.specs.Telling.{Reports}
use Rattle.tp_online.specs.Network.{met_line}
use Rattle.tp_online.specs.Watching.{Watches}
use Rattle.tp_net.specs.Sessions.{AllSit, AttemptsSessionAlone}
use Rattle.tp_served.specs.Calls.{Closes}
use Rattle.tp_served.specs.Seats.{SeatState, ServedState, fresh_from, seats_of, states_of}

-- the seats of a served peer, as its opening gives them
abbrev pub opened_seats : ServedState → List SeatState
opened_seats d = seats_of d.served (fresh_from d.opened 0 d.count)

-- The peer p is what the closing of the served peer gives back for the seats, and its journal didn't stop it.
pub record EndsRunning (served : ServedState) (seats : List SeatState) (p : PeerState) : Type 0 where
  pub closes : Closes served.opened served.count (states_of seats) p
  pub runs : p.stopped ≡ false

-- The seats went on: all but the last as said, and the last one watched the peer, beside a text file if one is kept.
pub record GoWatched (saw : DiskView → Type 0) (note : Option (List ℕ)) (went : List SeatState → List SeatState → Type 0) (seats seats' : List SeatState) : Type 0 where
  pub first : List SeatState
  pub last : SeatState
  pub are : seats ≡ first ++ last ∷ []
  pub back : List SeatState
  pub watch : SeatState
  pub are_back : seats' ≡ back ++ watch ∷ []
  pub led : went first back
  pub watches : Watches saw note last watch

-- The peer p was opened, and served on a seat for each of as many sessions at once as said, and one that watched it, on 64 at most;
-- with these, as sessions about its document led them from the opening on, each as the server, the closing gives back the peer p'.
-- Its journal didn't stop it.
pub record WasServed (saw : DiskView → Type 0) (note : Option (List ℕ)) (p : PeerState) (count : ℕ) (p' : PeerState) : Type 0 where
  pub served : ServedState
  pub opened : served.opened ≡ p
  pub number : served.count ≡ min (count + 1) 64
  pub back : List SeatState
  pub sat : GoWatched saw note (AllSit served.opened.id) (opened_seats served) back
  pub ends : EndsRunning served back p'

-- The peer that was opened on the bytes of a journal, under the actor that is drawn under the key, was served.
pub record ServesJournal (saw : DiskView → Type 0) (note : Option (List ℕ)) (key : Option (List ℕ)) (bytes : List ℕ) (count : ℕ) (p' : PeerState) : Type 0 where
  pub peer : PeerState
  pub opens : OpensUnder key bytes peer
  pub served : WasServed saw note peer count p'

-- One session about the opened document led the peer that was opened on the bytes of the file, under the actor that is drawn
-- under the key, to p', as the side; n changes entered by it, up to 2^64 - 1.
pub record HasMet (saw : DiskView → Type 0) (file : List ℕ) (key : Option (List ℕ)) (role : Role) (n : ℕ) (p' : PeerState) : Type 0 where
  pub peer : PeerState
  pub opens : OfLocked saw file (λ bytes. OpensUnder key bytes peer)
  pub meets : AttemptsSessionAlone role peer (Ok n) p'

-- The peer was opened on bytes that were read of the file, under the actor that is drawn under the key, and some sessions as
-- the client, in which nothing entered, led it on.
pub record IsIdle (saw : DiskView → Type 0) (file : List ℕ) (key : Option (List ℕ)) (p : PeerState) : Type 0 where
  pub start : PeerState
  pub opens : OfFile saw file (λ bytes. OpensUnder key bytes start)
  pub times : List (Unit {0})
  pub sessions : Trace (λ q _ q'. AttemptsSessionAlone Client q (Ok 0) q') start times p

-- One session as the client led such a peer to p', and n changes entered by it.
pub record HasMetIdle (saw : DiskView → Type 0) (file : List ℕ) (key : Option (List ℕ)) (n : ℕ) (p' : PeerState) : Type 0 where
  pub peer : PeerState
  pub idle : IsIdle saw file key peer
  pub meets : AttemptsSessionAlone Client peer (Ok n) p'

-- One session was held as the client, of the peer that was opened for it or of one that was read before, and n changes entered.
abbrev pub HasFollowed : (DiskView → Type 0) → List ℕ → Option (List ℕ) → ℕ → Type 0
HasFollowed saw file key n = (p' : PeerState) × (HasMet saw file key Client n p' ⊎ HasMetIdle saw file key n p')

-- That was so, or a session may be held later.
abbrev pub MayMeet : (DiskView → Type 0) → List ℕ → Option (List ℕ) → Option ℕ → Type 0
MayMeet saw file key None = Unit {0}
MayMeet saw file key (Some n) = HasFollowed saw file key n

-- That many sessions were held as the client, one after another, and this is printed of them.
pub record IsFollowed (saw : DiskView → Type 0) (file : List ℕ) (key : Option (List ℕ)) (held : ℕ) (printed : List ℕ) : Type 0 where
  pub applied : List ℕ
  pub count : length applied ≡ held
  pub met : All (HasFollowed saw file key) applied
  pub spelled : printed ≡ flat_map met_line applied

-- What the error stream holds of what was cut off, of each of some times that the journal in the file was opened, one after
-- another.
abbrev pub ReportsEach : (DiskView → Type 0) → List ℕ → List (Option ℕ) → Option (List ℕ) → Option (List ℕ) → Type 0
ReportsEach saw file [] before after = before ≡ after
ReportsEach saw file (cut ∷ cuts) before after =
    (mid : Option (List ℕ)) × MayCutFile saw file cut × Reports file cut None before mid × ReportsEach saw file cuts mid after
