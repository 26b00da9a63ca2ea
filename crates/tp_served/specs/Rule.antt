-- The rule that a served peer's shared state keeps: one word, one slot, and a view for each seat.
use Rattle.std.specs.Prelude.{◌≡◌, ◌≢◌, ◌⊎◌, ℕ, ◌+◌, ◌<◌, ◌==◌, List, [], ◌∷◌, ◌++◌, length, if◌then◌else◌, Option, Some, None}
use Rattle.tp_served.specs.Common.{State, In, ChangeParts, PeerState}
use mathlib.Core.Option as maybe
use lib.ListN.{get_elem?}
use Rattle.tp_served.specs.Seats.{IsKeptIn, SeatKnowledge}

-- One view: the seats that are joined in it, and the peer that it holds, where it holds one.
pub record ViewState : Type 0 where
  pub holding : Option PeerState
  pub seats : List SeatKnowledge

-- the shared state: the word, the slot, and all views
abbrev pub SharedState : Type 0
SharedState = State (Option PeerState) ViewState

-- the view of seats that hold nothing
abbrev pub idle : List SeatKnowledge → ViewState
idle ts = record { holding = None; seats = ts }

-- the view of one seat that holds nothing
abbrev pub idle_seat : SeatKnowledge → ViewState
idle_seat t = idle (t ∷ [])

-- the view of one seat that holds the peer
abbrev pub holding_seat : PeerState → SeatKnowledge → ViewState
holding_seat p t = record { holding = Some p; seats = t ∷ [] }

-- how many of the seats have the number n
abbrev pub times : ℕ → List SeatKnowledge → ℕ
times n [] = 0
times n (t ∷ ts) = (if t.number == n then 1 else 0) + times n ts

-- a number of each view, added up
abbrev pub total : (ViewState → ℕ) → List ViewState → ℕ
total f [] = 0
total f (v ∷ vs) = f v + total f vs

-- the changes, each with the number n
abbrev pub each_with_number : ℕ → List ChangeParts → List (ℕ × ChangeParts)
each_with_number n [] = []
each_with_number n (c ∷ cs) = (n, c) ∷ each_with_number n cs

-- the changes without their numbers
abbrev pub changes_of : List (ℕ × ChangeParts) → List ChangeParts
changes_of [] = []
changes_of (x ∷ xs) = x.1 ∷ changes_of xs

-- the changes whose number is n
abbrev pub entered_by : ℕ → List (ℕ × ChangeParts) → List ChangeParts
entered_by n [] = []
entered_by n (x ∷ xs) = if x.0 == n then x.1 ∷ entered_by n xs else entered_by n xs

-- The peer is the opened one, its list grown by the changes `entered`, each of which has the number of a seat.
pub record IsCurrent (opened : PeerState) (count : ℕ) (entered : List (ℕ × ChangeParts)) (p : PeerState) : Type 0 where
  pub id : p.id ≡ opened.id
  pub actor : p.actor ≡ opened.actor
  pub applied : p.applied ≡ opened.applied ++ changes_of entered
  pub seats : (x : ℕ × ChangeParts) → In x entered → x.0 < count

-- The peer goes on from what the seat left, and the changes that have the seat's number are those that it entered.
pub record SeatFits (count : ℕ) (entered : List (ℕ × ChangeParts)) (p : PeerState) (t : SeatKnowledge) : Type 0 where
  pub number : t.number < count
  pub kept : IsKeptIn t p
  pub mine : entered_by t.number entered ≡ t.mine

-- each of these seats fits
abbrev pub AllSeatsFit : ℕ → List (ℕ × ChangeParts) → PeerState → List SeatKnowledge → Type 0
AllSeatsFit count entered p [] = Unit {0}
AllSeatsFit count entered p (t ∷ ts) = SeatFits count entered p t × AllSeatsFit count entered p ts

-- The word is 0: the peer is in the slot, and no view holds one.
pub record IsHome (p : PeerState) (s : SharedState) : Type 0 where
  pub word : s.words ≡ 0 ∷ []
  pub slot : s.homes ≡ maybe.some (Some p) ∷ []
  pub idle : (j : ℕ) (v : ViewState) → get_elem? s.views j ≡ maybe.some v → v.holding ≡ None

-- The word is 1: the slot is out, and one view holds the peer, that of a single seat.
pub record IsOut (p : PeerState) (s : SharedState) : Type 0 where
  pub word : s.words ≡ 1 ∷ []
  pub slot : s.homes ≡ maybe.none ∷ []
  pub holder : ℕ
  pub seat : SeatKnowledge
  pub held : get_elem? s.views holder ≡ maybe.some (holding_seat p seat)
  pub idle : (j : ℕ) (v : ViewState) → get_elem? s.views j ≡ maybe.some v → j ≢ holder → v.holding ≡ None

-- The peer is what a seat's last turn left, or the opened one.
pub record IsLeft (p : PeerState) (views : List ViewState) : Type 0 where
  pub view : ℕ
  pub state : ViewState
  pub there : get_elem? views view ≡ maybe.some state
  pub seat : SeatKnowledge
  pub member : In seat state.seats
  pub left : p ≡ seat.after

-- The rule. There is one current peer. Each number of a seat is there once among all views, and nothing else does.
pub record ServedInvariant (opened : PeerState) (count : ℕ) (s : SharedState) : Type 0 where
  pub current : PeerState
  pub entered : List (ℕ × ChangeParts)
  pub is : IsCurrent opened count entered current
  pub place : IsHome current s ⊎ IsOut current s
  pub fits : (j : ℕ) (v : ViewState) → get_elem? s.views j ≡ maybe.some v → AllSeatsFit count entered current v.seats
  pub once : (n : ℕ) → n < count → total (λ v. times n v.seats) s.views ≡ 1
  pub all : total (λ v. length v.seats) s.views ≡ count
  pub left : IsLeft current s.views
