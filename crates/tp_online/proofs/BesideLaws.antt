-- A turn of a served peer's seat with a text file.
use Rattle.std.proofs.Common.{◌≡◌, ◌⊎◌, ◌∙◌, ℕ, Bool, false, true, List, IfOk, OnOk, Option, Some, None, Result, Ok, Err, inl, inr, refl, sym, subst, is_some}
use Rattle.tp_commands.specs.Since.{GrowsAlone}
use Rattle.tp_commands.proofs.GrowthLaws.{same_grows}
use Rattle.tp_commands.specs.declared.error.CommandError.{CommandError}
use Rattle.tp_disk.specs.DiskView.{DiskView, OfLocked}
use Rattle.tp_mirroring.specs.Taking.{HasTakings}
use Rattle.tp_peer.specs.PeerState.{PeerState}
use Rattle.tp_served.specs.Absences.{AbsenceState}
use Rattle.tp_served.specs.Seats.{IsKeptIn, SeatKnowledge, SeatState, Visits, gave, missed_by, took}
use Rattle.tp_served.specs.Steps.{StepsAsSeat}
use Rattle.tp_served.proofs.TokenLaws.{turn_visits}
use Rattle.tp_online.specs.declared.mirrored.Mirrored.{Mirrored}
use Rattle.tp_online.specs.declared.mirrored.Noted.{Noted}
use Rattle.tp_online.specs.Watching.{IsMirrored, note_of}

-- nothing was done
pub not_mirrored : (saw : DiskView → Type 0) (note : List ℕ) (p : PeerState) → IsMirrored saw note p p
not_mirrored saw note p = record { grows = same_grows p; refused = true; takings = tt }

-- a turn, whatever it came to
pub mirrored_by : {A : Type 0} (saw : DiskView → Type 0) (note : List ℕ) (p p' : PeerState) (done : Result A CommandError) → GrowsAlone p p' → OnOk done (HasTakings false saw note p p') → IsMirrored saw note p p'
mirrored_by saw note p p' (Ok left) grows taken = record { grows = grows; refused = false; takings = taken }
mirrored_by saw note p p' (Err e) grows taken = record { grows = grows; refused = true; takings = tt }

-- it is what a turn of the seat may do
pub mirrored_steps : (saw : DiskView → Type 0) (note : List ℕ) (n : ℕ) (out p p' : PeerState) → out ≡ p → IsMirrored saw note p p' → StepsAsSeat n out p'
mirrored_steps saw note n out p p' is m =
    let g = m.grows in
    subst (λ (o : PeerState). StepsAsSeat n o p') (sym is) (record { id = g.id; actor = g.actor; new = g.new; applied = g.applied; links = λ k other. g.links k })

-- what the seat shows once the peer is given back
pub given_back : (saw : DiskView → Type 0) (note : List ℕ) (t : SeatKnowledge) (a : AbsenceState) (p p' : PeerState) (s : SeatState) → a.out ≡ p
    → (k : ℕ) × (a.seat ≡ took (missed_by k t)) × IsKeptIn (missed_by k t) p → IsMirrored saw note p p' → s.state ≡ gave a.out p' a.seat → Visits t (IsMirrored saw note) s.state
given_back saw note t a p p' s out (k, seat, kept) m is =
    subst (λ (u : SeatKnowledge). Visits t (IsMirrored saw note) u) (sym is)
    (subst (λ (o : PeerState). Visits t (IsMirrored saw note) (gave o p' a.seat)) (sym out) (turn_visits t a.seat k p p' (IsMirrored saw note) seat kept m))

-- ---- the text file that was asked for

note_there : (m : Option Mirrored) → is_some (note_of m) ≡ is_some m
note_there None = refl
note_there (Some m) = refl

pub note_given : (m : Option Mirrored) (given : Option Noted) → is_some m ≡ is_some given → is_some (note_of m) ≡ is_some given
note_given m given is = note_there m ∙ is

pub with_note : {A E : Type 0} (saw : DiskView → Type 0) (file : List ℕ) (some : Bool) (note : Option (List ℕ)) (P : Option (List ℕ) → List ℕ → A → Type 0) (r : Result A E) → is_some note ≡ some
    → IfOk r (λ p. OfLocked saw file (λ bytes. P note bytes p)) → IfOk r (λ p. OfLocked saw file (λ bytes. (n : Option (List ℕ)) × (is_some n ≡ some) × P n bytes p))
with_note saw file some note P (Ok p) is (bytes, read, h) = (bytes, read, (note, is, h))
with_note saw file some note P (Err e) is h = h
