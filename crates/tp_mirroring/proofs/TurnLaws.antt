-- What a turn made of a journal.
use Rattle.std.proofs.Common.{◌≡◌, ◌⊎◌, inl, inr, List, ℕ, sym, subst, Bool, false, Option, Some, None}
use Rattle.std.specs.Prelude.{OnErr, OnOk, Ok, Err, Result}
use Rattle.tp_opid.specs.declared.actor.Actor.{Actor}
use Rattle.tp_peer.specs.Appending.{JournalState}
use Rattle.tp_peer.specs.Opening.{Reopens}
use Rattle.tp_peer.specs.PeerState.{HasJournal, PeerState}
use Rattle.tp_recovery.specs.Recovery.{Recovers}
use Rattle.tp_disk.specs.DiskView.{ChangesFile, DiskView, WasLocked, WasLeft}
use Rattle.tp_disk.specs.Opening.{CutsFile, CutsJournal, MayCutFile}
use Rattle.tp_mirroring.specs.Seeing.{first_cut}
use Rattle.tp_mirroring.specs.Taking.{HasTakings, Mirrors}

-- what follows where it was done
pub on_ok : {X E : Type 0} {P Q : Type 0} (r : Result X E) → (P → Q) → OnOk r P → OnOk r Q
on_ok (Ok x) f h = f h
on_ok (Err e) f h = tt

-- it was done
pub on_done : {X E : Type 0} {P : Type 0} (r : Result X E) → P → OnOk r P
on_done (Ok x) p = p
on_done (Err e) p = tt

-- nor is anything said where it was
pub on_refused : {X E : Type 0} {P : Type 0} (r : Result X E) → P → OnErr r P
on_refused (Ok x) p = tt
on_refused (Err e) p = p

-- nothing failed midway where it was done
pub taken_on : {X E : Type 0} (done : Result X E) (saw : DiskView → Type 0) (note : List ℕ) (failed : Bool) (p q : PeerState) → OnOk done (failed ≡ false)
    → HasTakings failed saw note p q → OnOk done (HasTakings false saw note p q)
taken_on (Ok x) saw note failed p q fine h = subst (λ (b : Bool). HasTakings b saw note p q) fine h
taken_on (Err e) saw note failed p q fine h = tt

-- The journal was opened, texts were taken, and it has the peer's changes.
pub turn_mirrors : (saw : DiskView → Type 0) (note : List ℕ) (k : JournalState) (actor : Actor) (first last : PeerState) (content : List ℕ) → Reopens k actor first
    → HasTakings false saw note first last → HasJournal last.stopped last.id last.applied content → Mirrors saw note k.content content
turn_mirrors saw note k actor first last content opens taken kept = record {
  first = first;
  last = last;
  takings = taken.1.0;
  keep = opens.keep;
  recovers = subst (λ (p : PeerState). Recovers k.content p.id p.applied opens.keep) (sym opens.is) opens.recovers;
  takes = taken.1.1;
  journal_is = subst (λ (b : Bool). HasJournal b last.id last.applied content) taken.0 kept;
}

-- The journal at the path was opened, whatever the path is called.
pub cuts_at : (saw : DiskView → Type 0) (path file : List ℕ) → path ≡ file → (bytes : List ℕ) (cut : Option ℕ) → saw (WasLocked path bytes) → CutsJournal saw path bytes cut
    → CutsFile saw file cut
cuts_at saw path file is bytes cut taken cuts = subst (λ (p : List ℕ). CutsFile saw p cut) is (bytes, taken, cuts)

-- and left
pub changes_at : (saw : DiskView → Type 0) (path file : List ℕ) → path ≡ file → (P : List ℕ → List ℕ → Type 0) (before after left : List ℕ) → left ≡ after
    → saw (WasLocked path before) → P before after → saw (WasLeft path left) → ChangesFile saw file P
changes_at saw path file is P before after left stays taken holds was =
    subst (λ (p : List ℕ). ChangesFile saw p P) is (before, after, taken, holds, subst (λ (b : List ℕ). saw (WasLeft path b)) stays was)

-- what the first opening cut off that cut something off
pub cuts_first : (saw : DiskView → Type 0) (file : List ℕ) (cut opened : Option ℕ) → MayCutFile saw file cut → CutsFile saw file opened → CutsFile saw file (first_cut cut opened)
cuts_first saw file None opened earlier now = now
cuts_first saw file (Some at) opened (inl none) now = absurd (never none)
  where
    never : Some at ≡ None → ⊥
    never e = cc
cuts_first saw file (Some at) opened (inr cuts) now = cuts

pub may_cut_first : (saw : DiskView → Type 0) (file : List ℕ) (cut opened : Option ℕ) → MayCutFile saw file cut → MayCutFile saw file opened → MayCutFile saw file (first_cut cut opened)
may_cut_first saw file None opened earlier now = now
may_cut_first saw file (Some at) opened earlier now = earlier
