-- What a peer keeps, whatever is asked in a window.
use Rattle.std.proofs.Common.{false, inl, inr, refl, true, ◌≡◌, ◌⊎◌, Bool, Err, List, MatchBool, Ok, Option, Result, []}
use Rattle.std.specs.Prelude.{MatchResult}
use Rattle.std.specs.Str.{chars}
use Rattle.tp_document.specs.Editing.{EditRequest, asking}
use Rattle.tp_opid.specs.declared.actor.Actor.{Actor}
use Rattle.tp_opid.specs.declared.hash.Hash.{Hash}
use Rattle.tp_peer.proofs.EarlierLaws.{edit_now, edits_at_keep, refused_at_keeps, refused_now}
use Rattle.tp_peer.proofs.StepLaws.{same_keeps}
use Rattle.tp_peer.specs.EditingAt.{EditsAt, RefusesEditAt, StepsAt}
use Rattle.tp_peer.specs.Laws.{Keeps}
use Rattle.tp_peer.specs.PeerState.{PeerState}
use Rattle.tp_peer.specs.PeerStep.{Made, Refused, Reply}
use Rattle.tp_peer.specs.declared.editing_at.EditAtError.{EditAtError}
use Rattle.tp_peer.specs.declared.error.PeerError.TheVariants.{Stopped}
use Rattle.tp_window.specs.Windows.{MayEdit}

-- some reply, as that of an edit now, keeps so
abbrev pub KeepsSomehow : PeerState → PeerState → Type 0
KeepsSomehow p p' = (reply : Reply) × Keeps p edit_now reply p'

-- the peer stayed
stays_somehow : (p p' : PeerState) → p' ≡ p → KeepsSomehow p p'
stays_somehow p p' same = (Refused Stopped, same_keeps p p' edit_now (Refused Stopped) (λ x. cc) same)

-- what a test of whether the peer has stopped leaves
cases_of : {A B : Type 0} (b : Bool) → MatchBool b A B → ((b ≡ true) × A) ⊎ ((b ≡ false) × B)
cases_of true h = inl (refl, h)
cases_of false h = inr (refl, h)

-- what was made on earlier heads, or refused there
running_keeps : (p p' : PeerState) (H : List Hash) (asked : EditRequest) (answer : Result (Option Hash) EditAtError) → p.stopped ≡ false
    → MatchResult answer (λ made. EditsAt p H asked made p') (λ e. RefusesEditAt p H asked e p') → KeepsSomehow p p'
running_keeps p p' H asked (Ok made) running done = (Made made, edits_at_keep p p' H asked made running done)
running_keeps p p' H asked (Err e) running refused = (refused_now e, refused_at_keeps p p' H asked e running refused)

steps_keep : (p p' : PeerState) (H : List Hash) (asked : EditRequest) (answer : Result (Option Hash) EditAtError) → StepsAt p H asked answer p' → KeepsSomehow p p'
unfolding StepsAt
steps_keep p p' H asked answer step =
    elim (cases_of p.stopped step) [ inl stopped ↦ stays_somehow p p' stopped.1.1 | inr runs ↦ running_keeps p p' H asked answer runs.0 runs.1 ]

pub edits_keep : (actor : Actor) (p p' : PeerState) → MayEdit actor p p' → KeepsSomehow p p'
edits_keep actor p p' (inl same) = stays_somehow p p' same
edits_keep actor p p' (inr edit) = steps_keep p p' edit.0 (asking actor edit.1 edit.2 (chars [])) edit.3 edit.4
