-- What edits of earlier texts leave of a peer.
use Rattle.std.proofs.Common.{◌≡◌, ◌∙◌, refl, ap, sym, false, List, [], ◌++◌, Option, Result, Ok, Err, append-nil, append_assoc}
use Rattle.std.specs.Prelude.{MatchResult}
use Rattle.tp_layout.specs.declared.parts.ChangeParts.{ChangeParts}
use Rattle.tp_document.specs.Editing.{EditRequest}
use Rattle.tp_opid.specs.declared.hash.Hash.{Hash}
use Rattle.tp_peer.proofs.EarlierLaws.{edit_now, edits_at_keep, refused_at_keeps}
use Rattle.tp_peer.specs.EditingAt.{EditsAt, RefusesEditAt, StepsAt}
use Rattle.tp_peer.specs.Laws.{Keeps}
use Rattle.tp_peer.specs.PeerState.{PeerState}
use Rattle.tp_peer.specs.PeerStep.{Reply}
use Rattle.tp_peer.specs.declared.editing_at.EditAtError.{EditAtError}
use Rattle.tp_commands.specs.Since.{GrowsAlone}
use Rattle.tp_commands.proofs.SinceLaws.{steps_running}

-- nothing was done
pub same_grows : (p : PeerState) → GrowsAlone p p
same_grows p = record { id = refl; actor = refl; new = []; applied = sym (append-nil p.applied); links = λ m. refl }

-- what was done in turn
pub grows_on : (p q r : PeerState) → GrowsAlone p q → GrowsAlone q r → GrowsAlone p r
grows_on p q r a b = record {
  id = b.id ∙ a.id;
  actor = b.actor ∙ a.actor;
  new = a.new ++ b.new;
  applied = b.applied ∙ (ap (λ (C : List ChangeParts). C ++ b.new) a.applied ∙ append_assoc p.applied a.new b.new);
  links = λ m. b.links m ∙ a.links m;
}

kept_grows : (p p' : PeerState) (reply : Reply) → Keeps p edit_now reply p' → GrowsAlone p p'
kept_grows p p' reply k = record { id = k.id; actor = k.actor; new = k.new; applied = k.applied; links = λ m. k.others m refl }

running_grows : (p p' : PeerState) (H : List Hash) (asked : EditRequest) (answer : Result (Option Hash) EditAtError) → p.stopped ≡ false
    → MatchResult answer (λ made. EditsAt p H asked made p') (λ e. RefusesEditAt p H asked e p') → GrowsAlone p p'
running_grows p p' H asked (Ok made) running done = kept_grows p p' _ (edits_at_keep p p' H asked made running done)
running_grows p p' H asked (Err e) running refused = kept_grows p p' _ (refused_at_keeps p p' H asked e running refused)

-- an edit of an earlier text, whatever it came to
pub edit_grows : (p p' : PeerState) (H : List Hash) (asked : EditRequest) (answer : Result (Option Hash) EditAtError) → p.stopped ≡ false → StepsAt p H asked answer p' → GrowsAlone p p'
edit_grows p p' H asked answer running step = running_grows p p' H asked answer running (steps_running p p' H asked answer running step)
