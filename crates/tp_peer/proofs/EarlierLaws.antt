-- What edits of earlier texts keep, and the texts that they make.
use Rattle.tp_peer.proofs.Common.{◌≡◌, List, [], ◌∷◌, ◌++◌, true, false, Option, Some, None, Result, Ok, Err, IfOk, DocError, refl, sym, ap, ◌∙◌, subst, inl, inr, arith, AllIn, In, EditRequest, ChangeParts, DoesSplices, Hash, PeerState, JournalFailed, OutOfMemory, Doc, Call, Edit, Made, Refused, Reply, Keeps, cause}
use Rattle.tp_change.specs.ChangeHash.{hash_of}
use Rattle.tp_document.proofs.EditFits.{edit_text}
use Rattle.tp_edit.specs.Splices.{all_spliced}
use Rattle.tp_document.proofs.TextLaws.{text_of_a_set}
use Rattle.tp_document.specs.Editing.{AsksNothing, IsAcceptedEdit, RefusesMaking}
use Rattle.tp_document.specs.declared.error.DocError.TheVariants as doc
use Rattle.tp_history.proofs.HeadsLaws.{has_all-heads, past-heads}
use Rattle.tp_history.proofs.CauseLaws.{Fits-from_cause}
use Rattle.tp_history.proofs.NamedLaws.{In-has, In-has_all, In-names}
use Rattle.tp_history.proofs.PastLaws.{past-In, past-more, past-push}
use Rattle.tp_history.proofs.SetLaws.{past-same}
use Rattle.tp_history.proofs.SoundLaws.{Sound-push, deps_first, sound_pasts}
use Rattle.std.specs.Prelude.{IfSome, MatchBool, MatchOption, MatchResult}
use Rattle.tp_history.specs.Heads.{heads}
use Rattle.tp_history.specs.Named.{has_all}
use Rattle.tp_history.specs.Past.{past}
use Rattle.tp_history.specs.Sound.{Sound}
use Rattle.tp_list.proofs.Members.{In-append, In-last, In-left, In-right, SameMembers-trans}
use Rattle.tp_list.specs.Members.{SameMembers}
use Rattle.tp_peer.specs.EditingAt.{EditsAt, RefusesMakingAt, RefusesEditAt, RefusesMade, StepsAt}
use Rattle.tp_peer.specs.declared.editing_at.EditAtError.{EditAtError}
use Rattle.tp_peer.specs.declared.editing_at.EditAtError.TheVariants.{Peer, Unfit}
use Rattle.tp_peer.specs.declared.error.PeerError.TheVariants.{Stopped}
use Rattle.tp_peer.proofs.StepLaws.{edit_keeps, edit_tears, same_keeps}

-- ---- what they keep, as edits now do

abbrev pub edit_now : Call
edit_now = Edit [] 0 []

abbrev pub refused_now : EditAtError → Reply
refused_now (Unfit e) = Refused OutOfMemory
refused_now (Peer e) = Refused e

pub edits_at_keep : (p p' : PeerState) (H : List Hash) (asked : EditRequest) (made : Option Hash) → p.stopped ≡ false → EditsAt p H asked made p' → Keeps p edit_now (Made made) p'
edits_at_keep p p' H asked None running s = same_keeps p p' edit_now (Made None) (λ x. cc) s.2
edits_at_keep p p' H asked (Some h) running s = edit_keeps p p' edit_now (Made (Some h)) s.0 (λ x. cc) (omega arith) running s.3.0 s.2.limits s.3.2

pub refused_at_keeps : (p p' : PeerState) (H : List Hash) (asked : EditRequest) (e : EditAtError) → p.stopped ≡ false → RefusesEditAt p H asked e p' → Keeps p edit_now (refused_now e) p'
refused_at_keeps p p' H asked (Unfit e) running s = same_keeps p p' edit_now (Refused OutOfMemory) (λ x. cc) s.2.1
refused_at_keeps p p' H asked (Peer (Doc e)) running s = same_keeps p p' edit_now (Refused (Doc e)) (λ x. cc) s.2
refused_at_keeps p p' H asked (Peer OutOfMemory) running s = same_keeps p p' edit_now (Refused OutOfMemory) (λ x. cc) s
refused_at_keeps p p' H asked (Peer JournalFailed) running s = edit_tears p p' edit_now s.0 running s.2.0 s.2.1
refused_at_keeps p p' H asked (Peer _) running s = absurd s.2

-- ---- their texts

-- everything is the past of a change that is on all heads
alone_on_top : (P : List ChangeParts) (c : ChangeParts) → Sound P → c.deps ≡ heads P → SameMembers (P ++ c ∷ []) (past (P ++ c ∷ []) (hash_of c ∷ []))
alone_on_top P c s on =
    let h = hash_of c in
    let is : past (P ++ c ∷ []) (h ∷ []) ≡ past P (h ∷ c.deps) ++ c ∷ [] = past-push P (h ∷ []) c (In-names (h ∷ []) c (inl refl)) in
    let under : AllIn P (past P (h ∷ c.deps)) =
    λ d i. past-more P (heads P) (h ∷ c.deps) (λ x j. inr (subst (In x) (sym on) j)) d (subst (In d) (sym (past-heads P (deps_first P s))) i) in
    record {
      there = λ d i. subst (In d) (sym is) (elim (In-append d P (c ∷ []) i) [
        | inl below ↦ In-left d (past P (h ∷ c.deps)) (c ∷ []) (under d below)
        | inr top ↦ In-right d (past P (h ∷ c.deps)) (c ∷ []) top
      ]);
      back = past-In (P ++ c ∷ []) (h ∷ []);
    }

pub does_at : (C : List ChangeParts) (H : List Hash) (asked : EditRequest) (c : ChangeParts) → Sound C → IsAcceptedEdit (past C H) asked c → cause C c ≡ None
    → DoesSplices (past C H) (past (C ++ c ∷ []) (hash_of c ∷ [])) asked.splices
does_at C H asked c s edited fits t text =
    let P = past C H in
    let h = hash_of c in
    let below : Sound P = sound_pasts C s H in
    let small : Sound (P ++ c ∷ []) = Sound-push P c below (Fits-from_cause P c edited.enters) in
    let large : Sound (C ++ c ∷ []) = Sound-push C c s (Fits-from_cause C c fits) in
    let known = In-has_all (P ++ c ∷ []) (h ∷ []) (λ x i. elim i [ inl same ↦ In-has (P ++ c ∷ []) c x (In-last c P) (sym same) | inr none ↦ absurd none ]) in
    let within : AllIn (past (P ++ c ∷ []) (h ∷ [])) (C ++ c ∷ []) =
    λ d i. elim (In-append d P (c ∷ []) (past-In (P ++ c ∷ []) (h ∷ []) d i)) [
      | inl old ↦ In-left d C (c ∷ []) (past-In C H d old)
      | inr new ↦ In-right d C (c ∷ []) new
    ] in
    let set = SameMembers-trans (P ++ c ∷ []) (past (P ++ c ∷ []) (h ∷ [])) (past (C ++ c ∷ []) (h ∷ []))
    (alone_on_top P c below edited.edit.deps)
    (past-same (P ++ c ∷ []) (C ++ c ∷ []) (h ∷ []) small large known within) in
    (text_of_a_set (P ++ c ∷ []) (past (C ++ c ∷ []) (h ∷ [])) (all_spliced t asked.splices) set).0 (edit_text P asked c t below edited text)

-- ---- what is made of them

-- what is refused of the text at all heads is refused of the text
not_made : (C : List ChangeParts) (H : List Hash) (asked : EditRequest) (e : DocError) → has_all C H ≡ true → RefusesMaking (past C H) asked e → RefusesMakingAt C H asked e
not_made C H asked doc.UnknownHead known r = absurd (r.1.fails tt)
not_made C H asked _ known r = (known, r)

-- what an edit of the text of a past comes to
abbrev MakesOf : List ChangeParts → EditRequest → (DocError → Type 0) → Result (Option ChangeParts) DocError → Type 0
MakesOf P asked Refuses r = MatchResult r (λ made. MatchOption made (AsksNothing P asked) (λ c. IsAcceptedEdit P asked c)) Refuses

made_there : (C : List ChangeParts) (H : List Hash) (asked : EditRequest) (r : Result (Option ChangeParts) DocError) → has_all C H ≡ true
    → MakesOf (past C H) asked (RefusesMaking (past C H) asked) r → MakesOf (past C H) asked (RefusesMakingAt C H asked) r
made_there C H asked (Ok made) known h = h
made_there C H asked (Err e) known h = not_made C H asked e known h

-- of a fork that has just the past
pub made_at : (C P : List ChangeParts) (H : List Hash) (asked : EditRequest) (r : Result (Option ChangeParts) DocError) → P ≡ past C H → has_all C H ≡ true
    → MakesOf P asked (RefusesMaking P asked) r → MakesOf (past C H) asked (RefusesMakingAt C H asked) r
made_at C P H asked r is known h = made_there C H asked r known (subst (λ X. MakesOf X asked (RefusesMaking X asked) r) is h)

pub made_now : (C : List ChangeParts) (H : List Hash) (asked : EditRequest) (r : Result (Option ChangeParts) DocError) → Sound C → H ≡ heads C
    → MakesOf C asked (RefusesMaking C asked) r → MakesOf (past C H) asked (RefusesMakingAt C H asked) r
made_now C H asked r s on h =
    let whole : past C H ≡ C = ap (past C) on ∙ past-heads C (deps_first C s) in
    let known : has_all C H ≡ true = ap (has_all C) on ∙ has_all-heads C in
    made_at C C H asked r (sym whole) known h

-- all heads are there
pub all_named : {E : Type 0} {T : Type 0} (r : Result T E) (C : List ChangeParts) (H : List Hash) → H ≡ heads C → IfOk r (λ x. has_all C H ≡ true)
all_named (Ok x) C H on = ap (has_all C) on ∙ has_all-heads C
all_named (Err e) C H on = tt

-- why a change that was made didn't enter is why the edit is refused
pub refused_edit_at : (p p' : PeerState) (H : List Hash) (asked : EditRequest) (c : ChangeParts) (e : EditAtError) → IsAcceptedEdit (past p.applied H) asked c → RefusesMade p c e p' → RefusesEditAt p H asked e p'
refused_edit_at p p' H asked c (Unfit e) edited r = (c, edited, r)
refused_edit_at p p' H asked c (Peer (Doc e)) edited r = absurd r
refused_edit_at p p' H asked c (Peer OutOfMemory) edited r = r
refused_edit_at p p' H asked c (Peer _) edited r = (c, edited, r)

-- ---- making steps

pub steps_at_stopped : (p : PeerState) (H : List Hash) (asked : EditRequest) → p.stopped ≡ true → StepsAt p H asked (Err (Peer Stopped)) p
unfolding StepsAt
steps_at_stopped p H asked is =
    let refused : Result (Option Hash) EditAtError = Err (Peer Stopped) in
    subst (λ b. MatchBool b ((refused ≡ refused) × (p ≡ p)) (RefusesEditAt p H asked (Peer Stopped) p)) (sym is) (refl, refl)

pub steps_at_running : (p p' : PeerState) (H : List Hash) (asked : EditRequest) (r : Result (Option Hash) EditAtError) → p.stopped ≡ false
    → MatchResult r (λ made. EditsAt p H asked made p') (λ e. RefusesEditAt p H asked e p') → StepsAt p H asked r p'
unfolding StepsAt
steps_at_running p p' H asked r is h =
    subst (λ b. MatchBool b ((r ≡ Err (Peer Stopped)) × (p' ≡ p)) (MatchResult r (λ made. EditsAt p H asked made p') (λ e. RefusesEditAt p H asked e p'))) (sym is) h

-- at the change the text is that at the hashes with each splice done
pub edit_at_does : (p p' : PeerState) (H : List Hash) (asked : EditRequest) (made : Option Hash) → Sound p.applied → EditsAt p H asked made p'
    → IfSome made (λ h. DoesSplices (past p.applied H) (past p'.applied (h ∷ [])) asked.splices)
edit_at_does p p' H asked None s e = tt
edit_at_does p p' H asked (Some h) s e =
    subst (λ (x : Hash). DoesSplices (past p.applied H) (past p'.applied (x ∷ [])) asked.splices) (sym e.3.1)
    (subst (λ (q : PeerState). DoesSplices (past p.applied H) (past q.applied (hash_of e.0 ∷ [])) asked.splices) (sym e.3.2)
    (does_at p.applied H asked e.0 s e.2 e.3.0))
