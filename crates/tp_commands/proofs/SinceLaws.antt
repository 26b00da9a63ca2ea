-- Edits of an earlier text, each on the one before it.
use Rattle.std.proofs.Common.{◌≡◌, ◌∙◌, ap, refl, sym, subst, ℕ, suc, ◌+◌, ◌-◌, ◌<◌, ◌≤◌, List, [], ◌∷◌, ◌++◌, length, take, drop, Bool, false, Option, Some, None, Result, Ok, Err, inl, inr, arith, append_assoc, append-nil}
use Rattle.std.specs.Prelude.{IsTrue, MatchBool, MatchResult}
use Rattle.std.proofs.lemmas.List.{take-append-drop}
use Rattle.tp_layout.specs.declared.parts.ChangeParts.{ChangeParts}
use Rattle.tp_layout.specs.declared.limits.TheConstants.{MAX_OPS}
use Rattle.tp_change.specs.ChangeHash.{hash_of}
use Rattle.tp_document.specs.Editing.{AsksNothing, DoesSplices, EditRequest, IsAcceptedEdit, asking}
use Rattle.tp_edit.specs.declared.splice.Splice.{Splice}
use Rattle.tp_edit.specs.Splices.{total_count}
use Rattle.tp_edit.specs.Text.{IsTextOf}
use Rattle.tp_history.specs.Named.{has_all}
use Rattle.tp_history.specs.Past.{past}
use Rattle.tp_opid.specs.declared.actor.Actor.{Actor}
use Rattle.tp_opid.specs.declared.hash.Hash.{Hash}
use Rattle.tp_recovery.specs.Layout.{journal}
use Rattle.tp_peer.specs.Appending.{JournalState}
use Rattle.tp_peer.specs.EditingAt.{EditsAt, EntersMade, RefusesEditAt, StepsAt}
use Rattle.tp_peer.specs.Opening.{Reopens}
use Rattle.tp_peer.specs.PeerState.{HasJournal, PeerState, opened_peer}
use Rattle.tp_peer.specs.PeerStep.{peer_with_change}
use Rattle.tp_peer.specs.declared.editing_at.EditAtError.{EditAtError}
use Rattle.tp_peer.specs.declared.editing_at.EditAtError.TheVariants as edit_at
use Rattle.tp_peer.specs.declared.error.PeerError.TheVariants as peer
use Rattle.tp_commands.specs.CommandError.{refusal_of_edit_at}
use Rattle.tp_commands.specs.declared.error.CommandError.{CommandError}
use Rattle.tp_commands.specs.declared.error.UpdateError.{UpdateError}
use Rattle.tp_commands.specs.HalfWay.{stopping_place}
use Rattle.tp_commands.specs.Since.{AreEditsAt, DoesFirstAt, IsNotRewrittenAt, LeavesOrDoes, MakesEditsAt, MakesNextAt, MakesTextAt, RefusesNextAt, StopsEditsAt, UpdatesSince, heads_after}
use Rattle.tp_commands.specs.Updating.{IsFullBefore, hashes_of}
use Rattle.tp_commands.specs.Cutting.{AreStretchesCut}
use Rattle.tp_diff.specs.Differences.{LeadAcross}
use Rattle.tp_commands.proofs.HalfWayLaws.{left_at}
use Rattle.tp_commands.proofs.Updates.{first_done, hashes-push, total_count-append}

-- one more is where they leave off
heads_after-push : (H : List Hash) (cs : List ChangeParts) (c : ChangeParts) → heads_after H (cs ++ c ∷ []) ≡ hash_of c ∷ []
heads_after-push H [] c = refl
heads_after-push H (x ∷ cs) c = heads_after-push (hash_of x ∷ []) cs c

edits_at-push : (actor : Actor) (time : ℕ) (message : List ℕ) (C : List ChangeParts) (H : List Hash) (cs : List ChangeParts) (c : ChangeParts) (ss next later : List Splice)
    → AreEditsAt actor time message C H ss (next ++ later) cs → IsFullBefore next later
    → IsAcceptedEdit (past (C ++ cs) (heads_after H cs)) (asking actor next time message) c → AreEditsAt actor time message C H ss later (cs ++ c ∷ [])
edits_at-push actor time message C H [] c ss next later h full e =
    (next, later, h, full, subst (λ (D : List ChangeParts). IsAcceptedEdit (past D H) (asking actor next time message) c) (append-nil C) e, refl)
edits_at-push actor time message C H (x ∷ cs) c ss next later h full e = (
  h.0,
  h.1,
  h.2,
  h.3,
  h.4,
  edits_at-push actor time message (C ++ x ∷ []) (hash_of x ∷ []) cs c h.1 next later h.5 full
      (subst (λ (D : List ChangeParts). IsAcceptedEdit (past D (heads_after (hash_of x ∷ []) cs)) (asking actor next time message) c) (sym (append_assoc C (x ∷ []) cs)) e),
)

-- of no splices no edit is made
none_of_none_at : (actor : Actor) (time : ℕ) (message : List ℕ) (C : List ChangeParts) (H : List Hash) (cs : List ChangeParts) → AreEditsAt actor time message C H [] [] cs → cs ≡ []
none_of_none_at actor time message C H [] h = refl
none_of_none_at actor time message C H (c ∷ cs) h = absurd (no_edit h.0 h.1 h.2 h.4)
  where
    no_edit : (next later : List Splice) → [] ≡ next ++ later → IsAcceptedEdit (past C H) (asking actor next time message) c → ⊥
    no_edit [] later is e = omega (arith, e.some)
    no_edit (s ∷ next) later is e = absurd (cc)

-- of splices whose operations fit into one change, one is made at most
one_of_few_at : (actor : Actor) (time : ℕ) (message : List ℕ) (C : List ChangeParts) (H : List Hash) (ss : List Splice) (cs : List ChangeParts)
    → AreEditsAt actor time message C H ss [] cs → total_count ss ≤ MAX_OPS → length cs ≤ 1
one_of_few_at actor time message C H ss [] h few = omega arith
one_of_few_at actor time message C H ss (c ∷ cs) h few = last h.0 h.1 h.2 h.3 h.5
  where
    last : (next later : List Splice) → ss ≡ next ++ later → IsFullBefore next later → AreEditsAt actor time message (C ++ c ∷ []) (hash_of c ∷ []) later [] cs → suc (length cs) ≤ 1
    last next [] is full rest =
        let none = ap length (none_of_none_at actor time message (C ++ c ∷ []) (hash_of c ∷ []) cs rest) in
        omega (arith, none)
    last next (s ∷ later) is full rest =
        let all = ap total_count is ∙ total_count-append next (s ∷ later) in
        absurd (omega (arith, all, full, few))

-- a peer that runs runs an edit
pub steps_running : (p p' : PeerState) (H : List Hash) (asked : EditRequest) (answer : Result (Option Hash) EditAtError) → p.stopped ≡ false → StepsAt p H asked answer p'
    → MatchResult answer (λ made. EditsAt p H asked made p') (λ e. RefusesEditAt p H asked e p')
unfolding StepsAt
steps_running p p' H asked answer running step =
    subst (λ (b : Bool). MatchBool b ((answer ≡ Err (edit_at.Peer peer.Stopped)) × (p' ≡ p)) (MatchResult answer (λ made. EditsAt p H asked made p') (λ e. RefusesEditAt p H asked e p'))) running step

-- an edit that made a change
pub makes_one_at : (q q' : PeerState) (actor : Actor) (next : List Splice) (time : ℕ) (message : List ℕ) (on hashes : List Hash) (h : Hash) → q.stopped ≡ false
    → StepsAt q on (asking actor next time message) (Ok (Some h)) q' → MakesNextAt next actor time message on hashes q (h ∷ []) (hashes ++ h ∷ []) q'
makes_one_at q q' actor next time message on hashes h running step p H ss later before full =
    let done : (c : ChangeParts) × IsTrue (has_all q.applied on) × IsAcceptedEdit (past q.applied on) (asking actor next time message) c × EntersMade q c h q' =
    steps_running q q' on (asking actor next time message) (Ok (Some h)) running step in
    let c = done.0 in
    let here : IsAcceptedEdit (past (p.applied ++ before.made) on) (asking actor next time message) c =
    subst (λ (D : List ChangeParts). IsAcceptedEdit (past D on) (asking actor next time message) c) before.applied done.2 in
    let entered : q' ≡ peer_with_change q c = done.3.2 in
    let hash_is : h ≡ hash_of c = done.3.1 in
    record {
      made = before.made ++ c ∷ [];
      edits = edits_at-push actor time message p.applied H before.made c ss next later before.edits full
          (subst (λ (hs : List Hash). IsAcceptedEdit (past (p.applied ++ before.made) hs) (asking actor next time message) c) before.on_are here);
      on_are = ap (λ (x : Hash). x ∷ []) hash_is ∙ sym (heads_after-push H before.made c);
      hashes_are = ap (λ hs. hs ++ h ∷ []) before.hashes_are ∙ ap (λ x. hashes_of before.made ++ x ∷ []) hash_is ∙ sym (hashes-push before.made c);
      applied = ap (λ (x : PeerState). x.applied) entered ∙ ap (λ D. D ++ c ∷ []) before.applied ∙ append_assoc p.applied before.made (c ∷ []);
      running = ap (λ (x : PeerState). x.stopped) entered ∙ before.running;
      same_id = ap (λ (x : PeerState). x.id) entered ∙ before.same_id;
    }

-- an edit of splices with operations asks something
pub makes_some_at : (q q' : PeerState) (actor : Actor) (next : List Splice) (time : ℕ) (message : List ℕ) (on : List Hash) → q.stopped ≡ false → 0 < total_count next
    → StepsAt q on (asking actor next time message) (Ok None) q' → ⊥
makes_some_at q q' actor next time message on running some step =
    let done : IsTrue (has_all q.applied on) × AsksNothing (past q.applied on) (asking actor next time message) × (q' ≡ q) =
    steps_running q q' on (asking actor next time message) (Ok None) running step in
    omega (arith, some, done.1.1)

-- an edit that was refused
pub refuses_one_at : (q q' : PeerState) (on : List Hash) (asked : EditRequest) (error : EditAtError) (e : CommandError) → q.stopped ≡ false → StepsAt q on asked (Err error) q' → e ≡ refusal_of_edit_at error
    → RefusesNextAt q on asked e
refuses_one_at q q' on asked error e running step is = inr (error, q', steps_running q q' on asked (Err error) running step, is)

-- it leaves the changes
kept_at : (p p' : PeerState) (H : List Hash) (asked : EditRequest) (e : EditAtError) → RefusesEditAt p H asked e p' → p'.applied ≡ p.applied
kept_at p p' H asked (edit_at.Unfit e) r = ap (λ (x : PeerState). x.applied) r.2.1
kept_at p p' H asked (edit_at.Peer (peer.Doc e)) r = ap (λ (x : PeerState). x.applied) r.2
kept_at p p' H asked (edit_at.Peer peer.OutOfMemory) r = ap (λ (x : PeerState). x.applied) r
kept_at p p' H asked (edit_at.Peer peer.JournalFailed) r = ap (λ (x : PeerState). x.applied) r.2.1.left
kept_at p p' H asked (edit_at.Peer _) r = absurd r.2

pub leaves_at : (q q' : PeerState) (on : List Hash) (asked : EditRequest) (next : List Splice) (error : EditAtError) → q.stopped ≡ false → StepsAt q on asked (Err error) q' → LeavesOrDoes q on next q'
leaves_at q q' on asked next error running step =
    (on, inl (ap (λ (C : List ChangeParts). past C on) (kept_at q q' on asked error (steps_running q q' on asked (Err error) running step))))

-- the edits of those before a place were made, and the next was refused
pub stops_edits_at : (p q : PeerState) (H on : List Hash) (actor : Actor) (ss next : List Splice) (from time : ℕ) (message : List ℕ) (hashes : List Hash) (error : CommandError) (e : UpdateError)
    → MakesEditsAt p H actor ss (drop from ss) time message on hashes q → e.error ≡ error → e.place ≡ stopping_place (take from ss) (drop from ss) → RefusesNextAt q on (asking actor next time message) error
    → StopsEditsAt p H actor ss time message e
stops_edits_at p q H on actor ss next from time message hashes error e made is place refused =
    let asked : EditRequest = asking actor next time message in
    record {
      now = q;
      made = made.made;
      first = take from ss;
      rest = drop from ss;
      next = next;
      parts = sym (take-append-drop from ss);
      edits = made.edits;
      applied = made.applied;
      refuses = subst (λ (hs : List Hash). RefusesNextAt q hs asked e.error) made.on_are (subst (RefusesNextAt q on asked) (sym is) refused);
      place_is = place;
    }

-- those before the place are done, and maybe the next too
pub first_done_at : (C : List ChangeParts) (q after : PeerState) (on : List Hash) (ss : List Splice) (from len : ℕ) (place : Option ℕ) → from < length ss → place ≡ stopping_place (take from ss) (drop from ss)
    → DoesSplices C (past q.applied on) (take from ss) → LeavesOrDoes q on (take (from + len - from) (drop from ss)) after → DoesFirstAt C after.applied ss place
first_done_at C q after on ss from len place within is done left = (left.0, first_done C (past q.applied on) (past after.applied left.0) ss from len place within is done left.1)

pub stops_text_at : (p after : PeerState) (H : List Hash) (actor : Actor) (old text : List ℕ) (ss : List Splice) (time : ℕ) (message : List ℕ) (e : UpdateError) → IsTrue (has_all p.applied H) → IsTextOf (past p.applied H) old
    → LeadAcross MAX_OPS old text ss → AreStretchesCut old text ss → StopsEditsAt p H actor ss time message e → DoesFirstAt (past p.applied H) after.applied ss e.place → IsNotRewrittenAt p H actor text time message after e
stops_text_at p after H actor old text ss time message e known was lead cut stops done = inr (inr (record {
  known = known;
  old = old;
  was_text = was;
  differences = ss;
  leads = lead;
  cut = cut;
  stops = stops;
  on = done.0;
  left = left_at MAX_OPS (past p.applied H) (past after.applied done.0) old text ss e.place lead was done.1;
}))

-- ---- journals

-- the journal of a peer that was opened on one and whose text at the hashes was made another one
pub updates_since_of : (k : JournalState) (actor : Actor) (p after : PeerState) (H : List Hash) (text : List ℕ) (time : ℕ) (message : List ℕ) (hashes : List Hash) (bytes : List ℕ)
    → Reopens k actor p → MakesTextAt p H actor text time message hashes after → HasJournal after.stopped after.id after.applied bytes → UpdatesSince k.content H actor text time message hashes bytes
updates_since_of k actor p after H text time message hashes bytes r made has =
    let q : PeerState = opened_peer r.id actor r.applied k.device in
    let m : MakesTextAt q H actor text time message hashes after = subst (λ (x : PeerState). MakesTextAt x H actor text time message hashes after) r.is made in
    let kept : HasJournal false after.id after.applied bytes = subst (λ (b : Bool). HasJournal b after.id after.applied bytes) m.makes.running has in
    record {
      id = r.id;
      changes = r.applied;
      keep = r.keep;
      recovers = r.recovers;
      free = r.free;
      known = m.known;
      old = m.old;
      was_text = m.was_text;
      differences = m.differences;
      leads = m.leads;
      cut = m.cut;
      made = m.makes.made;
      edits = m.makes.edits;
      none = λ same. none_of_none_at actor time message r.applied H m.makes.made
          (subst (λ (ss : List Splice). AreEditsAt actor time message r.applied H ss [] m.makes.made) (m.leads.same same) m.makes.edits);
      one = λ few. one_of_few_at actor time message r.applied H m.differences m.makes.made m.makes.edits few;
      hashes_are = m.makes.hashes_are;
      is_text = subst (λ (hs : List Hash). IsTextOf (past (r.applied ++ m.makes.made) hs) text) m.makes.on_are
          (subst (λ (C : List ChangeParts). IsTextOf (past C m.on) text) m.makes.applied m.is_text);
      journal_is = kept ∙ ap (λ i. journal i after.applied) m.makes.same_id ∙ ap (journal r.id) m.makes.applied;
    }
