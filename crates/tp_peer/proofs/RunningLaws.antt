-- What a call on the parts of a running peer is to the peer.
use Rattle.tp_peer.proofs.Common.{◌≡◌, ◌⊎◌, ◌↔◌, inl, inr, DocError, has_all, refusal_of_document, RefusesText, ℕ, List, Bool, true, false, Option, Some, None, Result, Ok, Err, String, Global, refl, sym, subst, ap, ◌∙◌, IfErr, IfOk, Splice, Generate, Hash, Actor, DocState, DoesSplices, asking, SyncParts, PeerError, JournalFailed, TooManyLinks, Sync, OutOfMemory, JournalState, StaysUnsettled, IsPeer, PeerState, peer_state, is_failed, stops, Call, PeerStep, Refused, RefusesGenerate, Reply, Runs, needs_stopped, reply_of_result}
use Rattle.std.specs.Prelude.{IsOkUnless, OnErr, OnOk}
use Rattle.tp_edit.specs.Splices.{all_spliced}
use Rattle.tp_edit.specs.Text.{IsTextOf}
use Rattle.tp_document.proofs.EditFits.{edit_text, nothing_spliced}
use Rattle.tp_peer.specs.declared.error.PeerError.TheVariants.{Stopped}
use Rattle.tp_peer.proofs.StepLaws.{keeping_leaves_peer, runs_keep, step_cases, step_runs, step_stopped}
use Rattle.tp_document.specs.declared.error.DocError.TheVariants as doc
use Rattle.tp_peer.specs.PeerStep as step

-- a peer that has stopped refuses the call
pub stopped_steps : (p q : PeerState) (call : Call) → needs_stopped q call ≡ q.stopped → p ≡ q → p.stopped ≡ true → PeerStep q call (Refused Stopped) q
stopped_steps p q call needs view stopped = step_stopped q call (needs ∙ (ap (λ (x : PeerState). x.stopped) (sym view) ∙ stopped))

-- what a call on the parts of a running peer may reply and leave is so of the peer, by whatever flags it runs, and may have stopped then
pub runs_as : (a : Actor) (d d' : DocState) (L L' : List (ℕ × SyncParts)) (k k' : JournalState) (stopped after fails : Bool) (call : Call) (reply : Reply) → stopped ≡ false → after ≡ fails
    → Runs (peer_state a d L k false) call reply (peer_state a d' L' k' fails) → Runs (peer_state a d L k stopped) call reply (peer_state a d' L' k' after)
runs_as a d d' L L' k k' stopped after fails call reply running is runs =
    subst (λ (b : Bool). Runs (peer_state a d L k b) call reply (peer_state a d' L' k' after)) (sym running)
    (subst (λ (b : Bool). Runs (peer_state a d L k false) call reply (peer_state a d' L' k' b)) (sym is) runs)

-- the outcome of the call is its reply
pub outcome_runs : {T : Type 0} (f : T → Reply) (r : Result T PeerError) (p : PeerState) (call : Call) (after : Bool → PeerState)
    → IfOk r (λ x. Runs p call (f x) (after false)) → IfErr r (λ e. Runs p call (Refused e) (after (is_failed e))) → Runs p call (reply_of_result f r) (after (stops r))
outcome_runs f (Ok x) p call after ok err = ok
outcome_runs f (Err e) p call after ok err = err

-- what it keeps as a peer it has then
pub running_leaves_peer : (a : Actor) (d d' : DocState) (L L' : List (ℕ × SyncParts)) (k k' : JournalState) (stopped after fails : Bool) (call : Call) (reply : Reply) → IsPeer (peer_state a d L k stopped)
    → stopped ≡ false → after ≡ fails → Runs (peer_state a d L k false) call reply (peer_state a d' L' k' fails) → IsPeer (peer_state a d' L' k' after)
running_leaves_peer a d d' L L' k k' stopped after fails call reply peer running is runs =
    let p : PeerState = peer_state a d L k stopped in
    let p' : PeerState = peer_state a d' L' k' after in
    keeping_leaves_peer p call reply p' peer (runs_keep p call reply p' running (runs_as a d d' L L' k k' stopped after fails call reply running is runs))

-- and it made a step, where the call needs no other peer
pub running_steps : (q : PeerState) (a : Actor) (d d' : DocState) (L L' : List (ℕ × SyncParts)) (k k' : JournalState) (stopped after fails : Bool) (call : Call) (reply : Reply)
    → needs_stopped (peer_state a d L k stopped) call ≡ stopped → peer_state a d L k stopped ≡ q → stopped ≡ false → after ≡ fails
    → Runs (peer_state a d L k false) call reply (peer_state a d' L' k' fails) → PeerStep q call reply (peer_state a d' L' k' after)
running_steps q a d d' L L' k k' stopped after fails call reply needs view running is runs =
    let p' : PeerState = peer_state a d' L' k' after in
    subst (λ (x : PeerState). PeerStep x call reply p') view
    (step_runs (peer_state a d L k stopped) call reply p' (needs ∙ running) (runs_as a d d' L L' k k' stopped after fails call reply running is runs))

-- a message that wasn't made doesn't stop the peer
pub generate_goes_on : (a : Actor) (d : DocState) (L L' : List (ℕ × SyncParts)) (k : JournalState) (link : ℕ) (e : PeerError) → RefusesGenerate (peer_state a d L k false) link e (peer_state a d L' k false)
    → RefusesGenerate (peer_state a d L k false) link e (peer_state a d L' k (is_failed e))
generate_goes_on a d L L' k link JournalFailed h = let wrong = ap (λ (q : PeerState). q.stopped) h.left in absurd cc
generate_goes_on a d L L' k link TooManyLinks h = h
generate_goes_on a d L L' k link (Sync e) h = h
generate_goes_on a d L L' k link OutOfMemory h = h
generate_goes_on a d L L' k link _ h = absurd h

pub unmade_goes_on : {T : Type 0} (r : Result T PeerError) (a : Actor) (d : DocState) (L L' : List (ℕ × SyncParts)) (k k' : JournalState) (link : ℕ) → k' ≡ k
    → IfErr r (λ e. RefusesGenerate (peer_state a d L k false) link e (peer_state a d L' k false))
    → IfErr r (λ e. RefusesGenerate (peer_state a d L k false) link e (peer_state a d L' k' (is_failed e)))
unmade_goes_on (Ok x) a d L L' k k' link same h = tt
unmade_goes_on (Err e) a d L L' k k' link same h =
    subst (λ (j : JournalState). RefusesGenerate (peer_state a d L k false) link e (peer_state a d L' j (is_failed e))) (sym same) (generate_goes_on a d L L' k link e h)

-- where its journal couldn't be settled it stops
pub unsettled_stops : (a : Actor) (d : DocState) (L : List (ℕ × SyncParts)) (k k' : JournalState) (link : ℕ) (e : PeerError) → e ≡ JournalFailed → StaysUnsettled k k'
    → RefusesGenerate (peer_state a d L k false) link e (peer_state a d L k' (is_failed e))
unsettled_stops a d L k k' link e is s =
    subst (λ (x : PeerError). RefusesGenerate (peer_state a d L k false) link x (peer_state a d L k' (is_failed x))) (sym is) (record { unsettled = s; left = refl })

not_false : (b : Bool) → (b ≡ false → ⊥) → b ≡ true
not_false true h = refl
not_false false h = absurd (h refl)

-- all hashes are known where the text at them wasn't refused for one
pub all_known : (r : Result (String Global) DocError) (known : Bool) → (r ≡ Err doc.UnknownHead) ↔ (known ≡ false) → (r ≡ Err doc.UnknownHead → ⊥) → known ≡ true
all_known r known unknown other = not_false known (λ none. other (unknown.1 none))

-- why it was refused
pub text_refused : (p : PeerState) (H : List Hash) (r : Result (String Global) DocError) (e : DocError) → r ≡ Err e → (r ≡ Err doc.UnknownHead) ↔ (has_all p.applied H ≡ false)
    → (e ≡ doc.UnknownHead) ⊎ (e ≡ doc.OutOfMemory) → RefusesText p H (refusal_of_document e)
text_refused p H r e is unknown (inl named) =
    subst (λ (x : DocError). RefusesText p H (refusal_of_document x)) (sym named) (refl, unknown.0 (is ∙ ap (λ (x : DocError). Err x) named))
text_refused p H r e is unknown (inr lack) =
    subst (λ (x : DocError). RefusesText p H (refusal_of_document x)) (sym lack) (all_known r (has_all p.applied H) unknown (λ other. let wrong = sym is ∙ other in let found = lack in cc))

-- an edit that was made does its splices
pub edit_does : (r : Result (Option Hash) PeerError) (p p' : PeerState) (splices : List Splice) (time : ℕ) (message : List ℕ) → IsPeer p → PeerStep p (step.Edit splices time message) (reply_of_result step.Made r) p'
    → IfOk r (λ made. DoesSplices p.applied p'.applied splices)
edit_does (Err e) p p' splices time message peer s = tt
edit_does (Ok None) p p' splices time message peer s = λ t text.
    elim (step_cases p (step.Edit splices time message) (step.Made None) p' s) [
      | inl is ↦ let wrong = is.0 in absurd cc
      | inr runs ↦ subst (λ (q : PeerState). IsTextOf q.applied (all_spliced t splices)) (sym runs.1.1) (subst (IsTextOf p.applied) (sym (nothing_spliced splices t runs.1.0.1)) text)
    ]
edit_does (Ok (Some h)) p p' splices time message peer s = λ t text.
    elim (step_cases p (step.Edit splices time message) (step.Made (Some h)) p' s) [
      | inl is ↦ let wrong = is.0 in absurd cc
      | inr runs ↦ subst (λ (q : PeerState). IsTextOf q.applied (all_spliced t splices)) (sym runs.1.3) (edit_text p.applied (asking p.actor splices time message) runs.1.0 t peer.history.sound runs.1.1 text)
    ]

-- ---- settling the journal

module _ {T : Type 0} (q : PeerState) (a : Actor) (d : DocState) (L : List (ℕ × SyncParts)) (k k' : JournalState) (stopped after : Bool) where
  -- the peer is one then
  pub settling_leaves : (r : Result T PeerError) → IsPeer (peer_state a d L k stopped) → stopped ≡ false → after ≡ stops r → OnOk r (k' ≡ k) → IsOkUnless r JournalFailed
      → OnErr r (StaysUnsettled k k') → IsPeer (peer_state a d L k' after)
  settling_leaves (Ok x) peer running is same only unsettled =
      subst (λ (j : JournalState). IsPeer (peer_state a d L j after)) (sym same) (subst (λ (b : Bool). IsPeer (peer_state a d L k b)) (running ∙ sym is) peer)
  settling_leaves (Err e) peer running is same only unsettled =
      running_leaves_peer a d d L L k k' stopped after true (Generate 0) (Refused JournalFailed) peer running (is ∙ ap is_failed only) (record { unsettled = unsettled; left = refl })

  -- where it was settled it stays as it was
  pub settling_keeps : (r : Result T PeerError) → peer_state a d L k stopped ≡ q → stopped ≡ false → after ≡ stops r → OnOk r (k' ≡ k) → OnOk r (peer_state a d L k' after ≡ q)
  settling_keeps (Ok x) view running is same =
      subst (λ (j : JournalState). peer_state a d L j after ≡ q) (sym same) (subst (λ (b : Bool). peer_state a d L k b ≡ q) (running ∙ sym is) view)
  settling_keeps (Err e) view running is same = tt

  content_stays : (r : Result T PeerError) → OnOk r (k' ≡ k) → OnErr r (StaysUnsettled k k') → k'.content ≡ k.content
  content_stays (Ok x) same unsettled = ap (λ (j : JournalState). j.content) same
  content_stays (Err e) same unsettled = unsettled.content

  -- and in any case but for the device, and whether it has stopped
  pub settling_stays : (r : Result T PeerError) → peer_state a d L k stopped ≡ q → OnOk r (k' ≡ k) → OnErr r (StaysUnsettled k k')
      → peer_state a d L k' after ≡ record q { device = k'.device; stopped = after }
  settling_stays r view same unsettled =
      subst (λ (x : PeerState). peer_state a d L k' after ≡ record x { device = k'.device; stopped = after }) view
      (ap (λ (c : List ℕ). record (peer_state a d L k' after) { journal = c }) (content_stays r same unsettled))

  -- where it wasn't, that is a message that wasn't made
  pub settling_refuses : (r : Result T PeerError) (link : ℕ) → peer_state a d L k stopped ≡ q → stopped ≡ false → after ≡ stops r → IsOkUnless r JournalFailed → OnErr r (StaysUnsettled k k')
      → IfErr r (λ e. PeerStep q (Generate link) (Refused e) (peer_state a d L k' after))
  settling_refuses (Ok x) link view running is only unsettled = tt
  settling_refuses (Err e) link view running is only unsettled =
      subst (λ (x : PeerError). PeerStep q (Generate link) (Refused x) (peer_state a d L k' after)) (sym only)
      (running_steps q a d d L L k k' stopped after true (Generate link) (Refused JournalFailed) refl view running (is ∙ ap is_failed only) (record { unsettled = unsettled; left = refl }))
