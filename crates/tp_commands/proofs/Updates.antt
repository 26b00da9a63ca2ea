-- Edits of a peer, one after another.
use Rattle.std.proofs.Common.{◌≡◌, ◌∙◌, ap, refl, sym, subst, ℕ, ◌+◌, ◌-◌, ◌<◌, ◌≤◌, zero, suc, List, [], ◌∷◌, ◌++◌, length, take, drop, Bool, true, false, nat_eq, Option, Some, None, Result, Ok, Err, inl, inr, arith, append_assoc, append-nil}
use Rattle.std.specs.Prelude.{◌⊎◌, IfErr, MatchBool, not}
use Rattle.std.specs.List.{All}
use Rattle.std.specs.Str.{chars}
use Rattle.std.proofs.lemmas.Bool.{eqb-true}
use Rattle.std.proofs.lemmas.List.{drop-drop, drop-take, length-drop, nil_from_length, take-append-drop, take-take, take_all}
use Rattle.std.proofs.lemmas.List.Elements.{All-cons, All-drop, All-head, All-nil}
use Rattle.std.proofs.lemmas.Str.{chars-nil}
use Rattle.tp_layout.specs.declared.parts.ChangeParts.{ChangeParts}
use Rattle.tp_change.specs.ChangeHash.{hash_of}
use Rattle.tp_layout.specs.declared.limits.TheConstants.{MAX_OPS}
use Rattle.tp_diff.specs.Differences.{AreSpaced, LeadAcross, start_after}
use Rattle.tp_document.specs.Editing.{AsksNothing, DoesSplices, EditRequest, IsAcceptedEdit, asking}
use Rattle.tp_edit.specs.declared.splice.Splice.{Splice}
use Rattle.tp_edit.specs.Splices.{all_spliced, count_of_splice, inserted_chars, splice_at, total_count}
use Rattle.tp_recovery.specs.Layout.{journal}
use Rattle.tp_opid.specs.declared.actor.Actor.{Actor}
use Rattle.tp_opid.specs.declared.hash.Hash.{Hash}
use Rattle.tp_peer.specs.Appending.{JournalState}
use Rattle.tp_peer.specs.declared.error.PeerError.{PeerError}
use Rattle.tp_peer.specs.declared.error.PeerError.TheVariants.{Doc, JournalFailed, OutOfMemory, Stopped}
use Rattle.tp_peer.specs.Opening.{Reopens}
use Rattle.tp_peer.specs.PeerState.{HasJournal, PeerState, opened_peer}
use Rattle.tp_peer.specs.PeerStep.{Edit, Made, PeerStep, Refused, RefusesEdit, Reply, Runs, peer_with_change}
use Rattle.tp_edit.specs.Text.{IsTextOf}
use Rattle.tp_commands.specs.declared.error.CommandError.{CommandError}
use Rattle.tp_commands.specs.declared.error.UpdateError.{UpdateError}
use Rattle.tp_commands.specs.Cutting.{AreStretchesCut}
use Rattle.tp_commands.specs.HalfWay.{DoesFirst, stopping_place}
use Rattle.tp_commands.specs.Updating.{AreEditsOf, IsFullBefore, IsNotRewritten, MakesEdits, MakesNext, MakesText, RefusesNextEdit, StopsEdits, UpdatesJournal, hashes_of}
use Rattle.tp_commands.proofs.HalfWayLaws.{left_at}

edits-push : (actor : Actor) (time : ℕ) (message : List ℕ) (C cs : List ChangeParts) (c : ChangeParts) (ss next later : List Splice) → AreEditsOf actor time message C ss (next ++ later) cs → IsFullBefore next later
    → IsAcceptedEdit (C ++ cs) (asking actor next time message) c → AreEditsOf actor time message C ss later (cs ++ c ∷ [])
edits-push actor time message C [] c ss next later h full e =
    (next, later, h, full, subst (λ (D : List ChangeParts). IsAcceptedEdit D (asking actor next time message) c) (append-nil C) e, refl)
edits-push actor time message C (x ∷ cs) c ss next later h full e = (
  h.0,
  h.1,
  h.2,
  h.3,
  h.4,
  edits-push actor time message (C ++ x ∷ []) cs c h.1 next later h.5 full (subst (λ (D : List ChangeParts). IsAcceptedEdit D (asking actor next time message) c) (sym (append_assoc C (x ∷ []) cs)) e),
)

-- of no splices no edit is made
none_of_none : (actor : Actor) (time : ℕ) (message : List ℕ) (C cs : List ChangeParts) → AreEditsOf actor time message C [] [] cs → cs ≡ []
none_of_none actor time message C [] h = refl
none_of_none actor time message C (c ∷ cs) h = absurd (no_edit h.0 h.1 h.2 h.4)
  where
    no_edit : (next later : List Splice) → [] ≡ next ++ later → IsAcceptedEdit C (asking actor next time message) c → ⊥
    no_edit [] later is e = omega (arith, e.some)
    no_edit (s ∷ next) later is e = absurd (cc)

pub total_count-append : (xs ys : List Splice) → total_count (xs ++ ys) ≡ total_count xs + total_count ys
total_count-append [] ys = omega arith
total_count-append (x ∷ xs) ys = let rest = total_count-append xs ys in omega (arith, rest)

-- of splices whose operations fit into one change, one is made at most
one_of_few : (actor : Actor) (time : ℕ) (message : List ℕ) (C : List ChangeParts) (ss : List Splice) (cs : List ChangeParts) → AreEditsOf actor time message C ss [] cs → total_count ss ≤ MAX_OPS → length cs ≤ 1
one_of_few actor time message C ss [] h few = omega arith
one_of_few actor time message C ss (c ∷ cs) h few = last h.0 h.1 h.2 h.3 h.5
  where
    last : (next later : List Splice) → ss ≡ next ++ later → IsFullBefore next later → AreEditsOf actor time message (C ++ c ∷ []) later [] cs → suc (length cs) ≤ 1
    last next [] is full rest =
        let none = ap length (none_of_none actor time message (C ++ c ∷ []) cs rest) in
        omega (arith, none)
    last next (s ∷ later) is full rest =
        let all = ap total_count is ∙ total_count-append next (s ∷ later) in
        absurd (omega (arith, all, full, few))

pub hashes-push : (cs : List ChangeParts) (c : ChangeParts) → hashes_of (cs ++ c ∷ []) ≡ hashes_of cs ++ hash_of c ∷ []
hashes-push [] c = refl
hashes-push (x ∷ cs) c = ap (λ hs. hash_of x ∷ hs) (hashes-push cs c)

-- a peer that runs runs a call

runs_edit : (q p' : PeerState) (ss : List Splice) (time : ℕ) (message : List ℕ) (reply : Reply) → q.stopped ≡ false → PeerStep q (Edit ss time message) reply p' → Runs q (Edit ss time message) reply p'
unfolding PeerStep
runs_edit q p' ss time message reply running step = subst (λ (b : Bool). MatchBool b ((reply ≡ Refused Stopped) × (p' ≡ q)) (Runs q (Edit ss time message) reply p')) running step

-- an edit that made a change
pub makes_one : (q q' : PeerState) (next : List Splice) (time : ℕ) (message : List ℕ) (hashes : List Hash) (h : Hash) → PeerStep q (Edit next time message) (Made (Some h)) q' → MakesNext next time message hashes q (hashes ++ h ∷ []) q'
makes_one q q' next time message hashes h step p ss later before full =
    let done : (c : ChangeParts) × IsAcceptedEdit q.applied (asking q.actor next time message) c × (h ≡ hash_of c) × (q' ≡ peer_with_change q c) =
    runs_edit q q' next time message (Made (Some h)) before.running step in
    let c = done.0 in
    let by : IsAcceptedEdit q.applied (asking p.actor next time message) c = subst (λ (a : Actor). IsAcceptedEdit q.applied (asking a next time message) c) before.same_actor done.1 in
    let on : IsAcceptedEdit (p.applied ++ before.made) (asking p.actor next time message) c =
    subst (λ (D : List ChangeParts). IsAcceptedEdit D (asking p.actor next time message) c) before.applied by in
    record {
      made = before.made ++ c ∷ [];
      edits = edits-push p.actor time message p.applied before.made c ss next later before.edits full on;
      hashes_are = ap (λ hs. hs ++ h ∷ []) before.hashes_are ∙ ap (λ x. hashes_of before.made ++ x ∷ []) done.2 ∙ sym (hashes-push before.made c);
      applied = ap (λ (x : PeerState). x.applied) done.3 ∙ ap (λ D. D ++ c ∷ []) before.applied ∙ append_assoc p.applied before.made (c ∷ []);
      running = ap (λ (x : PeerState). x.stopped) done.3 ∙ before.running;
      same_id = ap (λ (x : PeerState). x.id) done.3 ∙ before.same_id;
      same_actor = ap (λ (x : PeerState). x.actor) done.3 ∙ before.same_actor;
    }

-- an edit of splices with operations asks something
pub makes_no_less : (q q' : PeerState) (next : List Splice) (time : ℕ) (message : List ℕ) (hashes : List Hash) → 0 < total_count next → PeerStep q (Edit next time message) (Made None) q' → MakesNext next time message hashes q hashes q'
makes_no_less q q' next time message hashes some step p ss later before full =
    let done : AsksNothing q.applied (asking q.actor next time message) × (q' ≡ q) = runs_edit q q' next time message (Made None) before.running step in
    absurd (omega (arith, some, done.0.1))

-- ---- texts

all_spliced-append : (t : List ℕ) (ss rs : List Splice) → all_spliced t (ss ++ rs) ≡ all_spliced (all_spliced t ss) rs
all_spliced-append t [] rs = refl
all_spliced-append t (s ∷ ss) rs = all_spliced-append (splice_at t s.at s.del (inserted_chars s)) ss rs

-- the splices from a place on are those up to the next place, and the ones from there on
pub ahead_is : (ss : List Splice) (from len : ℕ) → drop from ss ≡ take (from + len - from) (drop from ss) ++ drop (from + len) ss
ahead_is ss from len =
    let same : from + len - from ≡ len = omega arith in
    sym (take-append-drop len (drop from ss)) ∙ ap (λ l. take len (drop from ss) ++ l) (drop-drop len from ss)
    ∙ ap (λ n. take n (drop from ss) ++ drop (from + len) ss) (sym same)

-- the slice from a place on is all that is ahead
slice_is : (ss : List Splice) (from : ℕ) → take (length ss - from) (drop from ss) ≡ drop from ss
slice_is ss from =
    let rest = length-drop from ss in
    take_all (length ss - from) (drop from ss) (omega (arith, rest))

pub within_ahead : (ss : List Splice) (from len : ℕ) → from ≤ length ss → len ≤ length (take (length ss - from) (drop from ss)) → from + len ≤ length ss
within_ahead ss from len within few =
    let all = ap length (slice_is ss from) in
    let rest = length-drop from ss in
    omega (arith, all, rest, within, few)

pub full_ahead : (ss : List Splice) (from len : ℕ) → IsFullBefore (take len (take (length ss - from) (drop from ss))) (drop len (take (length ss - from) (drop from ss)))
    → IsFullBefore (take (from + len - from) (drop from ss)) (drop (from + len) ss)
full_ahead ss from len full =
    let same : from + len - from ≡ len = omega arith in
    let here : IsFullBefore (take len (drop from ss)) (drop len (drop from ss)) = subst (λ (rest : List Splice). IsFullBefore (take len rest) (drop len rest)) (slice_is ss from) full in
    subst (λ n. IsFullBefore (take n (drop from ss)) (drop (from + len) ss)) (sym same) (subst (IsFullBefore (take len (drop from ss))) (drop-drop len from ss) here)

some_next : (ss : List Splice) (n : ℕ) → All (λ s. 0 < count_of_splice s) ss → 0 < n → 0 < length ss → 0 < total_count (take n ss)
some_next [] n some more is = absurd (omega (arith, is))
some_next (s ∷ ss) zero some more is = absurd (omega (arith, more))
some_next (s ∷ ss) (suc n) some more is = let first = All-head (λ x. 0 < count_of_splice x) s ss some in omega (arith, first)

-- they have operations
pub some_ahead : (ss : List Splice) (from len : ℕ) → All (λ s. 0 < count_of_splice s) ss → 0 < len → from < length ss → 0 < total_count (take (from + len - from) (drop from ss))
some_ahead ss from len some more within =
    let same : from + len - from ≡ len = omega arith in
    let rest = length-drop from ss in
    subst (λ n. 0 < total_count (take n (drop from ss))) (sym same) (some_next (drop from ss) len (All-drop (λ s. 0 < count_of_splice s) from ss some) more (omega (arith, rest, within)))

-- the splices in turn do what they do together
does_both : (C D E : List ChangeParts) (first next : List Splice) → DoesSplices C D first → DoesSplices D E next → DoesSplices C E (first ++ next)
does_both C D E first next done more t was =
    subst (IsTextOf E) (sym (all_spliced-append t first next)) (more (all_spliced t first) (done t was))

take-plus : (n m : ℕ) (ss : List Splice) → take (n + m) ss ≡ take n ss ++ take m (drop n ss)
take-plus n m ss =
    sym (take-append-drop n (take (n + m) ss)) ∙ ap (λ l. l ++ drop n (take (n + m) ss)) (take-take n (n + m) ss (omega arith)) ∙ ap (λ l. take n ss ++ l) (drop-take n m ss)

-- those up to the next place are done, once those from here to there were
pub does_more : (C D E : List ChangeParts) (ss : List Splice) (from len : ℕ) → DoesSplices C D (take from ss) → DoesSplices D E (take (from + len - from) (drop from ss)) → DoesSplices C E (take (from + len) ss)
does_more C D E ss from len done more =
    let same : from + len - from ≡ len = omega arith in
    let both = does_both C D E (take from ss) (take (from + len - from) (drop from ss)) done more in
    subst (DoesSplices C E) (ap (λ n. take from ss ++ take n (drop from ss)) same ∙ sym (take-plus from len ss)) both

-- all are done
pub does_all : (C D : List ChangeParts) (ss : List Splice) (from : ℕ) → length ss ≤ from → DoesSplices C D (take from ss) → DoesSplices C D ss
does_all C D ss from all done = subst (DoesSplices C D) (take_all from ss all) done

-- ---- edits that are refused

placed : (C D : List ChangeParts) (ss first more rest : List Splice) (place : Option ℕ) → ss ≡ first ++ (more ++ rest) → DoesSplices C D (first ++ more) → 0 < length (more ++ rest)
    → place ≡ stopping_place first (more ++ rest) → DoesFirst C D ss place
placed C D ss [] more rest place parts done some is = subst (DoesFirst C D ss) (sym is) tt
placed C D ss (s ∷ first) more rest place parts done some is = subst (DoesFirst C D ss) (sym is) (s ∷ first, more, rest, parts, done, some, refl)

-- those before a place are done, and maybe those from there to the next too
pub first_done : (C D E : List ChangeParts) (ss : List Splice) (from len : ℕ) (place : Option ℕ) → from < length ss → place ≡ stopping_place (take from ss) (drop from ss)
    → DoesSplices C D (take from ss) → (E ≡ D) ⊎ DoesSplices D E (take (from + len - from) (drop from ss)) → DoesFirst C E ss place
first_done C D E ss from len place within is done (inl same) =
    let left = length-drop from ss in
    let here : DoesSplices C E (take from ss) = subst (λ (X : List ChangeParts). DoesSplices C X (take from ss)) (sym same) done in
    placed C E ss (take from ss) [] (drop from ss) place (sym (take-append-drop from ss)) (subst (DoesSplices C E) (sym (append-nil (take from ss))) here) (omega (arith, left, within)) is
first_done C D E ss from len place within is done (inr more) =
    let next : List Splice = take (from + len - from) (drop from ss) in
    let later : List Splice = drop (from + len) ss in
    let ahead : drop from ss ≡ next ++ later = ahead_is ss from len in
    let left = length-drop from ss in
    let count = ap length ahead in
    placed C E ss (take from ss) next later place (sym (take-append-drop from ss) ∙ ap (λ l. take from ss ++ l) ahead) (does_both C D E (take from ss) next done more) (omega (arith, left, count, within))
    (is ∙ ap (stopping_place (take from ss)) ahead)

-- a refused edit leaves the changes
kept_by : (p p' : PeerState) (asked : EditRequest) (e : PeerError) → RefusesEdit p asked e p' → p'.applied ≡ p.applied
kept_by p p' asked (Doc e) r = ap (λ (x : PeerState). x.applied) r.2
kept_by p p' asked JournalFailed r = ap (λ (x : PeerState). x.applied) r.2.left
kept_by p p' asked OutOfMemory r = ap (λ (x : PeerState). x.applied) r
kept_by p p' asked _ r = absurd r

pub refused_keeps : (p p' : PeerState) (ss : List Splice) (time : ℕ) (message : List ℕ) (e : PeerError) → p.stopped ≡ false → PeerStep p (Edit ss time message) (Refused e) p' → p'.applied ≡ p.applied
refused_keeps p p' ss time message e running step = kept_by p p' (asking p.actor ss time message) e (runs_edit p p' ss time message (Refused e) running step)

-- the edits of those before a place were made, and the next was refused
pub stops_edits : (p q : PeerState) (ss next : List Splice) (from time : ℕ) (message : List ℕ) (hashes : List Hash) (error : CommandError) (e : UpdateError) → MakesEdits p ss (drop from ss) time message hashes q
    → e.error ≡ error → e.place ≡ stopping_place (take from ss) (drop from ss) → RefusesNextEdit q next time message error → StopsEdits p ss time message e
stops_edits p q ss next from time message hashes error e made is place refused = record {
  now = q;
  made = made.made;
  first = take from ss;
  rest = drop from ss;
  next = next;
  parts = sym (take-append-drop from ss);
  edits = made.edits;
  applied = made.applied;
  refuses = subst (RefusesNextEdit q next time message) (sym is) refused;
  place_is = place;
}

pub stops_text : (p after : PeerState) (old text : List ℕ) (ss : List Splice) (time : ℕ) (message : List ℕ) {T : Type 0} (r : Result T UpdateError) → IsTextOf p.applied old → LeadAcross MAX_OPS old text ss → AreStretchesCut old text ss
    → IfErr r (λ e. StopsEdits p ss time message e) → IfErr r (λ e. DoesFirst p.applied after.applied ss e.place) → IfErr r (λ e. IsNotRewritten p text time message e after)
stops_text p after old text ss time message (Ok x) was lead cut stops done = tt
stops_text p after old text ss time message (Err e) was lead cut stops done = inr (record {
  old = old;
  was_text = was;
  differences = ss;
  leads = lead;
  cut = cut;
  stops = stops;
  left = left_at MAX_OPS p.applied after.applied old text ss e.place lead was done;
})

-- ---- groups of splices

pub all_some : (most from : ℕ) (ss : List Splice) → AreSpaced most from ss → All (λ s. 0 < count_of_splice s) ss
all_some most from [] apart = All-nil (λ s. 0 < count_of_splice s)
all_some most from (s ∷ ss) apart = All-cons (λ x. 0 < count_of_splice x) s ss apart.1 (all_some most (start_after most s) ss apart.3)

-- ---- journals

-- a text that was the other already was made by no change
none_made : (p after : PeerState) (text : List ℕ) (time : ℕ) (message : List ℕ) (hashes : List Hash) (m : MakesText p text time message hashes after) → m.old ≡ text → m.makes.made ≡ []
none_made p after text time message hashes m same =
    none_of_none p.actor time message p.applied m.makes.made (subst (λ (ss : List Splice). AreEditsOf p.actor time message p.applied ss [] m.makes.made) (m.leads.same same) m.makes.edits)

-- by differences whose operations fit into one change it was made by one
one_made : (p after : PeerState) (text : List ℕ) (time : ℕ) (message : List ℕ) (hashes : List Hash) (m : MakesText p text time message hashes after) → total_count m.differences ≤ MAX_OPS → length m.makes.made ≤ 1
one_made p after text time message hashes m few = one_of_few p.actor time message p.applied m.differences m.makes.made m.makes.edits few

-- a text of no bytes is no text
pub no_text : (b : Bool) (bytes : List ℕ) → b ≡ nat_eq (length bytes) 0 → not b ≡ false → chars bytes ≡ []
no_text true bytes e is = ap chars (nil_from_length bytes (eqb-true (length bytes) 0 (sym e))) ∙ chars-nil
no_text false bytes e is = absurd (cc)

-- the journal of a peer that was opened on one and whose text was made another one
pub updates_of : (k : JournalState) (actor : Actor) (p after : PeerState) (text : List ℕ) (time : ℕ) (message : List ℕ) (hashes : List Hash) (bytes : List ℕ)
    → Reopens k actor p → MakesText p text time message hashes after → HasJournal after.stopped after.id after.applied bytes → UpdatesJournal k.content actor text time message hashes bytes
updates_of k actor p after text time message hashes bytes r made has =
    let q : PeerState = opened_peer r.id actor r.applied k.device in
    let m : MakesText q text time message hashes after = subst (λ (x : PeerState). MakesText x text time message hashes after) r.is made in
    let kept : HasJournal false after.id after.applied bytes = subst (λ (b : Bool). HasJournal b after.id after.applied bytes) m.makes.running has in
    record {
      id = r.id;
      changes = r.applied;
      keep = r.keep;
      recovers = r.recovers;
      free = r.free;
      old = m.old;
      was_text = m.was_text;
      differences = m.differences;
      leads = m.leads;
      cut = m.cut;
      made = m.makes.made;
      edits = m.makes.edits;
      none = none_made q after text time message hashes m;
      one = one_made q after text time message hashes m;
      hashes_are = m.makes.hashes_are;
      is_text = subst (λ (C : List ChangeParts). IsTextOf C text) m.makes.applied m.is_text;
      journal_is = kept ∙ ap (λ i. journal i after.applied) m.makes.same_id ∙ ap (journal r.id) m.makes.applied;
    }
