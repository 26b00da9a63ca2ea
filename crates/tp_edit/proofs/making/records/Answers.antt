use Rattle.std.proofs.Common.{◌≡◌, ℕ, ◌+◌, ◌<◌, ◌≤◌, List, [], ◌∷◌, ◌++◌, length, get_or, sym, ap, ◌∙◌, subst, arith, take}
use Rattle.std.proofs.lemmas.List.{take_all, length-map}
use Rattle.tp_opid.specs.declared.actor.Actor.{Actor}
use Rattle.tp_opid.specs.declared.op_id.OpId.{OpId}
use Rattle.tp_opid.specs.Insert.{Insert}
use Rattle.tp_layout.specs.declared.record.Record.{Record}
use Rattle.tp_rga.specs.Shown.{visible_of}
use Rattle.tp_edit.specs.declared.landing.Edge.{Edge}
use Rattle.tp_edit.specs.declared.landing.Landing.{Landing}
use Rattle.tp_edit.specs.declared.splice.Splice.{Splice}
use Rattle.tp_edit.specs.Splices.{inserted_chars, AllInRange, total_count}
use Rattle.tp_edit.specs.EditRecords.{ids_of, ids_after_all, records_of_edit, records_of_splice}
use Rattle.tp_edit.specs.Landings.{IsEdge, LeavesEdge, landing_of, landings_of, ids_through}
use Rattle.tp_edit.proofs.RecordSteps.{IsNext-at, records_of_edit-more, landings_of-more, ids_through-landings}
use Rattle.tp_edit.proofs.SpliceLists.{total_count-more}
use Rattle.tp_edit.proofs.making.records.Goals as goal

-- as many identifiers as elements
range_of_ids : (L : List Insert) (ss : List Splice) → AllInRange (length L) ss → AllInRange (length (ids_of L)) ss
range_of_ids L ss h = subst (λ k. AllInRange k ss) (sym (length-map L (λ (e : Insert). e.id))) h

same_landing : (s : Splice) (len n m : ℕ) → len ≡ length (inserted_chars s) → n ≡ m → (let l : Landing = record { at = s.at; del = s.del; len = len; first = n + s.del } in l) ≡ landing_of m s
same_landing s len n m e f =
    let at_len : ℕ → Landing = λ k. record { at = s.at; del = s.del; len = k; first = n + s.del } in
    ap at_len e ∙ ap (λ k. landing_of k s) f

-- the records of one splice more
made_on : (a : Actor) (n : ℕ) (V : List OpId) (ss : List Splice) (i : ℕ) (d : Splice) (landings : List Landing) (old new : List Record) → i < length ss
    → new ≡ old ++ records_of_splice (ids_through a V landings) (get_or ss i d) → old ≡ records_of_edit a n V (take i ss) → landings ≡ landings_of n (take i ss) → new ≡ records_of_edit a n V (take (i + 1) ss)
made_on a n V ss i d landings old new lt e f landed =
    let there : ids_through a V landings ≡ ids_after_all a n V (take i ss) = ap (ids_through a V) landed ∙ ids_through-landings a n V (take i ss) in
    e ∙ ap (λ l. l ++ records_of_splice (ids_through a V landings) (get_or ss i d)) f
    ∙ ap (λ W. records_of_edit a n V (take i ss) ++ records_of_splice W (get_or ss i d)) there
    ∙ sym (records_of_edit-more a n V ss i d lt)

-- what the splice left alone too
edge_on : (a : Actor) (V : List OpId) (old new : List Landing) (l : Landing) (e e' : Edge) → IsEdge a V old e → l.at + l.del ≤ length (ids_through a V old)
    → LeavesEdge e l e' → new ≡ old ++ l ∷ [] → IsEdge a V new e'
edge_on a V old new l e e' edge fit leaves put = subst (λ ls. IsEdge a V ls e') (sym put) (leaves a V old edge fit)

-- and its landing
landed_on : (n : ℕ) (ss : List Splice) (i : ℕ) (d : Splice) (len next : ℕ) (old new : List Landing) → i < length ss
    → new ≡ old ++ record { at = (get_or ss i d).at; del = (get_or ss i d).del; len = len; first = next + (get_or ss i d).del } ∷ [] → old ≡ landings_of n (take i ss)
    → len ≡ length (inserted_chars (get_or ss i d)) → next ≡ n + total_count (take i ss) → new ≡ landings_of n (take (i + 1) ss)
landed_on n ss i d len next old new lt e f size counted =
    let s = get_or ss i d in
    let put : Landing = record { at = s.at; del = s.del; len = len; first = next + s.del } in
    e ∙ ap (λ l. l ++ put ∷ []) f
    ∙ ap (λ l. landings_of n (take i ss) ++ l ∷ []) (same_landing s len next (n + total_count (take i ss)) size counted)
    ∙ sym (landings_of-more n ss i d lt)

pub loop-splice-init : goal.loop-splice-init
loop-splice-init g c =
    let V = ids_of (visible_of (g.S.Sequence.removals c.args.sequence.now) (g.S.Sequence.placed c.args.sequence.now)) in
    let edge = c.in_ok-landings.landings.edge in
    record {
      made = c.in_ok-records.ensures.items;
      landed = c.in_ok-landings.ensures.done;
      edge = subst (λ (ls : List Landing). IsEdge c.args.actor V ls edge) (sym c.in_ok-landings.ensures.done) (c.in_ok-landings.ensures.edge c.args.actor V);
      near = omega (arith, c.in_ok-landings.ensures.near);
      counted = omega arith;
    }

pub append_splice-requires : goal.append_splice-requires
append_splice-requires g c =
    let L = visible_of (g.S.Sequence.removals c.args.sequence.now) (g.S.Sequence.placed c.args.sequence.now) in
    let V = ids_of L in
    let ss = c.args.splices.now in
    let i = c.loop-splice.splice-index in
    let d : Splice = record { at = 0; del = 0; text = record { ref_ptr = (0, 0); now = [] } } in
    let next = IsNext-at c.args.actor c.args.start V ss i d c.loop-splice-test.true (range_of_ids L ss c.requires.in_range) c.requires.counters in
    record {
      landings = record { fit = rw c.loop-splice.invariant.landed next.fit; edge = c.loop-splice.invariant.edge };
      in_range = rw c.loop-splice.invariant.landed next.place;
      count = c.inserted_count-count.ensures.count;
      counted = omega (arith, c.len-len.ensures, c.len-len.type_inv);
    }

pub push-requires : goal.push-requires
push-requires g c =
    let L = visible_of (g.S.Sequence.removals c.args.sequence.now) (g.S.Sequence.placed c.args.sequence.now) in
    let ss = c.args.splices.now in
    let i = c.loop-splice.splice-index in
    let d : Splice = record { at = 0; del = 0; text = record { ref_ptr = (0, 0); now = [] } } in
    let next = IsNext-at c.args.actor c.args.start (ids_of L) ss i d c.loop-splice-test.true (range_of_ids L ss c.requires.in_range) c.requires.counters in
    let size = length-map L (λ (e : Insert). e.id) in
    record {
      near = omega (arith, next.room, c.loop-splice.invariant.near);
      short = omega (arith, size, c.loop-splice.invariant.edge.before, c.len-len.ensures, c.len-len.type_inv);
    }

pub overflow_add-first : goal.overflow_add-first
overflow_add-first g c =
    let L = visible_of (g.S.Sequence.removals c.args.sequence.now) (g.S.Sequence.placed c.args.sequence.now) in
    let ss = c.args.splices.now in
    let i = c.loop-splice.splice-index in
    let d : Splice = record { at = 0; del = 0; text = record { ref_ptr = (0, 0); now = [] } } in
    let next = IsNext-at c.args.actor c.args.start (ids_of L) ss i d c.loop-splice-test.true (range_of_ids L ss c.requires.in_range) c.requires.counters in
    omega (arith, next.room, c.loop-splice.invariant.counted)

pub loop-splice-preserved : goal.loop-splice-preserved
loop-splice-preserved g c =
    let L = visible_of (g.S.Sequence.removals c.args.sequence.now) (g.S.Sequence.placed c.args.sequence.now) in
    let V = ids_of L in
    let a = c.args.actor in
    let n = c.args.start in
    let ss = c.args.splices.now in
    let i = c.loop-splice.splice-index in
    let d : Splice = record { at = 0; del = 0; text = record { ref_ptr = (0, 0); now = [] } } in
    let more = total_count-more ss i d c.loop-splice-test.true in
    let next = IsNext-at a n V ss i d c.loop-splice-test.true (range_of_ids L ss c.requires.in_range) c.requires.counters in
    let moved = c.in_ok-push.ensures.near (total_count (take i ss)) c.loop-splice.invariant.near in
    record {
      made = made_on a n V ss i d _ _ _ c.loop-splice-test.true c.in_ok-append_splice.ensures c.loop-splice.invariant.made c.loop-splice.invariant.landed;
      landed = landed_on n ss i d c.inserted_count-count.result c.loop-splice.next _ _ c.loop-splice-test.true c.in_ok-push.ensures.done c.loop-splice.invariant.landed c.inserted_count-count.ensures.count c.loop-splice.invariant.counted;
      edge = edge_on a V _ _ _ _ _ c.loop-splice.invariant.edge (rw c.loop-splice.invariant.landed next.place) c.in_ok-push.ensures.edge c.in_ok-push.ensures.done;
      near = omega (arith, more, moved, c.inserted_count-count.ensures.count);
      counted = omega (arith, more, c.loop-splice.invariant.counted, c.inserted_count-count.ensures.count);
    }

pub overflow_add-next : goal.overflow_add-next
overflow_add-next g c =
    let L = visible_of (g.S.Sequence.removals c.args.sequence.now) (g.S.Sequence.placed c.args.sequence.now) in
    let ss = c.args.splices.now in
    let i = c.loop-splice.splice-index in
    let d : Splice = record { at = 0; del = 0; text = record { ref_ptr = (0, 0); now = [] } } in
    let next = IsNext-at c.args.actor c.args.start (ids_of L) ss i d c.loop-splice-test.true (range_of_ids L ss c.requires.in_range) c.requires.counters in
    omega (arith, next.room, c.loop-splice.invariant.counted, c.inserted_count-count.ensures.count)

all_made : (a : Actor) (n : ℕ) (V : List OpId) (ss : List Splice) (i : ℕ) (made : List Record) → made ≡ records_of_edit a n V (take i ss) → length ss ≤ i → made ≡ records_of_edit a n V ss
all_made a n V ss i made e past = e ∙ ap (records_of_edit a n V) (take_all i ss past)

pub returns : goal.returns
returns g c =
    let V = ids_of (visible_of (g.S.Sequence.removals c.args.sequence.now) (g.S.Sequence.placed c.args.sequence.now)) in
    all_made c.args.actor c.args.start V c.args.splices.now c.loop-splice.splice-index _ c.loop-splice.invariant.made c.loop-splice-test.false
