-- What one change does to what the past of its dependencies shows.
use Rattle.std.proofs.lemmas.List.Folds.{list_any-append}
use Rattle.std.proofs.lemmas.Map.Entries.{lookup_head, lookup_tail}
use Rattle.std.specs.Option.{unwrap_or}
use Rattle.std.specs.Prelude.{nat_le}
use Rattle.tp_snapshot.proofs.Common.{◌≡◌, ℕ, zero, suc, ◌+◌, ◌<◌, ◌≤◌, ◌⊎◌, inl, inr, List, [], ◌∷◌, ◌++◌, take, drop, Bool, true, false, not, ◌||◌, ◌&&◌, cond, Some, nat_lt, refl, sym, ap, ◌∙◌, subst, arith, nat_tests, slice_get, option_map, encode_utf8, encode_utf8_all, chars_of, In, AllIn, SameMembers, Actor, Hash, OpId, Insert, ChangeParts, hash_of, op_count, ops_of, inserts, inserts_in, deletes, deletes_in, is_removed, same_actor, same_actor-flip, same_actor-same, id_eq, same_test, not_true, both_right, past, Sound, deps_first, DocumentInvariant, has_op, end_at, end_of, IsClockOf, AreTargets, is_in_stretches, deletes_by, inserts-In, inserts-more, seen_of, seen_at}
use Rattle.tp_list.proofs.Tests.{both, both_left}
use Rattle.tp_change.specs.Elements.{is_inserted, later}
use Rattle.tp_change.proofs.ElementLaws.{is_inserted-In, In-is_inserted, is_inserted-append, SameIds-members}
use Rattle.tp_change.proofs.Numbered.{inserts-within}
use Rattle.tp_history.specs.Reach.{Chain}
use Rattle.tp_history.proofs.ReachLaws.{InPast-from_past, past-from_InPast}
use Rattle.tp_history.proofs.SoundLaws.{hashes_apart}
use Rattle.tp_opid.proofs.Orders.{same_actor-itself}
use Rattle.tp_rga.proofs.Indexing.{left_from}
use Rattle.tp_rga.proofs.OneOrder.{is_removed-same}
use Rattle.tp_rga.specs.declared.walk.Seen.{Seen}
use Rattle.tp_snapshot.specs.declared.differences.Difference.{Difference}
use Rattle.tp_snapshot.specs.declared.effects.ChangeElements.{ChangeElements}
use Rattle.tp_snapshot.specs.declared.snapshot.Snapshot.{Snapshot}
use Rattle.tp_snapshot.specs.declared.views.View.TheVariants.{At}
use Rattle.tp_snapshot.specs.Differences.{BuilderState, LeadsTo, TakesElement, all_differences, differences_from, is_visible}
use Rattle.tp_snapshot.specs.Effects.{AreElementsOf, is_of_change, is_shown_after, test_after}
use Rattle.tp_snapshot.specs.Views.{is_in_view}
use Rattle.tp_snapshot.proofs.DifferenceLaws.{differences_lead, differences_same}
use Rattle.tp_snapshot.proofs.EndLaws.{one_before_other}
use Rattle.tp_snapshot.proofs.PastElements.{In-deletes, deletes-In, deletes_of_past}
use Rattle.tp_snapshot.proofs.SnapshotLaws.{bytes_by, bytes_by-shown, hidden_by, removed_before, test_is, tested}
use Rattle.tp_snapshot.proofs.VisibleLaws.{inserted_by_clock, past_is_shown, visible_in_past}

-- ---- one element of a walk

-- no element is deleted where no delete of it came
pub test_after-is : (s : Snapshot) (m : ChangeElements) (R : List (OpId × OpId)) (e : Insert) → AreTargets s.targets s.clock R → ((x : OpId) → is_in_stretches m.targets x ≡ true → is_removed R x ≡ true)
    → test_after s m (seen_of R e) ≡ is_shown_after s.clock R m e
test_after-is s m R e targets made =
    ap (λ b. (is_of_change m e.id || has_op s.clock e.id) && not b)
    (either_is (is_removed R e.id) (is_in_stretches m.targets e.id) (is_in_stretches s.targets e.id) (is_removed (deletes_by s.clock R) e.id) (targets e.id) (removed_before s.clock R e.id) (made e.id)) where
      either_is : (a p q r : Bool) → q ≡ r → (r ≡ true → a ≡ true) → (p ≡ true → a ≡ true) → (a && (p || q)) ≡ (p || r)
      either_is true p q r e f g = ap (λ b. p || b) e
      either_is false true q r e f g = g refl
      either_is false false q true e f g = f refl
      either_is false false q false e f g = refl

-- the builder takes it
pub effect_next : (s : Snapshot) (m : ChangeElements) (R : List (OpId × OpId)) (L : List Insert) (k : ℕ) (x : Seen) (b b' : BuilderState) (shown shows : Bool) → AreTargets s.targets s.clock R → ((y : OpId) → is_in_stretches m.targets y ≡ true → is_removed R y ≡ true)
    → Some x ≡ option_map (seen_of R) (slice_get L k) → shown ≡ tested s.clock s.targets x → shows ≡ test_after s m x → TakesElement b b' shown shows x.ch
    → all_differences (is_in_view (At s) R) (is_shown_after s.clock R m) b' (drop (k + 1) L) ≡ all_differences (is_in_view (At s) R) (is_shown_after s.clock R m) b (drop k L)
effect_next s m R L k x b b' shown shows targets made h old new takes =
    let p = seen_at R L k x h in
    let e = p.0 in
    let was = is_in_view (At s) R in
    let is = is_shown_after s.clock R m in
    let before : was e ≡ shown = sym (old ∙ ap (tested s.clock s.targets) p.3 ∙ test_is s.clock R s.targets e targets) in
    let after : is e ≡ shows = sym (new ∙ ap (test_after s m) p.3 ∙ test_after-is s m R e targets made) in
    sym (ap (all_differences was is b) (left_from L k e p.1 p.2)
    ∙ takes was is e (drop (k + 1) L) before after (sym (ap (λ (y : Seen). y.ch) p.3)))

-- and so does the text
pub text_next : (R : List (OpId × OpId)) (s : Snapshot) (L : List Insert) (k : ℕ) (x : Seen) (b : Bool) (old new : List ℕ) → AreTargets s.targets s.clock R → Some x ≡ option_map (seen_of R) (slice_get L k)
    → b ≡ tested s.clock s.targets x → new ≡ cond b (old ++ encode_utf8 x.ch) old → old ≡ bytes_by s.clock R (take k L) → new ≡ bytes_by s.clock R (take (k + 1) L)
text_next R s L k x true old new targets h t e inv =
    e ∙ ap (λ l. l ++ encode_utf8 x.ch) inv ∙ sym (bytes_by-shown s.clock R s.targets L k x targets h (sym t))
text_next R s L k x false old new targets h t e inv =
    e ∙ inv ∙ sym (ap (λ l. encode_utf8_all (chars_of l)) (hidden_by s.clock R s.targets L k x targets h (sym t)))

-- ---- the past of a change is the change and the past of its dependencies

past_splits : (C : List ChangeParts) (d c : ChangeParts) → Sound C → In d C → In c (past C (hash_of d ∷ [])) → (c ≡ d) ⊎ In c (past C d.deps)
past_splits C d c s there i =
    let p = InPast-from_past C (hash_of d ∷ []) c i in
    elim p.2 [
      | inl e ↦ by p.3.0 (subst (λ h. Chain C p.3.0 h (hash_of c)) e p.3.1) p.0
      | inr n ↦ absurd n
    ] where
      by : (n : ℕ) → Chain C n (hash_of d) (hash_of c) → In c C → (c ≡ d) ⊎ In c (past C d.deps)
      by zero k j = inl (hashes_apart C s c d j there (sym k))
      by (suc n) k j =
          let one : k.0 ≡ d = hashes_apart C s k.0 d k.1 there k.2 in
          inr (past-from_InPast C d.deps (deps_first C s) c (j, k.3, subst (λ (x : ChangeParts). In k.3 x.deps) one k.4, (n, k.5)))

deps_in_past : (C : List ChangeParts) (d c : ChangeParts) → Sound C → In d C → In c (past C d.deps) → In c (past C (hash_of d ∷ []))
deps_in_past C d c s there i =
    let p = InPast-from_past C d.deps c i in
    past-from_InPast C (hash_of d ∷ []) (deps_first C s) c (p.0, hash_of d, inl refl, (suc p.3.0, (d, there, refl, p.1, p.2, p.3.1)))

itself_in_past : (C : List ChangeParts) (d : ChangeParts) → Sound C → In d C → In d (past C (hash_of d ∷ []))
itself_in_past C d s there = past-from_InPast C (hash_of d ∷ []) (deps_first C s) d (there, hash_of d, inl refl, (zero, refl))

past_of_change : (C : List ChangeParts) (d : ChangeParts) → Sound C → In d C → SameMembers (past C (hash_of d ∷ [])) (d ∷ past C d.deps)
past_of_change C d s there = record {
  there = λ c i. past_splits C d c s there i;
  back = λ c i. elim i [
    | inl e ↦ subst (λ x. In x (past C (hash_of d ∷ []))) (sym e) (itself_in_past C d s there)
    | inr j ↦ deps_in_past C d c s there j
  ];
}

deletes_more : (C D : List ChangeParts) → AllIn C D → AllIn (deletes C) (deletes D)
deletes_more C D all r i = let w = deletes-In C r i in In-deletes D w.0 r (all w.0 w.1) w.2

inserted_at : (C : List ChangeParts) (c : ChangeParts) (x : OpId) → Sound C → In c C → is_inserted (inserts (past C (hash_of c ∷ []))) x ≡ (is_inserted (inserts_in (ops_of c)) x || is_inserted (inserts (past C c.deps)) x)
inserted_at C c x s there =
    let Q = past C (hash_of c ∷ []) in
    let P = past C c.deps in
    let same = past_of_change C c s there in
    let members : SameMembers (inserts Q) (inserts (c ∷ P)) = record { there = inserts-more Q (c ∷ P) same.there; back = inserts-more (c ∷ P) Q same.back } in
    SameIds-members (inserts Q) (inserts (c ∷ P)) members x ∙ is_inserted-append (inserts_in (ops_of c)) (inserts P) x

removed_at : (C : List ChangeParts) (c : ChangeParts) (x : OpId) → Sound C → In c C → is_removed (deletes (past C (hash_of c ∷ []))) x ≡ (is_removed (deletes_in (ops_of c)) x || is_removed (deletes (past C c.deps)) x)
removed_at C c x s there =
    let Q = past C (hash_of c ∷ []) in
    let P = past C c.deps in
    let same = past_of_change C c s there in
    let members : SameMembers (deletes Q) (deletes (c ∷ P)) = record { there = deletes_more Q (c ∷ P) same.there; back = deletes_more (c ∷ P) Q same.back } in
    is_removed-same (deletes Q) (deletes (c ∷ P)) members x ∙ list_any-append (λ (r : OpId × OpId). id_eq r.0 x) (deletes_in (ops_of c)) (deletes P)

-- ---- an element that has one of the change's identifiers is one that it inserts

of_change : (c : ChangeParts) (m : ChangeElements) (x : OpId) → AreElementsOf c m → is_of_change m x ≡ true → (x.actor ≡ c.actor) × (c.start ≤ x.counter) × (x.counter < c.start + op_count c)
of_change c m x of t =
    let counters = both_left (nat_le m.start x.counter && nat_lt x.counter m.end) (same_actor m.actor x.actor) t in
    let low : nat_le m.start x.counter ≡ true = both_left (nat_le m.start x.counter) (nat_lt x.counter m.end) counters in
    let high : nat_lt x.counter m.end ≡ true = both_right (nat_le m.start x.counter) (nat_lt x.counter m.end) counters in
    let actor = same_actor-same m.actor x.actor (both_right (nat_le m.start x.counter && nat_lt x.counter m.end) (same_actor m.actor x.actor) t) in
    (sym actor ∙ of.actor, from m.start c.start x.counter of.start low, to m.end (c.start + op_count c) x.counter of.end high) where
      from : (a b n : ℕ) → a ≡ b → nat_le a n ≡ true → b ≤ n
      from a b n e t = grind (arith, nat_tests)

      to : (a b n : ℕ) → a ≡ b → nat_lt n a ≡ true → n < b
      to a b n e t = grind (arith, nat_tests)

is_of_change-from : (c : ChangeParts) (m : ChangeElements) (x : OpId) → AreElementsOf c m → x.actor ≡ c.actor → c.start ≤ x.counter → x.counter < c.start + op_count c → is_of_change m x ≡ true
is_of_change-from c m x of actor low high =
    both (nat_le m.start x.counter && nat_lt x.counter m.end) (same_actor m.actor x.actor)
    (both (nat_le m.start x.counter) (nat_lt x.counter m.end) (from m.start c.start x.counter of.start low) (to m.end (c.start + op_count c) x.counter of.end high))
    (subst (λ a. same_actor m.actor a ≡ true) (of.actor ∙ sym actor) (same_actor-itself m.actor)) where
      from : (a b n : ℕ) → a ≡ b → b ≤ n → nat_le a n ≡ true
      from a b n e t = grind (arith, nat_tests)

      to : (a b n : ℕ) → a ≡ b → n < b → nat_lt n a ≡ true
      to a b n e t = grind (arith, nat_tests)

own_inserts : (C : List ChangeParts) (c : ChangeParts) (m : ChangeElements) (e : Insert) → Sound C → In c C → AreElementsOf c m → In e (inserts C) → is_of_change m e.id ≡ is_inserted (inserts_in (ops_of c)) e.id
own_inserts C c m e s there of i =
    same_test (is_of_change m e.id) (is_inserted (inserts_in (ops_of c)) e.id)
    (λ t.
    let own = of_change c m e.id of t in
    let w = inserts-In C e i in
    let d = w.0 in
    let by = inserts-within d e w.2 in
    let one : same_actor d.actor c.actor ≡ true = subst (λ a. same_actor d.actor a ≡ true) (sym by.actor ∙ own.0) (same_actor-itself d.actor) in
    elim (one_before_other C d c s w.1 there one) [
      | inl same ↦ In-is_inserted (inserts_in (ops_of c)) e e.id (subst (λ (x : ChangeParts). In e (inserts_in (ops_of x))) same w.2) refl
      | inr (inl before) ↦ let below : d.start + op_count d ≤ c.start = before.below in absurd (omega (arith, own.1, by.high))
      | inr (inr after) ↦ let below : c.start + op_count c ≤ d.start = after.below in absurd (omega (arith, own.2, by.low))
    ])
    (λ t.
    let w = is_inserted-In (inserts_in (ops_of c)) e.id t in
    let by = inserts-within c w.0 w.1 in
    subst (λ x. is_of_change m x ≡ true) w.2 (is_of_change-from c m w.0.id of by.actor by.low by.high))

-- what the past's operations and the change's show is what the past of the change shows
pub visible_at_change : (C : List ChangeParts) (L : List Insert) (R : List (OpId × OpId)) (K : List (Actor × ℕ)) (c : ChangeParts) (m : ChangeElements) → DocumentInvariant C L R → In c C → IsClockOf K (past C c.deps) → AreElementsOf c m
    → (e : Insert) → In e L → is_shown_after K R m e ≡ is_visible (past C (hash_of c ∷ [])) e
visible_at_change C L R K c m h there ends of e i =
    let P = past C c.deps in
    let in_all : In e (inserts C) = h.order.same.back e i in
    let D = deletes_by K R in
    let inserted : (is_of_change m e.id || has_op K e.id) ≡ is_inserted (inserts (past C (hash_of c ∷ []))) e.id =
    ap (λ b. b || has_op K e.id) (own_inserts C c m e h.sound there of in_all)
    ∙ ap (λ b. is_inserted (inserts_in (ops_of c)) e.id || b) (inserted_by_clock C c.deps K e h.sound ends in_all)
    ∙ sym (inserted_at C c e.id h.sound there) in
    let removed : (is_in_stretches m.targets e.id || is_removed D e.id) ≡ is_removed (deletes (past C (hash_of c ∷ []))) e.id =
    ap (λ b. b || is_removed D e.id) (of.targets e.id)
    ∙ ap (λ b. is_removed (deletes_in (ops_of c)) e.id || b) (ap (λ Q. is_removed (deletes_by K Q) e.id) h.deletes ∙ is_removed-same (deletes_by K (deletes C)) (deletes P) (deletes_of_past C c.deps K h.sound ends) e.id)
    ∙ sym (removed_at C c e.id h.sound there) in
    ap (λ b. b && not (is_in_stretches m.targets e.id || is_removed D e.id)) inserted
    ∙ ap (λ b. is_inserted (inserts (past C (hash_of c ∷ []))) e.id && not b) removed

-- the change's targets were deleted
pub targets_removed : (C : List ChangeParts) (L : List Insert) (R : List (OpId × OpId)) (c : ChangeParts) (m : ChangeElements) → DocumentInvariant C L R → In c C → AreElementsOf c m → (x : OpId) → is_in_stretches m.targets x ≡ true → is_removed R x ≡ true
targets_removed C L R c m h there of x t =
    ap (λ Q. is_removed Q x) h.deletes ∙ removed_more C c x there (sym (of.targets x) ∙ t) where
      any_or : (b : Bool) → (b || true) ≡ true
      any_or true = refl
      any_or false = refl

      removed_more : (C : List ChangeParts) (c : ChangeParts) (x : OpId) → In c C → is_removed (deletes_in (ops_of c)) x ≡ true → is_removed (deletes C) x ≡ true
      removed_more [] c x i t = absurd i
      removed_more (d ∷ C) c x (inl same) t =
          list_any-append (λ (r : OpId × OpId). id_eq r.0 x) (deletes_in (ops_of d)) (deletes C)
          ∙ ap (λ b. b || is_removed (deletes C) x) (ap (λ (y : ChangeParts). is_removed (deletes_in (ops_of y)) x) (sym same) ∙ t)
      removed_more (d ∷ C) c x (inr i) t =
          list_any-append (λ (r : OpId × OpId). id_eq r.0 x) (deletes_in (ops_of d)) (deletes C)
          ∙ ap (λ b. is_removed (deletes_in (ops_of d)) x || b) (removed_more C c x i t)
          ∙ any_or (is_removed (deletes_in (ops_of d)) x)

-- ---- each past has a clock

abbrev clock_from : List ChangeParts → List (Actor × ℕ)
clock_from [] = []
clock_from (c ∷ C) = (c.actor, end_of (c ∷ C) c.actor) ∷ clock_from C

clock_from-ends : (C : List ChangeParts) → IsClockOf (clock_from C) C
clock_from-ends [] a = refl
clock_from-ends (c ∷ C) a = by_test (same_actor a c.actor) refl (clock_from-ends C a) where
  clash : true ≡ false → ⊥
  clash e = cc

  by_test : (b : Bool) → same_actor a c.actor ≡ b → end_at (clock_from C) a ≡ end_of C a → end_at (clock_from (c ∷ C)) a ≡ end_of (c ∷ C) a
  by_test true t rest =
      let one : a ≡ c.actor = same_actor-same a c.actor t in
      ap (λ o. unwrap_or o 0) (lookup_head (same_actor a) (c.actor, end_of (c ∷ C) c.actor) (clock_from C) t)
      ∙ ap (end_of (c ∷ C)) (sym one)
  by_test false t rest =
      let other : same_actor c.actor a ≡ false = not_true (same_actor c.actor a) (λ u. clash (sym (same_actor-flip c.actor a u) ∙ t)) in
      ap (λ o. unwrap_or o 0) (lookup_tail (same_actor a) (c.actor, end_of (c ∷ C) c.actor) (clock_from C) t)
      ∙ rest
      ∙ ap (λ b. cond b (later (c.start + op_count c) (end_of C a)) (end_of C a)) (sym other)

-- ---- what was found

pub effect_is : (C : List ChangeParts) (L : List Insert) (R : List (OpId × OpId)) (s : Snapshot) (c : ChangeParts) (m : ChangeElements) (ds : List Difference) → DocumentInvariant C L R → In c C → IsClockOf s.clock (past C c.deps) → AreElementsOf c m
    → ds ≡ differences_from (is_in_view (At s) R) (is_shown_after s.clock R m) 0 0 [] L → ds ≡ differences_from (is_visible (past C c.deps)) (is_visible (past C (hash_of c ∷ []))) 0 0 [] L
effect_is C L R s c m ds h there ends of e =
    e
    ∙ differences_same (is_in_view (At s) R) (is_shown_after s.clock R m) (is_visible (past C c.deps)) (is_visible (past C (hash_of c ∷ []))) L
    (visible_in_past C L R c.deps s.clock h ends) (visible_at_change C L R s.clock c m h there ends of) 0 0 []

pub effect_leads : (C : List ChangeParts) (L : List Insert) (R : List (OpId × OpId)) (H G : List Hash) (K : List (Actor × ℕ)) (ds : List Difference) → DocumentInvariant C L R → IsClockOf K (past C H)
    → ds ≡ differences_from (is_visible (past C H)) (is_visible (past C G)) 0 0 [] L → LeadsTo (past C H) (past C G) ds
effect_leads C L R H G K ds h ends e = differences_lead (past C H) (past C G) L ds (past_is_shown C L R H K h ends) (past_is_shown C L R G (clock_from (past C G)) h (clock_from-ends (past C G))) e
