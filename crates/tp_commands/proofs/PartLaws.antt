-- Splices that are cut into parts lead where they led.
use Rattle.std.proofs.Common.{◌≡◌, ◌≢◌, ◌∙◌, ap, refl, sym, subst, ℕ, ◌+◌, ◌-◌, ◌<◌, ◌≤◌, List, [], ◌∷◌, ◌++◌, length, take, drop, inl, inr, arith, append_assoc, append-nil, length-append}
use Rattle.std.proofs.lemmas.Bool.Decides.{nat_tests}
use Rattle.std.proofs.lemmas.List.{drop-drop, drop_at, length-take-le}
use Rattle.std.proofs.Math.Seq.{take-append_seam}
use Rattle.tp_layout.specs.declared.limits.TheConstants.{MAX_OPS}
use Rattle.tp_diff.specs.Differences.{AllChange, AreSpaced, LeadAcross, gap_after, start_after}
use Rattle.tp_edit.specs.declared.splice.Splice.{Splice}
use Rattle.tp_edit.specs.Splices.{AllInRange, IsInRange, all_spliced, count_of_splice, inserted_chars, splice_at}
use Rattle.tp_edit.proofs.Landed.{length-splice_at}
use Rattle.tp_commands.specs.Cutting.{AreCutUp, IsCutInto, IsCutUp}

-- what a splice makes of a text
abbrev done : List ℕ → Splice → List ℕ
done T s = splice_at T s.at s.del (inserted_chars s)

-- two splices, where the second begins where the first ends, are one
joined : (T : List ℕ) (a d e : ℕ) (x y : List ℕ) → a ≤ length T → splice_at (splice_at T a d x) (a + length x) e y ≡ splice_at T a (d + e) (x ++ y)
joined T a d e x y within =
    let P : List ℕ = take a T in
    let R : List ℕ = drop (a + d) T in
    let L : List ℕ = splice_at T a d x in
    let long : length P ≡ a = length-take-le a T within in
    let seam : L ≡ (P ++ x) ++ R = sym (append_assoc P x R) in
    let both : length (P ++ x) ≡ a + length x = length-append P x ∙ ap (λ n. n + length x) long in
    let front : take (a + length x) L ≡ P ++ x =
    ap (take (a + length x)) seam ∙ ap (λ n. take n ((P ++ x) ++ R)) (sym both) ∙ take-append_seam (P ++ x) R in
    let behind : drop (a + length x) L ≡ R = ap (drop (a + length x)) seam ∙ drop_at (P ++ x) R (a + length x) both in
    let sum : (a + d) + e ≡ a + (d + e) = omega arith in
    let back : drop ((a + length x) + e) L ≡ drop (a + (d + e)) T =
    sym (drop-drop e (a + length x) L) ∙ ap (drop e) behind ∙ drop-drop e (a + d) T ∙ ap (λ n. drop n T) sum in
    ap (λ l. l ++ (y ++ drop ((a + length x) + e) L)) front ∙ ap (λ l. (P ++ x) ++ (y ++ l)) back
    ∙ append_assoc P x (y ++ drop (a + (d + e)) T) ∙ ap (λ l. P ++ l) (sym (append_assoc x y (drop (a + (d + e)) T)))

-- a part and then the rest do what the splice does
part_done : (T : List ℕ) (s p rest : Splice) → IsCutInto s p rest → IsInRange (length T) s → done (done T p) rest ≡ done T s
part_done T s p rest cut near =
    let x : List ℕ = inserted_chars p in
    let y : List ℕ = inserted_chars rest in
    let within : p.at ≤ length T = omega (arith, cut.at, near) in
    ap (λ k. splice_at (done T p) k rest.del y) cut.next ∙ joined T p.at p.del rest.del x y within ∙ ap (λ k. splice_at T k (p.del + rest.del) (x ++ y)) cut.at
    ∙ ap (λ k. splice_at T s.at k (x ++ y)) (sym cut.deleted) ∙ ap (splice_at T s.at s.del) (sym cut.inserted)

inserted_sum : (s p rest : Splice) → IsCutInto s p rest → length (inserted_chars s) ≡ length (inserted_chars p) + length (inserted_chars rest)
inserted_sum s p rest cut = ap length cut.inserted ∙ length-append (inserted_chars p) (inserted_chars rest)

-- the part is within the text, and the rest within what the part leaves
part_near : (len : ℕ) (s p rest : Splice) → IsCutInto s p rest → IsInRange len s → IsInRange len p × IsInRange (len - p.del + length (inserted_chars p)) rest
part_near len s p rest cut near = (omega (arith, cut.at, cut.deleted, near), omega (arith, cut.at, cut.next, cut.deleted, near))

part_left : (len : ℕ) (s p rest : Splice) → IsCutInto s p rest → IsInRange len s
    → (len - p.del + length (inserted_chars p)) - rest.del + length (inserted_chars rest) ≡ len - s.del + length (inserted_chars s)
part_left len s p rest cut near =
    let sum = inserted_sum s p rest cut in
    omega (arith, sum, cut.at, cut.deleted, near)

-- a splice that inserts another number of characters than it deletes changes the text
other_length : (T : List ℕ) (s : Splice) → IsInRange (length T) s → s.del ≢ length (inserted_chars s) → done T s ≢ T
other_length T s near differ same =
    let len = length-splice_at T s.at s.del (inserted_chars s) near in
    let kept = ap length same in
    let equal : s.del ≡ length (inserted_chars s) = omega (arith, len, kept, near) in
    differ equal

-- ---- the parts of a splice, and those after them

cut_spliced : (parts later : List Splice) (s : Splice) (T : List ℕ) → IsCutUp s parts → IsInRange (length T) s → all_spliced T (parts ++ later) ≡ all_spliced (done T s) later
cut_spliced [] later s T cut near = absurd cut
cut_spliced (p ∷ ps) later s T (inl one) near =
    ap (λ (l : List Splice). all_spliced (done T p) (l ++ later)) one.1 ∙ ap (λ (q : Splice). all_spliced (done T q) later) (sym one.0)
cut_spliced (p ∷ ps) later s T (inr (rest, cut, more)) near =
    let both = part_near (length T) s p rest cut near in
    let len = length-splice_at T p.at p.del (inserted_chars p) both.0 in
    cut_spliced ps later rest (done T p) more (subst (λ n. IsInRange n rest) (sym len) both.1) ∙ ap (λ t. all_spliced t later) (part_done T s p rest cut near)

cut_in_range : (parts later : List Splice) (s : Splice) (len : ℕ) → IsCutUp s parts → IsInRange len s → AllInRange (len - s.del + length (inserted_chars s)) later → AllInRange len (parts ++ later)
cut_in_range [] later s len cut near ahead = absurd cut
cut_in_range (p ∷ ps) later s len (inl one) near ahead =
    subst (λ (q : Splice). AllInRange len (q ∷ (ps ++ later))) one.0 (near, subst (λ (l : List Splice). AllInRange (len - s.del + length (inserted_chars s)) (l ++ later)) (sym one.1) ahead)
cut_in_range (p ∷ ps) later s len (inr (rest, cut, more)) near ahead =
    let both = part_near len s p rest cut near in
    (both.0, cut_in_range ps later rest (len - p.del + length (inserted_chars p)) more both.1 (subst (λ n. AllInRange n later) (sym (part_left len s p rest cut near)) ahead))

-- splices that begin later begin late enough
spaced_sooner : (most from sooner : ℕ) (ss : List Splice) → sooner ≤ from → AreSpaced most from ss → AreSpaced most sooner ss
spaced_sooner most from sooner [] le h = tt
spaced_sooner most from sooner (s ∷ ss) le h = (omega (arith, le, h.0), h.1, h.2, h.3)

gap_at_most : (most count : ℕ) → gap_after most count ≤ 1
gap_at_most most count = grind (arith, nat_tests)

no_gap : (most count : ℕ) → count ≡ most → gap_after most count ≡ 0
no_gap most count same = grind (arith, nat_tests)

a_gap : (most count : ℕ) → count < most → gap_after most count ≡ 1
a_gap most count less = grind (arith, nat_tests)

cut_spaced : (parts later : List Splice) (s : Splice) (from : ℕ) → IsCutUp s parts → from ≤ s.at → 0 < count_of_splice s
    → AreSpaced MAX_OPS (s.at + length (inserted_chars s) + 1) later → AreSpaced MAX_OPS from (parts ++ later)
cut_spaced [] later s from cut start some ahead = absurd cut
cut_spaced (p ∷ ps) later s from (inl one) start some ahead =
    let gap = gap_at_most MAX_OPS (count_of_splice s) in
    let next : AreSpaced MAX_OPS (start_after MAX_OPS s) later = spaced_sooner MAX_OPS (s.at + length (inserted_chars s) + 1) (start_after MAX_OPS s) later (omega (arith, gap)) ahead in
    subst (λ (q : Splice). AreSpaced MAX_OPS from (q ∷ (ps ++ later))) one.0
    (start, some, one.2, subst (λ (l : List Splice). AreSpaced MAX_OPS (start_after MAX_OPS s) (l ++ later)) (sym one.1) next)
cut_spaced (p ∷ ps) later s from (inr (rest, cut, more)) start some ahead =
    let gap = no_gap MAX_OPS (count_of_splice p) cut.full in
    let sum = inserted_sum s p rest cut in
    let ends : s.at + length (inserted_chars s) + 1 ≡ rest.at + length (inserted_chars rest) + 1 = omega (arith, sum, cut.at, cut.next) in
    let left : 0 < count_of_splice rest = some_left rest.del (length (inserted_chars rest)) cut.rest_changes in
    let full : count_of_splice p ≡ MAX_OPS = cut.full in (
      omega (arith, start, cut.at),
      omega (arith, full),
      omega (arith, full),
      cut_spaced ps later rest (start_after MAX_OPS p) more (omega (arith, gap, cut.next)) left (subst (λ n. AreSpaced MAX_OPS n later) ends ahead),
    )
  where
    some_left : (d n : ℕ) → d ≢ n → 0 < d + n
    some_left d n differ = omega (arith, differ)

cut_change : (parts later : List Splice) (s : Splice) (T : List ℕ) → IsCutUp s parts → IsInRange (length T) s → done T s ≢ T → AllChange (done T s) later → AllChange T (parts ++ later)
cut_change [] later s T cut near changes ahead = absurd cut
cut_change (p ∷ ps) later s T (inl one) near changes ahead =
    subst (λ (q : Splice). AllChange T (q ∷ (ps ++ later))) one.0 (changes, subst (λ (l : List Splice). AllChange (done T s) (l ++ later)) (sym one.1) ahead)
cut_change (p ∷ ps) later s T (inr (rest, cut, more)) near changes ahead =
    let both = part_near (length T) s p rest cut near in
    let len = length-splice_at T p.at p.del (inserted_chars p) both.0 in
    let rest_near : IsInRange (length (done T p)) rest = subst (λ n. IsInRange n rest) (sym len) both.1 in (
      other_length T p both.0 cut.changes,
      cut_change ps later rest (done T p) more rest_near (other_length (done T p) rest rest_near cut.rest_changes)
          (subst (λ t. AllChange t later) (sym (part_done T s p rest cut near)) ahead),
    )

-- ---- the parts of all splices

parts_spliced : (ss parts : List Splice) (T : List ℕ) → AreCutUp ss parts → AllInRange (length T) ss → all_spliced T parts ≡ all_spliced T ss
parts_spliced [] parts T cut near = ap (all_spliced T) cut
parts_spliced (s ∷ ss) parts T (first, later, is, up, few, more) near =
    let len = length-splice_at T s.at s.del (inserted_chars s) near.0 in
    ap (all_spliced T) is ∙ cut_spliced first later s T up near.0 ∙ parts_spliced ss later (done T s) more (subst (λ n. AllInRange n ss) (sym len) near.1)

parts_in_range : (ss parts : List Splice) (len : ℕ) → AreCutUp ss parts → AllInRange len ss → AllInRange len parts
parts_in_range [] parts len cut near = subst (AllInRange len) (sym cut) tt
parts_in_range (s ∷ ss) parts len (first, later, is, up, few, more) near =
    subst (AllInRange len) (sym is) (cut_in_range first later s len up near.0 (parts_in_range ss later (len - s.del + length (inserted_chars s)) more near.1))

parts_spaced : (ss parts : List Splice) (from : ℕ) → AreCutUp ss parts → AreSpaced 18446744073709551615 from ss → AreSpaced MAX_OPS from parts
parts_spaced [] parts from cut apart = subst (AreSpaced MAX_OPS from) (sym cut) tt
parts_spaced (s ∷ ss) parts from (first, later, is, up, few, more) apart =
    let gap = a_gap 18446744073709551615 (count_of_splice s) few in
    let next : start_after 18446744073709551615 s ≡ s.at + length (inserted_chars s) + 1 = ap (λ n. s.at + length (inserted_chars s) + n) gap in
    subst (AreSpaced MAX_OPS from) (sym is) (cut_spaced first later s from up apart.0 apart.1 (parts_spaced ss later _ more (subst (λ n. AreSpaced 18446744073709551615 n ss) next apart.3)))

parts_change : (ss parts : List Splice) (T : List ℕ) → AreCutUp ss parts → AllInRange (length T) ss → AllChange T ss → AllChange T parts
parts_change [] parts T cut near changes = subst (AllChange T) (sym cut) tt
parts_change (s ∷ ss) parts T (first, later, is, up, few, more) near changes =
    let len = length-splice_at T s.at s.del (inserted_chars s) near.0 in
    subst (AllChange T) (sym is) (cut_change first later s T up near.0 changes.0 (parts_change ss later (done T s) more (subst (λ n. AllInRange n ss) (sym len) near.1) changes.1))

-- the parts lead as the splices did
pub parts_lead : (old new : List ℕ) (ss parts : List Splice) → LeadAcross 18446744073709551615 old new ss → AreCutUp ss parts → LeadAcross MAX_OPS old new parts
parts_lead old new ss parts lead cut = record {
  in_range = parts_in_range ss parts (length old) cut lead.in_range;
  leads = parts_spliced ss parts old cut lead.in_range ∙ lead.leads;
  apart = parts_spaced ss parts 0 cut lead.apart;
  changes = parts_change ss parts old cut lead.in_range lead.changes;
  same = λ same. subst (λ (l : List Splice). AreCutUp l parts) (lead.same same) cut;
}

-- ---- parts that are put one after another

-- one more splice, and its parts
pub AreCutUp-push : (ss parts first : List Splice) (s : Splice) → AreCutUp ss parts → IsCutUp s first → count_of_splice s < 18446744073709551615 → AreCutUp (ss ++ s ∷ []) (parts ++ first)
AreCutUp-push [] parts first s cut up few = (first, [], ap (λ l. l ++ first) cut ∙ sym (append-nil first), up, few, refl)
AreCutUp-push (x ∷ ss) parts first s (x_first, later, is, x_up, x_few, more) up few =
    (x_first, later ++ first, ap (λ l. l ++ first) is ∙ append_assoc x_first later first, x_up, x_few, AreCutUp-push ss later first s more up few)

-- what is put so far, before the parts of the rest, are the parts of the stretch
pub record ArePartsBefore (stretch rest : Splice) (before now : List Splice) : Type 0 where
  pub put : List Splice
  pub are : now ≡ before ++ put
  pub ahead : (ps : List Splice) → IsCutUp rest ps → IsCutUp stretch (put ++ ps)

pub parts_on : (stretch rest part next : Splice) (before now after : List Splice) → ArePartsBefore stretch rest before now → IsCutInto rest part next → after ≡ now ++ part ∷ [] → ArePartsBefore stretch next before after
parts_on stretch rest part next before now after h cut is = record {
  put = h.put ++ part ∷ [];
  are = is ∙ ap (λ l. l ++ part ∷ []) h.are ∙ append_assoc before h.put (part ∷ []);
  ahead = λ ps up. subst (IsCutUp stretch) (sym (append_assoc h.put (part ∷ []) ps)) (h.ahead (part ∷ ps) (inr (next, cut, up)));
}
