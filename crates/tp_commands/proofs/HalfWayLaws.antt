-- Texts that are half-way between two others.
use Rattle.std.proofs.Common.{◌≡◌, ◌∙◌, ap, refl, sym, subst, ℕ, ◌+◌, ◌-◌, ◌<◌, ◌≤◌, List, [], ◌∷◌, ◌++◌, Option, Some, None, length, take, drop, arith, append_assoc, length-append}
use Rattle.std.proofs.lemmas.List.{drop-drop, drop_at, length-take-le, take-append-drop, take-append-le, take-take}
use Rattle.tp_layout.specs.declared.parts.ChangeParts.{ChangeParts}
use Rattle.tp_diff.specs.Differences.{AreSpaced, LeadAcross, start_after}
use Rattle.tp_edit.specs.declared.splice.Splice.{Splice}
use Rattle.tp_edit.specs.Splices.{AllInRange, all_spliced, inserted_chars, splice_at}
use Rattle.tp_edit.proofs.Landed.{length-splice_at}
use Rattle.tp_edit.specs.Text.{IsTextOf}
use Rattle.tp_commands.specs.HalfWay.{DoesFirst, IsHalfWay, IsLeftAt, splices_end, splices_start}

-- what a splice makes of a text
abbrev done : List ℕ → Splice → List ℕ
done T s = splice_at T s.at s.del (inserted_chars s)

before_splice : (T : List ℕ) (n a d : ℕ) (x : List ℕ) → n ≤ a → a ≤ length T → take n (splice_at T a d x) ≡ take n T
before_splice T n a d x le within =
    let long = length-take-le a T within in
    take-append-le n (take a T) (x ++ drop (a + d) T) (omega (arith, long, le)) ∙ take-take n a T le

behind_splice : (T : List ℕ) (a d : ℕ) (x : List ℕ) → a ≤ length T → drop (a + length x) (splice_at T a d x) ≡ drop (a + d) T
behind_splice T a d x within =
    let P : List ℕ = take a T in
    let R : List ℕ = drop (a + d) T in
    let both : length (P ++ x) ≡ a + length x = length-append P x ∙ ap (λ n. n + length x) (length-take-le a T within) in
    ap (drop (a + length x)) (sym (append_assoc P x R)) ∙ drop_at (P ++ x) R (a + length x) both

-- splices leave what is before them
kept_before : (most from : ℕ) (ss : List Splice) (T : List ℕ) → AreSpaced most from ss → AllInRange (length T) ss → take from (all_spliced T ss) ≡ take from T
kept_before most from [] T apart near = refl
kept_before most from (s ∷ ss) T apart near =
    let len = length-splice_at T s.at s.del (inserted_chars s) near.0 in
    let next : ℕ = start_after most s in
    let le : from ≤ next = omega (arith, apart.0) in
    let on = kept_before most next ss (done T s) apart.3 (subst (λ n. AllInRange n ss) (sym len) near.1) in
    sym (take-take from next (all_spliced (done T s) ss) le) ∙ ap (take from) on ∙ take-take from next (done T s) le
    ∙ before_splice T from s.at s.del (inserted_chars s) apart.0 (omega (arith, near.0))

-- where they end there follows what follows a place of the text before
kept_behind : (most from e : ℕ) (ss : List Splice) (T : List ℕ) → e ≤ from → AreSpaced most from ss → AllInRange (length T) ss → (m : ℕ) × (e ≤ m) × (drop (splices_end e ss) (all_spliced T ss) ≡ drop m T)
kept_behind most from e [] T le apart near = (e, omega arith, refl)
kept_behind most from e (s ∷ ss) T le apart near =
    let len = length-splice_at T s.at s.del (inserted_chars s) near.0 in
    let b : ℕ = s.at + length (inserted_chars s) in
    let on = kept_behind most (start_after most s) b ss (done T s) (omega arith) apart.3 (subst (λ n. AllInRange n ss) (sym len) near.1) in
    let whole : b + (on.0 - b) ≡ on.0 = omega (arith, on.1) in
    let behind : drop on.0 (done T s) ≡ drop ((s.at + s.del) + (on.0 - b)) T =
    ap (λ n. drop n (done T s)) (sym whole) ∙ sym (drop-drop (on.0 - b) b (done T s))
    ∙ ap (drop (on.0 - b)) (behind_splice T s.at s.del (inserted_chars s) (omega (arith, near.0))) ∙ drop-drop (on.0 - b) (s.at + s.del) T in
    ((s.at + s.del) + (on.0 - b), omega (arith, le, apart.0), on.2 ∙ behind)

-- the later splices begin after the end of the first
spaced_later : (most from e : ℕ) (first later : List Splice) → e ≤ from → AreSpaced most from (first ++ later) → AreSpaced most (splices_end e first) later
spaced_later most from e [] [] le apart = tt
spaced_later most from e [] (s ∷ later) le apart = (omega (arith, le, apart.0), apart.1, apart.2, apart.3)
spaced_later most from e (x ∷ first) later le apart = spaced_later most (start_after most x) (x.at + length (inserted_chars x)) first later (omega arith) apart.3

spaced_first : (most from : ℕ) (first later : List Splice) → AreSpaced most from (first ++ later) → AreSpaced most from first
spaced_first most from [] later apart = tt
spaced_first most from (x ∷ first) later apart = (apart.0, apart.1, apart.2, spaced_first most (start_after most x) first later apart.3)

in_range_first : (len : ℕ) (first later : List Splice) → AllInRange len (first ++ later) → AllInRange len first
in_range_first len [] later near = tt
in_range_first len (x ∷ first) later near = (near.0, in_range_first (len - x.del + length (inserted_chars x)) first later near.1)

in_range_later : (T : List ℕ) (first later : List Splice) → AllInRange (length T) (first ++ later) → AllInRange (length (all_spliced T first)) later
in_range_later T [] later near = near
in_range_later T (x ∷ first) later near =
    let len = length-splice_at T x.at x.del (inserted_chars x) near.0 in
    in_range_later (done T x) first later (subst (λ n. AllInRange n (first ++ later)) (sym len) near.1)

spliced_later : (T : List ℕ) (first later : List Splice) → all_spliced T (first ++ later) ≡ all_spliced (all_spliced T first) later
spliced_later T [] later = refl
spliced_later T (x ∷ first) later = spliced_later (done T x) first later

-- after the first of the splices the text is new up to where they end, and old after that
pub half_way : (most : ℕ) (old new : List ℕ) (first later : List Splice) → LeadAcross most old new (first ++ later) → IsHalfWay old new (splices_end 0 first) (all_spliced old first)
half_way most old new first later lead =
    let t : List ℕ = all_spliced old first in
    let e : ℕ = splices_end 0 first in
    let apart : AreSpaced most 0 (first ++ later) = lead.apart in
    let near : AllInRange (length old) (first ++ later) = lead.in_range in
    let new_is : all_spliced t later ≡ new = sym (spliced_later old first later) ∙ lead.leads in
    let front : take e t ≡ take e new =
    sym (kept_before most e later t (spaced_later most 0 0 first later (omega arith) apart) (in_range_later old first later near)) ∙ ap (take e) new_is in
    let back = kept_behind most 0 0 first old (omega arith) (spaced_first most 0 first later apart) (in_range_first (length old) first later near) in
    (back.0, sym (take-append-drop e t) ∙ ap (λ l. l ++ drop e t) front ∙ ap (λ l. take e new ++ l) back.2)

-- ---- where the splices that are left begin

start_spaced : (most e : ℕ) (later : List Splice) → AreSpaced most e later → (e ≤ splices_start e later) × AreSpaced most (splices_start e later) later
start_spaced most e [] apart = (omega arith, tt)
start_spaced most e (s ∷ later) apart = (apart.0, (omega arith, apart.1, apart.2, apart.3))

-- it is new up to where the later ones begin too
half_way_on : (most : ℕ) (old new : List ℕ) (first later : List Splice) → LeadAcross most old new (first ++ later)
    → IsHalfWay old new (splices_start (splices_end 0 first) later) (all_spliced old first)
half_way_on most old new first later lead =
    let t : List ℕ = all_spliced old first in
    let e : ℕ = splices_end 0 first in
    let k : ℕ = splices_start e later in
    let apart : AreSpaced most 0 (first ++ later) = lead.apart in
    let near : AllInRange (length old) (first ++ later) = lead.in_range in
    let new_is : all_spliced t later ≡ new = sym (spliced_later old first later) ∙ lead.leads in
    let on = start_spaced most e later (spaced_later most 0 0 first later (omega arith) apart) in
    let front : take k t ≡ take k new = sym (kept_before most k later t on.1 (in_range_later old first later near)) ∙ ap (take k) new_is in
    let back = kept_behind most 0 0 first old (omega arith) (spaced_first most 0 first later apart) (in_range_first (length old) first later near) in
    let whole : e + (k - e) ≡ k = omega (arith, on.0) in
    let rest : drop k t ≡ drop (back.0 + (k - e)) old =
    ap (λ n. drop n t) (sym whole) ∙ sym (drop-drop (k - e) e t) ∙ ap (drop (k - e)) back.2 ∙ drop-drop (k - e) back.0 old in
    (back.0 + (k - e), sym (take-append-drop k t) ∙ ap (λ l. l ++ drop k t) front ∙ ap (λ l. take k new ++ l) rest)

ends_rise : (most from e : ℕ) (more rest : List Splice) → e ≤ from → AreSpaced most from (more ++ rest) → e ≤ splices_start (splices_end e more) rest
ends_rise most from e [] [] le apart = omega arith
ends_rise most from e [] (s ∷ rest) le apart = omega (arith, le, apart.0)
ends_rise most from e (x ∷ more) rest le apart =
    let on = ends_rise most (start_after most x) (x.at + length (inserted_chars x)) more rest (omega arith) apart.3 in
    omega (arith, le, apart.0, on)

-- more of the splices reach further
place_reached : (most from e : ℕ) (first more rest : List Splice) → e ≤ from → AreSpaced most from (first ++ (more ++ rest)) → 0 < length (more ++ rest)
    → splices_start 0 (more ++ rest) ≤ splices_start (splices_end e (first ++ more)) rest
place_reached most from e [] [] [] le apart some = absurd (omega (arith, some))
place_reached most from e [] [] (s ∷ rest) le apart some = omega arith
place_reached most from e [] (x ∷ more) rest le apart some =
    let on = ends_rise most (start_after most x) (x.at + length (inserted_chars x)) more rest (omega arith) apart.3 in
    omega (arith, on)
place_reached most from e (x ∷ first) more rest le apart some =
    place_reached most (start_after most x) (x.at + length (inserted_chars x)) first more rest (omega arith) apart.3 some

-- after the first of the differences the text is new up to the place
pub left_at : (most : ℕ) (C D : List ChangeParts) (old new : List ℕ) (ss : List Splice) (place : Option ℕ) → LeadAcross most old new ss → IsTextOf C old → DoesFirst C D ss place → IsLeftAt old new D place
left_at most C D old new ss None lead was done = tt
left_at most C D old new ss (Some at) lead was done =
    let first = done.0 in
    let more = done.1 in
    let rest = done.2 in
    let parts : ss ≡ first ++ (more ++ rest) = done.3 in
    let apart : AreSpaced most 0 (first ++ (more ++ rest)) = subst (AreSpaced most 0) parts lead.apart in
    let by : LeadAcross most old new ((first ++ more) ++ rest) = subst (LeadAcross most old new) (parts ∙ sym (append_assoc first more rest)) lead in
    let reached = place_reached most 0 0 first more rest (omega arith) apart done.5 in
    (all_spliced old (first ++ more), splices_start (splices_end 0 (first ++ more)) rest, done.4 old was, omega (arith, done.6, reached), half_way_on most old new (first ++ more) rest by)
