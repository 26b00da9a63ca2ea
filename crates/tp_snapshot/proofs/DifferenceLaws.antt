-- What differences keep, and where they lead.
use Rattle.std.proofs.Common.{filter}
use Rattle.std.proofs.Math.Seq.{take-append_seam, drop-append_seam, drop-append-add}
use Rattle.tp_snapshot.proofs.Common.{◌≡◌, ℕ, suc, zero, ◌+◌, ◌-◌, ◌<◌, ◌≤◌, ◌==◌, ◌⊎◌, inl, inr, List, [], ◌∷◌, ◌++◌, length, take, drop, Bool, true, false, ◌&&◌, cond, refl, sym, ap, ◌∙◌, subst, arith, nat_tests, append_assoc, length-append, map-append, length-map, In, Insert, ChangeParts, chars_of, IsTextOf}
use Rattle.tp_list.proofs.Members.{In-push}
use Rattle.tp_edit.specs.Splices.{splice_at}
use Rattle.tp_snapshot.specs.Differences.{difference_if_any, differences_from, after_differences, AllInText, AllSeparate, NonePasses, KeepsShared, LeadsTo, is_visible}
use Rattle.tp_snapshot.specs.declared.differences.Difference.{Difference}

-- a difference of its parts
abbrev pub difference : ℕ → ℕ → List ℕ → Difference
difference at del text = record { at = at; del = del; text = text }

not_zero : (n : ℕ) → (suc n == 0) ≡ false
not_zero n = grind (arith, nat_tests)

-- what grows becomes nothing, or one difference that changes something
pub record Empty (at del : ℕ) (text : List ℕ) : Type 0 where
  pub none : del ≡ 0
  pub blank : text ≡ []
  pub is : difference_if_any at del text ≡ []

pub record Full (at del : ℕ) (text : List ℕ) : Type 0 where
  pub some : 0 < del + length text
  pub is : difference_if_any at del text ≡ difference at del text ∷ []

pub ends_as : (at del : ℕ) (text : List ℕ) → Empty at del text ⊎ Full at del text
ends_as at zero [] = inl (record { none = refl; blank = refl; is = refl })
ends_as at zero (c ∷ text) = inr (record {
  some = omega arith;
  is = ap (λ b. cond b [] (difference at zero (c ∷ text) ∷ [])) (not_zero (length text));
})
ends_as at (suc del) text = inr (record {
  some = omega arith;
  is = ap (λ b. cond (b && (length text == 0)) [] (difference at (suc del) text ∷ [])) (not_zero del);
})

none_of : (L : List Insert) → 0 ≡ length L → L ≡ []
none_of [] e = refl
none_of (x ∷ L) e = absurd (omega arith)

blank_of : (L : List Insert) → [] ≡ chars_of L → L ≡ []
blank_of [] e = refl
blank_of (x ∷ L) e = cc

passes_none : (p : Insert → Bool) → NonePasses p []
passes_none p e i = absurd i

passes_more : (p : Insert → Bool) (L : List Insert) (e : Insert) → NonePasses p L → p e ≡ false → NonePasses p (L ++ e ∷ [])
passes_more p L e none at x i = elim (In-push x L e i) as (λ _. p x ≡ false) [ inl j ↦ none x j | inr same ↦ ap p same ∙ at ]

-- ---- no element that both texts show is touched

-- Whatever grows before the elements L, the differences keep what both texts show of these.
abbrev KeepsFrom : (Insert → Bool) → (Insert → Bool) → List Insert → Type 0
KeepsFrom was is L =
    (n at del : ℕ) (text : List ℕ) (stay gone come : List Insert) → NonePasses is gone → NonePasses was come
    → at ≡ n + length stay → del ≡ length gone → text ≡ chars_of come
    → KeepsShared was is (stay ++ (gone ++ filter was L)) (stay ++ (come ++ filter is L)) n (differences_from was is at del text L)

keeps_end : (was is : Insert → Bool) → KeepsFrom was is []
keeps_end was is n at del text stay gone come ng nc ea ed et = elim (ends_as at del text) [
  | inl w ↦
      let g : gone ≡ [] = none_of gone (sym w.none ∙ ed) in
      let c : come ≡ [] = blank_of come (sym w.blank ∙ et) in
      subst (KeepsShared was is (stay ++ (gone ++ [])) (stay ++ (come ++ [])) n) (sym w.is) (ap (λ l. stay ++ (l ++ [])) (g ∙ sym c))
  | inr w ↦
      subst (KeepsShared was is (stay ++ (gone ++ [])) (stay ++ (come ++ [])) n) (sym w.is)
      (stay, gone, come, [], [], refl, refl, ng, nc, ea, ed, et, refl)
]

-- an element that both show ends what grows
keeps_both : (was is : Insert → Bool) (e : Insert) (L : List Insert) → KeepsFrom was is L
    → (n at del : ℕ) (text : List ℕ) (stay gone come : List Insert) → NonePasses is gone → NonePasses was come
    → at ≡ n + length stay → del ≡ length gone → text ≡ chars_of come
    → KeepsShared was is (stay ++ (gone ++ e ∷ filter was L)) (stay ++ (come ++ e ∷ filter is L)) n (difference_if_any at del text ++ differences_from was is (at + length text + 1) 0 [] L)
keeps_both was is e L ih n at del text stay gone come ng nc ea ed et =
    let F = filter was L in
    let G = filter is L in
    let rest = differences_from was is (at + length text + 1) 0 [] L in
    let A = stay ++ (gone ++ e ∷ F) in
    let B = stay ++ (come ++ e ∷ G) in
    elim (ends_as at del text) [
      | inl w ↦
          let g : gone ≡ [] = none_of gone (sym w.none ∙ ed) in
          let c : come ≡ [] = blank_of come (sym w.blank ∙ et) in
          let left : (stay ++ e ∷ []) ++ F ≡ A = append_assoc stay (e ∷ []) F ∙ ap (λ l. stay ++ (l ++ e ∷ F)) (sym g) in
          let right : (stay ++ e ∷ []) ++ G ≡ B = append_assoc stay (e ∷ []) G ∙ ap (λ l. stay ++ (l ++ e ∷ G)) (sym c) in
          let size : length text ≡ 0 = ap length w.blank in
          let more : length (stay ++ e ∷ []) ≡ length stay + 1 = length-append stay (e ∷ []) in
          let next : at + length text + 1 ≡ n + length (stay ++ e ∷ []) = omega (arith, ea, size, more) in
          let kept : KeepsShared was is ((stay ++ e ∷ []) ++ F) ((stay ++ e ∷ []) ++ G) n rest =
          ih n (at + length text + 1) 0 [] (stay ++ e ∷ []) [] [] (passes_none is) (passes_none was) next refl refl in
          subst (λ ds. KeepsShared was is A B n (ds ++ rest)) (sym w.is) (subst (λ l. KeepsShared was is l B n rest) left (subst (λ l. KeepsShared was is ((stay ++ e ∷ []) ++ F) l n rest) right kept))
      | inr w ↦
          subst (λ ds. KeepsShared was is A B n (ds ++ rest)) (sym w.is) (
            stay,
            gone,
            come,
            e ∷ F,
            e ∷ G,
            refl,
            refl,
            ng,
            nc,
            ea,
            ed,
            et,
            ih (at + length text) (at + length text + 1) 0 [] (e ∷ []) [] [] (passes_none is) (passes_none was) refl refl refl,
          )
    ]

keeps_tests : (was is : Insert → Bool) (e : Insert) (L : List Insert) → KeepsFrom was is L → (p q : Bool) → was e ≡ p → is e ≡ q
    → (n at del : ℕ) (text : List ℕ) (stay gone come : List Insert) → NonePasses is gone → NonePasses was come
    → at ≡ n + length stay → del ≡ length gone → text ≡ chars_of come
    → KeepsShared was is (stay ++ (gone ++ cond p (e ∷ filter was L) (filter was L))) (stay ++ (come ++ cond q (e ∷ filter is L) (filter is L))) n
    (cond p (cond q (difference_if_any at del text ++ differences_from was is (at + length text + 1) 0 [] L) (differences_from was is at (del + 1) text L))
    (cond q (differences_from was is at del (text ++ e.ch ∷ []) L) (differences_from was is at del text L)))
keeps_tests was is e L ih true true ep eq n at del text stay gone come ng nc ea ed et = keeps_both was is e L ih n at del text stay gone come ng nc ea ed et
keeps_tests was is e L ih true false ep eq n at del text stay gone come ng nc ea ed et =
    let size : del + 1 ≡ length (gone ++ e ∷ []) = ap (λ k. k + 1) ed ∙ sym (length-append gone (e ∷ [])) in
    subst (λ l. KeepsShared was is (stay ++ l) (stay ++ (come ++ filter is L)) n (differences_from was is at (del + 1) text L)) (append_assoc gone (e ∷ []) (filter was L))
    (ih n at (del + 1) text stay (gone ++ e ∷ []) come (passes_more is gone e ng eq) nc ea size et)
keeps_tests was is e L ih false true ep eq n at del text stay gone come ng nc ea ed et =
    let spelt : text ++ e.ch ∷ [] ≡ chars_of (come ++ e ∷ []) = ap (λ l. l ++ e.ch ∷ []) et ∙ sym (map-append (λ (x : Insert). x.ch) come (e ∷ [])) in
    subst (λ l. KeepsShared was is (stay ++ (gone ++ filter was L)) (stay ++ l) n (differences_from was is at del (text ++ e.ch ∷ []) L)) (append_assoc come (e ∷ []) (filter is L))
    (ih n at del (text ++ e.ch ∷ []) stay gone (come ++ e ∷ []) ng (passes_more was come e nc ep) ea ed spelt)
keeps_tests was is e L ih false false ep eq n at del text stay gone come ng nc ea ed et = ih n at del text stay gone come ng nc ea ed et

keeps_from : (was is : Insert → Bool) (L : List Insert) → KeepsFrom was is L
keeps_from was is [] = keeps_end was is
keeps_from was is (e ∷ L) = keeps_tests was is e L (keeps_from was is L) (was e) (is e) refl refl

pub differences_keep : (was is : Insert → Bool) (L : List Insert) → KeepsShared was is (filter was L) (filter is L) 0 (differences_from was is 0 0 [] L)
differences_keep was is L = keeps_from was is L 0 0 0 [] [] [] [] (passes_none is) (passes_none was) refl refl refl

-- ---- where they lead

spliced_at : (P G X T : List ℕ) (at del : ℕ) → at ≡ length P → del ≡ length G → splice_at (P ++ (G ++ X)) at del T ≡ P ++ (T ++ X)
spliced_at P G X T at del ea ed =
    let head : take at (P ++ (G ++ X)) ≡ P = ap (λ n. take n (P ++ (G ++ X))) ea ∙ take-append_seam P (G ++ X) in
    let tail : drop (at + del) (P ++ (G ++ X)) ≡ X =
    ap (λ n. drop (n + del) (P ++ (G ++ X))) ea ∙ drop-append-add P (G ++ X) del ∙ ap (λ n. drop n (G ++ X)) ed ∙ drop-append_seam G X in
    ap (λ l. l ++ (T ++ drop (at + del) (P ++ (G ++ X)))) head ∙ ap (λ l. P ++ (T ++ l)) tail

chars_parts : (W : List ℕ) (A B C : List Insert) → W ++ chars_of (A ++ (B ++ C)) ≡ (W ++ chars_of A) ++ (chars_of B ++ chars_of C)
chars_parts W A B C =
    ap (λ l. W ++ l) (map-append (λ (x : Insert). x.ch) A (B ++ C) ∙ ap (λ l. chars_of A ++ l) (map-append (λ (x : Insert). x.ch) B C))
    ∙ sym (append_assoc W (chars_of A) (chars_of B ++ chars_of C))

leads_from : (was is : Insert → Bool) (ds : List Difference) (A B : List Insert) (n : ℕ) (W : List ℕ) → length W ≡ n → KeepsShared was is A B n ds
    → after_differences (W ++ chars_of A) ds ≡ W ++ chars_of B
leads_from was is [] A B n W len k = ap (λ l. W ++ chars_of l) k
leads_from was is (d ∷ ds) A B n W len k =
    let stay = k.0 in
    let gone = k.1 in
    let come = k.2 in
    let X = k.3 in
    let Y = k.4 in
    let P = W ++ chars_of stay in
    let V = P ++ d.text in
    let wide : length P ≡ n + length stay = length-append W (chars_of stay) ∙ ap (λ m. m + length (chars_of stay)) len ∙ ap (λ m. n + m) (length-map stay (λ (x : Insert). x.ch)) in
    let at : d.at ≡ length P = k.9 ∙ sym wide in
    let del : d.del ≡ length (chars_of gone) = k.10 ∙ sym (length-map gone (λ (x : Insert). x.ch)) in
    let before : W ++ chars_of A ≡ P ++ (chars_of gone ++ chars_of X) = ap (λ l. W ++ chars_of l) k.5 ∙ chars_parts W stay gone X in
    let put : splice_at (W ++ chars_of A) d.at d.del d.text ≡ V ++ chars_of X =
    ap (λ l. splice_at l d.at d.del d.text) before ∙ spliced_at P (chars_of gone) (chars_of X) d.text d.at d.del at del ∙ sym (append_assoc P d.text (chars_of X)) in
    let long : length V ≡ d.at + length d.text = length-append P d.text ∙ ap (λ m. m + length d.text) (sym at) in
    let rest = leads_from was is ds X Y (d.at + length d.text) V long k.12 in
    let beyond : V ++ chars_of Y ≡ W ++ chars_of B =
    append_assoc P d.text (chars_of Y) ∙ ap (λ l. P ++ (l ++ chars_of Y)) k.11 ∙ sym (ap (λ l. W ++ chars_of l) k.6 ∙ chars_parts W stay come Y) in
    ap (λ l. after_differences l ds) put ∙ rest ∙ beyond

-- each is within the text that it meets
range_from : (was is : Insert → Bool) (ds : List Difference) (A B : List Insert) (n len : ℕ) → len ≡ n + length A → KeepsShared was is A B n ds → AllInText len ds
range_from was is [] A B n len e k = tt
range_from was is (d ∷ ds) A B n len e k =
    let stay = k.0 in
    let gone = k.1 in
    let X = k.3 in
    let size : length A ≡ length stay + (length gone + length X) = ap length k.5 ∙ length-append stay (gone ++ X) ∙ ap (λ m. length stay + m) (length-append gone X) in
    let at : d.at ≡ n + length stay = k.9 in
    let del : d.del ≡ length gone = k.10 in
    let fits : d.at + d.del ≤ len = omega arith in
    let next : len - d.del + length d.text ≡ d.at + length d.text + length X = omega arith in
    (fits, range_from was is ds X k.4 (d.at + length d.text) (len - d.del + length d.text) next k.12)

-- ---- no two could be one

separate_end : (m at del : ℕ) (text : List ℕ) → m ≤ at → AllSeparate m (difference_if_any at del text)
separate_end m at del text le = elim (ends_as at del text) [
  | inl w ↦ subst (AllSeparate m) (sym w.is) tt
  | inr w ↦ subst (AllSeparate m) (sym w.is) (le, w.some, tt)
]

abbrev SeparateFrom : (Insert → Bool) → (Insert → Bool) → List Insert → Type 0
SeparateFrom was is L = (m at del : ℕ) (text : List ℕ) → m ≤ at → AllSeparate m (differences_from was is at del text L)

separate_both : (was is : Insert → Bool) (L : List Insert) → SeparateFrom was is L → (m at del : ℕ) (text : List ℕ) → m ≤ at
    → AllSeparate m (difference_if_any at del text ++ differences_from was is (at + length text + 1) 0 [] L)
separate_both was is L ih m at del text le =
    let rest = differences_from was is (at + length text + 1) 0 [] L in
    elim (ends_as at del text) [
      | inl w ↦
          let far : m ≤ at + length text + 1 = omega (arith, le) in
          subst (λ ds. AllSeparate m (ds ++ rest)) (sym w.is) (ih m (at + length text + 1) 0 [] far)
      | inr w ↦
          let here : at + length text + 1 ≤ at + length text + 1 = omega arith in
          subst (λ ds. AllSeparate m (ds ++ rest)) (sym w.is) (le, w.some, ih (at + length text + 1) (at + length text + 1) 0 [] here)
    ]

separate_tests : (was is : Insert → Bool) (e : Insert) (L : List Insert) → SeparateFrom was is L → (p q : Bool) (m at del : ℕ) (text : List ℕ) → m ≤ at
    → AllSeparate m
    (cond p (cond q (difference_if_any at del text ++ differences_from was is (at + length text + 1) 0 [] L) (differences_from was is at (del + 1) text L))
    (cond q (differences_from was is at del (text ++ e.ch ∷ []) L) (differences_from was is at del text L)))
separate_tests was is e L ih true true m at del text le = separate_both was is L ih m at del text le
separate_tests was is e L ih true false m at del text le = ih m at (del + 1) text le
separate_tests was is e L ih false true m at del text le = ih m at del (text ++ e.ch ∷ []) le
separate_tests was is e L ih false false m at del text le = ih m at del text le

separate_from : (was is : Insert → Bool) (L : List Insert) → SeparateFrom was is L
separate_from was is [] m at del text le = separate_end m at del text le
separate_from was is (e ∷ L) m at del text le = separate_tests was is e L (separate_from was is L) (was e) (is e) m at del text le

-- ---- tests that agree on the elements make the same differences

pub differences_same : (was is was' is' : Insert → Bool) (L : List Insert) → ((e : Insert) → In e L → was e ≡ was' e) → ((e : Insert) → In e L → is e ≡ is' e)
    → (at del : ℕ) (text : List ℕ) → differences_from was is at del text L ≡ differences_from was' is' at del text L
differences_same was is was' is' [] f g at del text = refl
differences_same was is was' is' (e ∷ L) f g at del text =
    let ih = differences_same was is was' is' L (λ x i. f x (inr i)) (λ x i. g x (inr i)) in
    by_tests (was e) (was' e) (is e) (is' e) (f e (inl refl)) (g e (inl refl)) (difference_if_any at del text)
    _ _ _ _ _ _ _ _ (ih (at + length text + 1) 0 []) (ih at (del + 1) text) (ih at del (text ++ e.ch ∷ [])) (ih at del text) where
      by_tests : (p p' q q' : Bool) → p ≡ p' → q ≡ q' → (D a b c d a' b' c' d' : List Difference) → a ≡ a' → b ≡ b' → c ≡ c' → d ≡ d'
          → cond p (cond q (D ++ a) b) (cond q c d) ≡ cond p' (cond q' (D ++ a') b') (cond q' c' d')
      by_tests p p' q q' e f D a b c d a' b' c' d' h i j k = cc

-- ---- from one text to another

-- the changes show these elements and no others: their one text is spelled by them
pub record IsShownBy (P : List ChangeParts) (A : List Insert) : Type 0 where
  pub text : IsTextOf P (chars_of A)
  pub one : (t : List ℕ) → IsTextOf P t → t ≡ chars_of A

pub differences_lead : (P Q : List ChangeParts) (L : List Insert) (ds : List Difference) → IsShownBy P (filter (is_visible P) L) → IsShownBy Q (filter (is_visible Q) L)
    → ds ≡ differences_from (is_visible P) (is_visible Q) 0 0 [] L → LeadsTo P Q ds
differences_lead P Q L ds p q e =
    let A = filter (is_visible P) L in
    let B = filter (is_visible Q) L in
    let k : KeepsShared (is_visible P) (is_visible Q) A B 0 ds = subst (KeepsShared (is_visible P) (is_visible Q) A B 0) (sym e) (differences_keep (is_visible P) (is_visible Q) L) in
    record {
      text = λ t is.
          let end : after_differences t ds ≡ chars_of B = ap (λ l. after_differences l ds) (p.one t is) ∙ leads_from (is_visible P) (is_visible Q) ds A B 0 [] refl k in
          subst (IsTextOf Q) (sym end) q.text;
      range = λ t is.
          let size : length t ≡ 0 + length A = ap length (p.one t is) ∙ length-map A (λ (x : Insert). x.ch) ∙ zero_more (length A) in
          range_from (is_visible P) (is_visible Q) ds A B 0 (length t) size k;
      separate = subst (AllSeparate 0) (sym e) (separate_from (is_visible P) (is_visible Q) L 0 0 0 [] (omega arith));
    } where
      zero_more : (n : ℕ) → n ≡ 0 + n
      zero_more n = omega arith
