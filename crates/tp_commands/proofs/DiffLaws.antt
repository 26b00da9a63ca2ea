-- Differences between texts, as replacements in them.
use Rattle.std.proofs.Common.{◌≡◌, ◌∙◌, ◌<◌, ◌≤◌, ◌+◌, ◌-◌, ℕ, List, [], ◌∷◌, ◌++◌, length, get_or, take, drop, refl, ap, subst, sym, append_assoc, length-append, arith}
use Rattle.std.proofs.lemmas.List.{drop-drop, length-drop, length-take-le, take-append-drop, take_more}
use Rattle.std.proofs.Math.Seq.{drop-append-add, drop-append_seam, take-append-add, take-append_seam}
use Rattle.tp_opid.specs.declared.hash.Hash.{Hash}
use Rattle.tp_layout.specs.declared.parts.ChangeParts.{ChangeParts}
use Rattle.tp_edit.specs.Splices.{splice_at}
use Rattle.tp_snapshot.proofs.ShowingLaws.{one_text}
use Rattle.tp_snapshot.specs.Differences.{AllInText, AllSeparate, AreDifferences, LeadsTo, after_differences}
use Rattle.tp_snapshot.specs.declared.differences.Difference.{Difference}
use Rattle.tp_history.specs.Past.{past}
use Rattle.tp_history.specs.Sound.{Sound}
use Rattle.tp_history.proofs.SoundLaws.{sound_pasts}
use Rattle.tp_hunks.specs.Lines.{LeadsText}
use Rattle.tp_hunks.specs.declared.replacing.Replacement.{Replacement}
use Rattle.tp_edit.specs.Text.{IsTextOf}
use Rattle.tp_commands.specs.declared.diff.DiffForm.{DiffForm}
use Rattle.tp_commands.specs.Diff.{AreReplacementsOf, IsDiffBetween, IsPrintedAs, IsReplacementOf, LeadsFrom, with_names}
use Rattle.tp_commands.specs.Reading.{changes_at_heads}

-- one more difference, and its replacement
pub replacements-push : (new : List ℕ) (ds : List Difference) (rs : List Replacement) (d : Difference) (r : Replacement) → AreReplacementsOf new ds rs → IsReplacementOf new d r
    → AreReplacementsOf new (ds ++ d ∷ []) (rs ++ r ∷ [])
replacements-push new [] [] d r are is = (is, tt)
replacements-push new [] (x ∷ rs) d r are is = absurd are
replacements-push new (x ∷ ds) [] d r are is = absurd are
replacements-push new (x ∷ ds) (y ∷ rs) d r are is = (are.0, replacements-push new ds rs d r are.1 is)

sound_at : (C : List ChangeParts) (hs : List Hash) → Sound C → Sound (changes_at_heads C hs)
sound_at C [] sound = sound
sound_at C (h ∷ hs) sound = sound_pasts C sound (h ∷ hs)

-- the texts at some heads and at others, to which the differences lead
pub leads_from : (C : List ChangeParts) (from to : List Hash) (old new : List ℕ) (ds : List Difference) → Sound C
    → LeadsTo (past C from) (changes_at_heads C to) ds → IsTextOf (past C from) old → IsTextOf (changes_at_heads C to) new → LeadsFrom old new ds
leads_from C from to old new ds sound leads is was = record {
  text = one_text (changes_at_heads C to) (after_differences old ds) new (sound_at C to sound) (leads.text old is) was;
  range = leads.range old is;
  separate = leads.separate;
}

-- the differences lead from the one text to the other, where equal ones are lent
pub leads_at : (C : List ChangeParts) (from to : List Hash) (old new old' new' : List ℕ) (ds ds' : List Difference) → Sound C
    → LeadsTo (past C from) (changes_at_heads C to) ds → IsTextOf (past C from) old → IsTextOf (changes_at_heads C to) new → old' ≡ old → new' ≡ new → ds' ≡ ds
    → LeadsFrom old' new' ds'
leads_at C from to old new old' new' ds ds' sound leads is was o n d = rw (o, n, d) (leads_from C from to old new ds sound leads is was)

-- what is printed is between the texts at the heads
pub diff_between : (form : DiffForm) (C : List ChangeParts) (from to : List Hash) (old new old' new' body printed : List ℕ) (ds ds' : List Difference)
    → AreDifferences C (past C from) (changes_at_heads C to) ds → IsTextOf (past C from) old → IsTextOf (changes_at_heads C to) new → old' ≡ old → new' ≡ new → ds' ≡ ds
    → IsPrintedAs form old' new' ds' body → printed ≡ with_names form from to body → IsDiffBetween form C from to printed
diff_between form C from to old new old' new' body printed ds ds' are is was o n d made spelled = record {
  old = old';
  new = new';
  old_text = subst (IsTextOf (past C from)) (sym o) is;
  new_text = subst (IsTextOf (changes_at_heads C to)) (sym n) was;
  differences = ds';
  are = subst (AreDifferences C (past C from) (changes_at_heads C to)) (sym d) are;
  body = body;
  is_diff = made;
  spelled = spelled;
}

-- a splice after some characters of the text
splice_after : (done A text : List ℕ) (at del k : ℕ) → at ≡ length done + k → k + del ≤ length A
    → splice_at (done ++ A) at del text ≡ (done ++ (take k A ++ text)) ++ drop del (drop k A)
splice_after done A text at del k is within =
    let first : take at (done ++ A) ≡ done ++ take k A = ap (λ n. take n (done ++ A)) is ∙ take-append-add done A k in
    let there : at + del ≡ length done + (k + del) = omega arith in
    let rest : drop (at + del) (done ++ A) ≡ drop del (drop k A) = ap (λ n. drop n (done ++ A)) there ∙ (drop-append-add done A (k + del) ∙ sym (drop-drop del k A)) in
    ap (λ l. l ++ (text ++ drop (at + del) (done ++ A))) first
    ∙ (ap (λ l. (done ++ take k A) ++ (text ++ l)) rest
    ∙ (append_assoc done (take k A) (text ++ drop del (drop k A))
    ∙ (ap (λ l. done ++ l) (sym (append_assoc (take k A) text (drop del (drop k A)))) ∙ sym (append_assoc done (take k A ++ text) (drop del (drop k A))))))

-- the replacements lead from what is left of the old text to what is left of the new one
pub leads_text : (ds : List Difference) (rs : List Replacement) (new done A : List ℕ) (n m : ℕ) → n ≡ length done → n ≤ m
    → after_differences (done ++ A) ds ≡ new → AllInText (length (done ++ A)) ds → AllSeparate m ds → AreReplacementsOf new ds rs
    → (B : List ℕ) × (new ≡ done ++ B) × LeadsText A B n rs
leads_text [] [] new done A n m at le is range apart are = (A, sym is, refl)
leads_text [] (r ∷ rs) new done A n m at le is range apart are = absurd are
leads_text (d ∷ ds) [] new done A n m at le is range apart are = absurd are
leads_text (d ∷ ds) (r ∷ rs) new done A n m at le is range apart are =
    let k = d.at - n in
    let size = length-append done A in
    let within : k + d.del ≤ length A = omega (arith, range.0, apart.0) in
    let stay = take k A in
    let gone = take d.del (drop k A) in
    let X = drop d.del (drop k A) in
    let stay_len : length stay ≡ k = length-take-le k A (omega arith) in
    let rest_len = length-drop k A in
    let gone_len : length gone ≡ d.del = length-take-le d.del (drop k A) (omega arith) in
    let left_len = length-drop d.del (drop k A) in
    let next : splice_at (done ++ A) d.at d.del d.text ≡ (done ++ (stay ++ d.text)) ++ X = splice_after done A d.text d.at d.del k (omega (arith, apart.0)) within in
    let done_len : length (done ++ (stay ++ d.text)) ≡ length done + (k + length d.text) =
    length-append done (stay ++ d.text) ∙ ap (λ j. length done + j) (length-append stay d.text ∙ ap (λ j. j + length d.text) stay_len) in
    let all_len = length-append (done ++ (stay ++ d.text)) X in
    let len : length (done ++ A) - d.del + length d.text ≡ length ((done ++ (stay ++ d.text)) ++ X) = omega (arith, apart.0) in
    let w = leads_text ds rs new (done ++ (stay ++ d.text)) X (d.at + length d.text) (d.at + length d.text + 1) (omega (arith, apart.0)) (omega arith)
    (ap (λ t. after_differences t ds) (sym next) ∙ is) (subst (λ (j : ℕ). AllInText j ds) len range.1) apart.2 are.1 in
    let spelled : new ≡ (done ++ stay) ++ (d.text ++ w.0) =
    w.1 ∙ (ap (λ l. l ++ w.0) (sym (append_assoc done stay d.text)) ∙ append_assoc (done ++ stay) d.text w.0) in
    let before : length (done ++ stay) ≡ d.at = let l = length-append done stay in omega (arith, apart.0) in
    let put : r.text.now ≡ d.text =
    are.0.text ∙ (ap (λ l. take (length d.text) (drop d.at l)) spelled
    ∙ (ap (λ j. take (length d.text) (drop j ((done ++ stay) ++ (d.text ++ w.0)))) (sym before)
    ∙ (ap (take (length d.text)) (drop-append_seam (done ++ stay) (d.text ++ w.0)) ∙ take-append_seam d.text w.0))) in
    let place : d.at + length d.text ≡ r.at + length r.text.now = let t = ap length put in omega (arith, are.0.at) in (
      stay ++ (d.text ++ w.0),
      spelled ∙ append_assoc done stay (d.text ++ w.0),
      (
        stay,
        gone,
        X,
        w.0,
        sym (take-append-drop k A) ∙ ap (λ l. stay ++ l) (sym (take-append-drop d.del (drop k A))),
        ap (λ l. stay ++ (l ++ w.0)) (sym put),
        (let a = are.0.at in omega (arith, apart.0)),
        (are.0.del ∙ sym gone_len),
        subst (λ (j : ℕ). LeadsText X w.0 j rs) place w.2,
      ),
    )

-- the replacements lead from the old text to the new one
pub replacements_lead : (old new : List ℕ) (ds : List Difference) (rs : List Replacement) → LeadsFrom old new ds → AreReplacementsOf new ds rs → LeadsText old new 0 rs
replacements_lead old new ds rs leads are =
    let w = leads_text ds rs new [] old 0 0 refl (omega arith) leads.text leads.range leads.separate are in
    subst (λ (l : List ℕ). LeadsText old l 0 rs) (sym w.1) w.2

-- one more replacement, of one more of the first differences of a list
pub replacements_more : (new : List ℕ) (ds : List Difference) (i : ℕ) (d : Difference) (rs all : List Replacement) (r : Replacement) → i < length ds → d ≡ get_or ds i d
    → AreReplacementsOf new (take i ds) rs → IsReplacementOf new d r → all ≡ rs ++ r ∷ [] → AreReplacementsOf new (take (i + 1) ds) all
replacements_more new ds i d rs all r lt at are is grown =
    subst (λ (l : List Replacement). AreReplacementsOf new (take (i + 1) ds) l) (sym grown)
    (subst (λ (l : List Difference). AreReplacementsOf new l (rs ++ r ∷ []))
    (ap (λ (x : Difference). take i ds ++ x ∷ []) at ∙ sym (take_more ds i d lt)) (replacements-push new (take i ds) rs d r are is))
