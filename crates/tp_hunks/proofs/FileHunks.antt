-- The hunks of lines as files have them lead from those of the old text to those of the new one.
use Rattle.std.proofs.Common.{◌≡◌, ◌∙◌, ◌⊎◌, inl, inr, ℕ, ◌+◌, ◌-◌, ◌≤◌, List, [], ◌∷◌, ◌++◌, length, map, take, drop, Bool, true, false, refl, ap, sym, subst, append-nil, length-append, arith}
use Rattle.std.proofs.lemmas.List.{drop-drop, length-map, take_all}
use Rattle.std.proofs.Math.Seq.{drop-append_seam, take-append_seam}
use Rattle.std.specs.Prelude.{nat_le, if◌then◌else◌}
use Rattle.tp_hunks.specs.declared.replacing.Replacement.{Replacement}
use Rattle.tp_hunks.specs.declared.replacing.Step.{Step}
use Rattle.tp_hunks.specs.declared.touching.Touched.{Touched}
use Rattle.tp_hunks.specs.declared.trimming.Hunk.{Hunk}
use Rattle.tp_hunks.specs.Hunks.{AreFileHunks, LeadsLines, hunk_if_any, hunk_of, hunks_of_groups, lines_up_to}
use Rattle.tp_hunks.specs.Lines.{LeadsText, file_lines, lines_of_text, steps_of}
use Rattle.tp_hunks.specs.Touching.{lines_at_start, joined_with, touched_after, touched_from, touched_lines}
use Rattle.tp_hunks.proofs.FileLines.{ended, lines_ended}
use Rattle.tp_hunks.proofs.Leading.{LeadsTouched, touched_lead}
use Rattle.tp_hunks.proofs.TrimLaws.{group_at, parts_of}

-- ---- lines with their newlines

abbrev with_newline : List ℕ → List ℕ
with_newline l = l ++ 10 ∷ []

abbrev all_ended : List (List ℕ) → List (List ℕ)
all_ended L = map with_newline L

-- lines before others all have a newline
ended-append : (L M : List (List ℕ)) → 1 ≤ length M → ended (L ++ M) ≡ all_ended L ++ ended M
ended-append [] M some = refl
ended-append (l ∷ []) [] some = absurd (omega arith)
ended-append (l ∷ []) (m ∷ M) some = refl
ended-append (l ∷ k ∷ L) M some = ap (λ r. with_newline l ∷ r) (ended-append (k ∷ L) M some)

-- at most the last one is left out
length-ended : (L : List (List ℕ)) → length (ended L) ≤ length L
length-ended [] = omega arith
length-ended ([] ∷ []) = omega arith
length-ended ((ch ∷ l) ∷ []) = omega arith
length-ended (l ∷ m ∷ ls) = let rest = length-ended (m ∷ ls) in omega arith

-- ---- groups

-- each group has a line in both texts
abbrev AllRise : List Touched → Type 0
AllRise [] = Unit {0}
AllRise (g ∷ gs) = (g.old_first ≤ g.old_last) × (g.new_first ≤ g.new_last) × AllRise gs

rise_from : (ss : List Step) (g : Touched) → g.old_first ≤ g.old_last → g.new_first ≤ g.new_last → AllRise (touched_from g ss)
rise_from [] g old new = (old, new, tt)
rise_from (s ∷ ss) g old new = go (nat_le s.stay 1)
    (rise_from ss (joined_with g (touched_after g s)) (omega (arith, old)) (omega (arith, new)))
    (rise_from ss (touched_after g s) (omega arith) (omega arith))
  where
    go : (b : Bool) → AllRise (touched_from (joined_with g (touched_after g s)) ss) → AllRise (touched_from (touched_after g s) ss)
        → AllRise (if b then touched_from (joined_with g (touched_after g s)) ss else g ∷ touched_from (touched_after g s) ss)
    go true near far = near
    go false near far = (old, new, far)

all_rise : (ss : List Step) → AllRise (touched_lines ss)
all_rise [] = tt
all_rise (s ∷ ss) = rise_from ss (touched_after lines_at_start s) (omega arith) (omega arith)

-- The lines of a group are those from one up to another; at the end of a text the last one may not be there.
abbrev Spans : ℕ → ℕ → List (List ℕ) → List (List ℕ) → Type 0
Spans first last part X = (last + 1 ≡ first + length part) ⊎ ((X ≡ []) × (first + length part ≤ last + 1))

-- The groups lead from the lines A to B, of which the last ones may not be there.
abbrev LeadsEnded : ℕ → ℕ → ℕ → List (List ℕ) → List (List ℕ) → List Touched → Type 0
LeadsEnded least i j A B [] = A ≡ B
LeadsEnded least i j A B (g ∷ gs) =
    (stay : List (List ℕ)) × (gone : List (List ℕ)) × (come : List (List ℕ)) × (X : List (List ℕ)) × (Y : List (List ℕ))
    × (A ≡ stay ++ (gone ++ X)) × (B ≡ stay ++ (come ++ Y))
    × (least ≤ length stay)
    × (g.old_first ≡ i + length stay) × Spans g.old_first g.old_last gone X
    × (g.new_first ≡ j + length stay) × Spans g.new_first g.new_last come Y
    × ((X ≡ []) × (Y ≡ []) × (gs ≡ []) ⊎ ((g.old_last + 1 ≡ g.old_first + length gone) × (g.new_last + 1 ≡ g.new_first + length come)
    × LeadsEnded 1 (g.old_last + 1) (g.new_last + 1) X Y gs))

-- a text of lines in parts, where lines come after them
parted : (A stay part X : List (List ℕ)) → A ≡ stay ++ (part ++ X) → 1 ≤ length X → ended A ≡ all_ended stay ++ (all_ended part ++ ended X)
parted A stay part X is some =
    ap ended is ∙ (ended-append stay (part ++ X) (let l = length-append part X in omega arith) ∙ ap (λ l. all_ended stay ++ l) (ended-append part X some))

-- and where none do
parted_last : (A stay part : List (List ℕ)) → A ≡ stay ++ (part ++ []) → 1 ≤ length part → ended A ≡ all_ended stay ++ (ended part ++ [])
parted_last A stay part is some =
    ap ended (is ∙ ap (λ l. stay ++ l) (append-nil part)) ∙ (ended-append stay part some ∙ ap (λ l. all_ended stay ++ l) (sym (append-nil (ended part))))

size : (L : List (List ℕ)) → length (all_ended L) ≡ length L
size L = length-map L with_newline

-- the groups lead from lines that newlines part, so they do where each has its newline
leads_ended : (gs : List Touched) (least i j : ℕ) (A B : List (List ℕ)) → AllRise gs → LeadsTouched least i j A B gs → LeadsEnded least i j (ended A) (ended B) gs
leads_ended [] least i j A B rise leads = ap ended leads
leads_ended (g ∷ []) least i j A B rise (stay, gone, come, [], Y, a, b, few, oa, ol, na, nl, same) = (
  all_ended stay,
  ended gone,
  ended come,
  [],
  [],
  parted_last A stay gone a (omega (arith, ol, rise.0)),
  parted_last B stay come (b ∙ ap (λ l. stay ++ (come ++ l)) (sym same)) (omega (arith, nl, rise.1)),
  (let s = size stay in omega (arith, few)),
  (let s = size stay in omega (arith, oa)),
  inr (refl, (let l = length-ended gone in omega (arith, ol))),
  (let s = size stay in omega (arith, na)),
  inr (refl, (let l = length-ended come in omega (arith, nl))),
  inl (refl, refl, refl),
)
leads_ended (g ∷ []) least i j A B rise (stay, gone, come, x ∷ X, Y, a, b, few, oa, ol, na, nl, same) =
    let s = size stay in
    let go = size gone in
    let co = size come in (
      all_ended stay,
      all_ended gone,
      all_ended come,
      ended (x ∷ X),
      ended Y,
      parted A stay gone (x ∷ X) a (omega arith),
      parted B stay come Y b (let l = ap length same in omega arith),
      omega (arith, few),
      omega (arith, oa),
      inl (omega (arith, ol)),
      omega (arith, na),
      inl (omega (arith, nl)),
      inr (omega (arith, ol), omega (arith, nl), ap ended same),
    )
leads_ended (g ∷ k ∷ gs) least i j A B rise (stay, gone, come, X, Y, a, b, few, oa, ol, na, nl, rest) =
    let s = size stay in
    let go = size gone in
    let co = size come in
    let old = ap length rest.5 ∙ length-append rest.0 (rest.1 ++ rest.3) in
    let new = ap length rest.6 ∙ length-append rest.0 (rest.2 ++ rest.4) in (
      all_ended stay,
      all_ended gone,
      all_ended come,
      ended X,
      ended Y,
      parted A stay gone X a (omega (arith, rest.7)),
      parted B stay come Y b (omega (arith, rest.7)),
      omega (arith, few),
      omega (arith, oa),
      inl (omega (arith, ol)),
      omega (arith, na),
      inl (omega (arith, nl)),
      inr (omega (arith, ol), omega (arith, nl), leads_ended (k ∷ gs) 1 (g.old_last + 1) (g.new_last + 1) X Y rise.2 rest),
    )

-- ---- hunks

-- the lines of a group
lines_are : (O A stay part X : List (List ℕ)) (i first last : ℕ) → A ≡ drop i O → A ≡ stay ++ (part ++ X) → first ≡ i + length stay → Spans first last part X
    → lines_up_to first last O ≡ part
lines_are O A stay part X i first last from parts at to =
    let dropped : drop first O ≡ part ++ X =
    ap (λ n. drop n O) at ∙ (sym (drop-drop (length stay) i O) ∙ (ap (drop (length stay)) (sym from ∙ parts) ∙ drop-append_seam stay (part ++ X))) in
    go dropped to
  where
    go : drop first O ≡ part ++ X → Spans first last part X → lines_up_to first last O ≡ part
    go dropped (inl is) =
        let n : last + 1 - first ≡ length part = omega (arith, is) in
        ap (take (last + 1 - first)) dropped ∙ (ap (λ n. take n (part ++ X)) n ∙ take-append_seam part X)
    go dropped (inr is) =
        ap (take (last + 1 - first)) (dropped ∙ (ap (λ l. part ++ l) is.0 ∙ append-nil part)) ∙ take_all (last + 1 - first) part (omega (arith, is.1))

-- what is left of them after it
rest_is : (O A stay part X : List (List ℕ)) (i first last : ℕ) → A ≡ drop i O → A ≡ stay ++ (part ++ X) → first ≡ i + length stay → last + 1 ≡ first + length part
    → X ≡ drop (last + 1) O
rest_is O A stay part X i first last from parts at to =
    let dropped : drop first O ≡ part ++ X =
    ap (λ n. drop n O) at ∙ (sym (drop-drop (length stay) i O) ∙ (ap (drop (length stay)) (sym from ∙ parts) ∙ drop-append_seam stay (part ++ X))) in
    sym (ap (λ n. drop n O) to ∙ (sym (drop-drop (length part) first O) ∙ (ap (drop (length part)) dropped ∙ drop-append_seam part X)))

groups_lead : (O N : List (List ℕ)) (gs : List Touched) (least i j : ℕ) (A B : List (List ℕ)) → A ≡ drop i O → B ≡ drop j N → LeadsEnded least i j A B gs
    → LeadsLines least i j A B (hunks_of_groups O N gs)
groups_lead O N [] least i j A B a b leads = leads
groups_lead O N (g ∷ gs) least i j A B a b (stay, gone, come, X, Y, old, new, few, oa, ol, na, nl, rest) =
    subst (λ (p : List (List ℕ)). LeadsLines least i j A B (hunk_if_any (hunk_of g p (lines_up_to g.new_first g.new_last N)) ++ hunks_of_groups O N gs)) (sym (lines_are O A stay gone X i g.old_first g.old_last a old oa ol))
    (subst (λ (p : List (List ℕ)). LeadsLines least i j A B (hunk_if_any (hunk_of g gone p) ++ hunks_of_groups O N gs)) (sym (lines_are N B stay come Y j g.new_first g.new_last b new na nl))
    (group_at least i j (g.old_first + length gone) (g.new_first + length come) A B stay gone come X Y g (hunks_of_groups O N gs) (parts_of gone come)
    old new few oa refl na refl (go rest (λ a' b' more. groups_lead O N gs 1 (g.old_last + 1) (g.new_last + 1) X Y a' b' more))))
  where
    Rest : Type 0
    Rest = LeadsEnded 1 (g.old_last + 1) (g.new_last + 1) X Y gs

    go : ((X ≡ []) × (Y ≡ []) × (gs ≡ []) ⊎ ((g.old_last + 1 ≡ g.old_first + length gone) × (g.new_last + 1 ≡ g.new_first + length come) × Rest))
        → (X ≡ drop (g.old_last + 1) O → Y ≡ drop (g.new_last + 1) N → Rest → LeadsLines 1 (g.old_last + 1) (g.new_last + 1) X Y (hunks_of_groups O N gs))
        → LeadsLines 1 (g.old_first + length gone) (g.new_first + length come) X Y (hunks_of_groups O N gs)
    go (inl none) lead = rw (none.0, none.1, none.2) refl
    go (inr more) lead =
        rw (← more.0, ← more.1)
        (lead (rest_is O A stay gone X i g.old_first g.old_last a old oa more.0) (rest_is N B stay come Y j g.new_first g.new_last b new na more.1) more.2)

-- the hunks that are made
pub file_hunks_made : (old new : List ℕ) (rs : List Replacement) (hs : List Hunk) → LeadsText old new 0 rs
    → hs ≡ hunks_of_groups (file_lines old) (file_lines new) (touched_lines (steps_of old 0 rs)) → AreFileHunks old new rs hs
file_hunks_made old new rs hs leads is = record {
  leads = subst (λ (l : List Hunk). LeadsLines 0 0 0 (file_lines old) (file_lines new) l) (sym is)
      (groups_lead (file_lines old) (file_lines new) (touched_lines (steps_of old 0 rs)) 0 0 0 (file_lines old) (file_lines new) refl refl
      (subst (λ (l : List (List ℕ)). LeadsEnded 0 0 0 l (file_lines new) (touched_lines (steps_of old 0 rs))) (sym (lines_ended old))
      (subst (λ (l : List (List ℕ)). LeadsEnded 0 0 0 (ended (lines_of_text old)) l (touched_lines (steps_of old 0 rs))) (sym (lines_ended new))
      (leads_ended (touched_lines (steps_of old 0 rs)) 0 0 0 (lines_of_text old) (lines_of_text new) (all_rise (steps_of old 0 rs)) (touched_lead rs old new leads)))));
  groups = is;
}
