-- The groups of lines that are touched lead from the lines of the old text to those of the new one.
use Rattle.std.proofs.Common.{◌≡◌, ◌∙◌, inl, inr, ◌⊎◌, ℕ, ◌+◌, ◌<◌, ◌≤◌, List, [], ◌∷◌, ◌++◌, length, Bool, true, false, refl, ap, sym, subst, append-nil, append_assoc, length-append, arith}
use Rattle.std.proofs.lemmas.Bool.Decides.{nat_tests}
use Rattle.std.specs.Prelude.{nat_le, if◌then◌else◌}
use Rattle.tp_hunks.specs.declared.replacing.Replacement.{Replacement}
use Rattle.tp_hunks.specs.declared.replacing.Step.{Step}
use Rattle.tp_hunks.specs.declared.touching.Touched.{Touched}
use Rattle.tp_hunks.specs.Lines.{LeadsText, lines_of_text, newline_count, put_chars, steps_of}
use Rattle.tp_hunks.specs.Touching.{lines_at_start, joined_with, touched_after, touched_from, touched_lines}
use Rattle.tp_hunks.proofs.Splitting.{IsCutAt, count-append, first_cut, last_cut, length-lines, lines-cut, steps_step}

-- The groups lead from the lines A to B, which come after i and j lines, as hunks do.
abbrev pub LeadsTouched : ℕ → ℕ → ℕ → List (List ℕ) → List (List ℕ) → List Touched → Type 0
LeadsTouched least i j A B [] = A ≡ B
LeadsTouched least i j A B (g ∷ gs) =
    (stay : List (List ℕ)) × (gone : List (List ℕ)) × (come : List (List ℕ)) × (X : List (List ℕ)) × (Y : List (List ℕ))
    × (A ≡ stay ++ (gone ++ X)) × (B ≡ stay ++ (come ++ Y))
    × (least ≤ length stay)
    × (g.old_first ≡ i + length stay) × (g.old_last + 1 ≡ g.old_first + length gone)
    × (g.new_first ≡ j + length stay) × (g.new_last + 1 ≡ g.new_first + length come)
    × LeadsTouched 1 (g.old_last + 1) (g.new_last + 1) X Y gs

-- lines that stay before them may come first
leads_later : (S : List (List ℕ)) (more i j i' j' : ℕ) (A B : List (List ℕ)) (gs : List Touched) → more ≤ length S → i' ≡ i + length S → j' ≡ j + length S
    → LeadsTouched 0 i' j' A B gs → LeadsTouched more i j (S ++ A) (S ++ B) gs
leads_later S more i j i' j' A B [] few is js leads = ap (λ l. S ++ l) leads
leads_later S more i j i' j' A B (g ∷ gs) few is js leads = (
  S ++ leads.0,
  leads.1,
  leads.2,
  leads.3,
  leads.4,
  ap (λ l. S ++ l) leads.5 ∙ sym (append_assoc S leads.0 (leads.1 ++ leads.3)),
  ap (λ l. S ++ l) leads.6 ∙ sym (append_assoc S leads.0 (leads.2 ++ leads.4)),
  (let l = length-append S leads.0 in omega arith),
  (let l = length-append S leads.0 in omega (arith, leads.8)),
  leads.9,
  (let l = length-append S leads.0 in omega (arith, leads.10)),
  leads.11,
  leads.12,
)

-- The lines of a text of two parts, where the second one is cut at a newline.
cut_after : (U G A P Q : List ℕ) → U ≡ G ++ A → A ≡ P ++ 10 ∷ Q → lines_of_text U ≡ lines_of_text (G ++ P) ++ lines_of_text Q
cut_after U G A P Q u a = ap lines_of_text (u ∙ (ap (λ l. G ++ l) a ∙ sym (append_assoc G P (10 ∷ Q)))) ∙ lines-cut (G ++ P) Q

-- how many lines the end of a group has
size_of : (G P : List ℕ) → newline_count P ≡ 0 → length (lines_of_text (G ++ P)) ≡ newline_count G + 1
size_of G P none = let l = length-lines (G ++ P) in let e = count-append G P in omega arith

-- The open group has the texts G and H so far, from the lines i and j on.
pub record IsOpen (g : Touched) (i j : ℕ) (G H : List ℕ) : Type 0 where
  pub old_first : g.old_first ≡ i
  pub old_last : g.old_last ≡ i + newline_count G
  pub new_first : g.new_first ≡ j
  pub new_last : g.new_last ≡ j + newline_count H

-- Whatever group is open, it and those after it lead from what is left of the old text to what is left of the new one.
abbrev Grows : List ℕ → List ℕ → ℕ → List Replacement → Type 0
Grows A B n rs = (G H U V : List ℕ) (i j : ℕ) (g : Touched) → U ≡ G ++ A → V ≡ H ++ B → IsOpen g i j G H
    → LeadsTouched 0 i j (lines_of_text U) (lines_of_text V) (touched_from g (steps_of A n rs))

-- no replacement is left: the open group ends at the next newline
grown_last : (A B : List ℕ) → A ≡ B → (G H U V : List ℕ) (i j : ℕ) (g : Touched) → U ≡ G ++ A → V ≡ H ++ B → IsOpen g i j G H
    → LeadsTouched 0 i j (lines_of_text U) (lines_of_text V) (g ∷ [])
grown_last A B same G H U V i j g u v is = go (first_cut A)
  where
    v' : V ≡ H ++ A
    v' = v ∙ ap (λ l. H ++ l) (sym same)

    go : (newline_count A ≡ 0) ⊎ ((P : List ℕ) × (Q : List ℕ) × IsCutAt A P Q × (newline_count P ≡ 0)) → LeadsTouched 0 i j (lines_of_text U) (lines_of_text V) (g ∷ [])
    go (inl none) = (
      [],
      lines_of_text (G ++ A),
      lines_of_text (H ++ A),
      [],
      [],
      ap lines_of_text u ∙ sym (append-nil (lines_of_text (G ++ A))),
      ap lines_of_text v' ∙ sym (append-nil (lines_of_text (H ++ A))),
      omega arith,
      omega (arith, is.old_first),
      (let s = size_of G A none in omega (arith, is.old_first, is.old_last)),
      omega (arith, is.new_first),
      (let s = size_of H A none in omega (arith, is.new_first, is.new_last)),
      refl,
    )
    go (inr w) = (
      [],
      lines_of_text (G ++ w.0),
      lines_of_text (H ++ w.0),
      lines_of_text w.1,
      lines_of_text w.1,
      cut_after U G A w.0 w.1 u w.2.spelled,
      cut_after V H A w.0 w.1 v' w.2.spelled,
      omega arith,
      omega (arith, is.old_first),
      (let s = size_of G w.0 w.3 in omega (arith, is.old_first, is.old_last)),
      omega (arith, is.new_first),
      (let s = size_of H w.0 w.3 in omega (arith, is.new_first, is.new_last)),
      refl,
    )

regrouped : (U G A stay gone X : List ℕ) → U ≡ G ++ A → A ≡ stay ++ (gone ++ X) → U ≡ (G ++ (stay ++ gone)) ++ X
regrouped U G A stay gone X u a = u ∙ (ap (λ l. G ++ l) (a ∙ sym (append_assoc stay gone X)) ∙ sym (append_assoc G (stay ++ gone) X))

counted : (G stay gone : List ℕ) → newline_count (G ++ (stay ++ gone)) ≡ newline_count G + newline_count stay + newline_count gone
counted G stay gone = let e = count-append G (stay ++ gone) in let f = count-append stay gone in omega arith

-- what stays up to the next replacement has at most one newline: the group goes on
grown_near : (A B stay gone come X Y : List ℕ) (n : ℕ) (rs : List Replacement) → Grows X Y n rs → A ≡ stay ++ (gone ++ X) → B ≡ stay ++ (come ++ Y)
    → (G H U V : List ℕ) (i j : ℕ) (g : Touched) (s : Step) → U ≡ G ++ A → V ≡ H ++ B → IsOpen g i j G H
    → s.stay ≡ newline_count stay → s.gone ≡ newline_count gone → s.come ≡ newline_count come
    → LeadsTouched 0 i j (lines_of_text U) (lines_of_text V) (touched_from (joined_with g (touched_after g s)) (steps_of X n rs))
grown_near A B stay gone come X Y n rs grows a b G H U V i j g s u v is ks gs cs =
    grows (G ++ (stay ++ gone)) (H ++ (stay ++ come)) U V i j (joined_with g (touched_after g s)) (regrouped U G A stay gone X u a) (regrouped V H B stay come Y v b)
    (record {
      old_first = is.old_first;
      old_last = let e = counted G stay gone in omega (arith, is.old_last);
      new_first = is.new_first;
      new_last = let e = counted H stay come in omega (arith, is.new_last);
    })

-- what is left after the last newline of what stays, and the next part
part_after : (U G A stay gone X P R M Q : List ℕ) → U ≡ G ++ A → A ≡ stay ++ (gone ++ X) → stay ≡ P ++ 10 ∷ R → R ≡ M ++ 10 ∷ Q
    → lines_of_text U ≡ lines_of_text (G ++ P) ++ (lines_of_text M ++ lines_of_text ((Q ++ gone) ++ X))
part_after U G A stay gone X P R M Q u a p m =
    cut_after U G A P (M ++ 10 ∷ ((Q ++ gone) ++ X)) u spelled ∙ ap (λ l. lines_of_text (G ++ P) ++ l) (lines-cut M ((Q ++ gone) ++ X))
  where
    spelled : A ≡ P ++ 10 ∷ (M ++ 10 ∷ ((Q ++ gone) ++ X))
    spelled =
        a ∙ (ap (λ l. l ++ (gone ++ X)) (p ∙ ap (λ l. P ++ 10 ∷ l) m)
        ∙ (append_assoc P (10 ∷ (M ++ 10 ∷ Q)) (gone ++ X)
        ∙ ap (λ l. P ++ 10 ∷ l) (append_assoc M (10 ∷ Q) (gone ++ X) ∙ ap (λ l. M ++ 10 ∷ l) (sym (append_assoc Q gone X)))))

-- it has two newlines or more: the group ends, and another one begins
grown_far : (A B stay gone come X Y : List ℕ) (n : ℕ) (rs : List Replacement) → Grows X Y n rs → A ≡ stay ++ (gone ++ X) → B ≡ stay ++ (come ++ Y)
    → (G H U V : List ℕ) (i j : ℕ) (g : Touched) (s : Step) → U ≡ G ++ A → V ≡ H ++ B → IsOpen g i j G H
    → s.stay ≡ newline_count stay → s.gone ≡ newline_count gone → s.come ≡ newline_count come → 1 < s.stay
    → LeadsTouched 0 i j (lines_of_text U) (lines_of_text V) (g ∷ touched_from (touched_after g s) (steps_of X n rs))
grown_far A B stay gone come X Y n rs grows a b G H U V i j g s u v is ks gs cs many = first (first_cut stay)
  where
    made : (P R M Q : List ℕ) → stay ≡ P ++ 10 ∷ R → R ≡ M ++ 10 ∷ Q → newline_count P ≡ 0 → newline_count Q ≡ 0 → newline_count stay ≡ newline_count M + 2
        → LeadsTouched 0 i j (lines_of_text U) (lines_of_text V) (g ∷ touched_from (touched_after g s) (steps_of X n rs))
    made P R M Q p m before after count =
        let size = length-lines M in
        let old = size_of G P before in
        let new = size_of H P before in
        let open_gone = count-append Q gone in
        let open_come = count-append Q come in
        let rest = grows (Q ++ gone) (Q ++ come) ((Q ++ gone) ++ X) ((Q ++ come) ++ Y) (g.old_last + s.stay) (g.new_last + s.stay) (touched_after g s) refl refl
        (record {
          old_first = refl;
          old_last = omega (arith, after, gs);
          new_first = refl;
          new_last = omega (arith, after, cs);
        }) in (
          [],
          lines_of_text (G ++ P),
          lines_of_text (H ++ P),
          lines_of_text M ++ lines_of_text ((Q ++ gone) ++ X),
          lines_of_text M ++ lines_of_text ((Q ++ come) ++ Y),
          part_after U G A stay gone X P R M Q u a p m,
          part_after V H B stay come Y P R M Q v b p m,
          omega arith,
          omega (arith, is.old_first),
          omega (arith, is.old_first, is.old_last),
          omega (arith, is.new_first),
          omega (arith, is.new_first, is.new_last),
          leads_later (lines_of_text M) 1 (g.old_last + 1) (g.new_last + 1) (g.old_last + s.stay) (g.new_last + s.stay)
              (lines_of_text ((Q ++ gone) ++ X)) (lines_of_text ((Q ++ come) ++ Y)) (touched_from (touched_after g s) (steps_of X n rs))
              (omega arith) (omega (arith, ks, count)) (omega (arith, ks, count)) rest,
        )

    first : (newline_count stay ≡ 0) ⊎ ((P : List ℕ) × (Q : List ℕ) × IsCutAt stay P Q × (newline_count P ≡ 0)) → LeadsTouched 0 i j (lines_of_text U) (lines_of_text V) (g ∷ touched_from (touched_after g s) (steps_of X n rs))
    first (inl none) = absurd (omega (arith, ks, many))
    first (inr w) = elim (last_cut w.1) [
      | inl none ↦ absurd (omega (arith, ks, many, none, w.2.count, w.3))
      | inr z ↦ made w.0 w.1 z.0 z.1 w.2.spelled z.2.spelled w.3 z.3 (omega (arith, w.2.count, w.3, z.2.count, z.3))
    ]

-- the next step, by how many newlines stay before it
grown_step : (A B stay gone come X Y : List ℕ) (n : ℕ) (rs : List Replacement) → Grows X Y n rs → A ≡ stay ++ (gone ++ X) → B ≡ stay ++ (come ++ Y)
    → (G H U V : List ℕ) (i j : ℕ) (g : Touched) (s : Step) → U ≡ G ++ A → V ≡ H ++ B → IsOpen g i j G H
    → s.stay ≡ newline_count stay → s.gone ≡ newline_count gone → s.come ≡ newline_count come
    → LeadsTouched 0 i j (lines_of_text U) (lines_of_text V) (touched_from g (s ∷ steps_of X n rs))
grown_step A B stay gone come X Y n rs grows a b G H U V i j g s u v is ks gs cs = go (nat_le s.stay 1) refl
  where
    go : (b : Bool) → nat_le s.stay 1 ≡ b → LeadsTouched 0 i j (lines_of_text U) (lines_of_text V)
        (if b then touched_from (joined_with g (touched_after g s)) (steps_of X n rs) else g ∷ touched_from (touched_after g s) (steps_of X n rs))
    go true few = grown_near A B stay gone come X Y n rs grows a b G H U V i j g s u v is ks gs cs
    go false many = grown_far A B stay gone come X Y n rs grows a b G H U V i j g s u v is ks gs cs (grind (arith, nat_tests))

-- so the groups do
grown : (rs : List Replacement) (A B : List ℕ) (n : ℕ) → LeadsText A B n rs → Grows A B n rs
grown [] A B n leads G H U V i j g u v is = grown_last A B leads G H U V i j g u v is
grown (r ∷ rs) A B n leads G H U V i j g u v is =
    subst (λ (ss : List Step). LeadsTouched 0 i j (lines_of_text U) (lines_of_text V) (touched_from g ss))
    (sym (steps_step A leads.0 leads.1 leads.2 n r rs leads.4 leads.6 leads.7))
    (grown_step A B leads.0 leads.1 (put_chars r) leads.2 leads.3 (r.at + length (put_chars r)) rs (grown rs leads.2 leads.3 (r.at + length (put_chars r)) leads.8)
    leads.4 leads.5 G H U V i j g
    (record { stay = newline_count leads.0; gone = newline_count leads.1; come = newline_count (put_chars r) }) u v is refl refl refl)

-- the first group begins after the last newline of what stays before it
first_step : (A B stay gone come X Y : List ℕ) (n : ℕ) (rs : List Replacement) → Grows X Y n rs → A ≡ stay ++ (gone ++ X) → B ≡ stay ++ (come ++ Y)
    → (s : Step) → s.stay ≡ newline_count stay → s.gone ≡ newline_count gone → s.come ≡ newline_count come
    → LeadsTouched 0 0 0 (lines_of_text A) (lines_of_text B) (touched_from (touched_after lines_at_start s) (steps_of X n rs))
first_step A B stay gone come X Y n rs grows a b s ks gs cs = go (last_cut stay)
  where
    go : (newline_count stay ≡ 0) ⊎ ((P : List ℕ) × (Q : List ℕ) × IsCutAt stay P Q × (newline_count Q ≡ 0)) → LeadsTouched 0 0 0 (lines_of_text A) (lines_of_text B) (touched_from (touched_after lines_at_start s) (steps_of X n rs))
    go (inl none) =
        grows (stay ++ gone) (stay ++ come) A B 0 0 (touched_after lines_at_start s) (a ∙ sym (append_assoc stay gone X)) (b ∙ sym (append_assoc stay come Y))
        (record {
          old_first = omega (arith, none, ks);
          old_last = let e = count-append stay gone in omega (arith, none, ks, gs);
          new_first = omega (arith, none, ks);
          new_last = let e = count-append stay come in omega (arith, none, ks, cs);
        })
    go (inr w) =
        let size = length-lines w.0 in
        let open_gone = count-append w.1 gone in
        let open_come = count-append w.1 come in
        let rest = grows (w.1 ++ gone) (w.1 ++ come) ((w.1 ++ gone) ++ X) ((w.1 ++ come) ++ Y) s.stay s.stay (touched_after lines_at_start s) refl refl
        (record {
          old_first = omega arith;
          old_last = omega (arith, w.3, gs);
          new_first = omega arith;
          new_last = omega (arith, w.3, cs);
        }) in
        let both = leads_later (lines_of_text w.0) 0 0 0 s.stay s.stay (lines_of_text ((w.1 ++ gone) ++ X)) (lines_of_text ((w.1 ++ come) ++ Y))
        (touched_from (touched_after lines_at_start s) (steps_of X n rs)) (omega arith) (omega (arith, ks, w.2.count, w.3)) (omega (arith, ks, w.2.count, w.3)) rest in
        subst (λ (L : List (List ℕ)). LeadsTouched 0 0 0 L (lines_of_text B) (touched_from (touched_after lines_at_start s) (steps_of X n rs)))
        (sym (parted A gone X a))
        (subst (λ (L : List (List ℕ)). LeadsTouched 0 0 0 (lines_of_text w.0 ++ lines_of_text ((w.1 ++ gone) ++ X)) L (touched_from (touched_after lines_at_start s) (steps_of X n rs)))
        (sym (parted B come Y b)) both)
      where
        parted : (t part rest : List ℕ) → t ≡ stay ++ (part ++ rest) → lines_of_text t ≡ lines_of_text w.0 ++ lines_of_text ((w.1 ++ part) ++ rest)
        parted t part rest is =
            ap lines_of_text (is ∙ (ap (λ l. l ++ (part ++ rest)) w.2.spelled ∙ (append_assoc w.0 (10 ∷ w.1) (part ++ rest) ∙ ap (λ l. w.0 ++ 10 ∷ l) (sym (append_assoc w.1 part rest)))))
            ∙ lines-cut w.0 ((w.1 ++ part) ++ rest)

-- the groups of all replacements lead from the lines of the one text to those of the other
pub touched_lead : (rs : List Replacement) (old new : List ℕ) → LeadsText old new 0 rs
    → LeadsTouched 0 0 0 (lines_of_text old) (lines_of_text new) (touched_lines (steps_of old 0 rs))
touched_lead [] old new leads = ap lines_of_text leads
touched_lead (r ∷ rs) old new leads =
    subst (λ (ss : List Step). LeadsTouched 0 0 0 (lines_of_text old) (lines_of_text new) (touched_lines ss))
    (sym (steps_step old leads.0 leads.1 leads.2 0 r rs leads.4 leads.6 leads.7))
    (first_step old new leads.0 leads.1 (put_chars r) leads.2 leads.3 (r.at + length (put_chars r)) rs (grown rs leads.2 leads.3 (r.at + length (put_chars r)) leads.8)
    leads.4 leads.5 (record { stay = newline_count leads.0; gone = newline_count leads.1; come = newline_count (put_chars r) }) refl refl refl)
