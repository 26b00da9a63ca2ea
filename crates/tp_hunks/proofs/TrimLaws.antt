-- Hunks that are groups of lines without what they leave at their starts and their ends.
use Rattle.std.proofs.Common.{◌≡◌, ◌∙◌, ℕ, ◌+◌, ◌-◌, ◌≤◌, ◌==◌, List, [], ◌∷◌, ◌++◌, length, take, drop, reverse, Bool, true, false, cond, refl, ap, sym, subst, append_assoc, length-append, one-add, arith}
use Rattle.std.proofs.lemmas.Bool.Decides.{nat_tests}
use Rattle.std.proofs.lemmas.List.{drop-drop, length-reverse, length-take-le, reverse-append, reverse-reverse, take-append-drop}
use Rattle.std.proofs.lemmas.List.Sums.{common_prefix_len-le}
use Rattle.std.proofs.lemmas.Slice.Eq.{bytes_eq-Decides}
use Rattle.std.proofs.Math.Seq.{drop-append_seam, take-append_seam}
use Rattle.std.specs.Prelude.{◌&&◌, if◌then◌else◌}
use Rattle.std.specs.Str.{bytes_eq}
use Rattle.tp_hunks.specs.declared.replacing.Replacement.{Replacement}
use Rattle.tp_hunks.specs.declared.touching.Touched.{Touched}
use Rattle.tp_hunks.specs.declared.trimming.Hunk.{Hunk}
use Rattle.tp_hunks.specs.Hunks.{AreHunks, LeadsLines, hunk_if_any, hunk_of, hunks_of_groups, lines_up_to, same_end, same_start}
use Rattle.tp_hunks.specs.Lines.{LeadsText, lines_of_text, steps_of}
use Rattle.tp_hunks.specs.Touching.{touched_lines}
use Rattle.tp_hunks.proofs.Leading.{LeadsTouched, touched_lead}
use Rattle.tp_hunks.proofs.TouchLaws.{all_among}

-- lines that stay before them may come first
lines_later : (S : List (List ℕ)) (least more i j i' j' : ℕ) (A B : List (List ℕ)) (hs : List Hunk) → more ≤ length S + least → i' ≡ i + length S → j' ≡ j + length S
    → LeadsLines least i' j' A B hs → LeadsLines more i j (S ++ A) (S ++ B) hs
lines_later S least more i j i' j' A B [] few is js leads = ap (λ l. S ++ l) leads
lines_later S least more i j i' j' A B (h ∷ hs) few is js leads = (
  S ++ leads.0,
  leads.1,
  leads.2,
  leads.3,
  leads.4,
  ap (λ l. S ++ l) leads.5 ∙ sym (append_assoc S leads.0 (leads.1 ++ leads.3)),
  ap (λ l. S ++ l) leads.6 ∙ sym (append_assoc S leads.0 (leads.2 ++ leads.4)),
  (let l = length-append S leads.0 in omega (arith, leads.7)),
  leads.8,
  (let l = length-append S leads.0 in omega (arith, leads.9)),
  leads.10,
  (let l = length-append S leads.0 in omega (arith, leads.11)),
  leads.12,
  leads.13,
)

-- as many lines as are alike at the start are the same
start_taken : (A B : List (List ℕ)) → take (same_start A B) A ≡ take (same_start A B) B
start_taken [] B = sym (take_none B)
  where
    take_none : (L : List (List ℕ)) → take 0 L ≡ []
    take_none L = refl
start_taken (x ∷ A) [] = refl
start_taken (x ∷ A) (y ∷ B) = go (bytes_eq x y) refl (start_taken A B)
  where
    go : (b : Bool) → bytes_eq x y ≡ b → take (same_start A B) A ≡ take (same_start A B) B
        → take (cond b (1 + same_start A B) 0) (x ∷ A) ≡ take (cond b (1 + same_start A B) 0) (y ∷ B)
    go true is rest =
        rw (one-add (same_start A B))
        (ap (λ (l : List ℕ). l ∷ take (same_start A B) A) ((bytes_eq-Decides x y).0 is) ∙ ap (λ l. y ∷ l) rest)
    go false is rest = refl

-- Lines that go and lines that come, in parts: those at the start and at the end are the same.
pub record HasParts (gone come : List (List ℕ)) : Type 0 where
  pub front : List (List ℕ)
  pub back : List (List ℕ)
  pub less_gone : List (List ℕ)
  pub less_come : List (List ℕ)
  pub gone_is : gone ≡ front ++ (less_gone ++ back)
  pub come_is : come ≡ front ++ (less_come ++ back)
  pub front_len : length front ≡ same_start gone come
  pub back_len : length back ≡ same_end (drop (same_start gone come) gone) (drop (same_start gone come) come)

-- a list, by how many there are at its end
by_end : (L : List (List ℕ)) (s : ℕ) → L ≡ reverse (drop s (reverse L)) ++ reverse (take s (reverse L))
by_end L s = sym (reverse-reverse L) ∙ (ap reverse (sym (take-append-drop s (reverse L))) ∙ reverse-append (take s (reverse L)) (drop s (reverse L)))

pub parts_of : (gone come : List (List ℕ)) → HasParts gone come
parts_of gone come =
    let p = same_start gone come in
    let a = drop p gone in
    let b = drop p come in
    let s = same_end a b in
    let most = common_prefix_len-le bytes_eq gone come in
    let most_end = common_prefix_len-le bytes_eq (reverse a) (reverse b) in
    let tail : reverse (take s (reverse a)) ≡ reverse (take s (reverse b)) = ap reverse (start_taken (reverse a) (reverse b)) in
    record {
      front = take p gone;
      back = reverse (take s (reverse a));
      less_gone = reverse (drop s (reverse a));
      less_come = reverse (drop s (reverse b));
      gone_is = sym (take-append-drop p gone) ∙ ap (λ l. take p gone ++ l) (by_end a s);
      come_is = sym (take-append-drop p come)
          ∙ (ap (λ l. l ++ b) (sym (start_taken gone come)) ∙ ap (λ l. take p gone ++ l) (by_end b s ∙ ap (λ l. reverse (drop s (reverse b)) ++ l) (sym tail)));
      front_len = length-take-le p gone most.0;
      back_len = length-reverse (take s (reverse a)) ∙ length-take-le s (reverse a) most_end.0;
    }

-- the lines of a group, which are given in parts
lines_are : (O A stay part X : List (List ℕ)) (i first last : ℕ) → A ≡ drop i O → A ≡ stay ++ (part ++ X) → first ≡ i + length stay → last + 1 ≡ first + length part
    → (lines_up_to first last O ≡ part) × (X ≡ drop (last + 1) O)
lines_are O A stay part X i first last from parts at to =
    let dropped : drop first O ≡ part ++ X =
    ap (λ n. drop n O) at ∙ (sym (drop-drop (length stay) i O) ∙ (ap (drop (length stay)) (sym from ∙ parts) ∙ drop-append_seam stay (part ++ X))) in
    let size : last + 1 - first ≡ length part = omega arith in (
      ap (take (last + 1 - first)) dropped ∙ (ap (λ n. take n (part ++ X)) size ∙ take-append_seam part X),
      sym (ap (λ n. drop n O) to ∙ (sym (drop-drop (length part) first O) ∙ (ap (drop (length part)) dropped ∙ drop-append_seam part X))),
    )

empty_is : (L : List (List ℕ)) → length L ≡ 0 → L ≡ []
empty_is [] none = refl
empty_is (l ∷ L) none = absurd (omega arith)

regrouped : (A stay front less back X : List (List ℕ)) → A ≡ stay ++ ((front ++ (less ++ back)) ++ X) → A ≡ (stay ++ front) ++ (less ++ (back ++ X))
regrouped A stay front less back X is =
    is ∙ (ap (λ l. stay ++ l) (append_assoc front (less ++ back) X ∙ ap (λ l. front ++ l) (append_assoc less back X)) ∙ sym (append_assoc stay front (less ++ (back ++ X))))

-- where nothing is left of it, all of it stays
all_stays : (A stay front less back X : List (List ℕ)) → A ≡ stay ++ ((front ++ (less ++ back)) ++ X) → length less ≡ 0 → (stay ++ (front ++ back)) ++ X ≡ A
all_stays A stay front less back X is none =
    append_assoc stay (front ++ back) X ∙ (ap (λ l. stay ++ ((front ++ (l ++ back)) ++ X)) (sym (empty_is less none)) ∙ sym is)

-- a hunk, if it changes anything, before others
hunk_first : (least i j end end' : ℕ) (A B stay front less_gone less_come back X Y : List (List ℕ)) (h : Hunk) (rest : List Hunk)
    → A ≡ stay ++ ((front ++ (less_gone ++ back)) ++ X) → B ≡ stay ++ ((front ++ (less_come ++ back)) ++ Y) → least ≤ length stay
    → h.old_at ≡ i + length stay + length front → h.old_len ≡ length less_gone
    → h.new_at ≡ j + length stay + length front → h.new_len ≡ length less_come
    → end ≡ h.old_at + h.old_len + length back → end' ≡ h.new_at + h.new_len + length back
    → LeadsLines 1 end end' X Y rest → LeadsLines least i j A B (hunk_if_any h ++ rest)
hunk_first least i j end end' A B stay front less_gone less_come back X Y h rest a b few oa ol na nl oe ne leads =
    go ((h.old_len == 0) && (h.new_len == 0)) refl
  where
    go : (t : Bool) → ((h.old_len == 0) && (h.new_len == 0)) ≡ t → LeadsLines least i j A B ((if t then [] else (h ∷ [])) ++ rest)
    go true is =
        let no_gone : length less_gone ≡ 0 = grind (arith, nat_tests) in
        let no_come : length less_come ≡ 0 = grind (arith, nat_tests) in
        let size = length-append stay (front ++ back) in
        let more = length-append front back in
        subst (λ (L : List (List ℕ)). LeadsLines least i j L B rest) (all_stays A stay front less_gone back X a no_gone)
        (subst (λ (L : List (List ℕ)). LeadsLines least i j ((stay ++ (front ++ back)) ++ X) L rest) (all_stays B stay front less_come back Y b no_come)
        (lines_later (stay ++ (front ++ back)) 1 least i j end end' X Y rest (omega arith) (omega arith) (omega arith) leads))
    go false is =
        let size = length-append stay front in (
          stay ++ front,
          less_gone,
          less_come,
          back ++ X,
          back ++ Y,
          regrouped A stay front less_gone back X a,
          regrouped B stay front less_come back Y b,
          omega arith,
          (grind (arith, nat_tests)),
          omega arith,
          ol,
          omega arith,
          nl,
          lines_later back 1 1 (h.old_at + h.old_len) (h.new_at + h.new_len) end end' X Y rest (omega arith) oe ne leads,
        )

-- the hunk of a group whose lines end at these places, before those of the others
pub group_at : (least i j end end' : ℕ) (A B stay gone come X Y : List (List ℕ)) (g : Touched) (rest : List Hunk) → HasParts gone come
    → A ≡ stay ++ (gone ++ X) → B ≡ stay ++ (come ++ Y) → least ≤ length stay
    → g.old_first ≡ i + length stay → end ≡ g.old_first + length gone
    → g.new_first ≡ j + length stay → end' ≡ g.new_first + length come
    → LeadsLines 1 end end' X Y rest
    → LeadsLines least i j A B (hunk_if_any (hunk_of g gone come) ++ rest)
group_at least i j end end' A B stay gone come X Y g rest w a b few of ol nf nl leads =
    let old = ap length w.gone_is ∙ length-append w.front (w.less_gone ++ w.back) in
    let old' = length-append w.less_gone w.back in
    let new = ap length w.come_is ∙ length-append w.front (w.less_come ++ w.back) in
    let new' = length-append w.less_come w.back in
    let front = w.front_len in
    let back = w.back_len in
    hunk_first least i j end end' A B stay w.front w.less_gone w.less_come w.back X Y (hunk_of g gone come) rest
    (a ∙ ap (λ l. stay ++ (l ++ X)) w.gone_is) (b ∙ ap (λ l. stay ++ (l ++ Y)) w.come_is) few
    (omega arith) (omega arith) (omega arith) (omega arith) (omega arith) (omega arith) leads

-- the hunks of groups lead where these do
groups_lead : (O N : List (List ℕ)) (gs : List Touched) (least i j : ℕ) (A B : List (List ℕ)) → A ≡ drop i O → B ≡ drop j N → LeadsTouched least i j A B gs
    → LeadsLines least i j A B (hunks_of_groups O N gs)
groups_lead O N [] least i j A B a b leads = leads
groups_lead O N (g ∷ gs) least i j A B a b leads =
    let old = lines_are O A leads.0 leads.1 leads.3 i g.old_first g.old_last a leads.5 leads.8 leads.9 in
    let new = lines_are N B leads.0 leads.2 leads.4 j g.new_first g.new_last b leads.6 leads.10 leads.11 in
    let rest = groups_lead O N gs 1 (g.old_last + 1) (g.new_last + 1) leads.3 leads.4 old.1 new.1 leads.12 in
    subst (λ (gone : List (List ℕ)). LeadsLines least i j A B (hunk_if_any (hunk_of g gone (lines_up_to g.new_first g.new_last N)) ++ hunks_of_groups O N gs)) (sym old.0)
    (subst (λ (come : List (List ℕ)). LeadsLines least i j A B (hunk_if_any (hunk_of g leads.1 come) ++ hunks_of_groups O N gs)) (sym new.0)
    (group_at least i j (g.old_last + 1) (g.new_last + 1) A B leads.0 leads.1 leads.2 leads.3 leads.4 g (hunks_of_groups O N gs) (parts_of leads.1 leads.2)
    leads.5 leads.6 leads.7 leads.8 leads.9 leads.10 leads.11 rest))

pub groups_same : (A A' B B' : List (List ℕ)) (gs gs' : List Touched) → A ≡ A' → B ≡ B' → gs ≡ gs' → hunks_of_groups A B gs ≡ hunks_of_groups A' B' gs'
groups_same A A' B B' gs gs' a b g =
    ap (λ l. hunks_of_groups l B gs) a ∙ (ap (λ l. hunks_of_groups A' l gs) b ∙ ap (hunks_of_groups A' B') g)

-- the hunks of texts that aren't the same
pub hunks_made : (old new : List ℕ) (rs : List Replacement) (hs : List Hunk) → LeadsText old new 0 rs → (old ≡ new → ⊥)
    → hs ≡ hunks_of_groups (lines_of_text old) (lines_of_text new) (touched_lines (steps_of old 0 rs)) → AreHunks old new rs hs
hunks_made old new rs hs leads other is = record {
  leads = subst (λ (l : List Hunk). LeadsLines 0 0 0 (lines_of_text old) (lines_of_text new) l) (sym is)
      (groups_lead (lines_of_text old) (lines_of_text new) (touched_lines (steps_of old 0 rs)) 0 0 0 (lines_of_text old) (lines_of_text new) refl refl (touched_lead rs old new leads));
  none = λ same. absurd (other same);
  groups = λ _. is;
  among = all_among (steps_of old 0 rs);
}

-- the hunks of texts that are
pub no_hunks : (old new : List ℕ) (rs : List Replacement) (hs : List Hunk) → old ≡ new → hs ≡ [] → AreHunks old new rs hs
no_hunks old new rs hs same is = record {
  leads = subst (λ (l : List Hunk). LeadsLines 0 0 0 (lines_of_text old) (lines_of_text new) l) (sym is) (ap lines_of_text same);
  none = λ _. is;
  groups = λ other. absurd (other same);
  among = all_among (steps_of old 0 rs);
}
