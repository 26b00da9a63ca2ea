-- How many actors changes have.
use Rattle.std.proofs.Common.{◌≡◌, ◌∙◌, ◌+◌, ◌==◌, ℕ, List, [], ◌∷◌, ◌++◌, Bool, true, false, length, take, drop, get_or, ap, sym, subst, arith}
use Rattle.std.proofs.lemmas.Bool.Decides.{nat_tests}
use Rattle.std.proofs.lemmas.List.{drop_more, take-append-drop, take_more}
use Rattle.std.specs.Prelude.{◌<◌, if◌then◌else◌}
use Rattle.tp_layout.specs.declared.parts.ChangeParts.{ChangeParts}
use Rattle.tp_history.specs.Fit.{count_by}
use Rattle.tp_history.specs.Sound.{Sound}
use Rattle.tp_history.proofs.CountLaws.{next_seq}
use Rattle.tp_history.proofs.SoundLaws.{Fits-at, Sound-prefix}
use Rattle.tp_commands.specs.Status.{author_count_after}

-- a change is its actor's first where its sequence number is 1
pub first_is : (A : List ChangeParts) (c : ChangeParts) (B : List ChangeParts) → Sound (A ++ c ∷ B) → Sound A → (c.seq == 1) ≡ (count_by c.actor A == 0)
first_is A c B all before =
    let seq = next_seq A c before (Fits-at A c B all) in
    ap (λ n. n == 1) seq ∙ same (count_by c.actor A)
  where
    same : (n : ℕ) → (n + 1 == 1) ≡ (n == 0)
    same n = grind (arith, nat_tests)

author_at : (C : List ChangeParts) (i : ℕ) (d : ChangeParts) → i < length C → Sound C
    → author_count_after (take i C) (drop i C)
    ≡ (if (get_or C i d).seq == 1 then 1 else 0) + author_count_after (take (i + 1) C) (drop (i + 1) C)
author_at C i d lt sound =
    let c = get_or C i d in
    let next : drop i C ≡ c ∷ drop (i + 1) C = drop_more C i d lt in
    let split : C ≡ take i C ++ c ∷ drop (i + 1) C = sym (take-append-drop i C) ∙ ap (λ l. take i C ++ l) next in
    let whole : Sound (take i C ++ c ∷ drop (i + 1) C) = subst (λ (l : List ChangeParts). Sound l) split sound in
    let first = first_is (take i C) c (drop (i + 1) C) whole (Sound-prefix (take i C) (c ∷ drop (i + 1) C) whole) in
    ap (author_count_after (take i C)) next
    ∙ (ap (λ (b : Bool). (if b then 1 else 0) + author_count_after (take i C ++ c ∷ []) (drop (i + 1) C)) (sym first)
    ∙ ap (λ l. (if c.seq == 1 then 1 else 0) + author_count_after l (drop (i + 1) C)) (sym (take_more C i d lt)))

-- the actors of the changes from a place on: one more where the change there is its actor's first
pub author_step : (C : List ChangeParts) (i : ℕ) (d c : ChangeParts) → i < length C → c ≡ get_or C i d → Sound C
    → author_count_after (take i C) (drop i C) ≡ (if c.seq == 1 then 1 else 0) + author_count_after (take (i + 1) C) (drop (i + 1) C)
author_step C i d c lt at sound = author_at C i d lt sound ∙ ap (λ (x : ChangeParts). (if x.seq == 1 then 1 else 0) + author_count_after (take (i + 1) C) (drop (i + 1) C)) (sym at)
