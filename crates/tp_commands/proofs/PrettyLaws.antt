-- Lines for people, one after another.
use Rattle.std.proofs.Common.{◌≡◌, ◌∙◌, ◌<◌, ◌≤◌, ◌+◌, ◌-◌, ℕ, List, [], ◌∷◌, ◌++◌, length, get_or, drop, reverse, refl, ap, subst, sym, append-nil, append_assoc, codes, arith}
use Rattle.std.proofs.lemmas.List.{drop_more}
use Rattle.std.specs.Fmt.{decimal}
use mathlib.Core.List.{reverse-cons}
use Rattle.tp_layout.specs.declared.parts.ChangeParts.{ChangeParts}
use Rattle.tp_commands.specs.Pretty.{ArePrettyLines, IsPrettyLine}

-- one more line, of one more change
pub pretty-push : (C : List ChangeParts) (c : ChangeParts) (lines line more : List ℕ) → ArePrettyLines C lines → IsPrettyLine c line → more ≡ lines ++ line
    → ArePrettyLines (C ++ c ∷ []) more
pretty-push [] c lines line more are is grown = (line, [], grown ∙ (ap (λ l. l ++ line) are ∙ sym (append-nil line)), is, refl)
pretty-push (x ∷ C) c lines line more are is grown =
    (are.0, are.1 ++ line, grown ∙ (ap (λ l. l ++ line) are.2 ∙ append_assoc are.0 are.1 line), are.3, pretty-push C c are.1 line (are.1 ++ line) are.4 is refl)

-- one more line, of the changes from one further to the front on
pub pretty_back : (C : List ChangeParts) (left : ℕ) (d c : ChangeParts) (lines line more : List ℕ) → 0 < left → left ≤ length C → c ≡ get_or C (left - 1) d
    → ArePrettyLines (reverse (drop left C)) lines → IsPrettyLine c line → more ≡ lines ++ line → ArePrettyLines (reverse (drop (left - 1) C)) more
pretty_back C left d c lines line more some within at are is grown =
    let next : drop (left - 1) C ≡ get_or C (left - 1) d ∷ drop (left - 1 + 1) C = drop_more C (left - 1) d (omega arith) in
    let one : left - 1 + 1 ≡ left = omega arith in
    let all : drop (left - 1) C ≡ c ∷ drop left C = next ∙ (ap (λ n. get_or C (left - 1) d ∷ drop n C) one ∙ ap (λ (x : ChangeParts). x ∷ drop left C) (sym at)) in
    subst (λ (l : List ChangeParts). ArePrettyLines l more) (sym (ap reverse all ∙ reverse-cons c (drop left C)))
    (pretty-push (reverse (drop left C)) c lines line more are is grown)

-- the fields, as they are printed one after another
pub pretty_joined : (text h d a : List ℕ) (i e : ℕ) (h' a' : List ℕ) (i' e' : ℕ)
    → text ≡ h ++ (codes " " ++ (d ++ (codes " " ++ (a ++ (codes " +" ++ (decimal i ++ (codes " -" ++ decimal e)))))))
    → h ≡ h' → a ≡ a' → i ≡ i' → e ≡ e'
    → text ≡ h' ++ codes " " ++ d ++ codes " " ++ a' ++ codes " +" ++ decimal i' ++ codes " -" ++ decimal e'
pretty_joined text h d a i e h' a' i' e' spelled hs us is es = rw (← hs, ← us, ← is, ← es) (spelled ∙ simp append_assoc)

pub moment_joined : (text d k d' k' : List ℕ) → text ≡ d ++ (codes " " ++ k) → d ≡ d' → k ≡ k' → text ≡ d' ++ codes " " ++ k'
moment_joined text d k d' k' spelled ds ks = rw (← ds, ← ks) (spelled ∙ simp append_assoc)
