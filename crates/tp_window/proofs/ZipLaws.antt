-- Two lists that grow together.
use Rattle.std.proofs.Common.{◌≡◌, ◌∙◌, ℕ, ◌+◌, ◌<◌, List, [], ◌∷◌, ◌++◌, length, take, get_or, ap, subst, sym}
use Rattle.std.proofs.lemmas.List.{take_more}
use Rattle.std.specs.List.{AllZip}

-- one more item of each
AllZip-pushed : {A B : Type 0} (R : A → B → Type 0) (xs : List A) (ys : List B) (x : A) (y : B) → AllZip R xs ys → R x y → AllZip R (xs ++ x ∷ []) (ys ++ y ∷ [])
AllZip-pushed R [] [] x y zip here = (here, tt)
AllZip-pushed R [] (z ∷ ys) x y zip here = absurd zip
AllZip-pushed R (z ∷ xs) [] x y zip here = absurd zip
AllZip-pushed R (w ∷ xs) (z ∷ ys) x y zip here = (zip.0, AllZip-pushed R xs ys x y zip.1 here)

-- one more of the first items of a list, and of the other list
pub AllZip-more : {A B : Type 0} (R : A → B → Type 0) (xs : List A) (i : ℕ) (ys new : List B) (x d : A) (y : B) → i < length xs → x ≡ get_or xs i d
    → AllZip R (take i xs) ys → R x y → new ≡ ys ++ y ∷ [] → AllZip R (take (i + 1) xs) new
AllZip-more {A} {B} R xs i ys new x d y lt at zip here pushed =
    let grown : take i xs ++ x ∷ [] ≡ take (i + 1) xs = ap (λ (z : A). take i xs ++ z ∷ []) at ∙ sym (take_more xs i d lt) in
    subst (λ (zs : List B). AllZip R (take (i + 1) xs) zs) (sym pushed) (subst (λ (zs : List A). AllZip R zs (ys ++ y ∷ [])) grown (AllZip-pushed R (take i xs) ys x y zip here))
