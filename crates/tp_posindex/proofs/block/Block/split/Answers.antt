use Rattle.std.proofs.Common.{◌≡◌, ℕ, zero, suc, ◌-◌, List, [], ◌∷◌, ◌++◌, true, not, Ok, Err, Result, OnOk, take, drop, length, refl, ◌∙◌, ap, arith}
use Rattle.std.specs.Result.{is_ok}
use Rattle.std.proofs.lemmas.List.{length-drop}
use Rattle.tp_posindex.proofs.block.Block.split.Goals as goal

-- the whole of a list
take_whole : (n : ℕ) (xs : List ℕ) → n ≡ length xs → take n xs ≡ xs
take_whole zero [] e = refl
take_whole zero (x ∷ xs) e = absurd (omega arith)
take_whole (suc n) [] e = refl
take_whole (suc n) (x ∷ xs) e = ap (λ z. x ∷ z) (take_whole n xs (omega arith))

-- what holds where there is a value
on_ok : {T E P : Type 0} (r : Result T E) → is_ok r ≡ true → OnOk r P → P
on_ok (Ok x) ok p = p
on_ok (Err e) ok p = absurd (grind arith)

pub returns-clause-back : goal.returns-clause-back
returns-clause-back c =
    let ok : is_ok c.try_extend_from_slice.result ≡ true = c.is_err.ensures.negation ∙ ap not c.if-is_err.false in
    let d : List ℕ = c.as_slice.result.now in
    let short : length d - 64 ≡ length (drop 64 d) = (let l = length-drop 64 d in omega arith) in
    on_ok c.try_extend_from_slice.result ok c.try_extend_from_slice.ensures.ok
    ∙ ap (λ (z : List ℕ). z ++ take (length d - 64) (drop 64 d)) c.new-back.ensures
    ∙ take_whole (length d - 64) (drop 64 d) short
    ∙ ap (drop 64) (c.as_slice.ensures.value ∙ c.self.view_is)
