-- Laws of spellings, for the layers above.
use Rattle.std.proofs.Common.{◌≡◌, ℕ, ◌≤◌, List, [], ◌++◌, length, Result, Ok, sym, ap, ◌∙◌, append-nil, arith}
use Rattle.tp_layout.specs.declared.error.ChangeError.{ChangeError}
use Rattle.tp_layout.specs.declared.parts.ChangeParts.{ChangeParts}
use Rattle.tp_layout.specs.Spelling.{spelling}
use Rattle.tp_layout.specs.Limits.{IsChange}
use Rattle.tp_layout.specs.Reading.{sized_at, change_at}
use Rattle.tp_layout.proofs.WholeChange.{with_version, sized_again, change_again, length-spelling}

one_result : (c d : ChangeParts) → (let r : Result ChangeParts ChangeError = Ok c in r) ≡ Ok d → c ≡ d
one_result c d e = cc

-- Changes with one spelling are one.
pub one_spelling_is : (c d : ChangeParts) → IsChange c → IsChange d → spelling c ≡ spelling d → c ≡ d
one_spelling_is c d is js e = one_result c d (sym (change_again c is) ∙ ap change_at e ∙ change_again d js)

one_read : (x y : (ℕ × ChangeParts) × List ℕ) → (let r : Result ((ℕ × ChangeParts) × List ℕ) ChangeError = Ok x in r) ≡ Ok y → x ≡ y
one_read x y e = cc

-- A spelling begins no other.
pub no_longer_spelling : (c d : ChangeParts) (more : List ℕ) → IsChange c → IsChange d → spelling d ≡ spelling c ++ more → (c ≡ d) × (more ≡ [])
no_longer_spelling c d more is js e =
    let n = length (spelling d) in
    let first : sized_at n (spelling c ++ more) ≡ Ok (with_version c, more) = sized_again n c more js.size is in
    let second : sized_at n (spelling d ++ []) ≡ Ok (with_version d, []) = sized_again n d [] js.size js in
    let same : spelling c ++ more ≡ spelling d ++ [] = sym e ∙ sym (append-nil (spelling d)) in
    let one = one_read (with_version c, more) (with_version d, []) (sym first ∙ ap (sized_at n) same ∙ second) in
    (ap (λ (p : (ℕ × ChangeParts) × List ℕ). p.0.1) one, ap (λ (p : (ℕ × ChangeParts) × List ℕ). p.1) one)

-- how long the bytes of a change are
pub spelling_bounds : (c : ChangeParts) → IsChange c → (1 ≤ length (spelling c)) × (length (spelling c) ≤ 4194304)
spelling_bounds c is = (omega (arith, length-spelling c), is.size)
