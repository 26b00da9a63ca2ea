-- Laws on the characters of a text.
use Rattle.std.proofs.Common.{◌≡◌, ℕ, List, [], ◌∷◌, length, eqb, ◌<◌, ◌≤◌, arith, sym, ap}
use Rattle.std.specs.Prelude.{encode_utf8_all}
use Rattle.std.specs.Str.{IsUtf8}
use Rattle.std.proofs.lemmas.Str.{encodes-chars, scalars-chars, length-le-encodes}
use Rattle.std.proofs.lemmas.Bool.Decides.{nat_tests}
use Rattle.tp_list.specs.Utf8.{IsEncodedText}

pub IsEncodedText_utf8 : (bytes : List ℕ) → IsUtf8 bytes → IsEncodedText bytes
IsEncodedText_utf8 bytes u = record { scalars = scalars-chars bytes u; spelled = encodes-chars bytes u }

-- a text has no byte exactly where it has no character
pub is_empty_by : (cs bs : List ℕ) → encode_utf8_all cs ≡ bs → eqb (length bs) 0 ≡ eqb (length cs) 0
is_empty_by [] bs e = ap (λ b. eqb (length b) 0) (sym e)
is_empty_by (c ∷ cs) bs e =
    let few : length (c ∷ cs) ≤ length (encode_utf8_all (c ∷ cs)) = length-le-encodes (c ∷ cs) in
    let same : length (encode_utf8_all (c ∷ cs)) ≡ length bs = ap length e in
    let some : 0 < length bs = omega arith in
    grind (arith, nat_tests)
