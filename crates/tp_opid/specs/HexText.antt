-- Bytes as hexadecimal text.
use Rattle.std.specs.Prelude.{◌≡◌, ℕ, ◌/◌, ◌%◌, List, [], ◌∷◌, Some}
use Rattle.hex.specs.Hex.{hex_digit_value}

-- The text is two digits for each byte, the high four bits first, each digit in either case.
abbrev pub IsHexOf : List ℕ → List ℕ → Type 0
IsHexOf [] [] = Unit {0}
IsHexOf [] (b ∷ bytes) = ⊥
IsHexOf (high ∷ []) bytes = ⊥
IsHexOf (high ∷ low ∷ text) [] = ⊥
IsHexOf (high ∷ low ∷ text) (b ∷ bytes) = (hex_digit_value high ≡ Some (b / 16)) × (hex_digit_value low ≡ Some (b % 16)) × IsHexOf text bytes
