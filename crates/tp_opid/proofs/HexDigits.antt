-- Hexadecimal text by pairs of digits, against what the crate `hex` says of it.
use Rattle.std.proofs.Common.{◌≡◌, ℕ, ◌+◌, ◌*◌, ◌/◌, ◌%◌, ◌-◌, ◌<◌, ◌≤◌, Bool, true, false, ◌&&◌, cond, nat_le, List, [], ◌∷◌, length, Some, None, Option, Result, Ok, Err, refl, sym, ap, ◌∙◌, subst, arith}
use Rattle.std.proofs.lemmas.Bool.{and_parts, leb-true}
use Rattle.hex.specs.Hex.{decode_pairs, decode_sized, digit_or_error, hex_digit_value, pair_value, value_at, ◌>>=◌}
use Rattle.hex.specs.declared.error.FromHexError.{FromHexError}
use Rattle.hex.proofs.HexLemmas.{decode_of-even, decode_sized-ok, decode_sized-twice}
use Rattle.tp_opid.specs.HexText.{IsHexOf}

bind_ok : {A B : Type 0} (r : Result A FromHexError) (f : A → Result B FromHexError) (y : B) → (r >>= f) ≡ Ok y → (x : A) × (r ≡ Ok x) × (f x ≡ Ok y)
bind_ok (Ok x) f y h = (x, refl, h)
bind_ok (Err e) f y h = cc h

ok_same : {A : Type 0} (a b : A) → (let r : Result A FromHexError = Ok a in r) ≡ Ok b → a ≡ b
ok_same a b e = cc

-- the value of a digit that read
digit_read : (c i : ℕ) (o : Option ℕ) (v : ℕ) → digit_or_error c i o ≡ Ok v → o ≡ Some v
digit_read c i (Some w) v h = ap Some (ok_same w v h)
digit_read c i None v h = cc h

-- a value that one of two cases gives
either_small : (b : Bool) (w v : ℕ) (o : Option ℕ) → (b ≡ true → w < 16) → (o ≡ Some v → v < 16) → cond b (Some w) o ≡ Some v → v < 16
either_small true w v o f g h = let e : w ≡ v = cc in subst (λ n. n < 16) e (f refl)
either_small false w v o f g h = g h

range_small : (low high base c : ℕ) → high < base + 16 → (nat_le low c && nat_le c high) ≡ true → c - base < 16
range_small low high base c room t = let le : c ≤ high = leb-true c high (and_parts (nat_le low c) (nat_le c high) t).1 in omega arith

-- a digit's value is below 16
digit_small : (c v : ℕ) → hex_digit_value c ≡ Some v → v < 16
digit_small c v h =
    let decimal : Option ℕ = cond (nat_le 48 c && nat_le c 57) (Some (c - 48)) None in
    let lower : Option ℕ = cond (nat_le 97 c && nat_le c 102) (Some (c - 87)) decimal in
    either_small (nat_le 65 c && nat_le c 70) (c - 55) v lower (range_small 65 70 55 c (omega arith))
    (either_small (nat_le 97 c && nat_le c 102) (c - 87) v decimal (range_small 97 102 87 c (omega arith))
    (either_small (nat_le 48 c && nat_le c 57) (c - 48) v None (range_small 48 57 48 c (omega arith)) (λ e. cc))) h

high_digit : (b h l : ℕ) → h * 16 + l ≡ b → l < 16 → h ≡ b / 16
high_digit b h l e small = omega arith

low_digit : (b h l : ℕ) → h * 16 + l ≡ b → l < 16 → l ≡ b % 16
low_digit b h l e small = omega arith

-- what decodes is the digits of its bytes
pairs_read : (i : ℕ) (text bytes : List ℕ) → decode_pairs i text ≡ Ok bytes → IsHexOf text bytes
unfolding decode_pairs
pairs_read i [] bytes h =
    let e : [] ≡ bytes = ok_same [] bytes h in rw (← e) tt
pairs_read i (a ∷ []) bytes h = cc h
pairs_read i (a ∷ b ∷ rest) bytes h =
    let pair = bind_ok (pair_value a b i) _ bytes h in
    let high = bind_ok (value_at a i) _ pair.0 pair.1 in
    let low = bind_ok (value_at b (i + 1)) _ pair.0 high.2 in
    let others = bind_ok (decode_pairs (i + 2) rest) _ bytes pair.2 in
    let e : pair.0 ∷ others.0 ≡ bytes = ok_same _ _ others.2 in
    let byte : high.0 * 16 + low.0 ≡ pair.0 = ok_same _ _ low.2 in
    let high_is = digit_read a i (hex_digit_value a) high.0 high.1 in
    let low_is = digit_read b (i + 1) (hex_digit_value b) low.0 low.1 in
    let small = digit_small b low.0 low_is in
    rw (← e) (
      high_is ∙ ap Some (high_digit pair.0 high.0 low.0 byte small),
      low_is ∙ ap Some (low_digit pair.0 high.0 low.0 byte small),
      pairs_read (i + 2) rest others.0 others.1,
    )

whole : (b : ℕ) → b / 16 * 16 + b % 16 ≡ b
whole b = omega arith

pub IsHexOf-length : (text bytes : List ℕ) → IsHexOf text bytes → length text ≡ 2 * length bytes
IsHexOf-length [] [] h = refl
IsHexOf-length [] (b ∷ bytes) h = absurd h
IsHexOf-length (a ∷ []) bytes h = absurd h
IsHexOf-length (a ∷ b ∷ rest) [] h = absurd h
IsHexOf-length (a ∷ b ∷ rest) (x ∷ bytes) h = let e = IsHexOf-length rest bytes h.2 in omega (arith, e)

-- the digits of bytes decode to them
pairs_again : (i : ℕ) (text bytes : List ℕ) → IsHexOf text bytes → decode_pairs i text ≡ Ok bytes
unfolding decode_pairs
pairs_again i [] [] h = refl
pairs_again i [] (b ∷ bytes) h = absurd h
pairs_again i (a ∷ []) bytes h = absurd h
pairs_again i (a ∷ b ∷ rest) [] h = absurd h
pairs_again i (a ∷ b ∷ rest) (x ∷ bytes) h =
    let more = pairs_again (i + 2) rest bytes h.2 in
    rw (h.0, h.1, whole x, more) refl

pub read_is : (text bytes : List ℕ) (n : ℕ) → decode_sized text n ≡ Ok bytes → IsHexOf text bytes
read_is text bytes n h =
    let even : length text % 2 ≡ 0 = let e = decode_sized-ok text n bytes h in omega arith in
    pairs_read 0 text bytes (sym (decode_sized-twice text n (decode_sized-ok text n bytes h) ∙ decode_of-even text even) ∙ h)

pub is_read : (text bytes : List ℕ) (n : ℕ) → length bytes ≡ n → IsHexOf text bytes → decode_sized text n ≡ Ok bytes
is_read text bytes n count h =
    let twice : length text ≡ 2 * n = let e = IsHexOf-length text bytes h in omega arith in
    let even : length text % 2 ≡ 0 = omega arith in
    decode_sized-twice text n twice ∙ decode_of-even text even ∙ pairs_again 0 text bytes h
