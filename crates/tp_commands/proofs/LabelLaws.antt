-- A label is one string of DOT.
use Rattle.std.proofs.Common.{◌≡◌, ◌∙◌, ◌==◌, ℕ, ◌<◌, ◌≤◌, List, [], ◌∷◌, ◌++◌, length, get_or, Bool, true, false, suc, refl, ap, sym, append-nil, append_assoc, codes, ⊎_elim, arith}
use Rattle.std.proofs.lemmas.Bool.{cases_lt}
use Rattle.std.proofs.lemmas.Bool.Decides.{nat_tests}
use Rattle.std.proofs.lemmas.Str.{encode_ascii, inside_one}
use Rattle.std.specs.List.{flat_map}
use Rattle.std.specs.Prelude.{encode_utf8, if◌then◌else◌}
use Rattle.std.specs.Str.{chars}
use Rattle.tp_commands.specs.Graph.{label_char, label_of, string_in}

-- a byte that is no quote and no backslash is taken
plain_taken : (b : ℕ) (rest : List ℕ) → (b == 34) ≡ false → (b == 92) ≡ false → string_in false (b ∷ rest) ≡ b ∷ string_in false rest
plain_taken b rest q s = rw (q, s) refl

-- so are bytes past those of ASCII
high_taken : (bs rest : List ℕ) → ((k : ℕ) → k < length bs → 128 ≤ get_or bs k 0) → string_in false (bs ++ rest) ≡ bs ++ string_in false rest
high_taken [] rest high = refl
high_taken (b ∷ bs) rest high =
    let here : 128 ≤ b = high 0 (omega arith) in
    plain_taken b (bs ++ rest) (grind (arith, nat_tests)) (grind (arith, nat_tests)) ∙ ap (λ l. b ∷ l) (high_taken bs rest (λ k lt. high (suc k) (omega arith)))

-- a character that no escape spells
plain_char : (ch : ℕ) (rest : List ℕ) → (ch == 34) ≡ false → (ch == 92) ≡ false
    → string_in false (encode_utf8 ch ++ rest) ≡ encode_utf8 ch ++ string_in false rest
plain_char ch rest q s =
    ⊎_elim (λ low. rw (encode_ascii ch low) (plain_taken ch rest q s))
    (λ high. high_taken (encode_utf8 ch) rest (λ k lt. ⊎_elim
    (λ small. absurd (omega (arith, inside_one ch [] (encode_utf8 ch) k (sym (append-nil (encode_utf8 ch))) lt small)))
    (λ big. big) (cases_lt (get_or (encode_utf8 ch) k 0) 128)))
    (cases_lt ch 128)

-- how a label spells a character, as three tests of it say
abbrev spelled : Bool → Bool → Bool → ℕ → List ℕ
spelled q s a ch = if q then codes "\\\"" else if s then codes "\\\\" else if a then codes "&amp;" else encode_utf8 ch

-- each character of a label is taken whole
char_taken : (ch : ℕ) (rest : List ℕ) → string_in false (label_char ch ++ rest) ≡ label_char ch ++ string_in false rest
char_taken ch rest = go (ch == 34) (ch == 92) (ch == 38) refl refl
  where
    go : (q s a : Bool) → (ch == 34) ≡ q → (ch == 92) ≡ s → string_in false (spelled q s a ch ++ rest) ≡ spelled q s a ch ++ string_in false rest
    go true s a e f = refl
    go false true a e f = refl
    go false false true e f = refl
    go false false false e f = plain_char ch rest e f

chars_taken : (cs rest : List ℕ) → string_in false (flat_map label_char cs ++ 34 ∷ rest) ≡ flat_map label_char cs
chars_taken [] rest = refl
chars_taken (c ∷ cs) rest =
    ap (string_in false) (append_assoc (label_char c) (flat_map label_char cs) (34 ∷ rest)) ∙ char_taken c (flat_map label_char cs ++ 34 ∷ rest)
    ∙ ap (λ l. label_char c ++ l) (chars_taken cs rest)

-- a whole label is taken, and nothing after its quote
pub label_taken : (text rest : List ℕ) → string_in false (label_of text ++ 34 ∷ rest) ≡ label_of text
label_taken text rest = chars_taken (chars text) rest
