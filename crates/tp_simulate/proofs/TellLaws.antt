-- What is printed of a text.
use Rattle.std.proofs.Common.{◌≡◌, ℕ, false, List, ◌++◌, codes, Result, Ok, Err, sym, ap, ◌∙◌}
use Rattle.std.specs.Prelude.{IfOk, encode_utf8_all, if◌then◌else◌}
use Rattle.std.specs.Str.{IsUtf8, chars}
use Rattle.std.proofs.lemmas.Str.{encodes-chars}
use Rattle.tp_simulate.specs.declared.asked.Asked.{Asked}
use Rattle.tp_simulate.specs.Telling.{is_mark, reported_text}
use Rattle.tp_list.specs.Bytes.{line}

-- the line of a text that was read for no mark
pub reported_shown : (a : Asked) (text : List ℕ) → is_mark a ≡ false → IsUtf8 text → line (codes "text " ++ text) ≡ reported_text a (chars text)
reported_shown a text none utf8 =
    ap (λ (t : List ℕ). line (codes "text " ++ t)) (sym (encodes-chars text utf8))
    ∙ ap (λ b. if b then line (codes "marked") else line (codes "text " ++ encode_utf8_all (chars text))) (sym none)

-- a text that has some bytes has equal ones
pub text_is : {S E : Type 0} (bytes : S → List ℕ) (r : Result S E) (x y : List ℕ) → x ≡ y → IfOk r (λ s. bytes s ≡ x) → IfOk r (λ s. bytes s ≡ y)
text_is bytes (Ok s) x y same h = h ∙ same
text_is bytes (Err e) x y same h = tt
