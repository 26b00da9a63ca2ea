-- Bytes that are no change's, since they are none or too many.
use Rattle.tp_message.proofs.Common.{◌≡◌, ◌⊎◌, inl, inr, ℕ, ◌<◌, List, [], length, false, Result, Ok, Err, refl, ap, ◌∙◌, arith, nat_le, nil_from_length, nat_tests, ChangeError, MAX_BYTES, ChangeParts, BadChange, ◌==◌, give, parts_at}
use Rattle.tp_codec.specs.Prefix.{byte_at}
use Rattle.tp_codec.specs.Reading.{and_next, and_then, fail, found_or, or_fail, pass_or_fail, require}
use Rattle.tp_layout.specs.declared.error.ChangeError.TheVariants.{Limit, Short}
use Rattle.tp_layout.specs.Reading.{change_at, end_of_change, sized_at, version_at}
use Rattle.tp_message.specs.Reading.{change_or_fail}

past_limit : (size : ℕ) → MAX_BYTES < size → nat_le size MAX_BYTES ≡ false
past_limit size lt = grind (arith, nat_tests)

refused_size : (size : ℕ) (r : Result (ℕ × List ℕ) ChangeError) → MAX_BYTES < size
    → (e : ChangeError) × (end_of_change (and_next r (λ version. and_then (require (nat_le size MAX_BYTES) Limit) (λ _. and_then (parts_at (version == 2)) (λ parts. give (version, parts))))) ≡ Err e)
unfolding and_next and_then require pass_or_fail end_of_change
refused_size size (Ok p) lt = (Limit, rw (past_limit size lt) refl)
refused_size size (Err e) lt = (e, refl)

too_long : (bytes : List ℕ) → MAX_BYTES < length bytes → (e : ChangeError) × (change_at bytes ≡ Err e)
unfolding change_at sized_at and_then
too_long bytes lt = refused_size (length bytes) (version_at bytes) lt

none : change_at [] ≡ Err Short
unfolding change_at sized_at version_at and_then and_next or_fail found_or byte_at end_of_change
none = refl

bad_of_err : (r : Result ChangeParts ChangeError) (e : ChangeError) (rest : List ℕ) → r ≡ Err e → change_or_fail r rest ≡ Err BadChange
unfolding change_or_fail fail
bad_of_err r e rest h = rw h refl

-- such bytes are refused
pub no_change : (bytes rest : List ℕ) → (length bytes ≡ 0) ⊎ (MAX_BYTES < length bytes) → change_or_fail (change_at bytes) rest ≡ Err BadChange
no_change bytes rest (inl e) = bad_of_err (change_at bytes) Short rest (ap change_at (nil_from_length bytes e) ∙ none)
no_change bytes rest (inr lt) = let t = too_long bytes lt in bad_of_err (change_at bytes) t.0 rest t.1
