-- Reading from left to right, with the first fault that is met. E is the type of the faults.
use Rattle.std.specs.Prelude.{ℕ, zero, suc, List, [], ◌∷◌, Bool, true, false, Option, Some, None, Result, Ok, Err}
use Rattle.std.specs.Int.{Width}
use Rattle.std.specs.Str.{chars, is_utf8}
use Rattle.tp_codec.specs.Prefix.{bytes_at, number_at}

-- A field gives a value and the bytes after it, or a fault.
abbrev pub Reads : Type 0 → Type 0 → Type 0
Reads E X = List ℕ → Result (X × List ℕ) E

-- a value with no bytes
unfoldable pub give : {X E : Type 0} → X → Reads E X
give x bytes = Ok (x, bytes)

-- a fault
unfoldable pub fail : {X E : Type 0} → E → Reads E X
fail e bytes = Err e

unfoldable pub and_next : {X Y E : Type 0} → Result (X × List ℕ) E → (X → Reads E Y) → Result (Y × List ℕ) E
and_next (Ok x) next = next x.0 x.1
and_next (Err e) next = Err e

-- one field, and then what its value says
unfoldable pub and_then : {X Y E : Type 0} → Reads E X → (X → Reads E Y) → Reads E Y
and_then first next bytes = and_next (first bytes) next

infixl 10 ◌>>=◌
abbrev pub ◌>>=◌ : {X Y E : Type 0} → Reads E X → (X → Reads E Y) → Reads E Y
first >>= next = and_then first next

infixl 10 ◌>>◌
abbrev pub ◌>>◌ : {X Y E : Type 0} → Reads E X → Reads E Y → Reads E Y
first >> next = and_then first (λ _. next)

unfoldable pub found_or : {X E : Type 0} → E → Option (X × List ℕ) → Result (X × List ℕ) E
found_or e (Some x) = Ok x
found_or e None = Err e

-- what is at the start, or the fault
unfoldable pub or_fail : {X E : Type 0} → E → (List ℕ → Option (X × List ℕ)) → Reads E X
or_fail e there bytes = found_or e (there bytes)

unfoldable pub pass_or_fail : {E : Type 0} → Bool → E → List ℕ → Result (Unit {0} × List ℕ) E
pass_or_fail true e bytes = Ok (tt, bytes)
pass_or_fail false e bytes = Err e

-- the fault, unless the test holds
unfoldable pub require : {E : Type 0} → Bool → E → Reads E (Unit {0})
require test e bytes = pass_or_fail test e bytes

-- n fields one after another, where each value changes the state in which the next is read
unfoldable pub repeat_at : {S X E : Type 0} → (S → Reads E X) → (S → X → S) → ℕ → S → Reads E (List X)
repeat_at field step zero s bytes = Ok ([], bytes)
repeat_at field step (suc n) s bytes = and_next (field s bytes) (λ x. and_then (repeat_at field step n (step s x)) (λ xs. give (x ∷ xs)))

-- n bytes of UTF-8, as characters. Missing bytes are short, other bytes bad.
unfoldable pub characters_at : {E : Type 0} → E → E → ℕ → Reads E (List ℕ)
characters_at short bad n = do
  bytes ← or_fail short (bytes_at n)
  require (is_utf8 bytes) bad
  give (chars bytes)

-- a byte length and that many bytes of UTF-8, as characters
unfoldable pub text_at : {E : Type 0} → E → E → Width → Reads E (List ℕ)
text_at short bad w = do
  n ← or_fail short (number_at w)
  characters_at short bad n
