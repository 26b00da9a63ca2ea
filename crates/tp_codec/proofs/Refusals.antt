-- A refusal that passes on.
use Rattle.std.proofs.Common.{◌≡◌, Result, Err}
use Rattle.tp_codec.specs.Gives.{FailsWith}

-- to what is refused for the same reason
pub fails_on : {X Y E : Type 0} (besides e : E) (r : Result X E) (t : Result Y E) → (r ≡ Err e → t ≡ Err e) → FailsWith besides e r → FailsWith besides e t
fails_on besides e r t f h = λ other. f (h other)

-- from the reason itself
pub fails_by : {X E : Type 0} (besides e : E) (r : Result X E) → r ≡ Err e → FailsWith besides e r
fails_by besides e r h = λ _. h
