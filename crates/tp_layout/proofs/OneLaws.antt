-- Reading one field as a list of one.
use Rattle.std.proofs.Common.{◌≡◌, List, [], ◌∷◌, ℕ, Ok, Err, refl}
use Rattle.tp_codec.specs.Reading.{Reads, repeat_at, and_next, and_then, give}

-- a field that is there
pub one_there : {S X E : Type 0} (field : S → Reads E X) (step : S → X → S) (s : S) (x : X) (bytes rest : List ℕ) → field s bytes ≡ Ok (x, rest) → repeat_at field step 1 s bytes ≡ Ok (x ∷ [], rest)
unfolding repeat_at and_next and_then give
one_there field step s x bytes rest there = rw there refl

-- a field that is refused
pub one_refused : {S X E : Type 0} (field : S → Reads E X) (step : S → X → S) (s : S) (e : E) (bytes : List ℕ) → field s bytes ≡ Err e → repeat_at field step 1 s bytes ≡ Err e
unfolding repeat_at and_next
one_refused field step s e bytes bad = rw bad refl
