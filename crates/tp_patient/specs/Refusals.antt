-- Which refusals of an accept may pass, by their numbers in Linux.
use Rattle.std.specs.Prelude.{ℤ, pos, Option, Some, None, Bool, false, List, [], ◌∷◌}
use Rattle.std.specs.List.{list_any}
use Rattle.std.specs.Ordering.{int_eq}

-- EINTR, ENOMEM, ENFILE, EMFILE, EPROTO, ENETDOWN, ENETUNREACH, ECONNABORTED, ENOBUFS, EHOSTUNREACH
abbrev pub passing_codes : List ℤ
passing_codes = pos 4 ∷ pos 12 ∷ pos 23 ∷ pos 24 ∷ pos 71 ∷ pos 100 ∷ pos 101 ∷ pos 103 ∷ pos 105 ∷ pos 113 ∷ []

-- an error with this number may pass; one that has none doesn't
abbrev pub passes : Option ℤ → Bool
passes None = false
passes (Some code) = list_any (λ passing. int_eq passing code) passing_codes
