-- The words with which the lines of a script begin.
use Rattle.std.specs.Prelude.{◌≢◌, ℕ, List, [], ◌∷◌, codes}

-- the first word of each event's line
abbrev pub event_words : List (List ℕ)
event_words =
    codes "start" ∷ codes "fork" ∷ codes "edit" ∷ codes "merge" ∷ codes "send" ∷ codes "deliver" ∷ codes "bytes" ∷ codes "crash" ∷ codes "fail"
    ∷ codes "mark" ∷ codes "read" ∷ codes "readat" ∷ []

-- the word is none of these
abbrev pub IsNoneOf : List ℕ → List (List ℕ) → Type 0
IsNoneOf word [] = Unit {0}
IsNoneOf word (w ∷ ws) = (word ≢ w) × IsNoneOf word ws
