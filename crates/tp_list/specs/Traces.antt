-- Steps of a relation, one after another.
use Rattle.std.specs.Prelude.{◌≡◌, List, [], ◌∷◌}

-- Steps with these labels, one after another, lead from s to t.
abbrev pub Trace : {S L : Type 0} → (S → L → S → Type 0) → S → List L → S → Type 0
Trace Step s [] t = t ≡ s
Trace {S} Step s (l ∷ ls) t = (m : S) × Step s l m × Trace Step m ls t
