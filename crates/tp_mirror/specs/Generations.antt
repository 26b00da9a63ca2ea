-- Which texts stay known where a generation begins.
use Rattle.std.specs.Prelude.{◌≡◌, ◌⊎◌, ◌<◌, Some, length, slice_get, ℕ, ◌+◌, ◌-◌, Bool, List, [], ◌∷◌, ◌++◌, ◌==◌, ◌||◌, nat_lt, filter}
use Rattle.std.specs.List.{list_any, remove}
use Rattle.tp_mirror.specs.declared.known.Known.{Known}
use Rattle.tp_mirror.specs.declared.state.Moved.{Moved}
use Rattle.tp_mirror.specs.declared.state.State.{State}
use Rattle.tp_mirror.specs.declared.generations.TheConstants.{GENERATIONS}

-- The generation is one of the newest, or a file that was moved away is of it.
abbrev pub stays_known : ℕ → List Moved → Known → Bool
stays_known begun moved k = nat_lt (begun - k.generation) GENERATIONS || list_any (λ (m : Moved). m.known.generation == k.generation) moved

abbrev pub needed_texts : State → List Known
needed_texts s = filter (stays_known s.begun s.moved) s.texts

-- A generation begins with the text; what isn't needed is forgotten.
abbrev pub Begins : State → State → Known → Type 0
Begins s n k = n ≡ record s { begun = s.begun + 1; texts = needed_texts s ++ k ∷ [] }

-- The text at the place is of the generation.
unfoldable pub IsOf : List Known → ℕ → ℕ → Type 0
IsOf texts number at = (k : Known) × (slice_get texts at ≡ Some k) × (k.generation ≡ number)

-- A text of the generation is forgotten, or nothing is done.
unfoldable pub ForgetsOneOf : ℕ → List Known → List Known → Type 0
ForgetsOneOf number before after = (after ≡ before) ⊎ ((at : ℕ) × (at < length before) × IsOf before number at × (after ≡ remove before at))
