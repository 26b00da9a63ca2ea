-- A lane of four: what one message has of vectors.
use Rattle.std.specs.Prelude.{◌≡◌, ◌<◌, ℕ, List, [], ◌∷◌, length, map, slice_index}
use Rattle.tp_digest.specs.declared.state.State.{State}

-- x is a vector of four words, of which lane k holds w k
pub record HasInLanes (x : List ℕ) (w : ℕ → ℕ) : Type 0 where
  pub four : length x ≡ 4
  pub at : (k : ℕ) → k < 4 → slice_index x k ≡ w k

-- the words of lane k
abbrev pub lane_of : State → ℕ → List ℕ
lane_of s k =
    slice_index s.a k ∷ slice_index s.b k ∷ slice_index s.c k ∷ slice_index s.d k
    ∷ slice_index s.e k ∷ slice_index s.f k ∷ slice_index s.g k ∷ slice_index s.h k ∷ []

-- the words of lane k, of vectors in a row
abbrev pub lane_words : List (List ℕ) → ℕ → List ℕ
lane_words ws k = map (λ w. slice_index w k) ws
