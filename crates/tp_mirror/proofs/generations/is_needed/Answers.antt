use Rattle.std.proofs.Common.{◌≡◌, ◌≤◌, ◌<◌, ◌||◌, ℕ, Bool, true, ltb, refl}
use Rattle.std.proofs.lemmas.Bool.{le-ltb, lt-ltb}
use Rattle.tp_mirror.proofs.generations.is_needed.Goals as goal

is_new : (age x g : ℕ) (b : Bool) → age ≡ x → age < g → true ≡ (ltb x g || b)
is_new age x g b e h = rw (← e, lt-ltb age g h) refl

is_old : (age x g : ℕ) (r b : Bool) → age ≡ x → g ≤ age → r ≡ b → r ≡ (ltb x g || b)
is_old age x g r b e h same = rw (← e, le-ltb age g h) same

pub returns-then-age-lt-GENERATIONS : goal.returns-then-age-lt-GENERATIONS
returns-then-age-lt-GENERATIONS c = is_new _ _ _ _ c.saturating_sub-age.ensures c.if-age-lt-GENERATIONS.true

pub returns : goal.returns
returns c = is_old _ _ _ _ _ c.saturating_sub-age.ensures c.if-age-lt-GENERATIONS.false c.has_generation.ensures
