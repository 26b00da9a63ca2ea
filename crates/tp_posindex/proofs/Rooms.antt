-- Room for more numbers and blocks.
use Rattle.std.proofs.Common.{◌≡◌, ℕ, ◌+◌, ◌-◌, ◌*◌, ◌≤◌, min, max, arith}

-- the least of three
pub least_three : (a b c a' b' c' : ℕ) → a ≤ a' → b ≤ b' → c ≤ c' → min a (min b c) ≤ min a' (min b' c')
least_three a b c a' b' c' h k l = omega arith

-- what is within three numbers is within the least
pub three_above : (n a b c : ℕ) → n ≤ a → n ≤ b → n ≤ c → n ≤ min a (min b c)
three_above n a b c h k l = omega arith

-- more spare blocks and slots are more room
pub room_grows : (blocks blocks' numbers numbers' spare spare' slots slots' : ℕ) → blocks' ≡ blocks → numbers' ≡ numbers → spare ≤ spare' → slots ≤ slots' → min slots (max spare (64 * (blocks + spare) - numbers)) ≤ min slots' (max spare' (64 * (blocks' + spare') - numbers'))
room_grows blocks blocks' numbers numbers' spare spare' slots slots' e f h k = omega arith

-- with `spare` spare blocks there is room for n
pub room_enough : (n blocks numbers each spare slots : ℕ) → min n (each - blocks) ≤ spare → numbers + n ≤ 64 * each → n ≤ slots → n ≤ min slots (max spare (64 * (blocks + spare) - numbers))
room_enough n blocks numbers each spare slots h k l = omega arith

-- room within a number that is the same
pub room_along : (a b c : ℕ) → a ≡ b → a ≤ c → b ≤ c
room_along a b c e h = omega arith

-- what is within room that is the same
pub room_within : (n room room' : ℕ) → n ≤ room → room' ≡ room → n ≤ room'
room_within n room room' h e = omega arith
