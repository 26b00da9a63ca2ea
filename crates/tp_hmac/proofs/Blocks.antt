-- Short keys as blocks, and blocks by their bytes.
use Rattle.std.proofs.Common.{◌≡◌, ◌≤◌, ◌<◌, ◌∙◌, ℕ, List, ◌++◌, length, drop, replicate, map, bit_xor, get_or, ◌+◌, set, below_more, ap, sym, rules, arith}
use Rattle.std.proofs.lemmas.List.{drop-replicate, ext_get_or, get_or-map, length-map, get_or-set_other, get_or-set_same}
use Rattle.tp_hmac.specs.Hmac.{key_block}

pub short_key : (key : List ℕ) → length key ≤ 64 → key ++ drop (length key) (replicate 64 0) ≡ key_block key
short_key key short = ap (λ l. key ++ l) (drop-replicate (length key) 64 0) ∙ search rules

-- what has each byte exclusive-ored is the block so
pub all_padded : (out block : List ℕ) (pad : ℕ) → length out ≡ 64 → length block ≡ 64
    → ((k : ℕ) → k < 64 → get_or out k 0 ≡ bit_xor (get_or block k 0) pad)
    → out ≡ map (λ byte. bit_xor byte pad) block
all_padded out block pad long as_long each =
    ext_get_or 0 out (map (λ byte. bit_xor byte pad) block) (long ∙ sym (length-map block (λ byte. bit_xor byte pad) ∙ as_long))
    (λ i lt. each i (omega arith) ∙ sym (get_or-map (λ byte. bit_xor byte pad) block i 0 0 (omega arith)))

pub one_more : (out block : List ℕ) (pad i : ℕ) → i < length out
    → ((k : ℕ) → k < i → get_or out k 0 ≡ bit_xor (get_or block k 0) pad)
    → (k : ℕ) → k < i + 1
    → get_or (set out i (bit_xor (get_or block i 0) pad)) k 0 ≡ bit_xor (get_or block k 0) pad
one_more out block pad i within before =
    let written = bit_xor (get_or block i 0) pad in
    below_more (λ k. get_or (set out i written) k 0 ≡ bit_xor (get_or block k 0) pad) i
    (λ k lt. get_or-set_other out i k written 0 (omega arith) ∙ before k lt)
    (get_or-set_same out i written 0 within)
