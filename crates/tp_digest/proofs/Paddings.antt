-- The end of a message with its padding, and the blocks of a padded message.
use Rattle.std.proofs.Common.{◌≡◌, ◌∙◌, sym, ap, ℕ, suc, ◌+◌, ◌-◌, ◌*◌, ◌/◌, ◌%◌, ◌^◌, ◌<◌, ◌≤◌, List, ◌∷◌, ◌++◌, length, take, drop, set, replicate, refl, arith, append_assoc, length-append, length-drop, length-set}
use Rattle.std.proofs.lemmas.List.{length-replicate, set_at, take_at, take-take, take-append-le, drop-append-le, drop-drop, drop-replicate, replicate-append-replicate, drop-take}
use Rattle.std.proofs.lemmas.Slice.{take-put_mid}
use Rattle.std.specs.Int.{w64, to_be_bytes}
use Rattle.sha2.specs.Sha256.{padded_message, padding}
use Rattle.tp_digest.specs.Blocks.{block_of, tail_of}
use borrow.Rule.Slice.PartMut.{put_mid}

abbrev pub zeros : ℕ → List ℕ
zeros n = replicate n 0

length-zeros : (n : ℕ) → length (zeros n) ≡ n
length-zeros n = length-replicate n 0

pub length-padding : (n : ℕ) → length (padding n) ≡ 9 + (119 - n % 64) % 64
length-padding n =
    let z = (119 - n % 64) % 64 in
    omega (arith, length-append (zeros z) (to_be_bytes w64 (n * 8 % 2 ^ 64)), length-zeros z)

-- zeros, with a byte and then zeros after the bytes left
begun : (left : List ℕ) (r z : ℕ) → length left ≡ r → r + z < 128
    → take (r + (1 + z)) (set (left ++ drop r (zeros 128)) r 0x80) ≡ left ++ 0x80 ∷ zeros z
begun left r z long room =
    let rest = 127 - r - z in
    let blank : drop r (zeros 128) ≡ 0 ∷ (zeros z ++ zeros rest) =
    drop-replicate r 128 0
    ∙ ap (λ n. zeros n) (let e : 128 - r ≡ suc (z + rest) = omega arith in e)
    ∙ ap (λ ys. 0 ∷ ys) (sym (replicate-append-replicate z rest 0)) in
    let front = left ++ 0x80 ∷ zeros z in
    let written : set (left ++ drop r (zeros 128)) r 0x80 ≡ front ++ zeros rest =
    ap (λ ys. set (left ++ ys) r 0x80) blank ∙ set_at left 0 (zeros z ++ zeros rest) 0x80 r long
    ∙ sym (append_assoc left (0x80 ∷ zeros z) (zeros rest)) in
    ap (λ ys. take (r + (1 + z)) ys) written
    ∙ take_at front (zeros rest) (r + (1 + z))
    (omega (arith, length-append left (0x80 ∷ zeros z), length-zeros z))

-- and the length after them
pub tail_filled : (left new be : List ℕ) (n end k : ℕ) → new ≡ left → length left ≡ n % 64
    → end ≡ length left + (9 + (119 - length left) % 64) → be ≡ to_be_bytes w64 (n * 8 % 2 ^ 64)
    → take end (put_mid (end - 8) k (set (new ++ drop (length left) (zeros 128)) (length left) 0x80) be)
    ≡ left ++ padding n
tail_filled left new be n end k same long ends bytes =
    let r = length left in
    let z = (119 - r) % 64 in
    let eight : length be ≡ 8 = ap (λ ys. length ys) bytes in
    let t = set (left ++ drop r (zeros 128)) r 0x80 in
    let size : length t ≡ 128 = omega (
      arith,
      length-set (left ++ drop r (zeros 128)) r 0x80,
      length-append left (drop r (zeros 128)),
      length-drop r (zeros 128),
      length-zeros 128,
    ) in
    let till : end - 8 ≡ r + (1 + z) = omega arith in
    ap (λ xs. take end (put_mid (end - 8) k (set (xs ++ drop r (zeros 128)) r 0x80) be)) same
    ∙ take-put_mid (end - 8) k t be end (omega arith) (omega arith)
    ∙ ap (λ xs. xs ++ be) (ap (λ i. take i t) till ∙ begun left r z refl (omega arith))
    ∙ append_assoc left (0x80 ∷ zeros z) be
    ∙ ap (λ xs. left ++ ((0x80 ∷ zeros z) ++ xs)) bytes
    ∙ ap (λ i. left ++ ((0x80 ∷ replicate ((119 - i) % 64) 0) ++ to_be_bytes w64 (n * 8 % 2 ^ 64))) long

pub length-padded : (m : List ℕ) → length (padded_message m) ≡ length m + (9 + (119 - length m % 64) % 64)
length-padded m = length-append m (padding (length m)) ∙ ap (λ n. length m + n) (length-padding (length m))

-- a whole block of the message
pub block_of-whole : (m : List ℕ) (i : ℕ) → i < length m / 64 → take 64 (drop (i * 64) m) ≡ block_of m i
block_of-whole m i h =
    sym (ap (λ xs. take 64 xs) (drop-append-le (i * 64) m (padding (length m)) (omega arith))
    ∙ take-append-le 64 (drop (i * 64) m) (padding (length m)) (omega (arith, length-drop (i * 64) m)))

-- a block after them
pub block_of-tail : (m tail : List ℕ) (i end : ℕ) → take end tail ≡ tail_of m → length m / 64 ≤ i
    → 64 * (i - length m / 64) + 64 ≤ end → take 64 (drop (64 * (i - length m / 64)) tail) ≡ block_of m i
block_of-tail m tail i end known from room =
    let w = length m / 64 in
    let at = 64 * (i - w) in
    let split : at + (end - at) ≡ end = omega arith in
    let e : w * 64 + at ≡ i * 64 = omega arith in
    sym (take-take 64 (end - at) (drop at tail) (omega arith))
    ∙ ap (λ xs. take 64 xs) (sym (drop-take at (end - at) tail) ∙ ap (λ n. drop at (take n tail)) split
    ∙ ap (λ xs. drop at xs) known ∙ drop-drop at (w * 64) (padded_message m)
    ∙ ap (λ n. drop n (padded_message m)) e)
