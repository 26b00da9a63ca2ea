-- A hash is 32 bytes.
use Rattle.std.proofs.Common.{◌≡◌, ℕ, zero, suc, ◌*◌, List, length, get_or, arith}
use Rattle.std.specs.Int.{w32, to_be_bytes}
use Rattle.std.proofs.lemmas.List.{length-append}
use Rattle.tp_codec.proofs.Fields.{AreBytes, AreBytes-append}
use Rattle.sha2.specs.Sha256.{sha256, digest_bytes, final_hash, initial_hash_256}
use Rattle.tp_layout.specs.declared.parts.ChangeParts.{ChangeParts}
use Rattle.tp_change.specs.ChangeHash.{hash_of}
use Rattle.tp_layout.specs.Spelling.{spelling}
use Rattle.tp_layout.specs.Limits.{IsHash}

word_bytes : (n : ℕ) → AreBytes (to_be_bytes w32 n)
word_bytes n zero = omega arith
word_bytes n (suc zero) = omega arith
word_bytes n (suc (suc zero)) = omega arith
word_bytes n (suc (suc (suc zero))) = omega arith
word_bytes n (suc (suc (suc (suc i)))) = omega arith

digest_is : (h : List ℕ) (n : ℕ) → (length (digest_bytes h n) ≡ 4 * n) × AreBytes (digest_bytes h n)
unfolding digest_bytes
digest_is h zero = (omega arith, λ i. omega arith)
digest_is h (suc n) =
    let before = digest_is h n in
    let word = to_be_bytes w32 (get_or h n 0) in
    (omega (arith, before.0, length-append (digest_bytes h n) word), AreBytes-append (digest_bytes h n) word before.1 (word_bytes (get_or h n 0)))

-- the hash of a change
pub hash_of_is : (c : ChangeParts) → IsHash (hash_of c)
unfolding hash_of sha256
hash_of_is c = let d = digest_is (final_hash initial_hash_256 (spelling c)) 8 in record { count = d.0; each = d.1 }
