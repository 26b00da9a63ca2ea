-- Four messages, a block of each at a time.
use Rattle.std.proofs.Common.{◌≡◌, ◌≢◌, ◌∙◌, sym, ap, ℕ, ◌+◌, ◌*◌, ◌/◌, ◌<◌, ◌≤◌, inl, inr, List, [], ◌∷◌, length, get_or, refl, arith, add-one}
use Rattle.std.proofs.lemmas.List.{ext_get_or}
use Rattle.std.proofs.lemmas.Bool.{cases_order}
use Rattle.sha2.specs.Sha256.{compress, digest_bytes, hash_after, initial_hash_256, sha256, padded_message}
use Rattle.tp_digest.proofs.Lanewise.{in_each}
use Rattle.tp_digest.proofs.Paddings.{length-padded}
use Rattle.tp_digest.specs.Blocks.{block_count, block_of, hash_after_blocks}
use Rattle.tp_digest.specs.Lanes.{lane_of}
use Rattle.tp_digest.specs.declared.state.State.{State}

-- after i blocks the lanes of the messages that go on hold their hash values, and the other digests are there
pub record HasHashed (ms : List (List ℕ)) (counts : List ℕ) (s : State) (digests : List (List ℕ)) (i : ℕ) : Type 0 where
  pub long : length digests ≡ 4
  pub held : (k : ℕ) → k < 4 → i ≤ get_or counts k 0 → lane_of s k ≡ hash_after_blocks (get_or ms k []) i
  pub ended : (k : ℕ) → k < 4 → get_or counts k 0 ≤ i → get_or digests k [] ≡ sha256 (get_or ms k [])

pub hash_begun : (m : List ℕ) → initial_hash_256 ≡ hash_after_blocks m 0
unfolding hash_after
hash_begun m = refl

hash_next : (m : List ℕ) (i : ℕ) → compress (hash_after_blocks m i) (block_of m i) ≡ hash_after_blocks m (i + 1)
unfolding hash_after
hash_next m i = rw add-one refl

hash_done : (m h : List ℕ) → h ≡ hash_after_blocks m (block_count m) → digest_bytes h 8 ≡ sha256 m
unfolding sha256
hash_done m h e = ap (λ v. digest_bytes v 8) e

quotient : (n l : ℕ) → 64 * n ≡ l → n ≡ l / 64
quotient n l e = omega arith

positive : (n l r : ℕ) → 64 * n ≡ l + (9 + r) → 0 < n
positive n l r e = omega arith

-- no padded message is empty
some_blocks : (m : List ℕ) (n : ℕ) → 64 * n ≡ length (padded_message m) → (n ≡ block_count m) × (0 < n)
some_blocks m n e = (quotient n (length (padded_message m)) e, positive n _ _ (e ∙ length-padded m))

pub begins : (ms : List (List ℕ)) (counts : List ℕ) (s : State) (digests : List (List ℕ)) → length digests ≡ 4
    → ((k : ℕ) → k < 4 → 64 * get_or counts k 0 ≡ length (padded_message (get_or ms k [])))
    → ((k : ℕ) → k < 4 → lane_of s k ≡ hash_after_blocks (get_or ms k []) 0)
    → HasHashed ms counts s digests 0
begins ms counts s digests long counted held = record {
  long = long;
  held = λ k h _. held k h;
  ended = λ k h le. absurd (let n = (some_blocks (get_or ms k []) (get_or counts k 0) (counted k h)).1 in omega arith);
}

pub goes_on : (ms : List (List ℕ)) (counts : List ℕ) (s t : State) (ds es bs : List (List ℕ)) (i : ℕ)
    → HasHashed ms counts s ds i
    → ((k : ℕ) → k < 4 → 64 * get_or counts k 0 ≡ length (padded_message (get_or ms k [])))
    → ((k : ℕ) → k < 4 → 64 * i < length (padded_message (get_or ms k []))
    → get_or bs k [] ≡ block_of (get_or ms k []) i)
    → ((k : ℕ) → k < 4 → lane_of t k ≡ compress (lane_of s k) (get_or bs k []))
    → ((k : ℕ) → k < 4 → get_or counts k 0 ≡ i + 1 → get_or es k [] ≡ digest_bytes (lane_of t k) 8)
    → ((k : ℕ) → k < 4 → get_or counts k 0 ≢ i + 1 → get_or es k [] ≡ get_or ds k [])
    → length es ≡ 4 → HasHashed ms counts t es (i + 1)
goes_on ms counts s t ds es bs i now counted blocks compressed ends others long =
    let held : (k : ℕ) → k < 4 → i + 1 ≤ get_or counts k 0 → lane_of t k ≡ hash_after_blocks (get_or ms k []) (i + 1) = λ k h le.
    let m = get_or ms k [] in
    let n = counted k h in
    compressed k h ∙ ap (λ v. compress v (get_or bs k [])) (now.held k h (omega arith))
    ∙ ap (λ b. compress (hash_after_blocks m i) b) (blocks k h (omega arith)) ∙ hash_next m i in
    let last : (k : ℕ) → k < 4 → get_or counts k 0 ≡ i + 1 → get_or es k [] ≡ sha256 (get_or ms k []) = λ k h e.
    let m = get_or ms k [] in
    let n = (some_blocks m (get_or counts k 0) (counted k h)).0 in
    ends k h e ∙ hash_done m (lane_of t k) (held k h (omega arith) ∙ ap (λ j. hash_after_blocks m j) (sym e ∙ n)) in
    let before : (k : ℕ) → k < 4 → get_or counts k 0 ≤ i → get_or es k [] ≡ sha256 (get_or ms k []) = λ k h le.
    others k h (omega arith) ∙ now.ended k h le in
    record {
      long = long;
      held = held;
      ended = λ k h le. elim (cases_order (get_or counts k 0) (i + 1)) [
        | inl e ↦ last k h e
        | inr o ↦ elim o [ inl l ↦ before k h (omega arith) | inr l ↦ absurd (omega arith) ]
      ];
    }

-- once the longest message has ended, each digest is there
pub all_ended : (a b c d : List ℕ) (counts : List ℕ) (s : State) (digests : List (List ℕ)) (i : ℕ)
    → HasHashed (a ∷ b ∷ c ∷ d ∷ []) counts s digests i → ((k : ℕ) → k < 4 → get_or counts k 0 ≤ i)
    → digests ≡ sha256 a ∷ sha256 b ∷ sha256 c ∷ sha256 d ∷ []
all_ended a b c d counts s digests i now reached =
    let wanted = sha256 a ∷ sha256 b ∷ sha256 c ∷ sha256 d ∷ [] in
    let at : (k : ℕ) → k < 4 → get_or digests k [] ≡ get_or wanted k [] =
    in_each (λ k. get_or digests k [] ≡ get_or wanted k []) (now.ended 0 (omega arith) (reached 0 (omega arith)))
    (now.ended 1 (omega arith) (reached 1 (omega arith))) (now.ended 2 (omega arith) (reached 2 (omega arith)))
    (now.ended 3 (omega arith) (reached 3 (omega arith))) in
    ext_get_or [] digests wanted now.long (λ k h. at k (omega (arith, now.long)))
