-- How many bytes a field has at least: fewer are refused as BadMessage.
use Rattle.tp_message.proofs.Common.{◌≡◌, ◌⊎◌, inl, inr, ℕ, zero, suc, ◌+◌, ◌<◌, ◌≤◌, List, [], ◌∷◌, length, take, drop, Bool, true, false, cond, Option, None, Ok, Err, refl, arith, length-drop, w32, le-ltb, Reads, Hash, next_before, rises, SyncError, BadMessage, MAX_HASHES, MAX_KNOWN, Stage, Version, Body, Whole, Failed, MessageParts, each_entry, stay, limit_of, need, from_be_bytes, cases_lt, Count, Hashes, ChangeCount, Length, nat_le, ◌==◌, ◌||◌, lt-ltb}
use Rattle.tp_codec.specs.Prefix.{byte_at, bytes_at, number_at}
use Rattle.tp_codec.specs.Reading.{and_next, and_then, found_or, give, or_fail, pass_or_fail, repeat_at, require}
use Rattle.tp_message.specs.Reading.{changes_at, end_or_fail, framed_change_at, next_hash_at, hashes_at, known_at, message_at, message_parts_at, message_version_at}
use Rattle.tp_message.specs.Stages.{changes_from, entries_from, hashes_from, rest_at}

-- fewer than n bytes are refused
abbrev pub Short : {X : Type 0} → ℕ → Reads SyncError X → Type 0
Short n field = (bytes : List ℕ) → length bytes < n → field bytes ≡ Err BadMessage

-- the only refusal is BadMessage, and what is read has at least n bytes
abbrev Eats : {X : Type 0} → ℕ → Reads SyncError X → Type 0
Eats {X} n field = (bytes : List ℕ) → (field bytes ≡ Err BadMessage) ⊎ ((p : X × List ℕ) × (field bytes ≡ Ok p) × (n + length p.1 ≤ length bytes))

short_of_eats : {X : Type 0} (n : ℕ) (field : Reads SyncError X) → Eats n field → Short n field
short_of_eats n field f bytes lt = elim (f bytes) [ inl e ↦ e | inr p ↦ absurd (omega (arith, p.2)) ]

eats_less : {X : Type 0} (n k : ℕ) (field : Reads SyncError X) → k ≤ n → Eats n field → Eats k field
eats_less n k field le f bytes = elim (f bytes) [ inl e ↦ inl e | inr p ↦ inr (p.0, p.1, omega (arith, p.2, le)) ]

first_short : {X Y : Type 0} (n : ℕ) (first : Reads SyncError X) (next : X → Reads SyncError Y) → Short n first → Short n (and_then first next)
unfolding and_then and_next
first_short n first next f bytes lt = rw (f bytes lt) refl

then_short : {X Y : Type 0} (n k : ℕ) (first : Reads SyncError X) (next : X → Reads SyncError Y) → Eats n first → ((x : X) → Short k (next x)) → Short (n + k) (and_then first next)
unfolding and_then and_next
then_short n k first next f g bytes lt = elim (f bytes) [
  | inl e ↦ rw e refl
  | inr p ↦ rw p.1 (g p.0.0 p.0.1 (omega (arith, p.2, lt)))
]

then_eats : {X Y : Type 0} (n k : ℕ) (first : Reads SyncError X) (next : X → Reads SyncError Y) → Eats n first → ((x : X) → Eats k (next x)) → Eats (n + k) (and_then first next)
unfolding and_then and_next
then_eats n k first next f g bytes = elim (f bytes) [
  | inl e ↦ inl (rw e refl)
  | inr p ↦ elim (g p.0.0 p.0.1) [
    | inl e ↦ inl (rw p.1 e)
    | inr q ↦ inr (q.0, rw p.1 q.1, omega (arith, p.2, q.2))
  ]
]

give_eats : {X : Type 0} (x : X) → Eats 0 (give x)
unfolding give
give_eats x bytes = inr ((x, bytes), refl, omega arith)

require_eats : (test : Bool) → Eats 0 (require test BadMessage)
unfolding require pass_or_fail
require_eats true bytes = inr ((tt, bytes), refl, omega arith)
require_eats false bytes = inl refl

byte_eats : Eats 1 (or_fail BadMessage byte_at)
unfolding or_fail found_or byte_at
byte_eats [] = inl refl
byte_eats (b ∷ rest) = inr ((b, rest), refl, omega arith)

bytes_eats : (n : ℕ) → Eats n (or_fail BadMessage (bytes_at n))
unfolding or_fail found_or bytes_at
bytes_eats n bytes = elim (cases_lt (length bytes) n) [
  | inl lt ↦ inl (rw (lt-ltb (length bytes) n lt) refl)
  | inr le ↦ inr ((take n bytes, drop n bytes), rw (le-ltb (length bytes) n le) refl, omega (arith, length-drop n bytes, le))
]

number_eats : Eats 4 (or_fail BadMessage (number_at w32))
unfolding or_fail found_or number_at
number_eats bytes = elim (cases_lt (length bytes) 4) [
  | inl lt ↦ inl (rw (lt-ltb (length bytes) 4 lt) refl)
  | inr le ↦ inr ((from_be_bytes w32 (take 4 bytes), drop 4 bytes), rw (le-ltb (length bytes) 4 le) refl, omega (arith, length-drop 4 bytes, le))
]

repeat_eats : {S X : Type 0} (field : S → Reads SyncError X) (step : S → X → S) (n : ℕ) (s : S) → ((s : S) → Eats 0 (field s)) → Eats 0 (repeat_at field step n s)
unfolding repeat_at and_then
repeat_eats field step zero s f bytes = inr (([], bytes), refl, omega arith)
repeat_eats field step (suc n) s f bytes =
    then_eats 0 0 (field s) (λ x. and_then (repeat_at field step n (step s x)) (λ xs. give (x ∷ xs))) (f s)
    (λ x. then_eats 0 0 (repeat_at field step n (step s x)) (λ xs. give (x ∷ xs)) (repeat_eats field step n (step s x) f) (λ xs. give_eats (x ∷ xs)))
    bytes

version_eats : Eats 1 message_version_at
unfolding message_version_at
version_eats =
    then_eats 1 0 (or_fail BadMessage byte_at) _ byte_eats
    (λ version. then_eats 0 0 (require (version == 1 || version == 2) BadMessage) _ (require_eats (version == 1 || version == 2)) (λ _. give_eats version))

hash_eats : (before : Option Hash) → Eats 32 (next_hash_at before)
unfolding next_hash_at
hash_eats before =
    then_eats 32 0 (or_fail BadMessage (bytes_at 32)) _ (bytes_eats 32)
    (λ bytes. then_eats 0 0 (require (rises before (record { 0 = bytes })) BadMessage) _ (require_eats (rises before (record { 0 = bytes }))) (λ _. give_eats (record { 0 = bytes })))

hashes_eats : (limit : ℕ) → Eats 4 (hashes_at limit)
unfolding hashes_at
hashes_eats limit =
    then_eats 4 0 (or_fail BadMessage (number_at w32)) _ number_eats
    (λ count. then_eats 0 0 (require (nat_le count limit) BadMessage) _ (require_eats (nat_le count limit))
    (λ _. repeat_eats next_hash_at next_before count None (λ before. eats_less 32 0 (next_hash_at before) (omega arith) (hash_eats before))))

known_eats : (version : ℕ) → Eats 0 (known_at version)
unfolding known_at
known_eats version =
    elim (version == 2) as (λ b. Eats 0 (cond b (hashes_at MAX_KNOWN) (give []))) [
      | true ↦ eats_less 4 0 (hashes_at MAX_KNOWN) (omega arith) (hashes_eats MAX_KNOWN)
      | false ↦ give_eats []
    ]

changes_short : Short 4 changes_at
unfolding changes_at
changes_short = first_short 4 (or_fail BadMessage (number_at w32)) _ (short_of_eats 4 (or_fail BadMessage (number_at w32)) number_eats)

parts_short : Short 13 message_parts_at
unfolding message_parts_at
parts_short =
    then_short 1 12 message_version_at _ version_eats
    (λ version. then_short 4 8 (hashes_at MAX_HASHES) _ (hashes_eats MAX_HASHES)
    (λ heads. then_short 4 4 (hashes_at MAX_HASHES) _ (hashes_eats MAX_HASHES)
    (λ wants. then_short 0 4 (known_at version) _ (known_eats version)
    (λ known. first_short 4 changes_at _ changes_short))))

-- no message has fewer than 13 bytes
pub message_short : (bytes : List ℕ) → length bytes < 13 → message_at bytes ≡ Err BadMessage
unfolding message_at end_or_fail
message_short bytes lt = rw (parts_short bytes lt) refl

entry_short : Short 4 framed_change_at
unfolding framed_change_at
entry_short = first_short 4 (or_fail BadMessage (number_at w32)) _ (short_of_eats 4 (or_fail BadMessage (number_at w32)) number_eats)

repeat_short : {S X : Type 0} (k : ℕ) (field : S → Reads SyncError X) (step : S → X → S) (n : ℕ) (s : S) → Short k (field s) → Short k (repeat_at field step (suc n) s)
unfolding repeat_at and_next
repeat_short k field step n s f bytes lt = rw (f bytes lt) refl

-- the next field has the bytes that its stage needs
pub stage_short : (stage : Stage) (m : MessageParts) → Short (need stage) (rest_at stage m)
unfolding rest_at changes_from hashes_from entries_from
stage_short Version m = first_short 1 message_version_at _ (short_of_eats 1 message_version_at version_eats)
stage_short (Count list) m = first_short 4 (hashes_at (limit_of list)) _ (short_of_eats 4 (hashes_at (limit_of list)) (hashes_eats (limit_of list)))
stage_short (Hashes list before more) m =
    first_short 32 (repeat_at next_hash_at next_before (suc more) before) _
    (repeat_short 32 next_hash_at next_before more before (short_of_eats 32 (next_hash_at before) (hash_eats before)))
stage_short ChangeCount m = first_short 4 changes_at _ changes_short
stage_short (Length more) m = first_short 4 (repeat_at each_entry stay (suc more) tt) _ (repeat_short 4 each_entry stay more tt entry_short)
stage_short (Body len more) m = first_short len (or_fail BadMessage (bytes_at len)) _ (short_of_eats len (or_fail BadMessage (bytes_at len)) (bytes_eats len))
stage_short Whole m = λ bytes lt. absurd (omega (arith, lt))
stage_short (Failed e) m = λ bytes lt. absurd (omega (arith, lt))

-- fewer bytes than the next field needs are no message
pub whole_short : (stage : Stage) (m : MessageParts) (rest : List ℕ) → length rest < need stage → end_or_fail (rest_at stage m rest) ≡ Err BadMessage
unfolding end_or_fail
whole_short stage m rest lt = rw (stage_short stage m rest lt) refl
