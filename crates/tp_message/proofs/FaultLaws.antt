-- Bytes that are no message are refused for two reasons alone.
use Rattle.tp_message.proofs.Common.{◌≡◌, ◌⊎◌, inl, inr, ℕ, zero, suc, List, ◌∷◌, Bool, true, false, Option, Some, None, Result, Ok, Err, eqb, cond, ap, length, w32, Reads, Hash, ChangeError, ChangeParts, change_at, next_before, rises, SyncError, BadMessage, BadChange, MAX_CHANGES, MAX_HASHES, MAX_KNOWN, MessageParts, each_entry, stay, nat_le, ◌==◌, ◌||◌, [], byte_at, bytes_at, number_at}
use Rattle.tp_codec.specs.Reading.{and_next, and_then, fail, found_or, give, or_fail, pass_or_fail, repeat_at, require}
use Rattle.tp_message.specs.Reading.{changes_at, change_or_fail, end_or_fail, framed_change_at, next_hash_at, hashes_at, known_at, message_at, message_parts_at, message_version_at}

abbrev pub IsFault : SyncError → Type 0
IsFault e = (e ≡ BadMessage) ⊎ (e ≡ BadChange)

-- the field is refused for these alone
abbrev Faults : {X : Type 0} → Reads SyncError X → Type 0
Faults {X} field = (bytes : List ℕ) (e : SyncError) → field bytes ≡ Err e → IsFault e

give_faults : {X : Type 0} (x : X) → Faults (give x)
unfolding give
give_faults x bytes e h = absurd cc

found_faults : {X : Type 0} (o : Option (X × List ℕ)) (e : SyncError) → found_or BadMessage o ≡ Err e → IsFault e
unfolding found_or
found_faults (Some x) e h = absurd cc
found_faults None e h = inl cc

or_faults : {X : Type 0} (there : List ℕ → Option (X × List ℕ)) → Faults (or_fail BadMessage there)
unfolding or_fail
or_faults there bytes e h = found_faults (there bytes) e h

passed_faults : (test : Bool) (bytes : List ℕ) (e : SyncError) → pass_or_fail test BadMessage bytes ≡ Err e → IsFault e
unfolding pass_or_fail
passed_faults true bytes e h = absurd cc
passed_faults false bytes e h = inl cc

require_faults : (test : Bool) → Faults (require test BadMessage)
unfolding require
require_faults test bytes e h = passed_faults test bytes e h

next_faults : {X Y : Type 0} (r : Result (X × List ℕ) SyncError) (next : X → Reads SyncError Y) → ((e : SyncError) → r ≡ Err e → IsFault e) → ((x : X) → Faults (next x)) → (e : SyncError) → and_next r next ≡ Err e → IsFault e
unfolding and_next
next_faults (Ok x) next f g e h = g x.0 x.1 e h
next_faults {X} (Err d) next f g e h = let same : d ≡ e = cc in f e (ap (λ (c : SyncError). let r : Result (X × List ℕ) SyncError = Err c in r) same)

then_faults : {X Y : Type 0} (first : Reads SyncError X) (next : X → Reads SyncError Y) → Faults first → ((x : X) → Faults (next x)) → Faults (and_then first next)
unfolding and_then
then_faults first next f g bytes e h = next_faults (first bytes) next (f bytes) g e h

repeat_faults : {S X : Type 0} (field : S → Reads SyncError X) (step : S → X → S) (n : ℕ) (s : S) → ((s : S) → Faults (field s)) → Faults (repeat_at field step n s)
unfolding repeat_at
repeat_faults field step zero s f bytes e h = absurd cc
repeat_faults field step (suc n) s f bytes e h =
    next_faults (field s bytes) (λ x. and_then (repeat_at field step n (step s x)) (λ xs. give (x ∷ xs))) (f s bytes)
    (λ x. then_faults (repeat_at field step n (step s x)) (λ xs. give (x ∷ xs)) (repeat_faults field step n (step s x) f) (λ xs. give_faults (x ∷ xs)))
    e h

version_faults : Faults message_version_at
unfolding message_version_at
version_faults =
    then_faults (or_fail BadMessage byte_at) _ (or_faults byte_at)
    (λ version. then_faults (require (version == 1 || version == 2) BadMessage) _ (require_faults (version == 1 || version == 2)) (λ _. give_faults version))

hash_faults : (before : Option Hash) → Faults (next_hash_at before)
unfolding next_hash_at
hash_faults before =
    then_faults (or_fail BadMessage (bytes_at 32)) _ (or_faults (bytes_at 32))
    (λ bytes. then_faults (require (rises before (record { 0 = bytes })) BadMessage) _ (require_faults (rises before (record { 0 = bytes }))) (λ _. give_faults (record { 0 = bytes })))

hashes_faults : (limit : ℕ) → Faults (hashes_at limit)
unfolding hashes_at
hashes_faults limit =
    then_faults (or_fail BadMessage (number_at w32)) _ (or_faults (number_at w32))
    (λ count. then_faults (require (nat_le count limit) BadMessage) _ (require_faults (nat_le count limit)) (λ _. repeat_faults next_hash_at next_before count None hash_faults))

known_faults : (version : ℕ) → Faults (known_at version)
unfolding known_at
known_faults version =
    elim (version == 2) as (λ b. Faults (cond b (hashes_at MAX_KNOWN) (give []))) [
      | true ↦ hashes_faults MAX_KNOWN
      | false ↦ give_faults []
    ]

fail_faults : Faults {X = ChangeParts} (fail BadChange)
unfolding fail
fail_faults bytes e h = inr cc

decoded_faults : (r : Result ChangeParts ChangeError) → Faults (change_or_fail r)
unfolding change_or_fail
decoded_faults (Ok c) = give_faults c
decoded_faults (Err d) = fail_faults

entry_faults : Faults framed_change_at
unfolding framed_change_at
entry_faults =
    then_faults (or_fail BadMessage (number_at w32)) _ (or_faults (number_at w32))
    (λ len. then_faults (or_fail BadMessage (bytes_at len)) _ (or_faults (bytes_at len)) (λ bytes. decoded_faults (change_at bytes)))

changes_faults : Faults changes_at
unfolding changes_at
changes_faults =
    then_faults (or_fail BadMessage (number_at w32)) _ (or_faults (number_at w32))
    (λ count. then_faults (require (nat_le count MAX_CHANGES) BadMessage) _ (require_faults (nat_le count MAX_CHANGES)) (λ _. repeat_faults each_entry stay count tt (λ _. entry_faults)))

parts_faults : Faults message_parts_at
unfolding message_parts_at
parts_faults =
    then_faults message_version_at _ version_faults
    (λ version. then_faults (hashes_at MAX_HASHES) _ (hashes_faults MAX_HASHES)
    (λ heads. then_faults (hashes_at MAX_HASHES) _ (hashes_faults MAX_HASHES)
    (λ wants. then_faults (known_at version) _ (known_faults version)
    (λ known. then_faults changes_at _ changes_faults (λ changes. give_faults (record { version = version; heads = heads; wants = wants; known = known; changes = changes }))))))

ended_faults : (r : Result (MessageParts × List ℕ) SyncError) → ((e : SyncError) → r ≡ Err e → IsFault e) → (e : SyncError) → end_or_fail r ≡ Err e → IsFault e
unfolding end_or_fail
ended_faults (Ok x) f e h = by_test (eqb (length x.1) 0) h where
  by_test : (b : Bool) → (let t : Result MessageParts SyncError = cond b (Ok x.0) (Err BadMessage) in t) ≡ Err e → IsFault e
  by_test true h = absurd cc
  by_test false h = inl cc
ended_faults (Err d) f e h = let same : d ≡ e = cc in f e (ap (λ (c : SyncError). let r : Result (MessageParts × List ℕ) SyncError = Err c in r) same)

pub message_faults : (bytes : List ℕ) (e : SyncError) → message_at bytes ≡ Err e → IsFault e
unfolding message_at
message_faults bytes e h = ended_faults (message_parts_at bytes) (parts_faults bytes) e h
