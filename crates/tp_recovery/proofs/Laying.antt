-- A record that is at the start of bytes, by its parts.
use Rattle.std.proofs.Common.{◌≡◌, ℕ, ◌+◌, ◌≤◌, false, inr, List, ◌++◌, length, take, drop, refl, sym, ap, ◌∙◌, arith}
use Rattle.std.specs.Int.{w32, to_be_bytes}
use Rattle.std.proofs.lemmas.Bool.{both_ways}
use Rattle.std.proofs.lemmas.List.{take_at, drop_at, length-append}
use Rattle.tp_opid.specs.declared.hash.Hash.{Hash}
use Rattle.tp_opid.specs.Same.{same_hash}
use Rattle.tp_opid.proofs.Orders.{same_hash-itself}
use Rattle.tp_layout.specs.declared.parts.ChangeParts.{ChangeParts}
use Rattle.tp_change.specs.ChangeHash.{hash_of}
use Rattle.tp_layout.specs.Limits.{IsChange}
use Rattle.tp_layout.specs.Spelling.{spelling}
use Rattle.tp_layout.proofs.SpellingLaws.{one_spelling_is}
use Rattle.tp_recovery.specs.Layout.{record_of}
use Rattle.tp_recovery.specs.Reading.{IsRecordLayout}
use Rattle.tp_recovery.specs.Refusals.{IsNoChange, IsDamaged}
use Rattle.tp_recovery.proofs.RecordLaws.{record_spelled}

-- bytes of a change with another digest
pub wrong_digest : (c : ChangeParts) (bytes : List ℕ) (digest : Hash) → IsChange c → bytes ≡ spelling c → same_hash (hash_of c) digest ≡ false → IsNoChange bytes digest.0
wrong_digest c bytes digest is e apart d js f g =
    let made : List ℕ → Hash = λ l. record { 0 = l } in
    let same : hash_of c ≡ digest = ap hash_of (one_spelling_is c d is js (sym e ∙ f)) ∙ ap made (sym g) in
    both_ways (same_hash (hash_of c) digest) apart (ap (same_hash (hash_of c)) (sym same) ∙ same_hash-itself (hash_of c))

-- the parts of a change's record
pub laid_record : (bytes change : List ℕ) (digest : Hash) (rest : List ℕ) (c : ChangeParts) → IsRecordLayout bytes change digest rest → change ≡ spelling c → digest ≡ hash_of c → bytes ≡ record_of c ++ rest
laid_record bytes change digest rest c laid e f =
    laid.spelled
    ∙ ap (λ (b : List ℕ). to_be_bytes w32 (length b) ++ (b ++ (digest.0 ++ rest))) e
    ∙ ap (λ (h : Hash). to_be_bytes w32 (length (spelling c)) ++ (spelling c ++ (h.0 ++ rest))) f
    ∙ sym (record_spelled c rest)

-- the parts of a record that is no change's
pub laid_damaged : (bytes change : List ℕ) (digest : Hash) (rest : List ℕ) → IsRecordLayout bytes change digest rest → IsNoChange change digest.0 → IsDamaged bytes
laid_damaged bytes change digest rest laid none =
    let size = length change in
    let beyond = change ++ (digest.0 ++ rest) in
    let few = laid.few in
    let whole : size + 32 ≤ length beyond =
    let outer = length-append change (digest.0 ++ rest) in let inner = length-append digest.0 rest in let own = laid.digest_len in omega arith in
    let prefix : take size beyond ≡ change = take_at change (digest.0 ++ rest) size refl in
    let back : take 32 (drop size beyond) ≡ digest.0 = ap (take 32) (drop_at change (digest.0 ++ rest) size refl) ∙ take_at digest.0 rest 32 laid.digest_len in
    record {
      size = size;
      rest = beyond;
      fits = omega arith;
      spelled = laid.spelled;
      wrong = inr (inr (whole, λ c is e f. none c is (sym prefix ∙ e) (sym back ∙ f)));
    }
