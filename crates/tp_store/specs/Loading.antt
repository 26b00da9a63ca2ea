-- What loading answers of any bytes: the layout from left to right, then the digest, then change by change.
use Rattle.std.specs.Prelude.{ℕ, ◌+◌, ◌-◌, ◌==◌, nat_le, List, [], ◌∷◌, ◌++◌, length, take, Option, Some, None, Result, Ok, Err, if◌then◌else◌}
use Rattle.std.specs.Int.{w32}
use Rattle.std.specs.Str.{bytes_eq}
use Rattle.sha2.specs.Sha256.{sha256}
use Rattle.tp_codec.specs.Prefix.{byte_at, bytes_at, number_at}
use Rattle.tp_codec.specs.Reading.{Reads, ◌>>=◌, ◌>>◌, give, or_fail, require, repeat_at}
use Rattle.tp_opid.specs.declared.doc_id.DocId.{DocId}
use Rattle.tp_layout.specs.declared.limits.TheConstants.{MAX_BYTES}
use Rattle.tp_layout.specs.declared.error.ChangeError.{ChangeError}
use Rattle.tp_layout.specs.declared.parts.ChangeParts.{ChangeParts}
use Rattle.tp_layout.specs.Reading.{change_at}
use Rattle.tp_history.specs.declared.error.GraphError.{GraphError}
use Rattle.tp_history.specs.Fit.{cause}
use Rattle.tp_store.specs.declared.error.StoreError.{StoreError}
use Rattle.tp_store.specs.declared.error.StoreError.TheVariants.{BadMagic, Truncated, BadDigest, Damaged, Refused}
use Rattle.tp_store.specs.declared.layout.Header.{Header}
use Rattle.tp_store.specs.declared.saved.TheConstants.{MAGIC, HEADER_LEN, DIGEST_LEN}

-- ---- the layout

-- just this letter
unfoldable pub letter_at : ℕ → Reads StoreError (Unit {0})
letter_at letter = do
  byte ← or_fail Truncated byte_at
  require (byte == letter) BadMagic

-- just these letters, one after another
unfoldable pub letters_at : List ℕ → Reads StoreError (Unit {0})
letters_at [] = give tt
letters_at (letter ∷ letters) = do
  letter_at letter
  letters_at letters

-- 16 bytes
unfoldable pub doc_id_at : Reads StoreError DocId
doc_id_at = do
  bytes ← or_fail Truncated (bytes_at 16)
  give (record { 0 = bytes })

-- a number of 4 bytes
unfoldable pub u32_at : Reads StoreError ℕ
u32_at = or_fail Truncated (number_at w32)

-- the digest
unfoldable pub digest_at : Reads StoreError (List ℕ)
digest_at = or_fail Truncated (bytes_at DIGEST_LEN)

-- the magic, the identifier, and how many changes follow
unfoldable pub header_at : Reads StoreError Header
header_at = do
  letters_at MAGIC
  id ← doc_id_at
  count ← u32_at
  give (record { id = id; count = count })

-- The bytes of a change after their length, which is at an offset: from 1 to 4,194,304 bytes.
unfoldable pub piece_at : ℕ → Reads StoreError (List ℕ)
piece_at at = do
  count ← u32_at
  require (nat_le 1 count) (Damaged at)
  require (nat_le count MAX_BYTES) (Damaged at)
  or_fail Truncated (bytes_at count)

-- the offset after a change whose length is at an offset
abbrev pub offset_after : ℕ → List ℕ → ℕ
offset_after at bytes = at + (4 + length bytes)

-- What the layout shows: the identifier, the bytes of each change, and the digest.
pub record SavedLayout : Type 0 where
  pub id : DocId
  pub pieces : List (List ℕ)
  pub digest : List ℕ

-- the bytes of each change, and the digest
unfoldable pub pieces_at : Header → Reads StoreError SavedLayout
pieces_at h = do
  pieces ← repeat_at piece_at offset_after h.count HEADER_LEN
  digest ← digest_at
  give (record { id = h.id; pieces = pieces; digest = digest })

unfoldable pub layout_at : Reads StoreError SavedLayout
layout_at = do
  h ← header_at
  pieces_at h

-- Nothing follows; else the first byte too many is damaged. The size is that of all bytes.
unfoldable pub end_or_damaged : {X : Type 0} → ℕ → Result (X × List ℕ) StoreError → Result X StoreError
end_or_damaged size (Ok x) = if length x.1 == 0 then Ok x.0 else Err (Damaged (size - length x.1))
end_or_damaged size (Err e) = Err e

-- what the layout of the bytes shows, or its first fault from the start
unfoldable pub layout_of : List ℕ → Result SavedLayout StoreError
layout_of bytes = end_or_damaged (length bytes) (layout_at bytes)

-- ---- the changes

-- one and then what its value says
abbrev pub and_with : {X Y : Type 0} → Result X StoreError → (X → Result Y StoreError) → Result Y StoreError
and_with (Ok x) next = next x
and_with (Err e) next = Err e

-- the change that was read, whose length is at an offset
abbrev pub or_damaged_at : ℕ → Result ChangeParts ChangeError → Result ChangeParts StoreError
or_damaged_at at (Ok c) = Ok c
or_damaged_at at (Err e) = Err (Damaged at)

-- the changes with one more, or the cause why it can't enter
abbrev pub push_or_refuse : List ChangeParts → ChangeParts → Option GraphError → Result (List ChangeParts) StoreError
push_or_refuse C c None = Ok (C ++ c ∷ [])
push_or_refuse C c (Some e) = Err (Refused e)

-- the changes with the one that the bytes are, whose length is at an offset
abbrev pub with_piece : ℕ → List ChangeParts → List ℕ → Result (List ChangeParts) StoreError
with_piece at C bytes = and_with (or_damaged_at at (change_at bytes)) (λ c. push_or_refuse C c (cause C c))

-- the changes with those that the pieces are; the first one's length is at an offset
unfoldable pub with_pieces : ℕ → List ChangeParts → List (List ℕ) → Result (List ChangeParts) StoreError
with_pieces at C [] = Ok C
with_pieces at C (bytes ∷ pieces) = and_with (with_piece at C bytes) (λ D. with_pieces (offset_after at bytes) D pieces)

-- ---- the whole

-- the digest is that of all bytes before the last 32
abbrev pub digest_of : List ℕ → List ℕ
digest_of bytes = sha256 (take (length bytes - DIGEST_LEN) bytes)

-- the changes with the identifier
abbrev pub with_id : DocId → Result (List ChangeParts) StoreError → Result (DocId × List ChangeParts) StoreError
with_id id (Ok C) = Ok (id, C)
with_id id (Err e) = Err e

-- the identifier and the changes that a layout has, where its digest is that of the bytes
abbrev pub document_of_layout : List ℕ → SavedLayout → Result (DocId × List ChangeParts) StoreError
document_of_layout bytes l =
    if bytes_eq l.digest (digest_of bytes) then with_id l.id (with_pieces HEADER_LEN [] l.pieces)
    else Err BadDigest

-- the identifier and the changes whose saved file the bytes are, or the refusal
unfoldable pub document_of_bytes : List ℕ → Result (DocId × List ChangeParts) StoreError
document_of_bytes bytes = and_with (layout_of bytes) (document_of_layout bytes)
