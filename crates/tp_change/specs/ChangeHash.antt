-- The hash of a change.
use Rattle.sha2.specs.Sha256.{sha256}
use Rattle.tp_opid.specs.declared.hash.Hash.{Hash}
use Rattle.tp_layout.specs.declared.parts.ChangeParts.{ChangeParts}
use Rattle.tp_layout.specs.Spelling.{spelling}

-- the SHA-256 of the bytes that spell the change
unfoldable pub hash_of : ChangeParts → Hash
hash_of c = record { 0 = sha256 (spelling c) }
