-- The orders of identifiers, actors and hashes. They are opaque words, so that no goal above this crate speaks of
-- bytes: the laws in proofs/Orders say all that is to be known of them.
use Rattle.std.specs.Prelude.{◌≡◌}
use Rattle.std.specs.Ordering.{nat_cmp, ordering_then}
use Rattle.std.specs.declared.cmp.Ordering.TheVariants.{Less, Equal, Greater}
use Rattle.std.specs.declared.cmp.Ordering.{Ordering}
use Rattle.std.specs.Cmp.Lexicographic.{slice_cmp}
use Rattle.tp_opid.specs.declared.actor.Actor.{Actor}
use Rattle.tp_opid.specs.declared.hash.Hash.{Hash}
use Rattle.tp_opid.specs.declared.doc_id.DocId.{DocId}
use Rattle.tp_opid.specs.declared.op_id.OpId.{OpId}
use Rattle.tp_opid.specs.declared.op_id.Place.{Place}
use Rattle.tp_opid.specs.declared.op_id.Place.TheVariants.{Start, After}

-- by the 16 bytes, the first that differ
unfoldable pub actor_cmp : Actor → Actor → Ordering
actor_cmp a b = slice_cmp nat_cmp a.0 b.0

-- by the 32 bytes, the first that differ
unfoldable pub hash_cmp : Hash → Hash → Ordering
hash_cmp a b = slice_cmp nat_cmp a.0 b.0

unfoldable pub doc_id_cmp : DocId → DocId → Ordering
doc_id_cmp a b = slice_cmp nat_cmp a.0 b.0

-- by counter, and then by actor
unfoldable pub id_cmp : OpId → OpId → Ordering
id_cmp a b = ordering_then (nat_cmp a.counter b.counter) (slice_cmp nat_cmp a.actor.0 b.actor.0)

-- a is below b in the order of identifiers
unfoldable pub Below : OpId → OpId → Type 0
Below a b = id_cmp a b ≡ Less

-- References: the start is below every identifier, and equal to itself alone.
abbrev pub place_cmp : Place → Place → Ordering
place_cmp Start Start = Equal
place_cmp Start (After b) = Less
place_cmp (After a) Start = Greater
place_cmp (After a) (After b) = id_cmp a b
