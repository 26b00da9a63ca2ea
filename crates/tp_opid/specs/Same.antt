-- Whether two identifiers, actors, hashes or references are one.
use Rattle.std.specs.Prelude.{Bool, true, false}
use Rattle.std.specs.Ordering.{is_eq}
use Rattle.tp_opid.specs.declared.actor.Actor.{Actor}
use Rattle.tp_opid.specs.declared.hash.Hash.{Hash}
use Rattle.tp_opid.specs.declared.doc_id.DocId.{DocId}
use Rattle.tp_opid.specs.declared.op_id.OpId.{OpId}
use Rattle.tp_opid.specs.declared.op_id.Place.{Place}
use Rattle.tp_opid.specs.declared.op_id.Place.TheVariants.{Start, After}
use Rattle.tp_opid.specs.Order.{actor_cmp, hash_cmp, doc_id_cmp, id_cmp}

unfoldable pub same_actor : Actor → Actor → Bool
same_actor a b = is_eq (actor_cmp a b)

unfoldable pub same_hash : Hash → Hash → Bool
same_hash a b = is_eq (hash_cmp a b)

unfoldable pub same_doc : DocId → DocId → Bool
same_doc a b = is_eq (doc_id_cmp a b)

unfoldable pub id_eq : OpId → OpId → Bool
id_eq a b = is_eq (id_cmp a b)

abbrev pub place_eq : Place → Place → Bool
place_eq Start Start = true
place_eq Start (After b) = false
place_eq (After a) Start = false
place_eq (After a) (After b) = id_eq a b
