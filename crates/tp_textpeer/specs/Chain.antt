-- What is kept of the changes of a log that came so far.
use Rattle.std.specs.Prelude.{◌≡◌, ℕ, List, Option}
use Rattle.tp_opid.specs.declared.actor.Actor.{Actor}
use Rattle.tp_opid.specs.declared.hash.Hash.{Hash}
use Rattle.tp_opid.specs.declared.op_id.OpId.{OpId}
use Rattle.tp_opid.specs.Insert.{Insert}
use Rattle.tp_opid.specs.Tree.{IsTree, IsAboveAll}
use Rattle.tp_layout.specs.declared.parts.ChangeParts.{ChangeParts}
use Rattle.tp_change.specs.Elements.{inserts, deletes, next_counter}
use Rattle.tp_change.specs.Operations.{id_of}
use Rattle.tp_rga.specs.Order.{IsInOrder}
use Rattle.tp_textpeer.specs.Log.{first_actor, last_hash}

-- The elements L are in order for the changes C, R are their deletes, and the actor, the hash and the counter are
-- what the next change is judged by.
pub record Remembers (C : List ChangeParts) (L : List Insert) (R : List (OpId × OpId)) (a : Option Actor) (h : Option Hash) (n : ℕ) : Type 0 where
  pub tree : IsTree (inserts C)
  pub order : IsInOrder (inserts C) L
  pub removals : R ≡ deletes C
  pub author : a ≡ first_actor C
  pub last : h ≡ last_hash C
  pub next : n ≡ next_counter C

-- Every element is below the identifiers with the counter n, whoever the actor is.
abbrev pub AllBelowCounter : List Insert → ℕ → Type 0
AllBelowCounter L n = (a : Actor) → IsAboveAll L (id_of a n)
