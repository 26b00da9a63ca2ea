-- What operations do to a sequence of elements.
use Rattle.std.specs.Prelude.{◌≡◌, List, [], ◌∷◌, ◌++◌, Bool, true, false, Result, Ok, Err}
use Rattle.tp_list.specs.Members.{In, SameMembers}
use Rattle.tp_opid.specs.declared.op_id.OpId.{OpId}
use Rattle.tp_opid.specs.Insert.{Insert}
use Rattle.tp_opid.specs.Order.{Below}
use Rattle.tp_opid.specs.Tree.{IsThere, IsTree, CanInsert}
use Rattle.tp_change.specs.declared.op.Op.{Op}
use Rattle.tp_change.specs.declared.op.Op.TheVariants as op_of
use Rattle.tp_change.specs.Elements.{element, inserts_in, deletes_in, refers}
use Rattle.tp_rga.specs.Order.{IsInOrder}

-- The operations may come one after another where the elements S are there: each insert has a new identifier above
-- that of its reference, and each reference and target is there by then.
abbrev pub CanApply : List Insert → List Op → Type 0
CanApply S [] = Unit {0}
CanApply S (op_of.Insert id after ch ∷ ops) = CanInsert S id after × CanApply (S ++ element id after ch ∷ []) ops
CanApply S (op_of.Delete id target ∷ ops) = IsThere S target × CanApply S ops

-- The new list has the elements of the old one and those that the operations insert; and where the old one was in
-- order for a tree, the new one is in order for that tree with these.
pub record Extends (old new : List Insert) (ops : List Op) : Type 0 where
  pub members : SameMembers (old ++ inserts_in ops) new
  pub order : (T : List Insert) → IsTree T → IsInOrder T old → IsTree (T ++ inserts_in ops) × IsInOrder (T ++ inserts_in ops) new

-- A beginning of the operations is in: those of `done`. `left` are after them.
pub record IsPartlyApplied (old new : List Insert) (R Q : List (OpId × OpId)) (ops done left : List Op) : Type 0 where
  pub whole : done ++ left ≡ ops
  pub elements : Extends old new done
  pub removals : Q ≡ R ++ deletes_in done

-- What is left where operations went in one after another: none where all are in; else those from one on whose
-- reference isn't there, or for which memory was refused.
abbrev pub IsRemainder : {E : Type 0} → List Insert → Result Bool E → List Op → Type 0
IsRemainder new (Ok true) left = left ≡ []
IsRemainder new (Ok false) left = (op : Op) × (rest : List Op) × (left ≡ op ∷ rest) × (refers new (op ∷ []) ≡ false)
IsRemainder new (Err e) left = (op : Op) × (rest : List Op) × (left ≡ op ∷ rest)
