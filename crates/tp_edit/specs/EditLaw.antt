-- What an edit does to the text.
use Rattle.std.specs.Prelude.{◌≡◌, ℕ, ◌+◌, List, ◌++◌, length, IsTrue}
use Rattle.tp_list.specs.Members.{In}
use Rattle.tp_opid.specs.declared.actor.Actor.{Actor}
use Rattle.tp_opid.specs.declared.op_id.OpId.{OpId}
use Rattle.tp_opid.specs.Insert.{Insert}
use Rattle.tp_opid.specs.Tree.{IsThere, IsAboveAll, IsTree}
use Rattle.tp_change.specs.declared.op.Op.{Op}
use Rattle.tp_change.specs.Operations.{id_of, ops_from}
use Rattle.tp_change.specs.Elements.{inserts_in, deletes_in, refers}
use Rattle.tp_rga.specs.Order.{IsInOrder}
use Rattle.tp_rga.specs.Shown.{visible_of}
use Rattle.tp_edit.specs.Text.{chars_of}
use Rattle.tp_edit.specs.Applying.{CanApply, Extends}
use Rattle.tp_edit.specs.declared.splice.Splice.{Splice}
use Rattle.tp_edit.specs.Splices.{AllInRange, total_count, all_spliced}
use Rattle.tp_edit.specs.EditRecords.{ids_of, records_of_edit, ids_after_all}

-- A text to edit: the elements T, a list L of them in order, the deletes R of some of them, and a counter n of the
-- actor that makes an identifier above them all.
pub record IsEditable (T L : List Insert) (R : List (OpId × OpId)) (actor : Actor) (n : ℕ) : Type 0 where
  pub tree : IsTree T
  pub order : IsInOrder T L
  pub above : IsAboveAll T (id_of actor n)
  pub targets : (r : OpId × OpId) → In r R → IsThere T r.0

-- the operations of an edit of the text that L and R show
abbrev pub ops_of_edit : Actor → ℕ → List Insert → List (OpId × OpId) → List Splice → List Op
ops_of_edit actor n L R ss = ops_from actor n (records_of_edit actor n (ids_of (visible_of R L)) ss)

-- The operations of the edit may be applied to the text, and what they leave is the text with each splice done in
-- turn: by its identifiers, and by its characters.
pub record DoesItsSplices (T L : List Insert) (R : List (OpId × OpId)) (actor : Actor) (n : ℕ) (ss : List Splice) : Type 0 where
  pub refers : IsTrue (refers T (ops_of_edit actor n L R ss))
  pub applies : CanApply T (ops_of_edit actor n L R ss)
  pub ids : (M : List Insert) → IsInOrder (T ++ inserts_in (ops_of_edit actor n L R ss)) M → ids_of (visible_of (R ++ deletes_in (ops_of_edit actor n L R ss)) M) ≡ ids_after_all actor n (ids_of (visible_of R L)) ss
  pub text : (M : List Insert) → IsInOrder (T ++ inserts_in (ops_of_edit actor n L R ss)) M → chars_of (visible_of (R ++ deletes_in (ops_of_edit actor n L R ss)) M) ≡ all_spliced (chars_of (visible_of R L)) ss
  -- the next counter makes an identifier above all that are there then
  pub ready : (M : List Insert) → IsInOrder (T ++ inserts_in (ops_of_edit actor n L R ss)) M → IsEditable (T ++ inserts_in (ops_of_edit actor n L R ss)) M (R ++ deletes_in (ops_of_edit actor n L R ss)) actor (n + total_count ss)

-- Each edit that is in range does its splices.
abbrev pub EditLaw : Type 0
EditLaw = (T L : List Insert) (R : List (OpId × OpId)) (actor : Actor) (n : ℕ) (ss : List Splice) → IsEditable T L R actor n → AllInRange (length (visible_of R L)) ss → DoesItsSplices T L R actor n ss

-- What a sequence shows that took in the operations of an edit: the text with each splice done in turn.
abbrev pub AppliedLaw : Type 0
AppliedLaw = (T L : List Insert) (R : List (OpId × OpId)) (actor : Actor) (n : ℕ) (ss : List Splice) (M : List Insert) → IsEditable T L R actor n → AllInRange (length (visible_of R L)) ss → Extends L M (ops_of_edit actor n L R ss) → chars_of (visible_of (R ++ deletes_in (ops_of_edit actor n L R ss)) M) ≡ all_spliced (chars_of (visible_of R L)) ss
