-- What a page is answered.
use Rattle.std.specs.Prelude.{◌≡◌, List, String}
use Rattle.std.specs.List.{AllZip}
use Rattle.std.specs.Str.{chars}
use Rattle.std.specs.String.{string_bytes}
use Rattle.std.specs.declared.alloc.Global.{Global}
use Rattle.hex.specs.Hex.{encode_lower}
use Rattle.tp_change.specs.ChangeHash.{hash_of}
use Rattle.tp_layout.specs.declared.parts.ChangeParts.{ChangeParts}
use Rattle.tp_snapshot.specs.declared.differences.Difference.{Difference}
use Rattle.tp_opid.specs.declared.actor.Actor.{Actor}
use Rattle.tp_opid.specs.declared.hash.Hash.{Hash}
use Rattle.tp_window.specs.declared.answer.ShownChange.{ShownChange}
use Rattle.tp_window.specs.declared.answer.ShownSplice.{ShownSplice}

-- The text is the hexadecimal digits of the hash, in lower case.
abbrev pub WritesHash : Hash → String Global → Type 0
WritesHash hash text = string_bytes text ≡ encode_lower hash.0

-- The texts are those of the hashes, one for one and in order.
abbrev pub WriteHashes : List Hash → List (String Global) → Type 0
WriteHashes hashes texts = AllZip WritesHash hashes texts

-- The text is the hexadecimal digits of the actor, in lower case.
abbrev pub WritesActor : Actor → String Global → Type 0
WritesActor actor text = string_bytes text ≡ encode_lower actor.0

-- The shown splice is the difference.
pub record IsShownDifference (difference : Difference) (shown : ShownSplice) : Type 0 where
  pub at : shown.at ≡ difference.at
  pub del : shown.del ≡ difference.del
  pub text : chars shown.text.now ≡ difference.text

-- The shown splices are the differences, one for one and in order.
abbrev pub ShowDifferences : List Difference → List ShownSplice → Type 0
ShowDifferences differences shown = AllZip IsShownDifference differences shown

-- The shown change is the change.
pub record IsShownChange (change : ChangeParts) (shown : ShownChange) : Type 0 where
  pub hash : WritesHash (hash_of change) shown.hash
  pub actor : WritesActor change.actor shown.actor
  pub time : shown.time ≡ change.time
  pub message : chars shown.message.now ≡ change.message
  pub deps : WriteHashes change.deps shown.deps.items

-- The shown changes are the changes, one for one and in order.
abbrev pub AreShownChanges : List ChangeParts → List ShownChange → Type 0
AreShownChanges changes shown = AllZip IsShownChange changes shown
