-- What a page's request says, and what it does.
use Rattle.std.specs.Prelude.{◌≡◌, ◌⊎◌, ℕ, ◌<◌, ◌≤◌, List, [], String, Option, None, Some, Any, Result, Err, Vec, length, take}
use Rattle.std.specs.List.{AllZip}
use Rattle.std.specs.Str.{chars}
use Rattle.std.specs.String.{string_bytes}
use Rattle.std.specs.declared.alloc.Global.{Global}
use Rattle.tp_document.specs.Editing.{asking}
use Rattle.tp_edit.specs.declared.splice.Splice.{Splice}
use Rattle.tp_history.specs.Heads.{heads as heads_of}
use Rattle.tp_layout.specs.declared.parts.ChangeParts.{ChangeParts}
use Rattle.tp_opid.specs.HexText.{IsHexOf}
use Rattle.tp_opid.specs.declared.actor.Actor.{Actor}
use Rattle.tp_opid.specs.declared.hash.Hash.{Hash}
use Rattle.tp_peer.specs.EditingAt.{StepsAt}
use Rattle.tp_peer.specs.PeerState.{PeerState}
use Rattle.tp_peer.specs.declared.editing_at.EditAtError.{EditAtError}
use Rattle.tp_window.specs.Numbers.{HadHeads}
use Rattle.tp_window.specs.Windows.{IsToldAs}
use Rattle.tp_window.specs.declared.error.WindowError.{WindowError}
use Rattle.tp_window.specs.declared.error.WindowError.TheVariants as refusal
use Rattle.tp_window.specs.declared.error.WindowError.TheVariants.{BadRequest, Forgotten, OutOfMemory}
use Rattle.tp_window.specs.declared.memory.Memory.{Memory}
use Rattle.tp_window.specs.declared.request.Request.{Request}
use Rattle.tp_window.specs.declared.request.Request.TheVariants.{Change, Changes, Edit, Look, Open, Resume}
use Rattle.tp_window.specs.declared.request.TypedEdit.{TypedEdit}
use Rattle.tp_window.specs.declared.request.TypedSplice.{TypedSplice}
use Rattle.tp_window.specs.declared.window.Window.{Window}

-- The text is the hexadecimal digits of the hash, each in either case.
abbrev pub SpellsHash : String Global → Hash → Type 0
SpellsHash text hash = IsHexOf (string_bytes text) hash.0

-- The texts are those of the hashes, one for one and in order.
abbrev pub SpellHashes : List (String Global) → List Hash → Type 0
SpellHashes texts hashes = AllZip SpellsHash texts hashes

-- The text is the digits of no hash.
abbrev pub SpellsNoHash : String Global → Type 0
SpellsNoHash text = (hash : Hash) → length hash.0 ≡ 32 → SpellsHash text hash → ⊥

-- The heads that a request means: those that its texts spell, or those that the answer with its number had. It says one of
-- these, and not both.
abbrev pub MeansHeads : Memory → Option (Vec (String Global) Global) → Option ℕ → List Hash → Type 0
MeansHeads memory (Some texts) None H = SpellHashes texts.items H
MeansHeads memory None (Some number) H = HadHeads memory number H
MeansHeads memory (Some texts) (Some number) H = ⊥
MeansHeads memory None None H = ⊥

-- an edit on the heads of the answer with the number, and one on those that the texts spell
abbrev pub by_number : ℕ → Vec TypedSplice Global → TypedEdit
by_number number splices = record { heads = None; on = Some number; splices = splices }

abbrev pub by_texts : Vec (String Global) Global → Vec TypedSplice Global → TypedEdit
by_texts texts splices = record { heads = Some texts; on = None; splices = splices }

-- Why a request means no heads: it says neither or both, some text spells no hash, the number is no answer's or its heads are
-- forgotten, or there is no memory.
abbrev pub RefusesMeaning : Memory → Option (Vec (String Global) Global) → Option ℕ → WindowError → Type 0
RefusesMeaning memory (Some texts) None BadRequest = Any SpellsNoHash texts.items
RefusesMeaning memory None (Some number) BadRequest = ⊥
RefusesMeaning memory (Some texts) (Some number) BadRequest = Unit {0}
RefusesMeaning memory None None BadRequest = Unit {0}
RefusesMeaning memory None (Some number) Forgotten = (H : List Hash) → HadHeads memory number H → ⊥
RefusesMeaning memory None None Forgotten = ⊥
RefusesMeaning memory (Some texts) on Forgotten = ⊥
RefusesMeaning memory heads on OutOfMemory = Unit {0}
RefusesMeaning memory heads on (refusal.Edit e) = ⊥

-- The heads of the first changes of C, as many as said: those of a document when it had no more.
pub record AreFirstHeads (C : List ChangeParts) (count : ℕ) (H : List Hash) : Type 0 where
  pub there : count ≤ length C
  pub heads : H ≡ heads_of (take count C)

-- The heads that a page had which is resumed: those that its texts spell, or those of the first changes, as many as it says. It
-- says one of these, and not both.
abbrev pub ResumesHeads : List ChangeParts → Option (Vec (String Global) Global) → Option ℕ → List Hash → Type 0
ResumesHeads C (Some texts) None H = SpellHashes texts.items H
ResumesHeads C None (Some count) H = AreFirstHeads C count H
ResumesHeads C (Some texts) (Some count) H = ⊥
ResumesHeads C None None H = ⊥

-- Why a page is resumed at no heads: it says neither or both, some text spells no hash, there are fewer changes, or there is no
-- memory.
abbrev pub RefusesResuming : List ChangeParts → Option (Vec (String Global) Global) → Option ℕ → WindowError → Type 0
RefusesResuming C (Some texts) None BadRequest = Any SpellsNoHash texts.items
RefusesResuming C None (Some count) BadRequest = ⊥
RefusesResuming C (Some texts) (Some count) BadRequest = Unit {0}
RefusesResuming C None None BadRequest = Unit {0}
RefusesResuming C None (Some count) Forgotten = length C < count
RefusesResuming C None None Forgotten = ⊥
RefusesResuming C (Some texts) count Forgotten = ⊥
RefusesResuming C heads count OutOfMemory = Unit {0}
RefusesResuming C heads count (refusal.Edit e) = ⊥

-- The splice of an edit is the typed one.
pub record IsTypedSplice (typed : TypedSplice) (splice : Splice) : Type 0 where
  pub at : splice.at ≡ typed.at
  pub del : splice.del ≡ typed.del
  pub text : splice.text.now ≡ string_bytes typed.text

-- The splices are the typed ones, one for one and in order.
abbrev pub AreTypedSplices : List TypedSplice → List Splice → Type 0
AreTypedSplices typed splices = AllZip IsTypedSplice typed splices

-- The window's edit, at that time and on the heads that it means, has the answer and leaves p'.
abbrev pub EditsAs : Window → TypedEdit → ℕ → PeerState → Result (Option Hash) EditAtError → PeerState → Type 0
EditsAs window edit time p answer p' =
    (H : List Hash) × (splices : List Splice) × MeansHeads window.memory edit.heads edit.on H × AreTypedSplices edit.splices.items splices
    × StepsAt p H (asking window.actor splices time (chars [])) answer p'

-- Why an edit isn't made or isn't reported, and what that leaves: it means no heads, there is no memory, or the edit has an
-- answer that is reported so, or for want of memory.
abbrev pub RefusesEditAs : Window → TypedEdit → ℕ → PeerState → WindowError → PeerState → Type 0
RefusesEditAs window edit time p BadRequest p' = RefusesMeaning window.memory edit.heads edit.on BadRequest × (p' ≡ p)
RefusesEditAs window edit time p Forgotten p' = RefusesMeaning window.memory edit.heads edit.on Forgotten × (p' ≡ p)
RefusesEditAs window edit time p OutOfMemory p' = p' ≡ p
RefusesEditAs window edit time p (refusal.Edit e) p' =
    (answer : Result (Option Hash) EditAtError) × EditsAs window edit time p answer p' × IsToldAs answer (Err e)

-- The peer stayed, or it is left by such an edit.
abbrev pub MayEditAs : Window → TypedEdit → ℕ → PeerState → PeerState → Type 0
MayEditAs window edit time p p' = (p' ≡ p) ⊎ ((answer : Result (Option Hash) EditAtError) × EditsAs window edit time p answer p')

-- What a request does at the time: an edit does what it says, and each other request leaves the peer as it is.
abbrev pub DoesRequest : Window → Request → ℕ → PeerState → PeerState → Type 0
DoesRequest window (Edit edit) time p p' = MayEditAs window edit time p p'
DoesRequest window Open time p p' = p' ≡ p
DoesRequest window (Resume who heads count) time p p' = p' ≡ p
DoesRequest window (Look heads on) time p p' = p' ≡ p
DoesRequest window (Changes from most) time p p' = p' ≡ p
DoesRequest window (Change hash) time p p' = p' ≡ p

-- The peer stayed, or some request was done at the time.
abbrev pub MayDo : Window → ℕ → PeerState → PeerState → Type 0
MayDo window time p p' = (p' ≡ p) ⊎ ((request : Request) × DoesRequest window request time p p')
