-- Why a page's request is refused.
use Rattle.std.specs.Prelude.{◌≡◌, ◌⊎◌, ℕ, List, Option, String, Vec, false, length}
use Rattle.std.specs.String.{string_bytes}
use Rattle.std.specs.declared.alloc.Global.{Global}
use Rattle.tp_layout.specs.declared.parts.ChangeParts.{ChangeParts}
use Rattle.tp_history.specs.Named.{has, has_all}
use Rattle.tp_opid.specs.HexText.{IsHexOf}
use Rattle.tp_opid.specs.declared.actor.Actor.{Actor}
use Rattle.tp_opid.specs.declared.hash.Hash.{Hash}
use Rattle.tp_document.specs.declared.error.DocError.TheVariants as doc
use Rattle.tp_peer.specs.declared.editing_at.EditAtError.TheVariants as at
use Rattle.tp_peer.specs.declared.error.PeerError.TheVariants as peer
use Rattle.tp_peer.specs.PeerState.{PeerState}
use Rattle.tp_window.specs.Requests.{MeansHeads, RefusesEditAs, RefusesMeaning, RefusesResuming}
use Rattle.tp_window.specs.declared.error.WindowError.{WindowError}
use Rattle.tp_window.specs.declared.error.WindowError.TheVariants.{BadRequest, Edit, Forgotten, OutOfMemory}
use Rattle.tp_window.specs.declared.memory.Memory.{Memory}
use Rattle.tp_window.specs.declared.request.Request.{Request}
use Rattle.tp_window.specs.declared.request.Request.TheVariants as request
use Rattle.tp_window.specs.declared.window.Window.{Window}

-- The text isn't the digits of 16 bytes, as an actor's are.
abbrev pub SpellsNoActor : List ℕ → Type 0
SpellsNoActor text = (actor : Actor) → length actor.0 ≡ 16 → IsHexOf text actor.0 → ⊥

-- Why a page isn't resumed: at no heads, or its text of an actor spells none.
abbrev pub RefusesMadeBy : List ℕ → Option (Vec (String Global) Global) → Option ℕ → List ChangeParts → WindowError → Type 0
RefusesMadeBy actor heads count C BadRequest = RefusesResuming C heads count BadRequest ⊎ SpellsNoActor actor
RefusesMadeBy actor heads count C Forgotten = RefusesResuming C heads count Forgotten
RefusesMadeBy actor heads count C OutOfMemory = Unit {0}
RefusesMadeBy actor heads count C (Edit e) = ⊥

-- Why what is new isn't answered: the request means no heads, one of those that it means is no change's, or there is no
-- memory.
abbrev pub RefusesNewsSince : Memory → Option (Vec (String Global) Global) → Option ℕ → List ChangeParts → WindowError → Type 0
RefusesNewsSince memory heads on C BadRequest = RefusesMeaning memory heads on BadRequest
RefusesNewsSince memory heads on C Forgotten = RefusesMeaning memory heads on Forgotten
RefusesNewsSince memory heads on C OutOfMemory = Unit {0}
RefusesNewsSince memory heads on C (Edit e) =
    (e ≡ at.Peer peer.OutOfMemory)
    ⊎ ((e ≡ at.Peer (peer.Doc doc.UnknownHead)) × ((H : List Hash) × MeansHeads memory heads on H × (has_all C H ≡ false)))

-- Why what a change did isn't answered: the text spells no hash, the hash that it spells is no change's, or there is no
-- memory.
abbrev pub RefusesEffectOf : List ℕ → List ChangeParts → WindowError → Type 0
RefusesEffectOf hash C BadRequest = (h : Hash) → length h.0 ≡ 32 → IsHexOf hash h.0 → ⊥
RefusesEffectOf hash C Forgotten = ⊥
RefusesEffectOf hash C OutOfMemory = ⊥
RefusesEffectOf hash C (Edit e) =
    (e ≡ at.Peer peer.OutOfMemory) ⊎ ((e ≡ at.Peer (peer.Doc doc.UnknownHead)) × ((h : Hash) × IsHexOf hash h.0 × (has C h ≡ false)))

-- Why a window's request of a peer p is refused, and what that leaves.
abbrev pub RefusesRequest : Window → Request → ℕ → PeerState → WindowError → PeerState → Type 0
RefusesRequest window request.Open time p e p' = (p' ≡ p) × (e ≡ Edit (at.Peer peer.OutOfMemory))
RefusesRequest window (request.Resume who heads count) time p e p' = (p' ≡ p) × RefusesMadeBy (string_bytes who) heads count p.applied e
RefusesRequest window (request.Edit edit) time p e p' = RefusesEditAs window edit time p e p'
RefusesRequest window (request.Look heads on) time p e p' = (p' ≡ p) × RefusesNewsSince window.memory heads on p.applied e
RefusesRequest window (request.Changes from most) time p e p' = ⊥
RefusesRequest window (request.Change hash) time p e p' = (p' ≡ p) × RefusesEffectOf (string_bytes hash) p.applied e
