-- What a page's request comes to, and which answer shows it.
use Rattle.std.specs.Prelude.{◌≡◌, ℕ, List, [], String, Option, Some, None, Ok, Vec, drop, length, min, take}
use Rattle.std.specs.Str.{chars}
use Rattle.std.specs.String.{string_bytes}
use Rattle.std.specs.declared.alloc.Global.{Global}
use Rattle.hex.specs.Hex.{encode_lower}
use Rattle.tp_layout.specs.declared.parts.ChangeParts.{ChangeParts}
use Rattle.tp_document.specs.Editing.{asking}
use Rattle.tp_snapshot.specs.Effects.{IsEffect}
use Rattle.tp_snapshot.specs.declared.effects.Effect.{Effect}
use Rattle.tp_edit.specs.declared.splice.Splice.{Splice}
use Rattle.tp_history.specs.Heads.{heads as heads_of}
use Rattle.tp_opid.specs.HexText.{IsHexOf}
use Rattle.tp_opid.specs.declared.actor.Actor.{Actor}
use Rattle.tp_opid.specs.declared.doc_id.DocId.{DocId}
use Rattle.tp_opid.specs.declared.hash.Hash.{Hash}
use Rattle.tp_peer.specs.EditingAt.{StepsAt}
use Rattle.tp_peer.specs.PeerState.{PeerState}
use Rattle.tp_edit.specs.Text.{IsTextOf}
use Rattle.tp_window.specs.Answers.{AreShownChanges, ShowDifferences, WriteHashes, WritesActor, WritesHash}
use Rattle.tp_window.specs.Numbers.{next_number}
use Rattle.tp_window.specs.Requests.{AreTypedSplices, DoesRequest, MeansHeads, ResumesHeads}
use Rattle.tp_window.specs.Windows.{IsNews, MadeOn, Page, ShowsText, with_edit, with_news}
use Rattle.tp_window.specs.declared.answer.Answer.{Answer}
use Rattle.tp_window.specs.declared.answer.Answer.TheVariants as answer
use Rattle.tp_window.specs.declared.memory.Memory.{Memory}
use Rattle.tp_window.specs.declared.news.News.{News}
use Rattle.tp_window.specs.declared.outcome.Outcome.{Outcome}
use Rattle.tp_window.specs.declared.outcome.Outcome.TheVariants as outcome
use Rattle.tp_window.specs.declared.outcome.Resumed.{Resumed}
use Rattle.tp_window.specs.declared.request.Request.{Request}
use Rattle.tp_window.specs.declared.request.Request.TheVariants as request
use Rattle.tp_window.specs.declared.request.TypedEdit.{TypedEdit}
use Rattle.tp_window.specs.declared.window.Edited.{Edited}
use Rattle.tp_window.specs.declared.window.Window.{Window}
use Rattle.tp_window.specs.declared.writing.TheConstants.{MOST_CHANGES}

-- ---- what it comes to

-- The heads are those that a page had which is resumed, and the hash is that of a change which the actor, whose digits the text is,
-- made on exactly these; or it made none.
pub record IsMadeBy (actor : List ℕ) (heads : Option (Vec (String Global) Global)) (count : Option ℕ) (C : List ChangeParts) (resumed : Resumed) : Type 0 where
  pub who : Actor
  pub spelled : IsHexOf actor who.0
  pub at : ResumesHeads C heads count resumed.heads.items
  pub is : MadeOn who resumed.heads.items C resumed.made

-- What is new since the text at the heads that a request means.
pub record IsNewsSince (memory : Memory) (heads : Option (Vec (String Global) Global)) (on : Option ℕ) (C : List ChangeParts) (news : News) : Type 0 where
  pub hashes : List Hash
  pub means : MeansHeads memory heads on hashes
  pub is : IsNews C hashes news

-- What the change did whose hash's digits the text is.
pub record IsEffectOf (hash : List ℕ) (C : List ChangeParts) (effect : Effect) : Type 0 where
  pub named : Hash
  pub spelled : IsHexOf hash named.0
  pub is : IsEffect C named effect

-- The typed splices were the window's edit of the text at the heads that it means, at that time: a page that showed this text
-- shows, with them, the text at the change, and with what is new since then the text now.
pub record IsTypedEdit (window : Window) (edit : TypedEdit) (time : ℕ) (p p' : PeerState) (edited : Edited) : Type 0 where
  pub hashes : List Hash
  pub splices : List Splice
  pub means : MeansHeads window.memory edit.heads edit.on hashes
  pub typed_as : AreTypedSplices edit.splices.items splices
  pub steps : StepsAt p hashes (asking window.actor splices time (chars [])) (Ok edited.made) p'
  pub page : (page : Page) → ShowsText p.applied page → page.heads ≡ hashes
      → ShowsText p'.applied (with_edit page splices edited.made) × ShowsText p'.applied (with_news (with_edit page splices edited.made) edited.news)

-- What a window's request comes to at that time, which a peer p did and is p' then.
abbrev pub ComesTo : Window → Request → ℕ → PeerState → PeerState → Outcome → Type 0
ComesTo window request.Open time p p' (outcome.Text text) = IsTextOf p'.applied (chars (string_bytes text))
ComesTo window (request.Resume who heads count) time p p' (outcome.Made resumed) = IsMadeBy (string_bytes who) heads count p'.applied resumed
ComesTo window (request.Edit edit) time p p' (outcome.Edit edited) = IsTypedEdit window edit time p p' edited
ComesTo window (request.Look heads on) time p p' (outcome.News news) = IsNewsSince window.memory heads on p'.applied news
ComesTo window (request.Changes from most) time p p' (outcome.Changes first many) = (first ≡ from) × (many ≡ most)
ComesTo window (request.Change hash) time p p' (outcome.Effect effect) = IsEffectOf (string_bytes hash) p'.applied effect
ComesTo window _ time p p' _ = ⊥

-- ---- how it is shown

-- The text is the hexadecimal digits of the hash, in lower case; or there is neither.
abbrev pub WritesAny : Option Hash → Option (String Global) → Type 0
WritesAny None None = Unit {0}
WritesAny None (Some text) = ⊥
WritesAny (Some hash) None = ⊥
WritesAny (Some hash) (Some text) = WritesHash hash text

-- The answer shows the outcome in the window, of a document with the identifier and the changes C. Its heads have the window's next
-- number, and beside them is how many changes there are.
abbrev pub ShowsOutcome : Window → DocId → List ChangeParts → Outcome → Answer → Type 0
ShowsOutcome window id C (outcome.Text text) (answer.Opened document who number count heads shown) =
    (string_bytes document ≡ encode_lower id.0) × WritesActor window.actor who × (number ≡ next_number window.memory)
    × (count ≡ length C) × WriteHashes (heads_of C) heads.items × (shown.now ≡ string_bytes text)
ShowsOutcome window id C (outcome.Made resumed) (answer.Resumed who number shown) =
    WritesActor window.actor who × (number ≡ next_number window.memory) × WritesAny resumed.made shown
ShowsOutcome window id C (outcome.Edit edited) (answer.Edited made number count heads splices) =
    WritesAny edited.made made × (number ≡ next_number window.memory) × (count ≡ length C)
    × WriteHashes edited.news.heads.items heads.items × ShowDifferences edited.news.differences.items splices.items
ShowsOutcome window id C (outcome.News news) (answer.Looked number count heads splices) =
    (number ≡ next_number window.memory) × (count ≡ length C) × WriteHashes news.heads.items heads.items
    × ShowDifferences news.differences.items splices.items
ShowsOutcome window id C (outcome.Changes from most) (answer.Changes count shown) =
    (count ≡ length C) × AreShownChanges (take (min most MOST_CHANGES) (drop from C)) shown.items
ShowsOutcome window id C (outcome.Effect effect) (answer.Change text splices) =
    (text.now ≡ string_bytes effect.text) × ShowDifferences effect.differences.items splices.items
ShowsOutcome window id C _ _ = ⊥

-- The heads to which the number of such an answer belongs, where it has one.
abbrev pub HasShown : List ChangeParts → Outcome → Option (Vec Hash Global) → Type 0
HasShown C (outcome.Text text) (Some heads) = heads.items ≡ heads_of C
HasShown C (outcome.Edit edited) (Some heads) = heads ≡ edited.news.heads
HasShown C (outcome.News news) (Some heads) = heads ≡ news.heads
HasShown C (outcome.Made resumed) (Some heads) = heads ≡ resumed.heads
HasShown C (outcome.Text text) None = ⊥
HasShown C (outcome.Edit edited) None = ⊥
HasShown C (outcome.News news) None = ⊥
HasShown C (outcome.Made resumed) None = ⊥
HasShown C (outcome.Changes from most) heads = heads ≡ None
HasShown C (outcome.Effect effect) heads = heads ≡ None

-- ---- both

-- At the time, some request of the window came to an outcome, and an answer shows this of the document then, with these heads if any.
pub record AnswersRequest (window : Window) (time : ℕ) (p p' : PeerState) (heads : Option (Vec Hash Global)) : Type 0 where
  pub request : Request
  pub outcome : Outcome
  pub answer : Answer
  pub does : DoesRequest window request time p p'
  pub comes : ComesTo window request time p p' outcome
  pub shows : ShowsOutcome window p'.id p'.applied outcome answer
  pub has : HasShown p'.applied outcome heads
