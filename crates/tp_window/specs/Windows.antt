-- What a page shows, and what it is answered.
use Rattle.std.specs.Prelude.{◌≡◌, ◌⊎◌, ℕ, List, [], ◌∷◌, Option, Some, None, Result, Ok, Err, IsTrue}
use Rattle.std.specs.Str.{chars}
use Rattle.tp_change.specs.ChangeHash.{hash_of}
use Rattle.tp_layout.specs.declared.parts.ChangeParts.{ChangeParts}
use Rattle.tp_snapshot.specs.Differences.{AreDifferences, LeadsTo, after_differences}
use Rattle.tp_document.specs.Editing.{asking}
use Rattle.tp_edit.specs.Splices.{all_spliced}
use Rattle.tp_edit.specs.declared.splice.Splice.{Splice}
use Rattle.tp_history.specs.Heads.{heads as heads_of}
use Rattle.tp_history.specs.Named.{has_all}
use Rattle.tp_history.specs.Past.{past}
use Rattle.tp_list.specs.Members.{In}
use Rattle.tp_opid.specs.declared.actor.Actor.{Actor}
use Rattle.tp_opid.specs.declared.hash.Hash.{Hash}
use Rattle.tp_peer.specs.EditingAt.{StepsAt}
use Rattle.tp_peer.specs.PeerState.{PeerState}
use Rattle.tp_peer.specs.declared.editing_at.EditAtError.{EditAtError}
use Rattle.tp_peer.specs.declared.editing_at.EditAtError.TheVariants as at
use Rattle.tp_peer.specs.declared.error.PeerError.TheVariants as peer
use Rattle.tp_edit.specs.Text.{IsTextOf}
use Rattle.tp_window.specs.declared.news.News.{News}
use Rattle.tp_window.specs.declared.window.Edited.{Edited}

-- What a page shows: a text, and at which heads it is the text.
pub record Page : Type 0 where
  pub heads : List Hash
  pub text : List ℕ

-- The page is right of a document with the changes C: it has the heads, and the text is that at them.
pub record ShowsText (C : List ChangeParts) (page : Page) : Type 0 where
  pub known : IsTrue (has_all C page.heads)
  pub text : IsTextOf (past C page.heads) page.text

-- What is new in a document with the changes C since the text at the heads H: the heads now, and the differences to the text now.
pub record IsNews (C : List ChangeParts) (H : List Hash) (news : News) : Type 0 where
  pub heads : news.heads.items ≡ heads_of C
  pub each : AreDifferences C (past C H) C news.differences.items
  pub leads : LeadsTo (past C H) C news.differences.items

-- the page, once it did what is new
abbrev pub with_news : Page → News → Page
with_news page news = record { heads = news.heads.items; text = after_differences page.text news.differences.items }

-- the page with its own edit, whose change has the hash, or which changes nothing
abbrev pub with_edit : Page → List Splice → Option Hash → Page
with_edit page splices None = page
with_edit page splices (Some h) = record { heads = h ∷ []; text = all_spliced page.text splices }

-- the heads of it then
abbrev pub edited_heads : List Hash → Option Hash → List Hash
edited_heads H None = H
edited_heads H (Some h) = h ∷ []

-- An edit that was answered so by the peer is answered so to the page: as it was, or for want of memory.
abbrev pub IsToldAs : Result (Option Hash) EditAtError → Result Edited EditAtError → Type 0
IsToldAs answer (Ok edited) = answer ≡ Ok edited.made
IsToldAs answer (Err e) = (answer ≡ Err e) ⊎ (e ≡ at.Peer peer.OutOfMemory)

-- The peer stayed, or made an edit of the actor's on some heads.
abbrev pub MayEdit : Actor → PeerState → PeerState → Type 0
MayEdit actor p p' = (p' ≡ p) ⊎ ((H : List Hash) × (splices : List Splice) × (time : ℕ)
    × (answer : Result (Option Hash) EditAtError) × StepsAt p H (asking actor splices time (chars [])) answer p')

-- The actor made the change on exactly these heads.
pub record IsMadeOn (who : Actor) (H : List Hash) (c : ChangeParts) : Type 0 where
  pub actor : c.actor ≡ who
  pub deps : c.deps ≡ H

-- The hash is that of a change that the actor made on exactly these heads; or it made none.
abbrev pub MadeOn : Actor → List Hash → List ChangeParts → Option Hash → Type 0
MadeOn who H C None = (c : ChangeParts) → In c C → IsMadeOn who H c → ⊥
MadeOn who H C (Some h) = (c : ChangeParts) × In c C × IsMadeOn who H c × (h ≡ hash_of c)
