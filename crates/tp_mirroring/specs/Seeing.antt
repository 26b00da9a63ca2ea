-- What is seen of a mirror.
use Rattle.std.specs.Prelude.{List, ℕ, [], ◌∷◌, ◌++◌, Bool, false, map, Option, Some, None}
use Rattle.tp_disk.specs.DiskView.{DiskView, WasRead}
use Rattle.tp_mirror.specs.declared.known.TextAt.{TextAt}
use Rattle.tp_mirror.specs.declared.state.Name.{Name}
use Rattle.tp_mirror.specs.declared.state.State.{State}
use Rattle.tp_mirror.specs.declared.workspace.Change.{Change}
use Rattle.tp_mirror.specs.Mirroring.{FileRead, LinkAnswer, MirrorView}
use Rattle.tp_mirroring.specs.declared.account.FileSeen.{FileSeen}
use Rattle.tp_mirroring.specs.declared.account.Linked.{Linked}
use Rattle.tp_mirroring.specs.declared.quiet.Content.{Content}
use Rattle.tp_mirroring.specs.declared.quiet.Content.TheVariants.{Absent, Torn, Bytes}

-- what was read of the file at the path
abbrev pub IsContentOf : (DiskView → Type 0) → List ℕ → Content → Type 0
IsContentOf saw path Absent = Unit {0}
IsContentOf saw path Torn = Unit {0}
IsContentOf saw path (Bytes bytes age) = saw (WasRead path bytes.items)

-- the text of a change, where there is one
abbrev pub text_of : Option Change → Option TextAt
text_of None = None
text_of (Some c) = Some c.text

-- what a read found
abbrev pub read_of : Option FileSeen → Option FileRead
read_of None = None
read_of (Some f) = Some (record { source = f.source; look = f.look })

-- what became of what was written
abbrev pub link_answer_of : Option Linked → Option LinkAnswer
link_answer_of None = None
link_answer_of (Some l) = Some (record { text = l.text; is_linked = l.is_linked })

-- where there is no state file
unfoldable pub nothing_seen : MirrorView
nothing_seen = record { saved = None; made = []; fresh = None; away = false; part = None; names = []; read = None; linked = None }

-- what the first opening cut off that cut something off
abbrev pub first_cut : Option ℕ → Option ℕ → Option ℕ
first_cut None opened = opened
first_cut (Some at) opened = Some at

-- none, or one alone
abbrev pub list_of : {X : Type 0} → Option X → List X
list_of None = []
list_of (Some x) = x ∷ []

-- the texts that a state has, and that of a change which it doesn't have
unfoldable pub texts_of : State → Option TextAt → List TextAt
texts_of s fresh = map (λ k. k.text) s.texts ++ map (λ m. m.known.text) s.moved ++ list_of fresh

-- where the state file has the state, and lacks the text of a change
unfoldable pub first_seen : State → Option TextAt → MirrorView
first_seen s fresh = record {
  saved = Some s;
  made = texts_of s fresh;
  fresh = fresh;
  away = s.is_away;
  part = None;
  names = map (λ m. m.name) s.moved;
  read = None;
  linked = None;
}
