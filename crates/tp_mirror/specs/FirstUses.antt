-- The first use, where there is no state file.
use Rattle.std.specs.Prelude.{◌≡◌, ◌≢◌, [], ◌∷◌}
use Rattle.tp_mirror.specs.declared.known.Digest.{Digest}
use Rattle.tp_mirror.specs.declared.known.Known.{Known}
use Rattle.tp_mirror.specs.declared.known.TextAt.{TextAt}
use Rattle.tp_mirror.specs.declared.state.State.{State}
use Rattle.tp_mirror.specs.declared.workspace.Look.{Look}
use Rattle.tp_mirror.specs.declared.workspace.Look.TheVariants.{Absent, Busy, NotText, Empty, LeftEmpty, Text}

-- The two are different texts, and the journal's isn't the empty one.
abbrev pub AreTwo : Digest → Digest → Digest → Type 0
AreTwo empty text now = (text ≢ now) × (now ≢ empty)

-- NOTE has a text, and the journal another one.
abbrev pub HaveTwo : Digest → Digest → Look → Type 0
HaveTwo empty now (Text text) = AreTwo empty text now
HaveTwo empty now Absent = ⊥
HaveTwo empty now Busy = ⊥
HaveTwo empty now NotText = ⊥
HaveTwo empty now Empty = ⊥
HaveTwo empty now LeftEmpty = ⊥

-- The state knows one text, and watches no file.
pub record IsFirst (now : TextAt) (s : State) : Type 0 where
  pub known : Known
  pub text : known.text ≡ now
  pub texts : s.texts ≡ known ∷ []
  pub moved : s.moved ≡ []
