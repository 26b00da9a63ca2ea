-- What showing a log does.
use Rattle.std.specs.Prelude.{◌≡◌, ◌⊎◌, ℕ, List, [], ◌∷◌, ◌++◌, Option, IfSome, encode_utf8_all}
use Rattle.std.specs.Io.KnownBytes.{Appends, Consumes, IsAtEnd}
use Rattle.tp_layout.specs.declared.parts.ChangeParts.{ChangeParts}
use Rattle.tp_edit.specs.Text.{IsTextOf}
use Rattle.tp_textpeer.specs.declared.error.ShowError.{ShowError}
use Rattle.tp_textpeer.specs.ShowFault.{IsOutsideFault}
use Rattle.tp_textpeer.specs.Log.{IsLog, IsLogFault}
use Rattle.tp_textpeer.specs.Output.{AppendsPart}

-- a text and a newline, as bytes
abbrev pub utf8_line : List ℕ → List ℕ
utf8_line t = encode_utf8_all t ++ 10 ∷ []

-- The bytes are the log of changes whose text is t.
pub record IsLogOfText (bytes : List ℕ) (t : List ℕ) : Type 0 where
  pub changes : List ChangeParts
  pub log : IsLog bytes changes
  pub text : IsTextOf changes t

-- Between the two the reader gave a log whose text is t, and then it was at its end.
pub record GivesLog (before after : Option (List ℕ)) (t : List ℕ) : Type 0 where
  pub log : List ℕ
  pub text : IsLogOfText log t
  pub given : Consumes before after log
  pub end : IsAtEnd after

-- The reader gave a log, to its end, and what the writer holds grew by its text and a newline.
abbrev pub Shows : (before after : Option (List ℕ)) → (old new : Option (List ℕ)) → Type 0
Shows before after old new = (t : List ℕ) × GivesLog before after t × Appends old new (utf8_line t)

-- The reader gave a log, to its end, and what the writer holds grew by a beginning of its text and a newline.
abbrev pub ShowsPart : (before after : Option (List ℕ)) → (old new : Option (List ℕ)) → Type 0
ShowsPart before after old new = (t : List ℕ) × GivesLog before after t × AppendsPart old new (utf8_line t)

-- The refusal says that memory is short or a device failed, with 0 as the change; or else what is wrong with the bytes
-- and at which change.
abbrev pub RefusesLog : Option (List ℕ) → ShowError → Type 0
RefusesLog known e = (IsOutsideFault e.fault × (e.change ≡ 0)) ⊎ IfSome known (λ bytes. IsLogFault bytes e.change e.fault)
