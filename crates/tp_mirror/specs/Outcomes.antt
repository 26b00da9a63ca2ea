-- What the outcome of a round says of what was read and linked last.
use Rattle.std.specs.Prelude.{◌≡◌, ◌⊎◌, true, false, List, Some}
use Rattle.tp_opid.specs.declared.hash.Hash.{Hash}
use Rattle.tp_mirror.specs.declared.known.TextAt.{TextAt}
use Rattle.tp_mirror.specs.declared.outcome.Outcome.{Outcome}
use Rattle.tp_mirror.specs.declared.outcome.Outcome.TheVariants as outcomes
use Rattle.tp_mirror.specs.declared.workspace.Look.{Look}
use Rattle.tp_mirror.specs.declared.workspace.Look.TheVariants as looks
use Rattle.tp_mirror.specs.declared.workspace.Source.{Source}
use Rattle.tp_mirror.specs.declared.workspace.Source.TheVariants.{Note}
use Rattle.tp_mirror.specs.Mirroring.{MirrorView, HasAllMade, IsMade}

-- This was found in the file.
unfoldable pub WasFound : MirrorView → Source → Look → Type 0
WasFound v source look = v.read ≡ Some (record { source = source; look = look })

-- A file wasn't quiet, or NOTE had no byte.
unfoldable pub FoundBusy : MirrorView → Type 0
FoundBusy v = ((source : Source) × WasFound v source looks.Busy) ⊎ WasFound v Note looks.Empty

-- The text of NOTE is the one at the journal's heads.
unfoldable pub IsInStep : (List Hash → List Hash → Type 0) → MirrorView → Type 0
IsInStep includes v = (t : TextAt) × WasFound v Note (looks.Text t.digest) × IsMade v t × HasAllMade includes v t

-- The text at the journal's heads was to become NOTE, and did.
unfoldable pub WasPut : (List Hash → List Hash → Type 0) → MirrorView → Type 0
WasPut includes v = (t : TextAt) × (v.linked ≡ Some (record { text = t; is_linked = true })) × HasAllMade includes v t

-- It was to become NOTE, and something else was there.
unfoldable pub WasNotLinked : MirrorView → Type 0
WasNotLinked v = (t : TextAt) × (v.linked ≡ Some (record { text = t; is_linked = false }))

abbrev pub IsOutcome : (List Hash → List Hash → Type 0) → MirrorView → Outcome → Type 0
IsOutcome includes v outcomes.InStep = IsInStep includes v
IsOutcome includes v outcomes.Put = WasPut includes v
IsOutcome includes v outcomes.Again = WasNotLinked v
IsOutcome includes v outcomes.Busy = FoundBusy v
IsOutcome includes v outcomes.NotText = WasFound v Note looks.NotText
IsOutcome includes v outcomes.Gone = WasFound v Note looks.Absent
