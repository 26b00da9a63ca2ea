-- What is found stays found, and what an outcome says.
use Rattle.std.proofs.Common.{◌≡◌, List, Bool, true, false, inl, inr, refl}
use Rattle.tp_opid.specs.declared.hash.Hash.{Hash}
use Rattle.tp_mirror.specs.declared.known.Digest.{Digest}
use Rattle.tp_mirror.specs.declared.known.TextAt.{TextAt}
use Rattle.tp_mirror.specs.declared.state.State.{State}
use Rattle.tp_mirror.specs.declared.workspace.Look.{Look}
use Rattle.tp_mirror.specs.declared.workspace.Look.TheVariants.{Busy, Empty, Text}
use Rattle.tp_mirror.specs.declared.workspace.Source.{Source}
use Rattle.tp_mirror.specs.declared.workspace.Source.TheVariants.{Note}
use Rattle.tp_mirror.specs.Mirroring.{MirrorView, with_look, with_heads, with_state, with_answer, without_part, HasAllMade, IsMade, IsRead}
use Rattle.tp_mirror.specs.Outcomes.{WasFound, FoundBusy, IsInStep, WasPut, WasNotLinked}

pub was-found : (v w : MirrorView) (source : Source) (look found : Look) → w ≡ with_look v source look → look ≡ found → WasFound w source found
unfolding WasFound with_look
was-found v w source look found e f = rw (e, f) refl

pub found-busy : (v w : MirrorView) (source : Source) (look : Look) → w ≡ with_look v source look → look ≡ Busy → FoundBusy w
unfolding FoundBusy
found-busy v w source look e f = inl (source, was-found v w source look Busy e f)

pub found-empty : (v w : MirrorView) (look : Look) → w ≡ with_look v Note look → look ≡ Empty → FoundBusy w
unfolding FoundBusy
found-empty v w look e f = inr (was-found v w Note look Empty e f)

pub found-now : (v w : MirrorView) (now : TextAt) (digest : Digest) → w ≡ with_heads v now → IsRead v Note digest → now.digest ≡ digest → WasFound w Note (Text now.digest)
unfolding WasFound with_heads
found-now v w now digest e r same = rw (e, same) r.found

pub in-step : (includes : List Hash → List Hash → Type 0) (v : MirrorView) (now : TextAt) → WasFound v Note (Text now.digest) → IsMade v now → HasAllMade includes v now → IsInStep includes v
unfolding IsInStep
in-step includes v now found made whole = (now, found, made, whole)

pub in-step-state : (includes : List Hash → List Hash → Type 0) (v w : MirrorView) (s : State) (now : TextAt) → w ≡ with_state v s → WasFound v Note (Text now.digest) → IsMade v now → HasAllMade includes v now → IsInStep includes w
unfolding IsInStep WasFound IsMade HasAllMade with_state
in-step-state includes v w s now e found made whole = rw e (now, found, made, whole)

pub put-outcome : (includes : List Hash → List Hash → Type 0) (u v w x : MirrorView) (t : TextAt) (is_linked : Bool) (s : State)
    → v ≡ with_answer u t is_linked → is_linked ≡ true → w ≡ without_part v → x ≡ with_state w s → HasAllMade includes u t → WasPut includes x
unfolding WasPut HasAllMade with_answer without_part with_state
put-outcome includes u v w x t is_linked s e linked f h whole = rw (h, f, e, linked) (t, refl, whole)

pub again-outcome : (u v w : MirrorView) (t : TextAt) (is_linked : Bool) → v ≡ with_answer u t is_linked → is_linked ≡ false → w ≡ without_part v → WasNotLinked w
unfolding WasNotLinked with_answer without_part
again-outcome u v w t is_linked e refused f = rw (f, e, refused) (t, refl)
