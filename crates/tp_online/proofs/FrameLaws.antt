-- Frames that a writer took are what was printed.
use Rattle.std.proofs.Common.{◌≡◌, ◌⊎◌, inl, inr, ap, refl, ℕ, List, Option, Result, Ok, Err, sym, ◌∙◌}
use Rattle.std.specs.List.{flat_map}
use Rattle.tp_frame.specs.Frame.{frame_spelling}
use Rattle.tp_net.specs.RunSession.{TakesFrames}
use Rattle.tp_session.specs.declared.error.NetError.{NetError}
use Rattle.tp_session.specs.declared.error.NetError.TheVariants.{Io}
use Rattle.tp_report.specs.declared.error.JobError.{JobError}
use Rattle.tp_online.specs.Network.{AreFrames}
use Rattle.tp_report.specs.Telling.{GrowsBy}
use Rattle.tp_report.specs.JobError.{io_failure, refusal_of_session}

pub frames_grow : (before after : Option (List ℕ)) → TakesFrames before after → GrowsBy AreFrames before after
frames_grow before after t = (flat_map frame_spelling t.0, (t.0, refl), t.1)

-- so it is of a session that ended well
pub frames_reported : (n : ℕ) (answer : Result ℕ NetError) (before after : Option (List ℕ)) → answer ≡ Ok n → (answer ≡ Err Io) ⊎ TakesFrames before after → GrowsBy AreFrames before after
frames_reported n answer before after is (inl wrong) = absurd cc
frames_reported n answer before after is (inr t) = frames_grow before after t

abbrev error_in : NetError → Result ℕ NetError → NetError
error_in e (Ok n) = e
error_in e (Err f) = f

-- and up to a refusal, unless the stream failed
pub frames_left : (e : NetError) (f : JobError) (answer : Result ℕ NetError) (before after : Option (List ℕ)) → f ≡ refusal_of_session e → answer ≡ Err e
    → (answer ≡ Err Io) ⊎ TakesFrames before after → (f ≡ io_failure) ⊎ GrowsBy AreFrames before after
frames_left e f answer before after is reported (inl io) = inl (is ∙ ap (λ r. refusal_of_session (error_in e r)) (sym reported ∙ io))
frames_left e f answer before after is reported (inr t) = inr (frames_grow before after t)
