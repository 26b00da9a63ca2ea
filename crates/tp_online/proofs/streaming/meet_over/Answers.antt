use Rattle.std.proofs.Common.{refl}
use Rattle.tp_online.proofs.FrameLaws.{frames_left, frames_reported}
use Rattle.tp_online.proofs.streaming.meet_over.Goals as goal

pub returns-in-Ok-clause-frames : goal.returns-in-Ok-clause-frames
returns-in-Ok-clause-frames g c = frames_reported c.in-Ok.applied _ _ _ refl c.in-Ok.ensures.frames

pub returns-in-Err-clause-part : goal.returns-in-Err-clause-part
returns-in-Err-clause-part g c = frames_left c.in-Err.error c.from.result _ _ _ c.from.ensures refl c.in-Err.ensures.frames
