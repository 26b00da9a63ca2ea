use Rattle.tp_online.proofs.BesideLaws.{mirrored_by}
use Rattle.tp_online.proofs.mirrored.turn_if_running.Goals as goal

pub returns-in-Ok : goal.returns-in-Ok
returns-in-Ok g c = mirrored_by _ _ _ _ c.turn_on-peer.result.1 c.turn_on-peer.ensures.grows c.turn_on-peer.ensures.taken
