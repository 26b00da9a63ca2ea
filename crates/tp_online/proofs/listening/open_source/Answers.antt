use Rattle.std.proofs.Common.{subst}
use Rattle.tp_opid.specs.declared.actor.Actor.{Actor}
use Rattle.std.proofs.lemmas.Result.{IfOk-weaker}
use Rattle.tp_disk.specs.Opening.{OpensJournal}
use Rattle.tp_online.proofs.listening.open_source.Goals as goal

-- the peer is opened on what was read of the file, under the actor that was drawn
pub returns-clause-opens : goal.returns-clause-opens
returns-clause-opens g c =
    let drawn = c.in_ok-actor.ensures in
    IfOk-weaker c.open_peer.result _ _ (λ p read. (
      read.0,
      read.1,
      record {
        generator = drawn.0;
        keyed = drawn.1;
        opens = subst (λ (a : Actor). OpensJournal read.0 a p) drawn.2 read.2;
      },
    ))
    c.open_peer.ensures.opens
