use Rattle.tp_peer.proofs.Common.{sym, subst, PeerError, RefusesDecoding}
use Rattle.tp_peer.proofs.ReceivingLaws.{decoding_refused}
use Rattle.tp_peer.proofs.syncing.message_of.Goals as goal

pub returns-in-Err-clause-err : goal.returns-in-Err-clause-err
returns-in-Err-clause-err c = subst (λ (e : PeerError). RefusesDecoding c.args.bytes.now e) (sym c.from.ensures) (decoding_refused c.args.bytes.now c.in-Err.error c.in-Err.ensures.exact)
