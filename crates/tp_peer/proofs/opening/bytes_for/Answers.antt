use Rattle.std.proofs.lemmas.Result.{err_from_is_err_and}
use Rattle.tp_peer.proofs.Common.{journal, journal_state}
use Rattle.tp_peer.proofs.OpeningLaws.{not_copied}
use Rattle.tp_peer.proofs.opening.bytes_for.Goals as goal

pub returns-in_err-check_unused-clause-err : goal.returns-in_err-check_unused-clause-err
returns-in_err-check_unused-clause-err g c =
    let J = g.J.Journal in
    let p = err_from_is_err_and c.from_residual.result c.from_residual.ensures.1 in
    rw (p.1, p.2) (not_copied c.args.document.now.id c.args.document.now.applied c.args.actor.now
    (journal_state (J.content c.args.journal.now) (J.device c.args.journal.now))
    (journal_state (J.content c.check_unused.new.journal) (J.device c.check_unused.new.journal))
    _ (c.in_err-check_unused.ensures.err (journal c.args.document.now.id c.args.document.now.applied)))
