use Rattle.std.specs.Str.{chars}
use Rattle.tp_peer.proofs.Common.{false, asking, peer_state}
use Rattle.std.proofs.Common.{rules}
use Rattle.tp_document.specs.Editing.{IsAcceptedEdit}
use Rattle.tp_history.specs.Past.{past}
use Rattle.tp_peer.specs.EditingAt.{has_failed}
use Rattle.tp_peer.proofs.EarlierLaws.{refused_edit_at}
use Rattle.tp_peer.proofs.editing_at.edit_at_on.Goals as goal

pub returns-in-Ok-clause-ok : goal.returns-in-Ok-clause-ok
returns-in-Ok-clause-ok g c own links =
    let edited : IsAcceptedEdit (past c.args.document.now.applied c.args.heads.now) (asking c.args.actor c.args.splices.now c.args.time (chars c.args.message.now)) c.in-Ok-Some.change = search rules in
    (c.in-Ok-Some.change, c.in-Ok-Some.ensures.known, edited, c.in-Ok.ensures.enters own links)

pub returns-in-Err-enter_made-clause-err : goal.returns-in-Err-enter_made-clause-err
returns-in-Err-enter_made-clause-err g c own links =
    let edited : IsAcceptedEdit (past c.args.document.now.applied c.args.heads.now) (asking c.args.actor c.args.splices.now c.args.time (chars c.args.message.now)) c.in-Ok-Some.change = search rules in
    refused_edit_at (peer_state own c.args.document.now links c.args.appender.now false)
    (peer_state own c.enter_made.new.document links c.enter_made.new.appender (has_failed c.in-Err-enter_made.error))
    c.args.heads.now (asking c.args.actor c.args.splices.now c.args.time (chars c.args.message.now))
    c.in-Ok-Some.change c.in-Err-enter_made.error edited (c.in-Err-enter_made.ensures.enters own links)
