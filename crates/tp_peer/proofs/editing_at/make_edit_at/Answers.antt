use Rattle.std.proofs.Common.{rules}
use Rattle.std.specs.Str.{chars}
use Rattle.tp_peer.proofs.Common.{◌≡◌, true, asking}
use Rattle.tp_history.specs.Heads.{heads}
use Rattle.tp_history.specs.Named.{has_all}
use Rattle.tp_history.specs.Past.{past}
use Rattle.tp_peer.proofs.EarlierLaws.{all_named, made_at, made_now}
use Rattle.tp_peer.proofs.editing_at.make_edit_at.Goals as goal

pub returns-then-same_hashes-clause-known : goal.returns-then-same_hashes-clause-known
returns-then-same_hashes-clause-known c =
    let on : c.args.heads.now ≡ heads c.args.document.now.applied = search rules in
    all_named c.make_edit.result c.args.document.now.applied c.args.heads.now on

pub returns-then-same_hashes-clause-made : goal.returns-then-same_hashes-clause-made
returns-then-same_hashes-clause-made c =
    let on : c.args.heads.now ≡ heads c.args.document.now.applied = search rules in
    made_now c.args.document.now.applied c.args.heads.now (asking c.args.actor c.args.splices.now c.args.time (chars c.args.message.now))
    c.make_edit.result c.changes-changes.ensures.sound on c.make_edit.ensures

pub returns-clause-made : goal.returns-clause-made
returns-clause-made c =
    let known : has_all c.args.document.now.applied c.args.heads.now ≡ true = search rules in
    let just : c.in_ok-fork.fork.applied ≡ past c.args.document.now.applied c.args.heads.now = search rules in
    made_at c.args.document.now.applied c.in_ok-fork.fork.applied c.args.heads.now (asking c.args.actor c.args.splices.now c.args.time (chars c.args.message.now))
    c.make_edit-2.result just known c.make_edit-2.ensures
