use Rattle.tp_message.proofs.Common.{refl, ap, MessageParts}
use Rattle.tp_message.proofs.WholeMessage.{written}
use Rattle.tp_message.proofs.message.Message.encode.Goals as goal

pub returns-clause-bytes : goal.returns-clause-bytes
returns-clause-bytes c =
    let bytes = written c.args.self.now c.self.inside.version c.heads-heads.result.now c.wants-wants.result.now c.known-known.result.now c.changes-changes.result.now
    c.push.new.self.items c.put_hashes.new.out.items c.put_hashes-2.new.out.items c.put_known.new.out.items c.extend_from_slice.new.self.items c.in_ok-whole.whole.items
    (ap (λ (m : MessageParts). m.version) c.self.view_is) c.heads-heads.ensures.heads c.wants-wants.ensures c.known-known.ensures c.changes-changes.ensures
    (rw (c.in_ok-push.ensures.items, c.in_ok-out.ensures.items) refl) c.in_ok-put_hashes.ensures c.in_ok-put_hashes-2.ensures c.in_ok-put_known.ensures
    (rw (c.in_ok-extend_from_slice.ensures.items, c.to_be_bytes.ensures) refl) c.in_ok-whole.ensures.bytes in
    (c.heads-heads.ensures.limits, bytes)
