use Rattle.tp_sync.proofs.Common.{ap, map, refl, MessageParts, message_of_parts}
use Rattle.tp_sync.proofs.SayLaws.{heads_fit, wants_fit, known_fit, changes_fit, says_it}
use Rattle.tp_sync.proofs.generating.generate_bytes.Goals as goal

pub encode_parts-requires-clause-heads : goal.encode_parts-requires-clause-heads
encode_parts-requires-clause-heads g c =
    heads_fit c.args.document.now.applied c.args.document.now.waiting c.args.state.now c.in-Some.field-0 _ (rw c.in-Some.is at c.in_ok-heads.ensures.says) c.deref.ensures.value

pub encode_parts-requires-clause-wants : goal.encode_parts-requires-clause-wants
encode_parts-requires-clause-wants g c =
    wants_fit c.args.document.now.applied c.args.document.now.waiting c.args.state.now c.in-Some.field-0 _ (rw c.in-Some.is at c.in_ok-heads.ensures.says) c.deref-in-Some.ensures.value

pub encode_parts-requires-clause-known : goal.encode_parts-requires-clause-known
encode_parts-requires-clause-known g c =
    known_fit c.args.document.now.applied c.args.document.now.waiting c.args.state.now c.in-Some.field-0 _ (rw c.in-Some.is at c.in_ok-heads.ensures.says) c.deref-in-Some-2.ensures.value

pub encode_parts-requires-clause-changes : goal.encode_parts-requires-clause-changes
encode_parts-requires-clause-changes g c =
    changes_fit c.args.document.now.applied c.args.document.now.waiting c.args.state.now c.in-Some.field-0 _ c.changes-changes.ensures.limits (rw c.in-Some.is at c.in_ok-heads.ensures.says) (ap (map (λ c. c.now)) c.deref-in-Some-3.ensures.value)

pub returns-in_ok-bytes-in-Some-clause-answer : goal.returns-in_ok-bytes-in-Some-clause-answer
returns-in_ok-bytes-in-Some-clause-answer g c =
    let D = map (λ c. c.now) c.deref-in-Some-3.result.now in
    let m : MessageParts = message_of_parts c.deref.result.now c.deref-in-Some.result.now c.deref-in-Some-2.result.now D in
    record {
      message = m;
      limits = c.in_ok-bytes-in-Some.ensures.limits;
      spelled = c.in_ok-bytes-in-Some.ensures.bytes;
      answers = says_it c.args.document.now.applied c.args.document.now.waiting c.args.state.now c.in-Some.field-0 m c.tell.new.self (rw c.in-Some.is at c.in_ok-heads.ensures.says)
          refl c.deref.ensures.value c.deref-in-Some.ensures.value c.deref-in-Some-2.ensures.value (ap (map (λ c. c.now)) c.deref-in-Some-3.ensures.value) c.tell.ensures;
    }
