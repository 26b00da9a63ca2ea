use Rattle.tp_document.proofs.Common.{◌≡◌, ◌+◌, ◌<◌, ◌≤◌, List, length, subst, sym, ap, ◌∙◌, chars, Hash, next_counter, total_count, asking}
use Rattle.tp_document.proofs.EditAnswers.{in_range_of, bad_refused, refuses_heads, refuses_counters, refuses_message, asks_some}
use Rattle.tp_document.proofs.editing.validate_edit.Goals as goal

pub returns-in-Err : goal.returns-in-Err
returns-in-Err g c = λ a time.
    let S = g.S.Sequence in
    bad_refused c.args.graph.now.applied (S.placed c.args.sequence.now) (S.removals c.args.sequence.now) c.len.result (asking a c.args.splices.now time (chars c.args.message.now)) c.in-Err.error c.requires c.len.ensures c.in-Err.ensures

pub returns-then-count-eq0 : goal.returns-then-count-eq0
returns-then-count-eq0 g c = λ a time.
    let S = g.S.Sequence in (
      in_range_of c.args.graph.now.applied (S.placed c.args.sequence.now) (S.removals c.args.sequence.now) c.len.result c.args.splices.now c.requires c.len.ensures c.in-Ok.ensures.0,
      c.in-Ok.ensures.1 ∙ c.if-count-eq0.true,
    )

pub returns-then-heads-gt-MAX_DEPS : goal.returns-then-heads-gt-MAX_DEPS
returns-then-heads-gt-MAX_DEPS g c = λ a time.
    let S = g.S.Sequence in
    refuses_heads c.args.graph.now.applied (asking a c.args.splices.now time (chars c.args.message.now))
    (asks_some c.args.graph.now.applied (S.placed c.args.sequence.now) (S.removals c.args.sequence.now) c.len.result c.in-Ok.count (asking a c.args.splices.now time (chars c.args.message.now)) c.requires c.len.ensures c.in-Ok.ensures.0 c.in-Ok.ensures.1 c.in-Ok.ensures.2 c.if-count-eq0.false)
    (subst (λ (H : List Hash). 65535 < length H) c.heads.ensures c.if-heads-gt-MAX_DEPS.true)

pub returns-then-next-count : goal.returns-then-next-count
returns-then-next-count g c = λ a time.
    let S = g.S.Sequence in
    let counted : c.next_counter-next.result + c.in-Ok.count ≡ next_counter c.args.graph.now.applied + total_count c.args.splices.now =
    ap (λ n. n + c.in-Ok.count) c.next_counter-next.ensures ∙ ap (λ n. next_counter c.args.graph.now.applied + n) (sym c.in-Ok.ensures.1) in
    refuses_counters c.args.graph.now.applied (asking a c.args.splices.now time (chars c.args.message.now))
    (record {
      asks = asks_some c.args.graph.now.applied (S.placed c.args.sequence.now) (S.removals c.args.sequence.now) c.len.result c.in-Ok.count (asking a c.args.splices.now time (chars c.args.message.now)) c.requires c.len.ensures c.in-Ok.ensures.0 c.in-Ok.ensures.1 c.in-Ok.ensures.2 c.if-count-eq0.false;
      heads = subst (λ (H : List Hash). length H ≤ 65535) c.heads.ensures c.if-heads-gt-MAX_DEPS.false;
    })
    (subst (λ n. 281474976710656 < n) counted c.if-next-count.true)

pub returns-then-byte_count-gt-MAX_MESSAGE_BYTES : goal.returns-then-byte_count-gt-MAX_MESSAGE_BYTES
returns-then-byte_count-gt-MAX_MESSAGE_BYTES g c = λ a time.
    let S = g.S.Sequence in
    let counted : c.next_counter-next.result + c.in-Ok.count ≡ next_counter c.args.graph.now.applied + total_count c.args.splices.now =
    ap (λ n. n + c.in-Ok.count) c.next_counter-next.ensures ∙ ap (λ n. next_counter c.args.graph.now.applied + n) (sym c.in-Ok.ensures.1) in
    refuses_message c.args.graph.now.applied (asking a c.args.splices.now time (chars c.args.message.now))
    (record {
      before = record {
        asks = asks_some c.args.graph.now.applied (S.placed c.args.sequence.now) (S.removals c.args.sequence.now) c.len.result c.in-Ok.count (asking a c.args.splices.now time (chars c.args.message.now)) c.requires c.len.ensures c.in-Ok.ensures.0 c.in-Ok.ensures.1 c.in-Ok.ensures.2 c.if-count-eq0.false;
        heads = subst (λ (H : List Hash). length H ≤ 65535) c.heads.ensures c.if-heads-gt-MAX_DEPS.false;
      };
      counters = subst (λ n. n ≤ 281474976710656) counted c.if-next-count.false;
    })
    (subst (λ n. 65535 < n) c.byte_count.ensures.count c.if-byte_count-gt-MAX_MESSAGE_BYTES.true)

pub returns : goal.returns
returns g c = λ a time.
    let S = g.S.Sequence in
    let counted : c.next_counter-next.result + c.in-Ok.count ≡ next_counter c.args.graph.now.applied + total_count c.args.splices.now =
    ap (λ n. n + c.in-Ok.count) c.next_counter-next.ensures ∙ ap (λ n. next_counter c.args.graph.now.applied + n) (sym c.in-Ok.ensures.1) in
    record {
      counters = record {
        before = record {
          asks = asks_some c.args.graph.now.applied (S.placed c.args.sequence.now) (S.removals c.args.sequence.now) c.len.result c.in-Ok.count (asking a c.args.splices.now time (chars c.args.message.now)) c.requires c.len.ensures c.in-Ok.ensures.0 c.in-Ok.ensures.1 c.in-Ok.ensures.2 c.if-count-eq0.false;
          heads = subst (λ (H : List Hash). length H ≤ 65535) c.heads.ensures c.if-heads-gt-MAX_DEPS.false;
        };
        counters = subst (λ n. n ≤ 281474976710656) counted c.if-next-count.false;
      };
      message = subst (λ n. n ≤ 65535) c.byte_count.ensures.count c.if-byte_count-gt-MAX_MESSAGE_BYTES.false;
      spelled = c.byte_count.ensures.scalars;
      texts = c.in-Ok.ensures.3;
    }
