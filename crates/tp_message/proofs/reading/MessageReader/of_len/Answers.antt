use Rattle.tp_message.proofs.Common.{arith, refl}
use Rattle.tp_message.proofs.ReaderLaws.{begun_is, begun_reads}
use Rattle.tp_message.proofs.ShortLaws.{message_short}
use Rattle.tp_message.proofs.reading.MessageReader.of_len.Goals as goal

pub returns-then-total-lt-SMALLEST-clause-every : goal.returns-then-total-lt-SMALLEST-clause-every
returns-then-total-lt-SMALLEST-clause-every c = λ bytes len. message_short bytes (omega arith)

pub invariant_of-result : goal.invariant_of-result
invariant_of-result c =
    rw (c.new.ensures.items, c.new-2.ensures.items, c.new-3.ensures.items, c.new-4.ensures.items, c.new-5.ensures.items) (begun_is c.args.total (omega arith))

pub returns-clause-ok : goal.returns-clause-ok
returns-clause-ok c = (
  refl,
  λ bytes.
      rw (c.new.ensures.items, c.new-2.ensures.items, c.new-3.ensures.items, c.new-4.ensures.items, c.new-5.ensures.items) (begun_reads c.args.total bytes),
)
