use Rattle.std.proofs.Common.{refl}
use Rattle.tp_window.specs.Answers.{WritesHash}
use Rattle.tp_window.proofs.ZipLaws.{AllZip-more}
use Rattle.tp_window.proofs.writing.texts_of.Goals as goal

pub loop-hash-preserved : goal.loop-hash-preserved
loop-hash-preserved c =
    AllZip-more WritesHash c.args.hashes.now c.loop-hash.hash-index c.loop-hash.texts.items c.push.new.self.items _ _
    c.in_ok-to_text.field-0 c.loop-hash-test.true refl c.loop-hash.invariant c.in_ok-to_text.ensures.text c.in_ok-push.ensures.items
