use Rattle.std.proofs.Common.{refl, inl}
use Rattle.tp_journal.proofs.FuseLaws.{fused_append}
use Rattle.tp_journal.proofs.fuse.FuseJournalJournal.TheImpl.Goals as goal

pub append-tells : goal.append-tells
append-tells x c =
    let a = fused_append c.args.self.now c.new.self.now c.result c.args.bytes.now c.ensures.armed c.ensures.unarmed in
    record { asks = record { opened = refl; calls = inl refl }; ok = a.ok; quiet = a.quiet; part = a.part; counts = a.counts }
