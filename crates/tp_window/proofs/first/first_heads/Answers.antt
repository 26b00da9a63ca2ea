use Rattle.tp_window.proofs.FirstLaws.{first_sound}
use Rattle.tp_window.proofs.first.first_heads.Goals as goal

pub heads_after-requires : goal.heads_after-requires
heads_after-requires c =
    first_sound c.args.document.now.applied c.changes-changes.result.now c.args.count c.changes-changes.ensures.sound c.changes-changes.ensures.changes
