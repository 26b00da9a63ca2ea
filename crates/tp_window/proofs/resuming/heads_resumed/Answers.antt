use Rattle.tp_window.proofs.RefusalLaws.{list_not_resumed}
use Rattle.tp_window.proofs.resuming.heads_resumed.Goals as goal

pub returns-in-None-count-clause-err : goal.returns-in-None-count-clause-err
returns-in-None-count-clause-err c =
    list_not_resumed c.args.document.now.applied c.args.heads.now c.args.count c.in-Some.texts c.deref.result.now c.hashes_of.result c.in-Some.is c.in-None-count.is c.deref.ensures.value
    c.hashes_of.ensures.err
