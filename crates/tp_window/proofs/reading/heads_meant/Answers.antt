use Rattle.tp_window.proofs.RefusalLaws.{list_refused}
use Rattle.tp_window.proofs.reading.heads_meant.Goals as goal

pub returns-in-None-on-clause-err : goal.returns-in-None-on-clause-err
returns-in-None-on-clause-err c =
    list_refused c.args.memory.now c.args.heads.now c.args.on c.in-Some.texts c.deref.result.now c.hashes_of.result c.in-Some.is c.in-None-on.is c.deref.ensures.value
    c.hashes_of.ensures.err
