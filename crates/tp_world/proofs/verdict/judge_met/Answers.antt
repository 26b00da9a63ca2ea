use Rattle.tp_world.proofs.Common.{◌≡◌, true, false, refl, Stopped, NoEntry, OutOfMemory, PassesBefore, event_of, world_of}
use Rattle.std.proofs.Common.{rules}
use Rattle.tp_world.proofs.JudgeLaws.{passes_all}
use Rattle.tp_world.proofs.Verdicts.{passes_more, refuses}
use Rattle.tp_world.proofs.verdict.judge_met.Goals as goal

pub returns-then-not-runs_peers-clause-err : goal.returns-then-not-runs_peers-clause-err
returns-then-not-runs_peers-clause-err c =
    let w = world_of c.args.state.now in
    let e = event_of c.args.event.now in
    let stopped : c.runs_peers.result ≡ false = search rules in
    refuses w e Stopped c.runs_peers.result c.requires c.runs_peers.ensures stopped

pub returns-then-not-has_entry-clause-err : goal.returns-then-not-has_entry-clause-err
returns-then-not-has_entry-clause-err c =
    let w = world_of c.args.state.now in
    let e = event_of c.args.event.now in
    let run : c.runs_peers.result ≡ true = search rules in
    let none : c.has_entry.result ≡ false = search rules in
    let fifth : PassesBefore w e NoEntry = passes_more w e Stopped NoEntry c.runs_peers.result refl c.requires c.runs_peers.ensures run in
    refuses w e NoEntry c.has_entry.result fifth c.has_entry.ensures none

pub returns-clause-ok : goal.returns-clause-ok
returns-clause-ok c =
    let w = world_of c.args.state.now in
    let e = event_of c.args.event.now in
    let run : c.runs_peers.result ≡ true = search rules in
    let sent : c.has_entry.result ≡ true = search rules in
    let fifth : PassesBefore w e NoEntry = passes_more w e Stopped NoEntry c.runs_peers.result refl c.requires c.runs_peers.ensures run in
    passes_all w e (passes_more w e NoEntry OutOfMemory c.has_entry.result refl fifth c.has_entry.ensures sent)
