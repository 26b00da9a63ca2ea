use Rattle.tp_world.proofs.Common.{◌≡◌, true, false, refl, NoPeer, ActorUsed, ForeignChange, HashClash, PassesBefore, event_of, world_of}
use Rattle.std.proofs.Common.{rules}
use Rattle.tp_world.proofs.JudgeLaws.{passes_none}
use Rattle.tp_world.proofs.Verdicts.{passes_more, refuses}
use Rattle.tp_world.proofs.verdict.judge_brought.Goals as goal

pub returns-then-not-has_peers-clause-err : goal.returns-then-not-has_peers-clause-err
returns-then-not-has_peers-clause-err c =
    let w = world_of c.args.state.now in
    let e = event_of c.args.event.now in
    let gone : c.has_peers.result ≡ false = search rules in
    refuses w e NoPeer c.has_peers.result (passes_none w e) c.has_peers.ensures gone

pub returns-then-not-has_fresh_actor-clause-err : goal.returns-then-not-has_fresh_actor-clause-err
returns-then-not-has_fresh_actor-clause-err c =
    let w = world_of c.args.state.now in
    let e = event_of c.args.event.now in
    let one : c.has_peers.result ≡ true = search rules in
    let old : c.has_fresh_actor.result ≡ false = search rules in
    let first : PassesBefore w e ActorUsed = passes_more w e NoPeer ActorUsed c.has_peers.result refl (passes_none w e) c.has_peers.ensures one in
    refuses w e ActorUsed c.has_fresh_actor.result first c.has_fresh_actor.ensures old

pub returns-then-not-made-clause-err : goal.returns-then-not-made-clause-err
returns-then-not-made-clause-err c =
    let w = world_of c.args.state.now in
    let e = event_of c.args.event.now in
    let one : c.has_peers.result ≡ true = search rules in
    let two : c.has_fresh_actor.result ≡ true = search rules in
    let foreign : c.in-Ok.made ≡ false = search rules in
    let first : PassesBefore w e ActorUsed = passes_more w e NoPeer ActorUsed c.has_peers.result refl (passes_none w e) c.has_peers.ensures one in
    let second : PassesBefore w e ForeignChange = passes_more w e ActorUsed ForeignChange c.has_fresh_actor.result refl first c.has_fresh_actor.ensures two in
    refuses w e ForeignChange c.in-Ok.made second c.in-Ok.ensures.ok foreign

pub returns-clause-ok : goal.returns-clause-ok
returns-clause-ok c =
    let w = world_of c.args.state.now in
    let e = event_of c.args.event.now in
    let one : c.has_peers.result ≡ true = search rules in
    let two : c.has_fresh_actor.result ≡ true = search rules in
    let three : c.in-Ok.made ≡ true = search rules in
    let first : PassesBefore w e ActorUsed = passes_more w e NoPeer ActorUsed c.has_peers.result refl (passes_none w e) c.has_peers.ensures one in
    let second : PassesBefore w e ForeignChange = passes_more w e ActorUsed ForeignChange c.has_fresh_actor.result refl first c.has_fresh_actor.ensures two in
    passes_more w e ForeignChange HashClash c.in-Ok.made refl second c.in-Ok.ensures.ok three
