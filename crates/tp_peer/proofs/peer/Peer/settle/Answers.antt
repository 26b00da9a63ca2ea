use Rattle.tp_peer.proofs.Common.{Generate, refl}
use Rattle.tp_peer.proofs.RunningLaws.{settling_keeps, settling_leaves, settling_refuses, settling_stays, stopped_steps}
use Rattle.tp_peer.proofs.peer.Peer.settle.Goals as goal

pub returns-then-self-clause-err : goal.returns-then-self-clause-err
returns-then-self-clause-err g c = λ link. stopped_steps _ c.args.self.now (Generate link) refl c.self.view_is c.if-self.true

pub invariant_of-self : goal.invariant_of-self
invariant_of-self g c =
    let s = c.self.inside in
    let e = c.settle-settled.ensures in
    settling_leaves c.args.self.now s.actor s.document s.links.known s.appender c.settle-settled.new.self s.stopped c.stops-self-inside.result c.settle-settled.result c.self.invariant c.if-self.false c.stops-self-inside.ensures e.ok e.only e.err

pub returns-clause-ok : goal.returns-clause-ok
returns-clause-ok g c =
    let s = c.self.inside in
    settling_keeps c.args.self.now s.actor s.document s.links.known s.appender c.settle-settled.new.self s.stopped c.stops-self-inside.result c.settle-settled.result c.self.view_is c.if-self.false c.stops-self-inside.ensures c.settle-settled.ensures.ok

pub returns-clause-stays : goal.returns-clause-stays
returns-clause-stays g c =
    let s = c.self.inside in
    settling_stays c.args.self.now s.actor s.document s.links.known s.appender c.settle-settled.new.self s.stopped c.stops-self-inside.result c.settle-settled.result c.self.view_is c.settle-settled.ensures.ok c.settle-settled.ensures.err

pub returns-clause-err : goal.returns-clause-err
returns-clause-err g c = λ link.
    let s = c.self.inside in
    let e = c.settle-settled.ensures in
    settling_refuses c.args.self.now s.actor s.document s.links.known s.appender c.settle-settled.new.self s.stopped c.stops-self-inside.result c.settle-settled.result link c.self.view_is c.if-self.false c.stops-self-inside.ensures e.only e.err
