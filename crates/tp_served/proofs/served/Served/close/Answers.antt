use Rattle.tp_served.proofs.Common.{arith}
use Rattle.tp_served.proofs.SeatLaws.{last_is}
use Rattle.tp_served.proofs.served.Served.close.Goals as goal

pub end-requires-clause-last : goal.end-requires-clause-last
end-requires-clause-last g c = (last_is c.args.self.served _ c.pop.new.self.items c.in-Some.last c.in-Some.ensures.items c.requires).1

pub end-requires-clause-seats : goal.end-requires-clause-seats
end-requires-clause-seats g c = (last_is c.args.self.served _ c.pop.new.self.items c.in-Some.last c.in-Some.ensures.items c.requires).0

pub unreachable-requires : goal.unreachable-requires
unreachable-requires g c = omega (arith, c.in-None.ensures.cases.0, c.len.ensures, c.if-len-self.false, c.self.invariant.4)
