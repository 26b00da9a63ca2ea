use Rattle.std.proofs.Common.{◌≤◌, arith}
use Rattle.tp_edit.proofs.EdgeLaws.{edge_left, edge_moved}
use Rattle.tp_edit.proofs.landing.Edge.with.Goals as goal
use Rattle.tp_edit.proofs.landing.Edge.with.Goals.{then-at-self, else-at-self}

pub returns-then-self-past-clause-leaves : goal.returns-then-self-past-clause-leaves
returns-then-self-past-clause-leaves c =
    let below : c.if-at-self.head ≤ c.args.self.head =
    elim c.if-at-self.branch [ then-at-self w ↦ omega (arith, w.head-is, w.if-at-self.true) | else-at-self w ↦ omega (arith, w.head-is) ] in
    let short : c.if-at-self.head ≤ c.args.landing.now.at =
    elim c.if-at-self.branch [ then-at-self w ↦ omega (arith, w.head-is) | else-at-self w ↦ omega (arith, w.head-is, w.if-at-self.false) ] in
    λ a V ls edge fit. edge_moved a V ls c.args.self c.args.landing.now c.if-at-self.head edge fit c.if-self-past.true below short

pub returns-else-self-past-clause-leaves : goal.returns-else-self-past-clause-leaves
returns-else-self-past-clause-leaves c =
    let below : c.if-at-self.head ≤ c.args.self.head =
    elim c.if-at-self.branch [ then-at-self w ↦ omega (arith, w.head-is, w.if-at-self.true) | else-at-self w ↦ omega (arith, w.head-is) ] in
    let short : c.if-at-self.head ≤ c.args.landing.now.at =
    elim c.if-at-self.branch [ then-at-self w ↦ omega (arith, w.head-is) | else-at-self w ↦ omega (arith, w.head-is, w.if-at-self.false) ] in
    λ a V ls edge fit. edge_left a V ls c.args.self c.args.landing.now c.if-at-self.head edge fit c.if-self-past.false below short
