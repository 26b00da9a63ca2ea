use Rattle.std.proofs.Common.{◌≡◌, ◌<◌, ◌+◌, ◌-◌, ◌/◌, length, sym, arith}
use Rattle.std.specs.declared.cmp.Ordering.TheVariants.{Less, Equal, Greater}
use Rattle.tp_opid.specs.Order.{actor_cmp}
use Rattle.tp_opid.proofs.Orders.{actor_exact}
use Rattle.tp_elements.specs.Actors.{latest_at}
use Rattle.tp_elements.proofs.ByActor.{before_more, after_more}
use Rattle.tp_elements.proofs.actors.find.Goals as goal

pub loop-low-preserved-in-Less : goal.loop-low-preserved-in-Less
loop-low-preserved-in-Less c =
    let inv = c.loop-low.invariant in
    let middle = c.loop-low.low + (c.loop-low.high - c.loop-low.low) / 2 in
    let lt : middle < length c.args.latest.now = omega (arith, c.loop-low-test.true, inv.1) in
    let less : actor_cmp (latest_at c.args.latest.now middle).actor c.args.actor.now ≡ Less = sym c.in-Less.ensures in
    (omega (arith, c.loop-low-test.true), inv.1, before_more c.args.latest.now c.args.actor.now middle c.requires lt less, inv.3)

pub returns-in-Equal-clause-found : goal.returns-in-Equal-clause-found
returns-in-Equal-clause-found c =
    let inv = c.loop-low.invariant in
    let middle = c.loop-low.low + (c.loop-low.high - c.loop-low.low) / 2 in
    let same : actor_cmp (latest_at c.args.latest.now middle).actor c.args.actor.now ≡ Equal = sym c.in-Equal.ensures in
    (omega (arith, c.loop-low-test.true, inv.1), actor_exact (latest_at c.args.latest.now middle).actor c.args.actor.now same)

pub loop-low-preserved : goal.loop-low-preserved
loop-low-preserved c =
    let inv = c.loop-low.invariant in
    let middle = c.loop-low.low + (c.loop-low.high - c.loop-low.low) / 2 in
    let more : actor_cmp (latest_at c.args.latest.now middle).actor c.args.actor.now ≡ Greater = sym c.in-Greater.ensures in
    (omega arith, omega (arith, c.loop-low-test.true, inv.1), inv.2, after_more c.args.latest.now c.args.actor.now middle c.requires more)
