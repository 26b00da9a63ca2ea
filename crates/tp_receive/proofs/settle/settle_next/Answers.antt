use Rattle.tp_receive.proofs.Common.{ap, sym, subst, ◌∙◌, Hash, hash_of, GainsOnly, slice_get-there}
use Rattle.tp_receive.proofs.LackingLaws.{entry_within, knows_after, read_at}
use Rattle.tp_receive.proofs.settle.settle_next.Goals as goal

pub remove-requires : goal.remove-requires
remove-requires g c =
    entry_within (g.R.Replica.applied c.args.replica.now) (g.R.Replica.waiting c.args.replica.now) c.args.lacking.now c.args.i c.requires.knows c.requires.earliest.within

pub returns-clause-knows : goal.returns-clause-knows
returns-clause-knows g c =
    let C = g.R.Replica.applied c.args.replica.now in
    let D = g.R.Replica.applied c.settle_one.new.replica in
    let W = g.R.Replica.waiting c.args.replica.now in
    let V = g.R.Replica.waiting c.settle_one.new.replica in
    let there = slice_get-there W c.args.i c.requires.earliest.within in
    let same = read_at c.pending.result.now W c.args.i c.index-pending-i.result there.0 c.pending.ensures.pending c.index-pending-i.is there.1 in
    let is = c.hash-hash.ensures.hash ∙ ap hash_of same in
    c.forget_lacked.ensures.knows C D V (subst (λ (x : Hash). GainsOnly C D x) (sym is) (c.in_ok-settle_one.ensures.gains there.0 there.1))
    (knows_after C W V c.args.lacking.now c.remove.new.self c.args.i there.0 c.hash-hash.result c.pending.ensures.once there.1 is c.requires.knows c.in_ok-settle_one.ensures.out c.remove.ensures)

pub returns-clause-waits : goal.returns-clause-waits
returns-clause-waits g c = c.forget_lacked.ensures.waits (g.R.Replica.applied c.settle_one.new.replica) (g.R.Replica.waiting c.settle_one.new.replica) (returns-clause-knows g c)
