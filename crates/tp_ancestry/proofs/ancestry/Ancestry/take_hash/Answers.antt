use Rattle.tp_ancestry.proofs.VectorLaws.{IsVectorOf-known, IsVectorOf-unknown}
use Rattle.tp_ancestry.proofs.PastsLaws.{if_ok-map}
use Rattle.tp_ancestry.proofs.ancestry.Ancestry.take_hash.Goals as goal

pub returns-in-Some : goal.returns-in-Some
returns-in-Some c =
    if_ok-map c.take_change.result
    (λ _ taken known.
    let t = taken known in
    IsVectorOf-known c.args.self.now.changes c.args.hashes.now c.args.number _ c.in-Some.place c.args.vector.now t.own c.take_change.new.vector
    c.changes-changes.ensures.sound c.requires.number c.requires.vector c.in-Some.ensures.place t.known t.placed t.held)
    c.take_change.ensures

pub returns-in-None : goal.returns-in-None
returns-in-None c known =
    IsVectorOf-unknown c.args.self.now.changes c.args.hashes.now c.args.number _ c.args.vector.now c.changes-changes.ensures.sound c.requires.number c.requires.vector c.in-None.ensures.place
