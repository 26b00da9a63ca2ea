use Rattle.tp_snapshot.proofs.Common.{◌∙◌, ◌||◌, ap, arith, is_within, id_eq}
use Rattle.tp_snapshot.specs.declared.targets.Stretch.{Stretch}
use Rattle.tp_snapshot.proofs.TargetLaws.{covers_more}
use Rattle.tp_snapshot.proofs.targets.add.Goals as goal

pub returns-in-Some-with : goal.returns-in-Some-with
returns-in-Some-with c =
    let stretches = c.args.stretches.now in
    let last = c.in-Some.last.now in
    let id = c.args.id.now in
    let at = c.in-Some.ensures.item in
    λ x. covers_more stretches.items _ last c.in-Some-with.longer x (id_eq id x) (omega (arith, at.3.0, stretches.ok))
    (c.in-Some-with.ensures x ∙ ap (λ (s : Stretch). is_within s x || id_eq id x) c.in-Some.ensures.value)
