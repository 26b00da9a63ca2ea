use Rattle.tp_ancestry.proofs.PastsLaws.{if_ok-map}
use Rattle.tp_receive.proofs.Common.{◌||◌, refl, ap, sym, ◌∙◌, or_right, has, has_hash}
use Rattle.tp_receive.proofs.ComingLaws.{has-both}
use Rattle.tp_receive.proofs.coming.is_there.Goals as goal

pub returns-then-is_recent-clause-there : goal.returns-then-is_recent-clause-there
returns-then-is_recent-clause-there g c D e =
    let C = g.R.Replica.applied c.args.replica.now in
    let h = c.args.hash.now in
    sym (has-both C D c.args.delivered.now h e ∙ or_right (has C h) (has_hash c.args.delivered.now h) (c.if-is_recent.ensures refl))

pub returns-then-contains-clause-there : goal.returns-then-contains-clause-there
returns-then-contains-clause-there g c D e =
    let C = g.R.Replica.applied c.args.replica.now in
    let h = c.args.hash.now in
    sym (has-both C D c.args.delivered.now h e ∙ ap (λ b. b || has_hash c.args.delivered.now h) (sym c.contains.ensures ∙ c.if-contains.true))

pub returns-clause-there : goal.returns-clause-there
returns-clause-there g c D e =
    let C = g.R.Replica.applied c.args.replica.now in
    let h = c.args.hash.now in
    if_ok-map c.contains-2.result
    (λ there is. is ∙ sym (has-both C D c.args.delivered.now h e ∙ ap (λ b. b || has_hash c.args.delivered.now h) (sym c.contains.ensures ∙ c.if-contains.false)))
    c.contains-2.ensures.there
