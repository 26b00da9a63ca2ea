use Rattle.tp_ancestry.proofs.Common.{◌≡◌, ◌<◌, ◌≤◌, ◌∙◌, ◌++◌, ◌∷◌, [], List, Bool, length, map, not, take, sym, ap, arith, take_all, length-map, bits}
use Rattle.tp_ancestry.proofs.VectorLaws.{length-bits}
use Rattle.tp_ancestry.proofs.SinceLaws.{not_more}
use Rattle.tp_ancestry.proofs.ancestry.Ancestry.outside_marks.Goals as goal

pub loop-i-preserved : goal.loop-i-preserved
loop-i-preserved c =
    let marks : List Bool = bits c.args.past_set.now c.args.self.now.changes in
    let long : length marks ≡ length c.args.self.now.changes = length-bits c.args.past_set.now c.args.self.now.changes c.requires in
    let small : c.loop-i.i < length marks = omega (arith, c.loop-i-test.true) in
    c.in_ok-push.ensures.items
    ∙ ap (λ l. l ++ not c.holds.result ∷ []) c.loop-i.invariant
    ∙ ap (λ b. take c.loop-i.i (map not marks) ++ not b ∷ []) c.holds.ensures
    ∙ sym (not_more marks c.loop-i.i small)

pub returns-clause-marks : goal.returns-clause-marks
returns-clause-marks c =
    let marks : List Bool = bits c.args.past_set.now c.args.self.now.changes in
    let long : length marks ≡ length c.args.self.now.changes = length-bits c.args.past_set.now c.args.self.now.changes c.requires in
    let turned : length (map not marks) ≡ length marks = length-map marks not in
    let past : length (map not marks) ≤ c.loop-i.i = omega (arith, c.loop-i-test.false) in
    c.loop-i.invariant ∙ take_all c.loop-i.i (map not marks) past

pub returns-clause-len : goal.returns-clause-len
returns-clause-len c =
    let marks : List Bool = bits c.args.past_set.now c.args.self.now.changes in
    let long : length marks ≡ length c.args.self.now.changes = length-bits c.args.past_set.now c.args.self.now.changes c.requires in
    let past : length (map not marks) ≤ c.loop-i.i = let turned = length-map marks not in omega (arith, c.loop-i-test.false) in
    ap length (c.loop-i.invariant ∙ take_all c.loop-i.i (map not marks) past) ∙ length-map marks not ∙ long
