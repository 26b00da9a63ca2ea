use Rattle.std.proofs.Common.{◌≡◌, map, sum, take, ◌∙◌, ap, subst, arith, length}
use Rattle.std.proofs.lemmas.List.{length-map}
use Rattle.tp_posindex.specs.Laid.{Layout}
use Rattle.tp_posindex.specs.Layout.{concat_blocks}
use Rattle.tp_posindex.proofs.Keeping.{lengths_before}
use Rattle.tp_posindex.proofs.blocks.Blocks.first_of.Goals as goal

pub sum_before-requires : goal.sum_before-requires
sum_before-requires c =
    let s = c.self.inside in
    let measured = subst (λ (v : Layout). s.lens.counts ≡ map length v.blocks) c.self.view_is c.self.invariant.measured in
    let many = ap length measured ∙ length-map c.args.self.now.blocks length in
    omega arith

pub returns : goal.returns
returns c =
    let s = c.self.inside in
    let measured = subst (λ (v : Layout). s.lens.counts ≡ map length v.blocks) c.self.view_is c.self.invariant.measured in
    let before : sum (take c.args.block s.lens.counts) ≡ length (concat_blocks (take c.args.block c.args.self.now.blocks)) = ap (λ z. sum (take c.args.block z)) measured ∙ lengths_before c.args.self.now.blocks c.args.block in
    omega (arith, before, c.sum_before.ensures)
