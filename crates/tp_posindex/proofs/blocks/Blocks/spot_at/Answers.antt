use Rattle.std.proofs.Common.{◌≡◌, ◌<◌, map, sum, ◌∙◌, ap, subst, arith, length, take}
use Rattle.std.proofs.lemmas.List.{length-map}
use Rattle.tp_posindex.specs.Laid.{Layout}
use Rattle.tp_posindex.specs.Layout.{concat_blocks}
use Rattle.tp_posindex.proofs.Keeping.{lengths_before, lengths_all, length_kept}
use Rattle.tp_posindex.proofs.blocks.Blocks.spot_at.Goals as goal

pub returns-in_err-block-clause-none : goal.returns-in_err-block-clause-none
returns-in_err-block-clause-none c =
    let s = c.self.inside in
    let bs = c.args.self.now.blocks in
    let measured = subst (λ (v : Layout). s.lens.counts ≡ map length v.blocks) c.self.view_is c.self.invariant.measured in
    let all : sum s.lens.counts ≡ length (concat_blocks bs) = ap sum measured ∙ lengths_all bs in
    rw c.from_residual.ensures (omega (arith, all, c.in_err-block.ensures.none))

pub returns-clause-found : goal.returns-clause-found
returns-clause-found c =
    let s = c.self.inside in
    let bs = c.args.self.now.blocks in
    let p = c.in_ok-block.block in
    let found = c.in_ok-block.ensures.found in
    let measured = subst (λ (v : Layout). s.lens.counts ≡ map length v.blocks) c.self.view_is c.self.invariant.measured in
    let many = ap length measured ∙ length-map bs length in
    let lt : p < length bs = omega (arith, found.0) in
    let size = length_kept bs s.lens.counts p measured lt in
    let before : sum (take p s.lens.counts) ≡ length (concat_blocks (take p bs)) = ap (λ z. sum (take p z)) measured ∙ lengths_before bs p in
    (lt, omega (arith, found.2), omega (arith, found.1))
