use Rattle.std.proofs.Common.{◌<◌, ◌∙◌, ap, arith, length, set}
use Rattle.tp_c.specs.declared.splices.FlatSplice.{FlatSplice}
use Rattle.tp_c.proofs.NumberLaws.{first_all, first_more}
use Rattle.tp_c.proofs.earlier.write_numbers.Goals as goal

pub loop-i-preserved : goal.loop-i-preserved
loop-i-preserved c =
    let x = c.index-found-i.result in
    let lt : c.loop-i.i < length c.args.found.now = omega (arith, c.loop-i-test.true, c.min-count.ensures) in
    let room : c.loop-i.i < length c.args.places.now = omega (arith, c.loop-i-test.true, c.min-count.ensures, c.loop-i.auto.places) in
    let v : FlatSplice = record { at = x.at; del = x.del; len = c.byte_len.result } in
    ap (λ l. set l c.loop-i.i v) c.loop-i.invariant
    ∙ first_more c.args.found.now c.args.places.now c.loop-i.i x c.byte_len.result lt room c.index-found-i.is c.byte_len.ensures

pub returns : goal.returns
returns c = c.loop-i.invariant ∙ first_all c.args.found.now c.args.places.now c.loop-i.i (omega (arith, c.loop-i-test.false, c.loop-i.auto.i-end, c.min-count.ensures))
