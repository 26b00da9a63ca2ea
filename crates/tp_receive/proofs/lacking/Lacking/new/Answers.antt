use Rattle.tp_receive.proofs.Common.{◌≡◌, None, length, replicate, subst, sym, KnowsLack, Lacks}
use Rattle.std.proofs.Common.{rules}
use Rattle.tp_receive.proofs.LackingLaws.{zipped_none}
use Rattle.tp_receive.proofs.lacking.Lacking.new.Goals as goal

pub returns : goal.returns
returns c = λ C.
    let all : c.in_ok-vec.field-0.items ≡ replicate (length c.args.pending.now) None = c.in_ok-vec.ensures.items_if_clones_equal (λ y h. search rules) in
    subst (KnowsLack C c.args.pending.now) (sym all) (zipped_none (Lacks C) c.args.pending.now None (λ x. tt))
