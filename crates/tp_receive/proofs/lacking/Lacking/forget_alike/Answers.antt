use Rattle.tp_receive.proofs.Common.{◌∙◌, None, arith, ap, sym, length, same_hash, Lacks, LacksApart, length-set}
use Rattle.tp_receive.proofs.LackingLaws.{apart_of, entry_there, halfway_more, halfway_stays, halfway_end}
use Rattle.tp_receive.proofs.lacking.Lacking.forget_alike.Goals as goal
use Rattle.tp_receive.proofs.lacking.Lacking.forget_alike.Goals.{then-is_one, else-is_one}

pub loop-i-preserved : goal.loop-i-preserved
loop-i-preserved c =
    let L = c.loop-i.self-inside.hashes.items in
    let W = c.args.pending.now in
    let i = c.loop-i.i in
    let x = c.args.entered.now in
    let y = entry_there L i (omega (arith, c.loop-i.invariant.long)) in
    elim c.if-is_one.branch [
      | then-is_one w ↦ record {
        long = ap (λ s. length s.hashes.items) w.self-inside-is ∙ length-set L i None ∙ c.loop-i.invariant.long;
        halfway = λ C knows. rw w.self-inside-is
            (halfway_more (Lacks C) (LacksApart C x) W L i c.index-pending-i.result y.0 None c.loop-i-test.true c.loop-i.invariant.long c.index-pending-i.is y.1 (λ k. tt) (c.loop-i.invariant.halfway C knows));
      }
      | else-is_one w ↦ record {
        long = ap (λ s. length s.hashes.items) w.self-inside-is ∙ c.loop-i.invariant.long;
        halfway = λ C knows. rw w.self-inside-is
            (halfway_stays (Lacks C) (LacksApart C x) W L i c.index-pending-i.result y.0 c.loop-i-test.true c.loop-i.invariant.long c.index-pending-i.is y.1
            (apart_of C x c.index-pending-i.result y.0 (sym (c.is_one.ensures ∙ ap (same_hash x) c.hash.ensures.hash) ∙ w.if-is_one.false)) (c.loop-i.invariant.halfway C knows));
      }
    ]

pub returns : goal.returns
returns c = λ C knows.
    halfway_end (Lacks C) (LacksApart C c.args.entered.now) c.args.pending.now c.loop-i.self-inside.hashes.items c.loop-i.i (omega arith) c.loop-i.invariant.long (c.loop-i.invariant.halfway C knows)
