use Rattle.tp_receive.proofs.Common.{◌∙◌, ◌<◌, None, arith, ap, sym, length, length-set}
use Rattle.tp_receive.proofs.LackingLaws.{all_known, forget_end, forgets_one, keeps_one, known_before, known_more}
use Rattle.tp_receive.proofs.lacking.Lacking.forget_lacked.Goals as goal
use Rattle.tp_receive.proofs.lacking.Lacking.forget_lacked.Goals.{then-is_lacked, else-is_lacked+then-known-i+then-is_some, else-is_lacked+else-known-i}

pub loop-i-preserved : goal.loop-i-preserved
loop-i-preserved c =
    let L = c.args.self.now in
    let M = c.loop-i.self-inside.hashes.items in
    let i = c.loop-i.i in
    let x = c.args.entered.now in
    let inv = c.loop-i.invariant in
    let small : i < length M = omega (arith, c.loop-i-test.true, c.len-i-end.ensures, inv.long, ap length c.self.view_is) in
    elim c.if-is_lacked.branch [
      | then-is_lacked w ↦ record {
        long = ap (λ s. length s.hashes.items) w.self-inside-is ∙ length-set M i None ∙ inv.long;
        beyond = omega (arith, w.known-is, inv.beyond);
        known = λ j few. rw w.self-inside-is (known_before c.loop-i.known i M None inv.beyond inv.known j (omega (arith, w.known-is, few)));
        halfway = λ C D W gains k. rw w.self-inside-is (forgets_one C D W L M i x k inv.long small (inv.halfway C D W gains k));
      }
      | else-is_lacked+then-known-i+then-is_some w ↦ record {
        long = ap (λ s. length s.hashes.items) w.self-inside-is ∙ inv.long;
        beyond = omega (arith, w.known-is);
        known = λ j few. rw w.self-inside-is
            (known_more c.loop-i.known i M w.index-then-known-i.result.now w.if-known-i.true small w.index-then-known-i.ensures (sym w.is_some.ensures ∙ w.if-is_some.true) inv.known j (omega (arith, w.known-is, few)));
        halfway = λ C D W gains k. rw w.self-inside-is
            (keeps_one C D W L M i x c.index.result.now gains k inv.long small c.index.ensures (sym c.is_lacked.ensures ∙ w.if-is_lacked.false) (inv.halfway C D W gains k));
      }
      | else-is_lacked+else-known-i w ↦ record {
        long = ap (λ s. length s.hashes.items) w.self-inside-is ∙ inv.long;
        beyond = omega (arith, w.known-is, inv.beyond);
        known = λ j few. rw w.self-inside-is (inv.known j (omega (arith, w.known-is, few)));
        halfway = λ C D W gains k. rw w.self-inside-is
            (keeps_one C D W L M i x c.index.result.now gains k inv.long small c.index.ensures (sym c.is_lacked.ensures ∙ w.if-is_lacked.false) (inv.halfway C D W gains k));
      }
    ]

pub returns-clause-knows : goal.returns-clause-knows
returns-clause-knows c = λ C D W gains k.
    forget_end C D W c.args.self.now c.loop-i.self-inside.hashes.items c.loop-i.i c.args.entered.now k c.loop-i.invariant.long (omega (arith, c.loop-i-test.false, c.len-i-end.ensures, c.loop-i.invariant.long, ap length c.self.view_is))
    (c.loop-i.invariant.halfway C D W gains k)

pub returns-clause-waits : goal.returns-clause-waits
returns-clause-waits c = λ D W k. all_known D W c.loop-i.self-inside.hashes.items c.loop-i.known k c.loop-i.invariant.known
