use Rattle.std.proofs.Common.{◌≡◌, ◌+◌, true, false, cond, length, Some, None, inr, sym, ap, ◌∙◌}
use Rattle.tp_list.proofs.Tests.{both_left}
use Rattle.tp_change.specs.Elements.{next_counter}
use Rattle.tp_textpeer.specs.declared.error.ShowFault.TheVariants.{BadReference}
use Rattle.tp_textpeer.proofs.Links.{not_equal, are_equal, link_not_chain, link_bad_seq, link_bad_start, link_refers, Remembers-push, AllBelowCounter-push, chain_test, refers_test}
use Rattle.tp_textpeer.proofs.chain.admit.Goals as goal

pub returns-then-not-is_chained-clause-err : goal.returns-then-not-is_chained-clause-err
returns-then-not-is_chained-clause-err g c = inr (λ C count kept.
    link_not_chain C c.args.change.now (chain_test C c.args.change.now _ _ _ _ _ false kept (sym c.if-not-is_chained.ensures)))

pub returns-then-seq-count-clause-err : goal.returns-then-seq-count-clause-err
returns-then-seq-count-clause-err g c = inr (λ C count kept.
    let change = c.args.change.now in
    link_bad_seq C change (chain_test C change _ _ _ _ _ true kept (sym c.if-not-is_chained.ensures))
    (not_equal change.seq (length C + 1) (λ e. c.if-seq-count.true (c.seq.ensures ∙ e ∙ ap (λ n. n + 1) count))))

pub returns-then-start-chain-clause-err : goal.returns-then-start-chain-clause-err
returns-then-start-chain-clause-err g c = inr (λ C count kept.
    let change = c.args.change.now in
    link_bad_start C change (chain_test C change _ _ _ _ _ true kept (sym c.if-not-is_chained.ensures))
    (are_equal change.seq (length C + 1) (sym c.seq.ensures ∙ c.if-seq-count.false ∙ ap (λ n. n + 1) (sym count)))
    (not_equal change.start (next_counter C) (λ e. c.if-start-chain.true (c.start.ensures ∙ e ∙ sym kept.next))))

pub returns-then-not-branch-clause-err : goal.returns-then-not-branch-clause-err
returns-then-not-branch-clause-err g c = inr (λ C count kept.
    let change = c.args.change.now in
    link_refers C change (chain_test C change _ _ _ _ _ true kept (sym c.if-not-is_chained.ensures))
    (are_equal change.seq (length C + 1) (sym c.seq.ensures ∙ c.if-seq-count.false ∙ ap (λ n. n + 1) (sym count)))
    (are_equal change.start (next_counter C) (sym c.start.ensures ∙ c.if-start-chain.false ∙ kept.next))
    ∙ ap (λ b. cond b None (Some BadReference)) (refers_test C change _ _ _ _ _ c.in_ok-apply_checked.field-0 kept c.in_ok-apply_checked.ensures.refers ∙ c.if-not-branch.true))

pub returns-clause-below : goal.returns-clause-below
returns-clause-below g c =
    let change = c.args.change.now in
    let start : change.start ≡ c.args.chain.now.next = sym c.start.ensures ∙ c.if-start-chain.false in
    let grown = c.in_ok-apply_checked.ensures.elements c.if-not-branch.false in
    λ a e there. let below = AllBelowCounter-push change _ _ c.args.chain.now.next start c.requires.below grown a e there in rw c.next_start-chain.ensures below

pub returns-clause-ok : goal.returns-clause-ok
returns-clause-ok g c C count kept =
    let change = c.args.change.now in
    let chained = sym c.if-not-is_chained.ensures in
    let start : change.start ≡ c.args.chain.now.next = sym c.start.ensures ∙ c.if-start-chain.false in
    let grown = c.in_ok-apply_checked.ensures.elements c.if-not-branch.false in
    let removed = c.in_ok-apply_checked.ensures.removals c.if-not-branch.false in (
      link_refers C change (chain_test C change _ _ _ _ _ true kept chained)
          (are_equal change.seq (length C + 1) (sym c.seq.ensures ∙ c.if-seq-count.false ∙ ap (λ n. n + 1) (sym count)))
          (are_equal change.start (next_counter C) (start ∙ kept.next))
          ∙ ap (λ b. cond b None (Some BadReference)) (refers_test C change _ _ _ _ _ c.in_ok-apply_checked.field-0 kept c.in_ok-apply_checked.ensures.refers ∙ c.if-not-branch.false),
      rw (c.next_start-chain.ensures, c.actor.ensures, c.hash.ensures.hash) (Remembers-push C change _ _ _ _ _ _ _ c.hash.ensures.limits.start_from (both_left _ _ chained) start kept grown removed),
    )
