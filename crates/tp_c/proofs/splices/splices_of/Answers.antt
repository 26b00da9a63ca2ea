use Rattle.std.proofs.Common.{rules, ◌∙◌, ◌++◌, ◌∷◌, [], ap, get_or, inl, inr, length, refl, subst, sym, List, ◌+◌}
use Rattle.std.specs.Str.{IsUtf8}
use Rattle.tp_edit.specs.declared.splice.Splice.{Splice}
use Rattle.tp_c.specs.declared.splices.FlatSplice.{FlatSplice}
use Rattle.tp_c.proofs.FlatLaws.{AreBegun, next_unread, one_more}
use Rattle.tp_c.proofs.splices.splices_of.Goals as goal

pub returns-in-Err-from_utf8 : goal.returns-in-Err-from_utf8
returns-in-Err-from_utf8 c =
    let d : FlatSplice = record { at = 0; del = 0; len = 0 } in
    inr (
      search rules,
      inl (
        refl,
        next_unread c.args.flat.now c.args.texts.now c.loop-numbers.numbers-index d _ _ c.loop-numbers.invariant c.loop-numbers-test.true
            (λ u. c.in-Err-from_utf8.ensures.cases.0 (subst IsUtf8 (sym c.split_at.ensures.front) u)),
      ),
    )

pub loop-numbers-preserved : goal.loop-numbers-preserved
loop-numbers-preserved c =
    let flat = c.args.flat.now in
    let texts = c.args.texts.now in
    let i = c.loop-numbers.numbers-index in
    let d : FlatSplice = record { at = 0; del = 0; len = 0 } in
    let f = get_or flat i d in
    let before = c.loop-numbers.splices.items in
    let rest = c.loop-numbers.rest.now in
    let read = c.in-Ok-from_utf8.ensures.cases in
    let s : Splice = record { at = f.at; del = f.del; text = c.in-Ok-from_utf8.text } in
    let step =
    one_more flat texts i d before rest s c.loop-numbers.invariant c.loop-numbers-test.true refl refl (ap length read.0 ∙ c.split_at.ensures.front_len) (read.0 ∙ c.split_at.ensures.front)
    (subst IsUtf8 (sym read.0) read.1) in
    subst (λ (ss : List Splice). AreBegun flat texts (i + 1) ss c.split_at.result.1.now) (sym c.in-Ok-push.ensures.items)
    (subst (AreBegun flat texts (i + 1) (before ++ s ∷ [])) (sym c.split_at.ensures.back) step)
