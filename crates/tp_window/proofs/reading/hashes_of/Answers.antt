use Rattle.std.proofs.Common.{inr, ap, subst, ◌∙◌, ℕ, List}
use Rattle.std.proofs.lemmas.Result.{err_from_is_err_and}
use Rattle.tp_opid.specs.HexText.{IsHexOf}
use Rattle.tp_window.specs.Refusals.{refusal_of_text}
use Rattle.tp_window.specs.Requests.{SpellsHash, SpellsNoHash}
use Rattle.tp_window.proofs.TextLaws.{Any-SpellsNoHash, SpellsNoHash-refused}
use Rattle.tp_window.proofs.ZipLaws.{AllZip-more}
use Rattle.tp_window.proofs.reading.hashes_of.Goals as goal

pub loop-text-preserved : goal.loop-text-preserved
loop-text-preserved c =
    let spelled : SpellsHash c.text-item.result c.in_ok-from_text.field-0 =
    subst (λ (bytes : List ℕ). IsHexOf bytes c.in_ok-from_text.field-0.0) c.as_str.ensures.value c.in_ok-from_text.ensures.found in
    AllZip-more SpellsHash c.args.texts.now c.loop-text.text-index c.loop-text.hashes.items c.push.new.self.items c.text-item.result c.text-item.result
    c.in_ok-from_text.field-0 c.loop-text-test.true c.text-item.is c.loop-text.invariant spelled c.in_ok-push.ensures.items

pub returns-in_err-from_text-clause-err : goal.returns-in_err-from_text-clause-err
returns-in_err-from_text-clause-err c =
    let p = err_from_is_err_and c.from_residual-in_err-from_text.result c.from_residual-in_err-from_text.ensures.1 in
    let none : SpellsNoHash c.text-item.result =
    SpellsNoHash-refused c.text-item.result c.as_str.result.now c.from_text.result _ c.as_str.ensures.value c.from_text.ensures.only c.in_err-from_text.was in
    rw p.1 (inr (
      p.2 ∙ ap refusal_of_text c.in_err-from_text.ensures.err,
      Any-SpellsNoHash c.args.texts.now c.loop-text.text-index c.text-item.result c.loop-text-test.true c.text-item.is none,
    ))
