use Rattle.std.proofs.Common.{◌∙◌, ap, inr, refl}
use Rattle.std.proofs.lemmas.Result.{err_from_is_err_and}
use Rattle.tp_command_line.specs.LineError.{refusal_of_hex}
use Rattle.tp_command_line.proofs.HashTexts.{Any-IsNoHash, AreHexOf-more, IsNoHash-refused}
use Rattle.tp_command_line.proofs.texts.hashes_in.Goals as goal

pub loop-text-preserved : goal.loop-text-preserved
loop-text-preserved c =
    AreHexOf-more c.args.texts.now c.loop-text.text-index c.loop-text.hashes.items c.push.new.self.items _ _ c.in_ok-from_text.field-0
    c.loop-text-test.true refl c.loop-text.invariant c.in_ok-from_text.ensures.found c.in_ok-push.ensures.items

pub returns-in_err-from_text-clause-err : goal.returns-in_err-from_text-clause-err
returns-in_err-from_text-clause-err c =
    let p = err_from_is_err_and c.from_residual-in_err-from_text.result c.from_residual-in_err-from_text.ensures.1 in
    rw p.1 (inr (
      p.2 ∙ ap refusal_of_hex c.in_err-from_text.ensures.err,
      Any-IsNoHash c.args.texts.now c.loop-text.text-index _ _ c.loop-text-test.true refl (IsNoHash-refused _ _ _ c.in_err-from_text.ensures.only refl),
    ))
