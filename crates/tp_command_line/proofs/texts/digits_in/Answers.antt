use Rattle.std.proofs.Common.{◌∙◌, ap, refl}
use Rattle.std.proofs.lemmas.Result.{err_from_is_err_and}
use Rattle.tp_command_line.specs.LineError.{refusal_of_hex}
use Rattle.tp_command_line.proofs.HashTexts.{IsNoHash-refused}
use Rattle.tp_command_line.proofs.texts.digits_in.Goals as goal

pub returns-in_err-key-clause-err : goal.returns-in_err-key-clause-err
returns-in_err-key-clause-err c =
    let p = err_from_is_err_and c.from_residual.result c.from_residual.ensures.1 in
    rw p.1 (p.2 ∙ ap refusal_of_hex c.in_err-key.ensures.err, IsNoHash-refused c.args.text.now _ _ c.in_err-key.ensures.only refl)
