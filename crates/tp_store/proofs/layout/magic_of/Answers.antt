use Rattle.std.proofs.Common.{sym, ◌∙◌}
use Rattle.std.proofs.lemmas.Result.{err_from_is_err_and}
use Rattle.tp_store.specs.declared.saved.TheConstants.{MAGIC}
use Rattle.tp_store.proofs.PieceSteps.{letters_on, letters_err, letters_done}
use Rattle.tp_store.proofs.layout.magic_of.Goals as goal

pub returns-in_err-letter_of : goal.returns-in_err-letter_of
returns-in_err-letter_of c =
    let p = err_from_is_err_and c.from_residual.result c.from_residual.ensures.1 in
    rw (p.1, p.2)
    (sym c.loop-letter.invariant ∙ letters_err MAGIC c.loop-letter.letter-index c.loop-letter.reader c.in_err-letter_of.field-0.0 c.loop-letter-test.true c.in_err-letter_of.ensures)

pub loop-letter-preserved : goal.loop-letter-preserved
loop-letter-preserved c =
    sym (letters_on MAGIC c.loop-letter.letter-index c.loop-letter.reader c.letter_of.new.reader c.loop-letter-test.true c.in_ok-letter_of.ensures) ∙ c.loop-letter.invariant

pub returns : goal.returns
returns c = sym c.loop-letter.invariant ∙ letters_done MAGIC c.loop-letter.letter-index c.loop-letter.reader c.loop-letter-test.false
