use Rattle.std.proofs.Common.{None, [], inl, inr, refl, subst, ⊎_elim}
use Rattle.std.proofs.KnownBytes.{Keeps-refl}
use Rattle.tp_command_line.specs.LineError.{RefusesLine}
use Rattle.tp_program.proofs.LineCauses.{at_fault, help_asked}
use Rattle.tp_program.proofs.program.run_words_on.Goals as goal

-- a value that wasn't read, or help that couldn't be printed
pub returns-in-Err-clause-refused : goal.returns-in-Err-clause-refused
returns-in-Err-clause-refused g c refused =
    ⊎_elim
    (λ value. inl (value.0, subst (RefusesLine _ _) value.1 c.in-Err.ensures.fails, value.2, value.3))
    (λ help. inr ([], [], None, help.0, g.E.Write.contents c.args.err.now, help.2, inl (help_asked _ _ c.in-Err.fault c.in-Err.ensures.fails help.1, refl, refl, Keeps-refl _, help.3)))
    (c.explain.ensures.refused refused)

-- of help nothing is printed on the error stream
pub returns-in-Err-clause-done : goal.returns-in-Err-clause-done
returns-in-Err-clause-done g c done =
    let d = c.explain.ensures.done done in
    ([], None, None, g.E.Write.contents c.args.err.now, d.0, inl (help_asked _ _ c.in-Err.fault c.in-Err.ensures.fails d.1, refl, refl, Keeps-refl _))

pub returns-in-Err-clause-misused : goal.returns-in-Err-clause-misused
returns-in-Err-clause-misused g c misused =
    let m = c.explain.ensures.misused misused in (at_fault _ _ c.in-Err.fault c.in-Err.ensures.fails m.0, m.1)
