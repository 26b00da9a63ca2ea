use Rattle.std.proofs.Common.{Option, ⊎_elim, None, Some, ap, inl, inr, map, subst}
use Rattle.std.specs.String.{string_bytes}
use Rattle.tp_program.specs.Files.{IsRecoveryOutput}
use Rattle.tp_report.specs.declared.error.JobError.TheVariants.{Command}
use Rattle.tp_store.specs.declared.error.StoreError.{StoreError}
use Rattle.tp_program.proofs.running.recover_file.Goals as goal

pub returns-in-None-clause-ok : goal.returns-in-None-clause-ok
returns-in-None-clause-ok g c =
    let P : Option StoreError → Type 0 =
    λ lacking. IsRecoveryOutput (g.D.Folders.saw c.args.rt.now) c.args.file.now (Some c.args.made) (map (λ p. p.now) c.args.paths.now) lacking (string_bytes c.in_ok-text.text) in
    (string_bytes c.in_ok-text.text, subst P c.in-None.is c.in_ok-text.ensures, c.in-Ok.ensures.ok)

pub returns-in-Some-clause-err : goal.returns-in-Some-clause-err
returns-in-Some-clause-err g c =
    let P : Option StoreError → Type 0 =
    λ lacking. IsRecoveryOutput (g.D.Folders.saw c.args.rt.now) c.args.file.now (Some c.args.made) (map (λ p. p.now) c.args.paths.now) lacking (string_bytes c.in_ok-text.text) in
    inr (inr (c.in-Some.error, ap Command c.from.ensures, (string_bytes c.in_ok-text.text, subst P c.in-Some.is c.in_ok-text.ensures, c.in-Ok.ensures.ok)))

pub returns-in-Err-clause-err : goal.returns-in-Err-clause-err
returns-in-Err-clause-err g c =
    ⊎_elim
    (λ kept. inl kept)
    (λ part. inr (inl (part.0, (string_bytes c.in_ok-text.text, (c.in_ok-text.lacking, c.in_ok-text.ensures), part.1))))
    c.in-Err.ensures.err
