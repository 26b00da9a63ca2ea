use Rattle.std.proofs.Common.{ℕ, Bor, IfErr, List, None, OnOk, map, subst}
use Rattle.tp_report.specs.Telling.{GrowsBy}
use Rattle.tp_program.specs.Files.{IsRecoveryOutput}
use Rattle.tp_program.specs.Output.{RefusesRecoveryOutput}
use Rattle.tp_program.proofs.running.recover_job.Goals as goal

pub returns-clause-ok : goal.returns-clause-ok
returns-clause-ok g c =
    let P : List (Bor (List ℕ)) → Type 0 =
    λ paths. OnOk c.recover_by.result (GrowsBy (IsRecoveryOutput (g.D.Folders.saw c.args.rt.now) c.args.file.now c.args.made (map (λ p. p.now) paths) None) (g.W.Write.contents c.args.out.now) (g.W.Write.contents c.recover_by.new.out)) in
    subst P c.deref.ensures.value c.recover_by.ensures.ok

pub returns-clause-err : goal.returns-clause-err
returns-clause-err g c =
    let P : List (Bor (List ℕ)) → Type 0 =
    λ paths. IfErr c.recover_by.result (λ e. RefusesRecoveryOutput (g.D.Folders.saw c.args.rt.now) c.args.file.now c.args.made (map (λ p. p.now) paths) (g.W.Write.contents c.args.out.now) e (g.W.Write.contents c.recover_by.new.out)) in
    subst P c.deref.ensures.value c.recover_by.ensures.err
