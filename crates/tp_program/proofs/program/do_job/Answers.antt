use Rattle.std.proofs.Common.{subst, sym}
use Rattle.std.specs.Prelude.{OnOk}
use Rattle.tp_command_line.specs.declared.job.Job.{Job}
use Rattle.tp_program.specs.Output.{IsJobOutput}
use Rattle.tp_report.specs.Telling.{GrowsBy}
use Rattle.tp_program.proofs.DoneLaws.{done_after}
use Rattle.tp_program.proofs.program.do_job.Goals as goal

-- of a page
pub returns-clause-prints : goal.returns-clause-prints
returns-clause-prints g c =
    let before = g.W.Write.contents c.args.out.now in
    let after = g.W.Write.contents c.web_file.new.out in
    done_after c.web_file.result c.without_value-in-Web.result _ c.without_value-in-Web.ensures
    (subst (λ (job : Job). OnOk c.web_file.result (GrowsBy (IsJobOutput (g.R.Folders.saw c.args.rt.now) job) before after)) (sym c.in-Web.is) c.web_file.ensures.ok)
