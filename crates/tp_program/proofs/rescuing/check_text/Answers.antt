use Rattle.std.proofs.Common.{◌∙◌, codes}
use Rattle.std.specs.Fmt.{decimal}
use Rattle.tp_program.specs.Rescuing.{refused_line}
use Rattle.tp_report.proofs.TellLaws.{grouped}
use Rattle.tp_program.proofs.rescuing.check_text.Goals as goal

pub returns : goal.returns
returns c =
    let a = c.args in
    (rw c.in_ok-refused.ensures at c.in_ok-format.ensures.ok)
    ∙ grouped (codes "changes ") (decimal a.changes) (codes "\nkept ") (decimal a.keep) (codes "\nbehind ") (decimal a.beyond) (codes "\nwhole ") (decimal a.whole) (codes "\n") (refused_line a.fault a.keep)
