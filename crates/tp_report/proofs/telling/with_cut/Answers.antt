use Rattle.std.proofs.Common.{◌≡◌, ◌∙◌, Option, ℕ, subst, sym}
use Rattle.std.specs.Fmt.{decimal}
use Rattle.std.specs.String.{string_bytes}
use Rattle.tp_report.specs.Telling.{with_cut}
use Rattle.tp_report.proofs.TellLaws.{cut_line}
use Rattle.tp_report.proofs.telling.with_cut.Goals as goal

pub returns-in_ok-format-in-Some : goal.returns-in_ok-format-in-Some
returns-in_ok-format-in-Some c =
    subst (λ (cut : Option ℕ). string_bytes c.in_ok-format-in-Some.field-0 ≡ with_cut (string_bytes c.args.text) c.args.file.now cut) (sym c.in-Some.is)
    (c.in_ok-format-in-Some.ensures.ok ∙ cut_line (string_bytes c.args.text) c.args.file.now (decimal c.in-Some.at))
