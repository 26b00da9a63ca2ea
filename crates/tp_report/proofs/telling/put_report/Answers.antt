use Rattle.std.specs.String.{string_bytes}
use Rattle.tp_report.proofs.TellLaws.{part_reported}
use Rattle.tp_report.proofs.telling.put_report.Goals as goal

pub returns : goal.returns
returns g c = part_reported c.put.result c.report_text.result string_bytes _ _ _ _ c.report_text.ensures c.put.ensures.ok c.put.ensures.err
