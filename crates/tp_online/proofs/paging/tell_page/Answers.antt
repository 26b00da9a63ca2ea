use Rattle.std.specs.String.{string_bytes}
use Rattle.tp_report.proofs.TellLaws.{part_of_line}
use Rattle.tp_online.proofs.paging.tell_page.Goals as goal

pub returns-clause-err : goal.returns-clause-err
returns-clause-err g c = part_of_line c.put.result c.page_lines.result string_bytes _ _ _ _ c.page_lines.ensures.ok c.put.ensures.err
