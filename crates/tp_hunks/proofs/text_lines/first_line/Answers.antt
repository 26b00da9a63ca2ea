use Rattle.tp_hunks.proofs.FileLines.{first_line_at}
use Rattle.tp_hunks.proofs.text_lines.first_line.Goals as goal

pub returns-clause-lines : goal.returns-clause-lines
returns-clause-lines c = first_line_at c.args.text.now c.line_len-len.result c.requires c.line_len-len.ensures.len
