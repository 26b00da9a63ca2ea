use Rattle.std.proofs.lemmas.Iterator.{YieldsList-from_chars}
use Rattle.std.proofs.lemmas.Iterator.Consumers.{count_from_yields_List}
use Rattle.std.proofs.lemmas.Str.{scalars-chars}
use Rattle.tp_list.proofs.text.char_count.Goals as goal

pub returns-clause-count : goal.returns-clause-count
returns-clause-count c =
    count_from_yields_List c.chars.result c.count.result c.count.ensures.ran (YieldsList-from_chars c.args.text.now c.utf8.text cc)

pub returns-clause-scalars : goal.returns-clause-scalars
returns-clause-scalars c = scalars-chars c.args.text.now c.utf8.text
