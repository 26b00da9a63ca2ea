use Rattle.std.proofs.Common.{◌∙◌, ap, sym, map-id}
use Rattle.std.proofs.lemmas.Iterator.{YieldsList-from_chars}
use Rattle.std.proofs.lemmas.Iterator.Consumers.{YieldsList-end}
use Rattle.std.specs.List.{flat_map}
use Rattle.tp_commands.specs.Naming.{name_char}
use Rattle.tp_commands.proofs.naming.file_name.Goals as goal

pub returns : goal.returns
returns c =
    let all = YieldsList-end (YieldsList-from_chars c.args.file.now c.utf8.file cc) c.loop-ch.yielded _ c.loop-ch.yielded_by _ _ c.in-None.is c.next.ensures.steps in
    c.loop-ch.invariant ∙ ap (flat_map name_char) (sym (map-id c.loop-ch.yielded) ∙ all.0)
