use Rattle.std.proofs.Common.{Result, Ok, Err}
use Rattle.std.specs.Prelude.{OnOk}
use Rattle.tp_commands.proofs.updating.import.Goals as goal

-- what holds where it was done
on_done : {A E P : Type 0} (r : Result A E) → P → OnOk r P
on_done (Ok x) p = p
on_done (Err e) p = tt

pub returns-in-Ok-false-clause-empty : goal.returns-in-Ok-false-clause-empty
returns-in-Ok-false-clause-empty g c =
    on_done c.update_now.result (c.args.opened.1.document.id, c.args.opened.1.document.applied, c.args.opened.1.keep, c.requires.recovers, c.in-Ok-false.ensures.ok c.in-Ok-false.field-0-test)
