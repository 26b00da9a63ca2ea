use Rattle.std.proofs.lemmas.Result.{IfOk-weaker}
use Rattle.tp_commands.proofs.DiffLaws.{replacements_lead}
use Rattle.tp_commands.proofs.diff.hunks_of.Goals as goal

pub hunks-requires : goal.hunks-requires
hunks-requires c =
    rw c.deref.ensures.value (replacements_lead c.args.old.now c.args.new.now c.args.differences.now c.in_ok-replacements.replacements.items c.requires c.in_ok-replacements.ensures)

pub returns : goal.returns
returns c =
    IfOk-weaker c.hunks.result _ _ (λ hs are. (c.in_ok-replacements.replacements.items, c.in_ok-replacements.ensures, rw c.deref.ensures.value at are)) c.hunks.ensures
