use Rattle.std.proofs.Common.{◌∙◌, ap}
use Rattle.std.proofs.lemmas.Result.{IfOk-weaker}
use Rattle.tp_hunks.specs.Words.{words_text}
use Rattle.tp_commands.proofs.DiffLaws.{replacements_lead}
use Rattle.tp_commands.proofs.diff.words_of.Goals as goal

pub words_text-requires : goal.words_text-requires
words_text-requires c =
    rw c.deref.ensures.value (replacements_lead c.args.old.now c.args.new.now c.args.differences.now c.in_ok-replacements.replacements.items c.requires c.in_ok-replacements.ensures)

pub returns : goal.returns
returns c =
    IfOk-weaker c.words_text.result _ _
    (λ l e. record {
      replacements = c.in_ok-replacements.replacements.items;
      are = c.in_ok-replacements.ensures;
      spelled = rw c.deref.ensures.value at e;
    }) c.words_text.ensures
