use Rattle.std.proofs.Common.{◌∙◌, ap, sym, Option}
use Rattle.std.specs.Borrow.{Bor}
use Rattle.std.specs.Prelude.{option_map}
use Rattle.clap.specs.Words.{Text, found_of, rows_of}
use Rattle.clap.proofs.WalkLemmas.{first_value-rows}
use Rattle.tp_command_line.proofs.Found.{text_given, value_of}
use Rattle.tp_command_line.proofs.values.text_of.Goals as goal

-- the argument has a value
pub unwrap-requires : goal.unwrap-requires
unwrap-requires c =
    let has = value_of c.args.name.now c.args.id.now (rows_of (found_of c.args.found.now)) c.requires.is_use c.requires.given in
    text_given c.get_str.result has.0 (c.get_str.ensures ∙ (first_value-rows (found_of c.args.found.now) c.args.id.now ∙ has.1))

pub returns : goal.returns
returns c =
    let now : Option (Bor Text) → Option Text = option_map (λ s. s.now) in
    sym (first_value-rows (found_of c.args.found.now) c.args.id.now) ∙ (sym c.get_str.ensures ∙ ap now c.unwrap.ensures)
