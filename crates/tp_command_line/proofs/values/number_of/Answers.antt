use Rattle.std.proofs.Common.{◌∙◌, ap, is_some, subst, sym}
use Rattle.std.specs.Prelude.{ℕ}
use Rattle.clap.specs.Words.{found_of, rows_of}
use Rattle.tp_command_line.specs.Values.{HasNumber}
use Rattle.tp_command_line.proofs.Found.{number_found, number_of, some_is}
use Rattle.tp_command_line.proofs.values.number_of.Goals as goal

-- the number is read
pub unwrap-requires : goal.unwrap-requires
unwrap-requires c =
    let has = number_of c.args.name.now c.args.id.now (rows_of (found_of c.args.found.now)) c.requires.is_use c.requires.given c.requires.number in
    ap is_some (number_found (found_of c.args.found.now) c.args.id.now has.0 c.get_one.result has.1 c.get_one.ensures.value)

pub returns : goal.returns
returns c =
    let has = number_of c.args.name.now c.args.id.now (rows_of (found_of c.args.found.now)) c.requires.is_use c.requires.given c.requires.number in
    let is = number_found (found_of c.args.found.now) c.args.id.now has.0 c.get_one.result has.1 c.get_one.ensures.value in
    subst (λ (n : ℕ). HasNumber c.args.id.now (rows_of (found_of c.args.found.now)) n) (some_is (sym is ∙ c.unwrap.ensures)) has.1
