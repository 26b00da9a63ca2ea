use Rattle.clap.specs.Words.{Text, found_of, rows_of}
use Rattle.tp_command_line.proofs.Found.{fails_as, parsed_of, use_found, value_fails}
use Rattle.tp_command_line.proofs.ShowWords.{only_memory, passed_up, show_path, show_reads, value_passed}
use Rattle.tp_command_line.specs.Commands.{IsShow}
use Rattle.tp_command_line.specs.declared.parsing.Wanted.{Wanted}
use Rattle.tp_command_line.proofs.parsing.line.Goals as goal

-- what is wanted shows the log at the path
abbrev shows : Text → Wanted → Type 0
shows path wanted = IsShow path wanted.job

pub returns-in_err-matches-clause-fails : goal.returns-in_err-matches-clause-fails
returns-in_err-matches-clause-fails g c =
    fails_as _ _ c.in_err-matches.field-0.0 c.from_residual-in_err-matches.result c.in_ok-textpeer_command.ensures
    c.from_residual-in_err-matches.ensures.1 c.in_err-matches.ensures.kinds

pub returns-in_err-matches-clause-shows : goal.returns-in_err-matches-clause-shows
returns-in_err-matches-clause-shows g c path ask =
    let memory = only_memory _ path _ c.in_err-matches.field-0.0 c.in_ok-textpeer_command.ensures ask c.in_err-matches.ensures.kinds in
    passed_up (shows path) c.from_residual-in_err-matches.result _ c.from_residual-in_err-matches.ensures.1 memory

-- the parse found no fault in the words
pub returns-clause-fails : goal.returns-clause-fails
returns-clause-fails g c =
    let ok = c.in_ok-matches.ensures in
    (parsed_of _ _ c.in_ok-matches.matches c.in_ok-textpeer_command.ensures ok.matches ok.kinds).no_fault

-- the rows are a use of the subcommand
pub number_in-requires-clause-is_use : goal.number_in-requires-clause-is_use
number_in-requires-clause-is_use g c =
    let ok = c.in_ok-matches.ensures in
    let parsed = parsed_of _ _ c.in_ok-matches.matches c.in_ok-textpeer_command.ensures ok.matches ok.kinds in
    (use_found _ _ c.subcommand.result c.unwrap.result parsed c.unwrap.ensures c.subcommand.ensures.name c.subcommand.ensures.rows).1

pub job_of-requires : goal.job_of-requires
job_of-requires g c =
    let ok = c.in_ok-matches.ensures in
    let parsed = parsed_of _ _ c.in_ok-matches.matches c.in_ok-textpeer_command.ensures ok.matches ok.kinds in
    (use_found _ _ c.subcommand.result c.unwrap.result parsed c.unwrap.ensures c.subcommand.ensures.name c.subcommand.ensures.rows).1

pub returns-clause-job : goal.returns-clause-job
returns-clause-job g c =
    let ok = c.in_ok-matches.ensures in
    let parsed = parsed_of _ _ c.in_ok-matches.matches c.in_ok-textpeer_command.ensures ok.matches ok.kinds in
    let found = use_found _ _ c.subcommand.result c.unwrap.result parsed c.unwrap.ensures c.subcommand.ensures.name c.subcommand.ensures.rows in
    (c.unwrap.result.0.now, rows_of (found_of c.unwrap.result.1.now), found.0, c.in_ok-job_of.ensures.ok)

pub returns-clause-waits : goal.returns-clause-waits
returns-clause-waits g c =
    let ok = c.in_ok-matches.ensures in
    let parsed = parsed_of _ _ c.in_ok-matches.matches c.in_ok-textpeer_command.ensures ok.matches ok.kinds in
    let found = use_found _ _ c.subcommand.result c.unwrap.result parsed c.unwrap.ensures c.subcommand.ensures.name c.subcommand.ensures.rows in
    (c.unwrap.result.0.now, rows_of (found_of c.unwrap.result.1.now), found.0, c.number_in.ensures)

-- words that ask to show a path get that path
pub returns-clause-shows : goal.returns-clause-shows
returns-clause-shows g c path ask = show_path path _ c.in_ok-job_of.field-0 ask (returns-clause-job g c)

-- a value that isn't read
pub returns-in_err-job_of-clause-fails : goal.returns-in_err-job_of-clause-fails
returns-in_err-job_of-clause-fails g c =
    let ok = c.in_ok-matches.ensures in
    let parsed = parsed_of _ _ c.in_ok-matches.matches c.in_ok-textpeer_command.ensures ok.matches ok.kinds in
    let found = use_found _ _ c.subcommand.result c.unwrap.result parsed c.unwrap.ensures c.subcommand.ensures.name c.subcommand.ensures.rows in
    value_fails _ _ _ _ c.in_err-job_of.field-0.0 c.from_residual-in_err-job_of.result parsed.no_fault found.0 c.from_residual-in_err-job_of.ensures.1 c.in_err-job_of.ensures.err

pub returns-in_err-job_of-clause-shows : goal.returns-in_err-job_of-clause-shows
returns-in_err-job_of-clause-shows g c path ask =
    let ok = c.in_ok-matches.ensures in
    let parsed = parsed_of _ _ c.in_ok-matches.matches c.in_ok-textpeer_command.ensures ok.matches ok.kinds in
    let found = use_found _ _ c.subcommand.result c.unwrap.result parsed c.unwrap.ensures c.subcommand.ensures.name c.subcommand.ensures.rows in
    value_passed (shows path) c.from_residual-in_err-job_of.result c.in_err-job_of.field-0.0 c.from_residual-in_err-job_of.ensures.1
    (show_reads path _ _ _ c.in_err-job_of.field-0.0 ask found.0 c.in_err-job_of.ensures.err)
