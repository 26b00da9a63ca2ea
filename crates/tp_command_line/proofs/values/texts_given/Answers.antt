use Rattle.std.proofs.Common.{◌∙◌, List, [], Option, ap, sym, map}
use Rattle.std.specs.Borrow.{Bor}
use Rattle.std.specs.Prelude.{option_map, unwrap_or}
use Rattle.clap.specs.Words.{Text, found_of}
use Rattle.clap.proofs.WalkLemmas.{raw_values-rows}
use Rattle.tp_command_line.proofs.values.texts_given.Goals as goal

pub returns-in_ok-copies_of-in-Some-clause-ok : goal.returns-in_ok-copies_of-in-Some-clause-ok
returns-in_ok-copies_of-in-Some-clause-ok c =
    let all : Option (List Text) → List Text = λ o. unwrap_or o [] in
    let given : Option (Bor (List (Bor Text))) → Option (List Text) = option_map (λ s. map (λ h. h.now) s.now) in
    let is = sym (ap given c.in-Some.is) ∙ (c.get_strs.ensures ∙ raw_values-rows (found_of c.args.found.now) c.args.id.now) in
    c.in_ok-copies_of-in-Some.ensures ∙ ap all is

pub returns-in-None-clause-ok : goal.returns-in-None-clause-ok
returns-in-None-clause-ok c =
    let all : Option (List Text) → List Text = λ o. unwrap_or o [] in
    let given : Option (Bor (List (Bor Text))) → Option (List Text) = option_map (λ s. map (λ h. h.now) s.now) in
    let is = sym (ap given c.in-None.is) ∙ (c.get_strs.ensures ∙ raw_values-rows (found_of c.args.found.now) c.args.id.now) in
    ap (map (λ (t : Bor Text). t.now)) c.new.ensures.items ∙ ap all is
