use Rattle.std.proofs.Common.{◌∙◌, List, [], Option, ap, subst, sym, map}
use Rattle.std.specs.Borrow.{Bor}
use Rattle.std.specs.Prelude.{option_map, unwrap_or}
use Rattle.clap.specs.Words.{Text, found_of, rows_of}
use Rattle.clap.proofs.WalkLemmas.{raw_values-rows}
use Rattle.tp_opid.specs.declared.hash.Hash.{Hash}
use Rattle.tp_command_line.specs.Values.{AreHexOf}
use Rattle.tp_command_line.proofs.HashTexts.{unread}
use Rattle.tp_command_line.proofs.Subcommands.{IfErr-map, IfOk-map}
use Rattle.tp_command_line.proofs.values.hashes_of.Goals as goal

pub returns-in-Some-clause-ok : goal.returns-in-Some-clause-ok
returns-in-Some-clause-ok c =
    let all : Option (List Text) → List Text = λ o. unwrap_or o [] in
    let given : Option (Bor (List (Bor Text))) → Option (List Text) = option_map (λ s. map (λ h. h.now) s.now) in
    let is = sym (ap given c.in-Some.is) ∙ (c.get_strs.ensures ∙ raw_values-rows (found_of c.args.found.now) c.args.id.now) in
    IfOk-map c.hashes_in.result _ _ (λ v are. subst (λ (ts : List Text). AreHexOf ts v.items) (ap all is) are) c.hashes_in.ensures.ok

pub returns-in-Some-clause-err : goal.returns-in-Some-clause-err
returns-in-Some-clause-err c =
    let all : Option (List Text) → List Text = λ o. unwrap_or o [] in
    let given : Option (Bor (List (Bor Text))) → Option (List Text) = option_map (λ s. map (λ h. h.now) s.now) in
    let is = sym (ap given c.in-Some.is) ∙ (c.get_strs.ensures ∙ raw_values-rows (found_of c.args.found.now) c.args.id.now) in
    IfErr-map c.hashes_in.result _ _ (λ e bad. unread c.args.id.now c.in-Some.hashes.now (rows_of (found_of c.args.found.now)) e c.requires (ap all is) bad) c.hashes_in.ensures.err

pub returns-in-None-clause-ok : goal.returns-in-None-clause-ok
returns-in-None-clause-ok c =
    let all : Option (List Text) → List Text = λ o. unwrap_or o [] in
    let given : Option (Bor (List (Bor Text))) → Option (List Text) = option_map (λ s. map (λ h. h.now) s.now) in
    let is = sym (ap given c.in-None.is) ∙ (c.get_strs.ensures ∙ raw_values-rows (found_of c.args.found.now) c.args.id.now) in
    subst (λ (ts : List Text). AreHexOf ts c.new.result.items) (ap all is) (subst (λ (hs : List Hash). AreHexOf [] hs) (sym c.new.ensures.items) tt)
