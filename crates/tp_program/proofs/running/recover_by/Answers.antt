use Rattle.std.proofs.Common.{◌≡◌, ℕ, Bor, IfErr, List, None, OnOk, Option, Some, map, subst, sym}
use Rattle.std.specs.Io.KnownBytes.{Appends, Keeps}
use Rattle.std.specs.String.{string_bytes}
use Rattle.tp_textpeer.specs.Output.{AppendsPart}
use Rattle.tp_commands.specs.CommandError.{command_refusal_of_bytes}
use Rattle.tp_report.specs.JobError.{IsOfOutput}
use Rattle.tp_report.specs.Telling.{GrowsBy}
use Rattle.tp_report.specs.declared.error.JobError.{JobError}
use Rattle.tp_report.specs.declared.error.JobError.TheVariants.{Command}
use Rattle.tp_store.specs.declared.error.StoreError.{StoreError}
use Rattle.tp_program.specs.Files.{IsRecoveryOutput}
use Rattle.tp_program.specs.Output.{RefusesRecoveryOutput}
use Rattle.tp_program.proofs.DoneLaws.{partly_of, printed_of}
use Rattle.tp_program.proofs.running.recover_by.Goals as goal

-- a journal is made
pub returns-in-Some-clause-ok : goal.returns-in-Some-clause-ok
returns-in-Some-clause-ok g c =
    let saw = g.D.Folders.saw c.args.rt.now in
    let P : Option (Bor (List ℕ)) → Type 0 =
    λ made. OnOk c.recover_file.result (GrowsBy (IsRecoveryOutput saw c.args.file.now made (map (λ p. p.now) c.args.paths.now) None) (g.W.Write.contents c.args.out.now) (g.W.Write.contents c.recover_file.new.out)) in
    subst P (sym c.in-Some.is) c.recover_file.ensures.ok

pub returns-in-Some-clause-err : goal.returns-in-Some-clause-err
returns-in-Some-clause-err g c =
    let saw = g.D.Folders.saw c.args.rt.now in
    let P : Option (Bor (List ℕ)) → Type 0 =
    λ made. IfErr c.recover_file.result (λ e. RefusesRecoveryOutput saw c.args.file.now made (map (λ p. p.now) c.args.paths.now) (g.W.Write.contents c.args.out.now) e (g.W.Write.contents c.recover_file.new.out)) in
    subst P (sym c.in-Some.is) c.recover_file.ensures.err

-- the texts are printed
pub returns-in-None-clause-ok : goal.returns-in-None-clause-ok
returns-in-None-clause-ok g c =
    let saw = g.D.Folders.saw c.args.rt.now in
    let before = g.W.Write.contents c.args.out.now in
    let after = g.W.Write.contents c.put.new.out in
    let P : Option (Bor (List ℕ)) → Type 0 =
    λ made. OnOk c.put.result (GrowsBy (IsRecoveryOutput saw c.args.file.now made (map (λ p. p.now) c.args.paths.now) None) before after) in
    subst P (sym c.in-None.is)
    (printed_of c.put.result c.texts_of_records.result (λ l. string_bytes l) (IsRecoveryOutput saw c.args.file.now None (map (λ p. p.now) c.args.paths.now) None) (Appends before after)
    c.put.ensures.ok c.texts_of_records.ensures)

pub returns-in-None-clause-err : goal.returns-in-None-clause-err
returns-in-None-clause-err g c =
    let saw = g.D.Folders.saw c.args.rt.now in
    let before = g.W.Write.contents c.args.out.now in
    let after = g.W.Write.contents c.put.new.out in
    let printed : Option StoreError → List ℕ → Type 0 = IsRecoveryOutput saw c.args.file.now None (map (λ p. p.now) c.args.paths.now) in
    let P : Option (Bor (List ℕ)) → Type 0 =
    λ made. IfErr c.put.result (λ e. RefusesRecoveryOutput saw c.args.file.now made (map (λ p. p.now) c.args.paths.now) before e after) in
    subst P (sym c.in-None.is)
    (partly_of c.put.result c.texts_of_records.result (λ l. string_bytes l) (printed None) (λ x. (lacking : Option StoreError) × printed lacking x) (AppendsPart before after) (Keeps before after)
    (λ (e : JobError). IsOfOutput e) (λ (e : JobError). (lacking : StoreError) × (e ≡ Command (command_refusal_of_bytes lacking)) × GrowsBy (printed (Some lacking)) before after)
    (λ x p. (None, p)) c.put.ensures.err c.texts_of_records.ensures)
