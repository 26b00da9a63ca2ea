use Rattle.std.proofs.Common.{Option, ⊎_elim, ap, inl, inr, rules, subst}
use Rattle.std.specs.String.{string_bytes}
use Rattle.tp_program.specs.Rescuing.{IsChecked}
use Rattle.tp_report.specs.declared.error.JobError.TheVariants.{Command}
use Rattle.tp_store.specs.declared.error.StoreError.{StoreError}
use Rattle.tp_program.proofs.running.check_file.Goals as goal

pub returns-in-Some-clause-err : goal.returns-in-Some-clause-err
returns-in-Some-clause-err g c =
    let checked : IsChecked c.in_ok-bytes.bytes.items c.in_ok-text.fault (string_bytes c.in_ok-text.text) = search rules in
    let at_fault = subst (λ (f : Option StoreError). IsChecked c.in_ok-bytes.bytes.items f (string_bytes c.in_ok-text.text)) c.in-Some.is checked in
    inr
    (inr (c.in-Some.error, ap Command c.from.ensures, (string_bytes c.in_ok-text.text, (c.in_ok-bytes.bytes.items, c.in_ok-bytes.ensures, at_fault), c.in-Ok.ensures.ok)))

pub returns-clause-err : goal.returns-clause-err
returns-clause-err g c =
    let checked : IsChecked c.in_ok-bytes.bytes.items c.in_ok-text.fault (string_bytes c.in_ok-text.text) = search rules in
    ⊎_elim
    (λ kept. inl kept)
    (λ part. inr (inl (part.0, (string_bytes c.in_ok-text.text, (c.in_ok-bytes.bytes.items, c.in_ok-bytes.ensures, (c.in_ok-text.fault, checked)), part.1))))
    c.in-Err.ensures.err
