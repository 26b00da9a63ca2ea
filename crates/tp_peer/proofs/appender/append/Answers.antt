use Rattle.tp_peer.proofs.Common.{◌≡◌, ℕ, List, ◌++◌, ap, subst, sym, ◌∙◌, RefusesAppend, record_of, JournalState, RefusesRecord, journal_state}
use Rattle.tp_receive.specs.declared.keeper.KeepError.{KeepError}
use Rattle.tp_peer.proofs.AppendingLaws.{record_refused}
use Rattle.tp_peer.proofs.appender.append.Goals as goal

pub returns-in-Err-append-clause-err : goal.returns-in-Err-append-clause-err
returns-in-Err-append-clause-err g c =
    let J = g.J.Journal in
    let change = c.args.change.now in
    let k : JournalState = journal_state (J.content c.args.journal.now) (J.device c.args.journal.now) in
    let k' : JournalState = journal_state (J.content c.append.new.self) (J.device c.append.new.self) in
    let bytes : c.as_slice.result.now ≡ record_of change = c.as_slice.ensures.value ∙ c.in-Ok.ensures.bytes ∙ ap (λ (l : List ℕ). l ++ record_of change) c.clear.ensures.items in
    subst (λ (r : KeepError). RefusesRecord k change r k') (sym c.reason.ensures)
    (record_refused k k' change c.in-Err-append.error c.hash-hash.ensures.limits
    (subst (λ (b : List ℕ). RefusesAppend k.content b c.in-Err-append.error k'.content) bytes c.in-Err-append.ensures.part)
    c.in-Err-append.ensures.counts)
