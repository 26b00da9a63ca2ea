use Rattle.std.proofs.Common.{sym, ap, ◌∙◌}
use Rattle.tp_layout.proofs.PutsLaws.{OnOk-then, OnOk-as}
use Rattle.tp_layout.specs.Spelling.{spelling, spelling_of_records, version_of}
use Rattle.tp_layout.proofs.writing.put_change.Goals as goal

pub returns-clause-puts : goal.returns-clause-puts
unfolding spelling
returns-clause-puts g c =
    let is = c.body.view_is in
    let counted = OnOk-as _ _ _ _ _ _ (ap (λ p. spelling_of_records p.records) (sym is)) c.put_counted.ensures.puts in
    let deps = OnOk-then _ _ _ _ _ _ _ (rw (c.deps.ensures ∙ ap (λ p. p.deps) (sym is)) at c.in_ok-put_deps.ensures.puts) counted in
    let message = OnOk-then _ _ _ _ _ _ _ (rw (ap (λ p. p.message) (sym is)) at c.in_ok-put_message.ensures.puts) deps in
    let time = OnOk-then _ _ _ _ _ _ _ c.in_ok-put_u64-3.ensures.puts message in
    let start = OnOk-then _ _ _ _ _ _ _ c.in_ok-put_u64-2.ensures.puts time in
    let seq = OnOk-then _ _ _ _ _ _ _ (rw (c.seq.ensures ∙ ap (λ p. p.seq) (sym is)) at c.in_ok-put_u64.ensures.puts) start in
    let actor = OnOk-then _ _ _ _ _ _ _ c.in_ok-put-2.ensures.puts seq in
    let version = c.version_of.ensures ∙ ap version_of (c.records.ensures ∙ ap (λ p. p.records) (sym is)) in
    OnOk-as _ _ _ _ _ _ (ap spelling is) (OnOk-then _ _ _ _ _ _ _ (rw version at c.in_ok-put.ensures.puts) actor)
