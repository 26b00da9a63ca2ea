use Rattle.std.proofs.Common.{◌≡◌, ◌+◌, List, ℕ, ◌++◌, length, take, IfSome, subst, sym, ap, ◌∙◌, arith}
use Rattle.std.proofs.Math.Seq.{take-append-add}
use Rattle.std.proofs.lemmas.List.{length-append, length-take-le}
use Rattle.tp_journal.specs.Calls.{content_after, fails_sync}
use Rattle.tp_journal.proofs.kept.Kept.write.Goals as goal

-- what the file has grew by what was taken, and the copy was cut to that
pub invariant_of-self-2 : goal.invariant_of-self-2
invariant_of-self-2 g c =
    let opened = c.self.inside.opened.bytes in
    let before = content_after opened (g.F.JournalFile.calls c.self.inside.file) in
    let bytes = c.args.bytes.now in
    let count = c.write-count.result in
    let after = content_after opened (g.F.JournalFile.calls c.write-count.new.self) in
    let grown : after ≡ before ++ take count bytes = ap (content_after opened) c.write-count.ensures.asks in
    let len : c.self.inside.len ≡ length before = c.self.invariant.0 in
    let parts = length-append before (take count bytes) in
    let cut = length-take-le count bytes c.write-count.ensures.bound in
    let size : length after ≡ length (before ++ take count bytes) = ap length grown in
    let same : take (c.self.inside.len + count) (before ++ bytes) ≡ after =
    ap (λ (n : ℕ). take (n + count) (before ++ bytes)) len ∙ take-append-add before bytes count ∙ sym grown in
    let held = c.truncate.ensures (before ++ bytes) (c.in-Ok.ensures.ok before c.self.invariant.1) in
    let fails : c.self.inside.fails ≡ fails_sync (g.F.JournalFile.calls c.write-count.new.self) =
    c.self.invariant.2 ∙ sym (ap fails_sync c.write-count.ensures.asks) in
    (omega arith, subst (λ (l : List ℕ). IfSome c.truncate.new.copy (λ copy. copy.items ≡ l)) same held, fails)
