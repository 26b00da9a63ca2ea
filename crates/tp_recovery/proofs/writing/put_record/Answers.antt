use Rattle.std.proofs.Common.{List, ℕ, ◌++◌, length, ap, ◌∙◌, append_assoc}
use Rattle.std.specs.Int.{w32, to_be_bytes}
use Rattle.tp_change.specs.ChangeHash.{hash_of}
use Rattle.tp_layout.specs.Spelling.{spelling}
use Rattle.tp_recovery.specs.Layout.{record_of}
use Rattle.tp_recovery.proofs.writing.put_record.Goals as goal

pub returns-in-Ok-put_change-clause-bytes : goal.returns-in-Ok-put_change-clause-bytes
unfolding record_of
returns-in-Ok-put_change-clause-bytes c =
    let change = c.args.change.now in
    let body = spelling change ++ (hash_of change).0 in
    c.in-Ok-put_change.ensures
    ∙ ap (λ (l : List ℕ). l ++ body) c.in-Ok.ensures
    ∙ append_assoc c.args.out.items (to_be_bytes w32 (length (spelling change))) body
