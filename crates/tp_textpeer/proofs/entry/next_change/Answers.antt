use Rattle.std.proofs.Common.{inl, inr}
use Rattle.tp_textpeer.proofs.Entries.{bad_after}
use Rattle.tp_textpeer.proofs.entry.next_change.Goals as goal

pub returns-in-Err-clause-err : goal.returns-in-Err-clause-err
returns-in-Err-clause-err g c =
    let read = rw c.in-Some.is at c.in_ok-next_len.ensures.some in
    elim c.in-Err.ensures.err [
      | inl outside ↦ inl outside
      | inr bad ↦ inr (bad_after _ _ c.in-Some.len c.in-Err.fault read bad)
    ]
