use Rattle.std.proofs.lemmas.Bool.{eqb-true}
use Rattle.std.proofs.Common.{◌≡◌, ◌∙◌, length, vec_len, ap, arith, sym}
use Rattle.tp_disk.proofs.IdleLaws.{whole_len}
use Rattle.tp_disk.proofs.idle.IdleJournal.finish.Goals as goal

-- nothing comes after what is kept, so that all that was read is kept
pub invariant_of-journal : goal.invariant_of-journal
invariant_of-journal g c = record {
  read = λ none.
      let tail = c.in-Ok.recovered.tail in
      let none_left : vec_len tail ≡ 0 = eqb-true (vec_len tail) 0 (sym c.is_empty.ensures ∙ c.if-not-is_empty.false) in
      let empty : length tail.items ≡ 0 = omega (arith, none_left, tail.ok.0) in
      ap length c.content-content.ensures ∙ whole_len _ tail.items c.in-Ok.recovered.keep c.in-Ok.ensures.tail empty;
}
