use Rattle.std.proofs.Common.{◌≡◌, ◌+◌, ◌-◌, ℕ, List, Ok, length}
use Rattle.tp_codec.specs.Reading.{repeat_at}
use Rattle.tp_store.specs.Loading.{piece_at, offset_after, with_pieces}
use Rattle.tp_store.proofs.loading.enter_pieces.Given as goal

-- the changes so far have entered, and the offset is where the next one's length is
abbrev pub invariant-loop : goal.invariant-loop
invariant-loop g l = record {
  id : l.document.id ≡ l.fn.document.id;
  waiting : l.document.waiting ≡ l.fn.document.waiting;
  place : l.at + length l.reader ≡ 28 + length l.fn.reader;
  left : (pieces : List (List ℕ)) (rest : List ℕ) → repeat_at piece_at offset_after l.count 28 l.fn.reader ≡ Ok (pieces, rest)
      → (qs : List (List ℕ)) × (repeat_at piece_at offset_after (l.count - l.counter) l.at l.reader ≡ Ok (qs, rest))
      × (with_pieces l.at l.document.applied qs ≡ with_pieces 28 l.fn.document.applied pieces);
}
