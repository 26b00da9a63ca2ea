use Rattle.std.proofs.Common.{◌≡◌, ◌+◌, ◌-◌, ℕ, List, length}
use Rattle.tp_codec.specs.Reading.{repeat_at}
use Rattle.tp_codec.proofs.Loops.{with_prefix}
use Rattle.tp_store.specs.Loading.{piece_at, offset_after}
use Rattle.tp_store.proofs.layout.skip_pieces.Given as goal

-- some changes were read, and the offset is where the next one's length is
abbrev pub invariant-loop : goal.invariant-loop
invariant-loop l = record {
  read : (prefix : List (List ℕ)) × (length prefix ≡ l.counter)
      × (with_prefix prefix (repeat_at piece_at offset_after (l.count - l.counter) l.at l.reader) ≡ repeat_at piece_at offset_after l.count 28 l.fn.reader);
  place : l.at + length l.reader ≡ 28 + length l.fn.reader;
}
