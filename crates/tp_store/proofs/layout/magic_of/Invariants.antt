use Rattle.std.proofs.Common.{◌≡◌, drop}
use Rattle.tp_store.specs.declared.saved.TheConstants.{MAGIC}
use Rattle.tp_store.specs.Loading.{letters_at}
use Rattle.tp_store.proofs.layout.magic_of.Given as goal

-- the letters so far were there
abbrev pub invariant-loop-letter : goal.invariant-loop-letter
invariant-loop-letter l = letters_at (drop l.letter-index MAGIC) l.reader ≡ letters_at MAGIC l.fn.reader
