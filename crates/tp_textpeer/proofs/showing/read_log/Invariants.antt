use Rattle.std.proofs.Common.{List}
use Rattle.tp_layout.specs.declared.parts.ChangeParts.{ChangeParts}
use Rattle.tp_textpeer.specs.Log.{IsAfterLog}
use Rattle.tp_textpeer.specs.Chain.{Remembers, AllBelowCounter}
use Rattle.tp_textpeer.proofs.showing.read_log.Given as goal

-- the bytes so far are the log of as many changes as there were turns, and these are remembered
abbrev pub invariant-loop-count : goal.invariant-loop-count
invariant-loop-count g l =
    let placed = g.S.Sequence.placed l.chain.sequence in
    let removals = g.S.Sequence.removals l.chain.sequence in
    record {
      below : AllBelowCounter placed l.chain.next;
      log : (C : List ChangeParts) × IsAfterLog (g.R.Read.remaining l.fn.reader) (g.R.Read.remaining l.reader) l.count C
          × Remembers C placed removals l.chain.author l.chain.last l.chain.next;
    }
