-- What a call answers, where a cause says whether a change can enter.
use Rattle.std.specs.Prelude.{◌≡◌, List, false, Option, Some, None, Result, Ok, Err, IsTrue}
use Rattle.tp_graph.specs.Common.{ChangeParts, hash_of}
use Rattle.tp_history.specs.declared.error.GraphError.{GraphError}
use Rattle.tp_history.specs.declared.error.GraphError.TheVariants.{Known, MissingDeps, BadSeq, BadStart, BadReference, SeqClash, UnknownHead, Full, OutOfMemory}
use Rattle.tp_history.specs.Named.{has, has_all}
use Rattle.tp_history.specs.Heads.{heads}

-- The refusal is the cause. Memory can be refused whatever the cause.
abbrev pub IsCause : GraphError → Option GraphError → Type 0
IsCause OutOfMemory o = Unit {0}
IsCause Known o = o ≡ Some Known
IsCause MissingDeps o = o ≡ Some MissingDeps
IsCause BadSeq o = o ≡ Some BadSeq
IsCause BadStart o = o ≡ Some BadStart
IsCause BadReference o = o ≡ Some BadReference
IsCause SeqClash o = o ≡ Some SeqClash
IsCause UnknownHead o = o ≡ Some UnknownHead
IsCause Full o = o ≡ Some Full

-- Memory was refused only where the change isn't known, its dependencies are all there, and they aren't the heads: else
-- the answer takes none.
pub record TakesMemory (C : List ChangeParts) (c : ChangeParts) : Type 0 where
  pub new : has C (hash_of c) ≡ false
  pub deps : IsTrue (has_all C c.deps)
  pub beyond : c.deps ≡ heads C → ⊥

-- Ok exactly where there is no cause, and the cause as the refusal.
abbrev pub MatchesCause : {T : Type 0} → Result T GraphError → Option GraphError → Type 0
MatchesCause (Ok x) o = o ≡ None
MatchesCause (Err e) o = IsCause e o
