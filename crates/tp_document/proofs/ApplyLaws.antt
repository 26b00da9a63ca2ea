-- Receiving from another document.
use Rattle.tp_document.proofs.Common.{◌≡◌, Result, Ok, Err, DocId, HasOutcome, DocError, OutOfRange, CounterLimit, TooManyOps, TooManyHeads, UnknownHead, UnknownElement, PendingFull, HashTaken, OutOfMemory, OtherDocument, TooLong, Full, NotKept, receiving, HasMergeOutcome, Outcome, Receiver}
use Rattle.tp_receive.specs.declared.intake.Applied.{Applied}

-- What is received of a document with the same identifier is merged.
pub merged_so : {S : Type 0} (a b : DocId) (s t : Receiver S) (r : Result Applied DocError) (P : Outcome → Type 0) → a ≡ b → HasOutcome receiving r P → HasMergeOutcome a b s t r P
merged_so a b s t (Ok x) P same h = (same, h)
merged_so a b s t (Err OutOfRange) P same h = absurd h
merged_so a b s t (Err CounterLimit) P same h = absurd h
merged_so a b s t (Err TooManyOps) P same h = absurd h
merged_so a b s t (Err TooManyHeads) P same h = absurd h
merged_so a b s t (Err UnknownHead) P same h = absurd h
merged_so a b s t (Err UnknownElement) P same h = absurd h
merged_so a b s t (Err PendingFull) P same h = (same, h)
merged_so a b s t (Err HashTaken) P same h = absurd h
merged_so a b s t (Err OutOfMemory) P same h = (same, h)
merged_so a b s t (Err OtherDocument) P same h = absurd h
merged_so a b s t (Err TooLong) P same h = absurd h
merged_so a b s t (Err Full) P same h = absurd h
merged_so a b s t (Err NotKept) P same h = (same, h)
