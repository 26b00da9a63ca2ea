-- Words of the crates below that contracts cite, passed on from one place. Declares nothing.
pub use Rattle.std.specs.List.{AllZip, list_any, remove, slice_get, zip}
pub use Rattle.tp_change.specs.ChangeHash.{hash_of}
pub use Rattle.tp_layout.specs.declared.parts.ChangeParts.{ChangeParts}
pub use Rattle.tp_graph.specs.Causes.{MatchesCause}
pub use Rattle.tp_history.specs.Fit.{cause, most_changes}
pub use Rattle.tp_history.specs.Named.{HashesOnce, HashesApart, among, has, has_all}
pub use Rattle.tp_graph.specs.GraphState.{most_waiting}
pub use Rattle.tp_history.specs.Sound.{Sound}
pub use Rattle.tp_history.specs.declared.error.GraphError.{GraphError}
pub use Rattle.tp_history.specs.declared.error.GraphError.TheVariants.{BadReference, BadSeq, BadStart, Full, Known, MissingDeps, OutOfMemory, SeqClash, UnknownHead}
pub use Rattle.tp_list.specs.Members.{AllIn, In, SameMembers}
pub use Rattle.tp_opid.specs.Same.{same_hash}
pub use Rattle.tp_opid.specs.declared.doc_id.DocId.{DocId}
pub use Rattle.tp_opid.specs.declared.hash.Hash.{Hash}
