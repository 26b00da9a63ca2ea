-- The words of the crates below that several contracts cite, passed on from one place. Declares nothing.
pub use Rattle.tp_frame.specs.Parts.{PartsBefore, OpenedFrame, IsPartStateOf}
pub use Rattle.tp_frame.specs.declared.error.FrameError.{FrameError}
pub use Rattle.tp_frame.specs.declared.frame.Frame.{Frame}
pub use Rattle.tp_frame.specs.declared.frame.Frame.TheVariants.{Done, Hello, Refusal, Sync}
pub use Rattle.tp_frame.specs.declared.parts.Part.{Part}
pub use Rattle.tp_frame.specs.declared.parts.Part.TheVariants.{Begin, End, Piece, Whole}
pub use Rattle.tp_message.specs.ReaderState.{ReaderState, reads}
pub use Rattle.tp_message.specs.declared.error.SyncError.{SyncError}
pub use Rattle.tp_opid.specs.declared.doc_id.DocId.{DocId}
pub use Rattle.tp_peer.specs.PeerStep.{Call, Generated, Received, Refused, RefusesDecoding, Reply}
pub use Rattle.tp_peer.specs.declared.error.PeerError.{PeerError}
