-- The words of the crates below that several contracts cite, passed on from one place. Declares nothing.
pub use Rattle.tp_frame.specs.declared.frame.Frame.{Frame}
pub use Rattle.tp_list.specs.Traces.{Trace}
pub use Rattle.tp_peer.specs.PeerStep.{Forgotten, Refused, Reply}
pub use Rattle.tp_session.specs.HostCalls.{Forget, HostCall, on}
pub use Rattle.tp_session.specs.NetError.{refusal_of}
pub use Rattle.tp_session.specs.SessionState.{SessionState, new_session, first_frame_of}
pub use Rattle.tp_session.specs.SessionStep.{SessionStep}
pub use Rattle.tp_session.specs.declared.error.NetError.{NetError}
pub use Rattle.tp_session.specs.declared.error.NetError.TheVariants.{Io, OutOfMemory, Peer}
pub use Rattle.tp_session.specs.declared.turn.Turn.{Turn}
