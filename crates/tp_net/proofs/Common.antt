-- The names that several proofs cite, passed on from one place. Declares nothing.
pub use Rattle.std.proofs.Common.{Bool, Err, List, None, Ok, Option, Result, Some, [], ap, append-nil, append_assoc, arith, false, inl, inr, length, length-append, length-drop, min, option_to_list, refl, slice_index_or, subst, suc, take, zero, ℕ, ◌++◌, ◌+◌, ◌-◌, ◌<◌, ◌^◌, ◌∙◌, ◌∷◌, ◌≡◌, ◌≤◌}
pub use Rattle.std.proofs.KnownBytes.{Appends-kept, Appends-nil, Appends-trans, Consumes-nil, Consumes-trans}
pub use Rattle.std.proofs.lemmas.Result.{err_from_is_err_and}
pub use Rattle.std.specs.Io.KnownBytes.{Appends, Consumes, Keeps}
pub use Rattle.std.specs.List.{flat_map}
pub use Rattle.tp_frame.specs.Frame.{frame_spelling}
pub use Rattle.tp_frame.specs.declared.frame.Frame.{Frame}
pub use Rattle.tp_list.proofs.TraceLaws.{trace_join, trace_keeps}
pub use Rattle.tp_net.specs.RunSession.{CantSend, IsWholeSession, StopsAtTurn, StopsFor}
pub use Rattle.tp_net.specs.Sessions.{AllSit, Enters, HoldsSession, AttemptsSession, Sits, TakesTurn}
pub use Rattle.tp_opid.specs.declared.doc_id.DocId.{DocId}
pub use Rattle.tp_peer.specs.PeerStep.{Forgotten, Received, Reply}
pub use Rattle.tp_served.specs.Seats.{SeatState, SeatKnowledge}
pub use Rattle.tp_session.specs.Conversation.{Goes, frame_bytes}
pub use Rattle.tp_session.specs.HostCalls.{HostCall}
pub use Rattle.tp_session.specs.Laws.{is_over}
pub use Rattle.tp_session.specs.NetError.{refusal_of}
pub use Rattle.tp_session.specs.SessionState.{SessionState, new_session, first_frame_of}
pub use Rattle.tp_session.specs.SessionStep.{SessionStep}
pub use Rattle.tp_session.specs.Transcript.{IsFrameAnswered, Comes, AnsweredFrame, Traffic}
pub use Rattle.tp_session.specs.declared.error.NetError.{NetError}
pub use Rattle.tp_session.specs.declared.error.NetError.TheVariants.{Io}
pub use Rattle.tp_session.specs.declared.turn.Turn.{Turn}
