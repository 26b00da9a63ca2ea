-- The names that several proofs cite, passed on from one place. Declares nothing.
pub use Rattle.std.proofs.Common.{Bool, Err, IfOk, IsOkUnless, List, None, Ok, Option, Result, Some, [], ap, append-nil, append_assoc, arith, drop, false, inl, inr, length, length-append, option_to_list, refl, replicate, sym, take, true, ℕ, ◌++◌, ◌+◌, ◌-◌, ◌<◌, ◌↔◌, ◌∙◌, ◌∷◌, ◌≡◌, ◌≤◌}
pub use Rattle.std.proofs.lemmas.List.{drop-drop, flat_map_more, get_or-replicate, get_or_past, length-drop, length-replicate, length-take, map-append, take-append-drop, take_rest}
pub use Rattle.std.proofs.lemmas.Result.{err_from_is_err_and}
pub use Rattle.tp_codec.proofs.Fields.{AreBytes, AreBytes-append, AreBytes-rest, reads_more}
pub use Rattle.tp_frame.specs.Frame.{IsFrame, frame_spelling}
pub use Rattle.tp_frame.specs.Parts.{GivesPart, IsInside, PartsBefore, OpenedFrame, IsPartStateOf, with_more}
pub use Rattle.tp_frame.specs.Reading.{after_frame, after_read, frame_at}
pub use Rattle.tp_frame.specs.declared.frame.Frame.{Frame}
pub use Rattle.tp_frame.specs.declared.frame.Frame.TheVariants.{Sync}
pub use Rattle.tp_frame.specs.declared.parts.Part.{Part}
pub use Rattle.tp_frame.specs.declared.parts.Part.TheVariants.{Begin, End, Piece, Whole}
pub use Rattle.tp_message.specs.ReaderState.{ReaderState, reads}
pub use Rattle.tp_peer.specs.PeerStep.{Reply}
pub use Rattle.tp_session.specs.Conversation.{AnswersFrame, EndsBy, Goes, HasCome, IsAmid, LeavesUnsent, MayBeNext, AnswersNextFrame, at_frame, frame_bytes, is_last}
pub use Rattle.tp_session.specs.HostCalls.{HostCall, Receive}
pub use Rattle.tp_session.specs.Laws.{is_over}
pub use Rattle.tp_session.specs.NetError.{refusal_of}
pub use Rattle.tp_session.specs.PartStep.{Awaits, ContinuesReading, SessionPartStep, ReadsGiven, and_given, none_of}
pub use Rattle.tp_session.specs.SessionState.{SessionState}
pub use Rattle.tp_session.specs.SessionStep.{RefusesSessionStep, AnswersReceived, AnswersSync, SessionStep}
pub use Rattle.tp_session.specs.declared.conversation.Next.{Next}
pub use Rattle.tp_session.specs.declared.conversation.Next.TheVariants.{Waits}
pub use Rattle.tp_session.specs.declared.error.NetError.{NetError}
pub use Rattle.tp_session.specs.declared.error.NetError.TheVariants.{Peer}
pub use Rattle.tp_session.specs.declared.session.Phase.TheVariants.{Exchanges}
pub use Rattle.tp_session.specs.declared.turn.Ended.{Ended}
pub use Rattle.tp_session.specs.declared.turn.Turn.{Turn}
