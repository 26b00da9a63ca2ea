-- The names that several proofs cite, passed on from one place. Declares nothing.
pub use Rattle.std.proofs.Common.{Bool, Err, List, None, Ok, Option, Result, Some, [], ap, append-nil, append_assoc, arith, cond, drop, eq-eqb, eqb, eqb-true, false, get_or, inl, inr, le-leb, leb, leb-true, length, length-drop, map, nat_le, refl, subst, suc, sym, take, true, zero, ℕ, ◌++◌, ◌+◌, ◌-◌, ◌<◌, ◌==◌, ◌^◌, ◌||◌, ◌↔◌, ◌∙◌, ◌∷◌, ◌≡◌, ◌≤◌, ◌⊎◌}
pub use Rattle.std.proofs.lemmas.Bool.{cases_lt, le-ltb, lt-leb, lt-ltb}
pub use Rattle.std.proofs.lemmas.Bool.Decides.{nat_tests}
pub use Rattle.std.proofs.lemmas.List.{drop-drop, drop_all, drop_at, length-append, length-map, length-take-le, nil_from_length, take-append-drop, take_all, take_at, take_rest}
pub use Rattle.std.proofs.lemmas.Result.{err_from_is_err_and}
pub use Rattle.std.specs.Int.{from_be_bytes, to_be_bytes, w32}
pub use Rattle.std.specs.List.{AllByRecursion, flat_map}
pub use Rattle.tp_layout.specs.Limits.{IsChange, IsHash}
pub use Rattle.tp_layout.specs.Reading.{change_at, next_before, parts_at, rises}
pub use Rattle.tp_layout.specs.declared.error.ChangeError.{ChangeError}
pub use Rattle.tp_layout.specs.declared.limits.TheConstants.{MAX_BYTES}
pub use Rattle.tp_layout.specs.declared.parts.ChangeParts.{ChangeParts}
pub use Rattle.tp_codec.proofs.Refusals.{fails_by}
pub use Rattle.tp_codec.proofs.Fields.{AreBytes, AreBytes-append, AreBytes-take, AreSoMany, EachFits, IsField, as_field, byte_field, bytes_field, give_field, number_field, repeat_field, require_field, then_field, wide32}
pub use Rattle.tp_codec.specs.Prefix.{byte_at, bytes_at, number_at}
pub use Rattle.tp_codec.specs.Reading.{Reads, give, repeat_at, require}
pub use Rattle.tp_list.proofs.Tests.{not_true, or_cases, or_left, or_right}
pub use Rattle.tp_codec.specs.Gives.{FailsWith}
pub use Rattle.tp_message.specs.Lists.{parts_in}
pub use Rattle.tp_message.specs.Message.{AreHashes, IsMessage, MessageParts, TellsKnown, message_of_parts}
pub use Rattle.tp_message.specs.ReaderState.{ReadsPiece, EndsAtField, IsLed, IsReader, ReaderState, RefusesPiece, TakesPiece, reads}
pub use Rattle.tp_message.specs.Reading.{change_or_fail, each_entry, message_at, stay}
pub use Rattle.tp_message.specs.Spelling.{spelling_of_changes, spelling_of_hashes, spelling_of_known}
pub use Rattle.tp_message.specs.Stages.{entries_from, fault_of_stage, hashes_from, is_whole, limit_of, need, with_changes, with_hashes}
pub use Rattle.tp_message.specs.Steps.{Moves, IsWithinField, Steps}
pub use Rattle.tp_message.specs.declared.error.SyncError.{SyncError}
pub use Rattle.tp_message.specs.declared.error.SyncError.TheVariants.{BadChange, BadMessage, OutOfMemory}
pub use Rattle.tp_message.specs.declared.limits.TheConstants.{MAX_CHANGES, MAX_HASHES, MAX_KNOWN}
pub use Rattle.tp_message.specs.declared.stages.Stage.{Stage}
pub use Rattle.tp_message.specs.declared.stages.Stage.TheVariants.{Body, ChangeCount, Count, Failed, Hashes, Length, Version, Whole}
pub use Rattle.tp_opid.specs.declared.hash.Hash.{Hash}
pub use Rattle.tp_layout.specs.Spelling.{framed_change}
