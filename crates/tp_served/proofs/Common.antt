-- The names that several proofs cite, passed on from one place. Declares nothing.
pub use Rattle.atomic_table.specs.Seated.{TableId}
pub use Rattle.atomic_table.specs.Table.{Allows, Final, Joins, Seen, Splits, Step, gives, keeps, opening, rest, step, takes}
pub use Rattle.atomic_table.specs.declared.badge.Badge.{Badge}
pub use Rattle.std.proofs.Common.{Bool, List, MatchBool, None, Option, Some, [], ap, append-nil, append_assoc, arith, cond, drop, eq-eqb, eqb, false, get_or, inl, inr, length, length-append, ne_eqb, refl, set, subst, suc, sym, take, take-append-drop, true, vec_capacity, vec_len, zero, ℕ, ⊎_elim, ◌++◌, ◌+◌, ◌-◌, ◌<◌, ◌∙◌, ◌∷◌, ◌≡◌, ◌≢◌, ◌≤◌, ◌⊎◌}
pub use Rattle.std.specs.Str.{chars}
pub use Rattle.tp_layout.specs.declared.parts.ChangeParts.{ChangeParts}
pub use Rattle.tp_list.specs.Members.{In}
pub use Rattle.tp_message.specs.Spelling.{message_spelling}
pub use Rattle.tp_call.specs.Calls.{call_in, reply_of}
pub use Rattle.tp_peer.specs.PeerState.{PeerState, gained_changes}
pub use Rattle.tp_peer.specs.PeerStep.{Call, Edit, Forget, Generate, PeerStep, Read, Receive, Reply}
pub use Rattle.tp_receive.specs.Receiving.{IsPrefixOf}
pub use Rattle.tp_served.specs.Calls.{AreOf, Closes, EndsTurn, EndsVisit, IsOnlyOn, IsTurn, Tries}
pub use Rattle.tp_served.specs.Rule.{AllSeatsFit, SeatFits, IsCurrent, IsHome, IsLeft, IsOut, ServedInvariant, SharedState, ViewState, idle_seat, changes_of, entered_by, holding_seat, idle, each_with_number, times, total}
pub use Rattle.tp_served.specs.Seats.{HaveMet, SeatState, SeatKnowledge, ServedState, CallTakesTurn, Visits, new_seat, fresh_from, gave, missed_by, seats_of, states_of, took}
pub use Rattle.tp_served.specs.ServedError.{TryOutcome, Replied}
pub use Rattle.tp_served.specs.Sitting.{IsSeat, first_seat, seat_state, seat_of}
pub use Rattle.tp_served.specs.Steps.{StepsAsSeat, AcquiresPeer, Token, first_view_of, give_step, join_views, look_step, others_of, spent_view, try_step}
