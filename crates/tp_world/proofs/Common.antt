-- The names that several proofs cite, passed on from one place. Declares nothing.
pub use Rattle.std.proofs.Common.{Bool, Err, IfOk, IfSome, IsSome, List, MatchBool, None, Ok, Option, Result, Some, [], add-one, ap, arith, drop, false, get_or, if◌then◌else◌, inl, inr, length, map, nat_lt, not, refl, subst, suc, sym, take, take-append-drop, true, zero, ℕ, ◌++◌, ◌+◌, ◌-◌, ◌<◌, ◌==◌, ◌||◌, ◌∙◌, ◌∷◌, ◌≡◌, ◌≤◌}
pub use Rattle.std.proofs.lemmas.Bool.Decides.{Decides-eqb, nat_tests}
pub use Rattle.std.proofs.lemmas.List.{drop_all, map-append, take_all, take_more}
pub use Rattle.std.specs.List.{slice_get}
pub use Rattle.std.specs.Option.{option_map, option_to_list}
pub use Rattle.tp_change.specs.ChangeHash.{hash_of}
pub use Rattle.tp_change.specs.Elements.{inserts}
pub use Rattle.tp_layout.specs.declared.parts.ChangeParts.{ChangeParts}
pub use Rattle.tp_event.specs.Making.{IsWould}
pub use Rattle.tp_event.specs.States.{world_of}
pub use Rattle.tp_event.specs.Views.{event_of, event_reply_of}
pub use Rattle.tp_history.proofs.NamedLaws.{In-has, has-In}
pub use Rattle.tp_history.proofs.SoundLaws.{Fits-at, Sound-prefix, hashes_apart}
pub use Rattle.tp_history.specs.Named.{HashesApart, has}
pub use Rattle.tp_headline.proofs.EventLaws.{beginning_carried, goes_on_acts, next_acts}
pub use Rattle.tp_headline.proofs.FollowLaws.{carried_acts, carried_follows, carried_headline, carried_moment}
pub use Rattle.tp_headline.specs.WorldInvariant.{WorldInvariant}
pub use Rattle.tp_headline.specs.Event.{Event, actor_of, foreign_bytes_of, wire_entries_of, peers_of, running_of}
pub use Rattle.tp_headline.specs.Happening.{Next}
pub use Rattle.tp_headline.specs.Refusing.{RefusesHappening, MayHappen, Passes, WouldMake, keeps_whole}
pub use Rattle.tp_headline.specs.Running.{GoesOnWith, MeetsEvent}
pub use Rattle.tp_headline.specs.World.{WireEntry, World}
pub use Rattle.tp_headline.specs.WorldError.{code_of}
pub use Rattle.tp_headline.specs.declared.error.WorldError.{WorldError}
pub use Rattle.tp_headline.specs.declared.error.WorldError.TheVariants.{ActorUsed, ForeignChange, HashClash, NoEntry, NoPeer, OutOfMemory, Stopped}
pub use Rattle.tp_list.proofs.Tests.{both, both_left, both_right, never, or_left, or_right, truth}
pub use Rattle.tp_list.specs.Members.{AllIn, In}
pub use Rattle.tp_opid.proofs.Orders.{same_actor-itself, same_actor-same, same_hash-same}
pub use Rattle.tp_opid.specs.Insert.{Insert}
pub use Rattle.tp_opid.specs.declared.actor.Actor.{Actor}
pub use Rattle.tp_peer.specs.Laws.{changes_in, decoded_changes}
pub use Rattle.tp_peer.specs.PeerState.{PeerState}
pub use Rattle.tp_rga.proofs.Walking.{seen_end, seen_within}
pub use Rattle.tp_rga.specs.Order.{IsInOrder}
pub use Rattle.tp_world.specs.Judging.{AllRun, AllThere, IsFresh, Judges, PassesBefore, clashes_in, is_named}
pub use Rattle.tp_world.specs.Order.{pairs_of}
