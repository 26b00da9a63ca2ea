-- The words of the crates below that several contracts cite, passed on from one place. Declares nothing.
pub use Rattle.atomic_table.specs.Seated.{TableId}
pub use Rattle.atomic_table.specs.Table.{Me, State, Step}
pub use Rattle.tp_layout.specs.declared.parts.ChangeParts.{ChangeParts}
pub use Rattle.tp_list.specs.Members.{In}
pub use Rattle.tp_peer.specs.Links.{known_of}
pub use Rattle.tp_peer.specs.PeerState.{PeerState}
pub use Rattle.tp_peer.specs.PeerStep.{Call, PeerStep, Refused, Reply}
