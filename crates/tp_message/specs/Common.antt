-- The words of the crates below that several contracts cite, passed on from one place. Declares nothing.
pub use Rattle.std.specs.Int.{to_be_bytes, w32}
pub use Rattle.std.specs.List.{AllByRecursion, flat_map}
pub use Rattle.tp_layout.specs.Limits.{IsChange, IsHash}
pub use Rattle.tp_layout.specs.Reading.{change_at, next_before, rises}
pub use Rattle.tp_layout.specs.declared.limits.TheConstants.{MAX_BYTES}
pub use Rattle.tp_layout.specs.declared.parts.ChangeParts.{ChangeParts}
pub use Rattle.tp_codec.specs.Prefix.{byte_at, bytes_at, number_at}
pub use Rattle.tp_codec.specs.Reading.{Reads, fail, give, or_fail, repeat_at, require, ◌>>=◌, ◌>>◌}
pub use Rattle.tp_list.specs.Members.{In}
pub use Rattle.tp_list.specs.Rising.{IsRising}
pub use Rattle.tp_opid.specs.Order.{hash_cmp}
pub use Rattle.tp_opid.specs.declared.hash.Hash.{Hash}
