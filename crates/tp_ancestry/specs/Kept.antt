-- What is kept beside changes.
use Rattle.std.specs.Prelude.{◌≡◌, ◌≤◌, length, Option, Some, None}
use Rattle.tp_ancestry.specs.Common.{Hash}
use Rattle.tp_change.specs.Elements as made
use Rattle.tp_ancestry.specs.declared.ancestry.Ancestry.TheInside.{Inside}
use Rattle.tp_history.specs.ByActor.{IsByActor}
use Rattle.tp_ancestry.specs.Ends.{AreEnds}
use Rattle.tp_history.specs.Fit.{most_changes}
use Rattle.tp_history.specs.Heads as head
use Rattle.tp_ancestry.specs.Lists.{HasRoom}
use Rattle.tp_history.specs.Notes.{IsNotedAt, AreNoted}
use Rattle.tp_ancestry.specs.Pasts.{ArePasts}
use Rattle.tp_history.specs.Sound.{Sound}

-- There is room for a change with the hash: its place is noted, all changes are listed by actor, and each list takes one more.
pub record IsReserved (h : Hash) (a : Inside) : Type 0 where
  pub noted : IsNotedAt a.index h (length a.lists.changes.items)
  pub listed : a.by_actor.listed ≡ length a.lists.changes.items
  pub lists : HasRoom a.lists

-- where a hash is given, there is room for a change with it
abbrev pub IsReservedIf : Option Hash → Inside → Type 0
IsReservedIf None a = Unit {0}
IsReservedIf (Some h) a = IsReserved h a

-- The changes are sound, and what is kept beside them is theirs.
pub record AncestryInvariant (a : Inside) : Type 0 where
  pub sound : Sound a.lists.changes.items
  pub few : length a.lists.changes.items ≤ most_changes
  pub heads_are : a.lists.heads.items ≡ head.heads a.lists.changes.items
  pub ends_are : AreEnds a.lists.changes.items a.lists.ends.items
  pub pasts : ArePasts a.lists.changes.items a.lists.pasts.prefixes.items a.lists.pasts.vectors.items
  pub next_is : a.next ≡ made.next_counter a.lists.changes.items
  pub notes : AreNoted a.lists.changes.items a.index
  pub by_actor : IsByActor a.lists.changes.items a.by_actor
  pub ready : IsReservedIf a.room a
