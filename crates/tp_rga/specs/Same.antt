-- Tests on inserts.
use Rattle.std.specs.Prelude.{Bool, not, ◌&&◌, ◌||◌, ◌==◌, List}
use Rattle.std.specs.List.{list_all}
use Rattle.tp_opid.specs.Insert.{Insert}
use Rattle.tp_opid.specs.Same.{id_eq, place_eq}

-- whether two inserts are one
abbrev pub same_insert : Insert → Insert → Bool
same_insert a b = id_eq a.id b.id && place_eq a.after b.after && (a.ch == b.ch)

-- whether a is e, or has another identifier
abbrev pub agrees : Insert → Insert → Bool
agrees e a = not (id_eq a.id e.id) || same_insert a e

-- whether no other insert of S has the identifier of e
abbrev pub is_only : List Insert → Insert → Bool
is_only S e = list_all (agrees e) S
