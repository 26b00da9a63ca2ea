-- What is shown of the elements: by a past, or now.
use Rattle.std.specs.Prelude.{◌&&◌, Bool, not, List}
use Rattle.tp_ancestry.specs.Clocks.{has_op}
use Rattle.tp_rga.specs.declared.walk.Seen.{Seen}
use Rattle.tp_snapshot.specs.Common.{OpId, Insert, is_removed}
use Rattle.tp_snapshot.specs.Snapshots.{IsAuthorOf, is_in_stretches, deletes_by}
use Rattle.tp_snapshot.specs.declared.snapshot.Trail.{Trail}
use Rattle.tp_snapshot.specs.declared.views.View.{View}
use Rattle.tp_snapshot.specs.declared.views.View.TheVariants.{Now, At}

-- the test of an element that a walk shows
abbrev pub view_test : View → Seen → Bool
view_test Now x = not x.deleted
view_test (At s) x = has_op s.clock x.id && not (x.deleted && is_in_stretches s.targets x.id)

-- whether the view shows an element, where these deletes came
abbrev pub is_in_view : View → List (OpId × OpId) → Insert → Bool
is_in_view Now R e = not (is_removed R e.id)
is_in_view (At s) R e = has_op s.clock e.id && not (is_removed (deletes_by s.clock R) e.id)

-- What is kept from one element to the next is of this view.
abbrev pub IsTrailOf : View → Trail → Type 0
IsTrailOf Now trail = Unit {0}
IsTrailOf (At s) trail = IsAuthorOf s.clock trail.author
