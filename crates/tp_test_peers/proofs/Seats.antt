-- Seats of one served peer, as they are taken out and put in.
use Rattle.std.proofs.Common.{◌≡◌, List, Bool, true, false, cond, sym, subst}
use Rattle.std.specs.Prelude.{insert}
use Rattle.atomic_table.specs.Seated.{TableId}
use Rattle.tp_served.specs.Seats.{SeatState}
use Rattle.tp_served.specs.Calls.{AreOf}

either_are : (served : TableId) (all : List SeatState) (s : SeatState) (b : Bool) → AreOf served all → s.served ≡ served → AreOf served (cond b (insert all 0 s) all)
either_are served all s true are is = (is, are)
either_are served all s false are is = are

-- one more, put in front of the others, where there is room
pub put_in : (served : TableId) (all new : List SeatState) (s : SeatState) (b : Bool) → new ≡ cond b (insert all 0 s) all → AreOf served all → s.served ≡ served → AreOf served new
put_in served all new s b e are is = subst (AreOf served) (sym e) (either_are served all s b are is)
