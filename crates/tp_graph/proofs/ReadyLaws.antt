-- What was made ready for a change.
use Rattle.tp_graph.proofs.Common.{◌≡◌, Option, Some, subst, Hash}
use Rattle.tp_graph.specs.Ready.{IsReady, IsReadyIf}
use Rattle.tp_graph.specs.declared.applied.Applied.TheInside.{Inside}
use Rattle.tp_graph.specs.declared.applied.Room.{Room}

-- it is there where the ancestry has room for one
pub ready_room : (g : Inside) (o : Option Hash) (p : Option Room) (h : Hash) (r : Room) → o ≡ Some h → p ≡ Some r → IsReadyIf o p g → IsReady r g
ready_room g o p h r e f k =
    let one : IsReadyIf (Some h) p g = subst (λ q. IsReadyIf q p g) e k in
    subst (λ q. IsReadyIf (Some h) q g) f one
