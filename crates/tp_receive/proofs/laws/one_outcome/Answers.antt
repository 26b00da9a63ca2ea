use Rattle.tp_receive.proofs.Common.{refl, begin}
use Rattle.tp_receive.proofs.AlikeLaws.{one_outcome}
use Rattle.tp_receive.proofs.laws.one_outcome.Goals as goal

pub returns : goal.returns
returns g c k j C W L t u a e b f =
    one_outcome g.K.Keeper.keeps g.J.Keeper.keeps (begin k C W L) t (begin j C W L) u (record { applied = refl; waiting = refl; coming = refl; entered = refl; refused = refl }) a b e f
