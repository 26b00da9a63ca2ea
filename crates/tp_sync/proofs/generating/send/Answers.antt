use Rattle.tp_sync.proofs.Common.{List, subst, sym, ChangeParts, IsRest}
use Rattle.tp_sync.proofs.generating.send.Goals as goal

pub is_cut-cut-requires : goal.is_cut-cut-requires
is_cut-cut-requires g c =
    let say = rw c.in-Some.is at c.in_ok-saying.ensures.says in (
      c.args.state.now,
      subst (λ (C : List ChangeParts). IsRest C c.args.state.now c.in-Some.saying.load.rest) (sym c.graph.ensures.applied) say.rest,
    )
