use Rattle.tp_ancestry.proofs.Common.{◌≡◌, IfOk, List, subst, In, ChangeParts}
use Rattle.std.proofs.Common.{rules}
use Rattle.tp_ancestry.proofs.ancestry.Ancestry.actors.Goals as goal

pub returns : goal.returns
returns c =
    let same : c.as_slice.result.now ≡ c.args.self.now.changes = search rules in
    subst (λ (C : List ChangeParts). IfOk c.actors.result (λ v. (x : ChangeParts) → In x C → In x.actor v.items)) same c.actors.ensures
