use Rattle.tp_document.proofs.Common.{subst, DocState}
use Rattle.tp_snapshot.specs.Effects.{IsEffect}
use Rattle.tp_document.proofs.document.Document.effect.Goals as goal

pub returns-clause-effect : goal.returns-clause-effect
returns-clause-effect g c =
    subst (λ (d : DocState). IsEffect d.applied c.args.hash.now c.in_ok-effect_of.field-0) c.self.view_is c.in_ok-effect_of.ensures.effect
