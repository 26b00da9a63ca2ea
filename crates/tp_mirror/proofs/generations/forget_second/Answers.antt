use Rattle.std.proofs.Common.{◌<◌, List, length, inl, inr, refl, subst}
use Rattle.tp_mirror.specs.declared.known.Known.{Known}
use Rattle.tp_mirror.specs.Generations.{ForgetsOneOf, IsOf}
use Rattle.tp_mirror.proofs.generations.forget_second.Goals as goal

pub returns-in-None-clause-texts : goal.returns-in-None-clause-texts
unfolding ForgetsOneOf
returns-in-None-clause-texts c = inl refl

pub returns-in-Some-clause-texts : goal.returns-in-Some-clause-texts
unfolding ForgetsOneOf
returns-in-Some-clause-texts c =
    inr (
      c.in-Some.at,
      subst (λ (l : List Known). c.in-Some.at < length l) c.as_slice.ensures c.in-Some.ensures.within,
      subst (λ (l : List Known). IsOf l c.args.generation c.in-Some.at) c.as_slice.ensures c.in-Some.ensures.of,
      c.remove-known.ensures,
    )
