use Rattle.tp_message.proofs.Common.{◌≡◌, sym, subst, true, ReaderState, is_whole}
use Rattle.tp_message.proofs.ReaderLaws.{whole_reads, whole_is_message}
use Rattle.tp_message.proofs.reading.MessageReader.finish.Goals as goal

pub invariant_of-result : goal.invariant_of-result
invariant_of-result c =
    whole_is_message _ c.self.invariant (subst (λ (s : ReaderState). is_whole s.stage ≡ true) (sym c.self.view_is) c.requires)

pub returns-clause-exact : goal.returns-clause-exact
returns-clause-exact c =
    rw (← c.self.view_is) (whole_reads _ c.self.invariant (subst (λ (s : ReaderState). is_whole s.stage ≡ true) (sym c.self.view_is) c.requires))

pub returns-clause-limits : goal.returns-clause-limits
returns-clause-limits c =
    whole_is_message _ c.self.invariant (subst (λ (s : ReaderState). is_whole s.stage ≡ true) (sym c.self.view_is) c.requires)
