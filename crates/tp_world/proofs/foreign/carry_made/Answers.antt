use Rattle.tp_world.proofs.Common.{List, sym, subst, ◌∙◌, IfOk, MatchBool, AllIn, ChangeParts}
use Rattle.tp_world.proofs.ForeignLaws.{carries_changes, carries_none}
use Rattle.tp_world.proofs.foreign.carry_made.Goals as goal

pub returns-in-Ok-clause-ok : goal.returns-in-Ok-clause-ok
returns-in-Ok-clause-ok c =
    subst (λ (K : List ChangeParts). IfOk c.are_made.result (λ all. MatchBool all (AllIn K c.args.made.now) (AllIn K c.args.made.now → ⊥)))
    (c.changes.ensures ∙ sym (carries_changes c.args.bytes.now c.in-Ok.message c.in-Ok.ensures.exact)) c.are_made.ensures.ok

pub returns-in_default-clause-ok : goal.returns-in_default-clause-ok
returns-in_default-clause-ok c = subst (λ (K : List ChangeParts). AllIn K c.args.made.now) (sym (carries_none c.args.bytes.now c.in-Err.error c.in_default.not-OutOfMemory c.in-Err.ensures.exact)) (λ d i. absurd i)
