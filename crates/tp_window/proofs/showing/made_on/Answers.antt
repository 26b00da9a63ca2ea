use Rattle.std.proofs.Common.{arith, false, refl, subst, true, sym, ap, ◌≡◌, ◌∙◌, ◌≤◌, ◌+◌, ◌∷◌, ◌++◌, [], length, take, List, Some, Option}
use Rattle.std.specs.Prelude.{IsTrue}
use Rattle.std.proofs.lemmas.List.{take_more, take_all}
use Rattle.tp_layout.specs.declared.parts.ChangeParts.{ChangeParts}
use Rattle.tp_opid.specs.declared.hash.Hash.{Hash}
use Rattle.tp_window.specs.Windows.{MadeOn}
use Rattle.tp_window.proofs.MadeLaws.{made_before, made_here}
use Rattle.tp_window.proofs.showing.made_on.Goals as goal
use Rattle.tp_window.proofs.showing.made_on.Goals.{then-is_made_on, else-is_made_on}

pub loop-change-preserved : goal.loop-change-preserved
loop-change-preserved c =
    let who = c.args.actor.now in
    let H = c.args.heads.now in
    let C : List ChangeParts = c.changes-changes.result.now in
    let i = c.loop-change.change-index in
    let x : ChangeParts = c.change-item.result in
    let grown : take (i + 1) C ≡ take i C ++ x ∷ [] = take_more C i x c.loop-change-test.true ∙ ap (λ (y : ChangeParts). take i C ++ y ∷ []) (sym c.change-item.is) in
    subst (λ (L : List ChangeParts). MadeOn who H L c.if-is_made_on.made) (sym grown)
    (elim c.if-is_made_on.branch [
      | then-is_made_on w ↦
          subst (λ (o : Option Hash). MadeOn who H (take i C ++ x ∷ []) o) (sym (w.made-is ∙ ap Some w.hash.ensures.hash))
          (made_here who H (take i C) x (c.is_made_on.ensures.0 (subst IsTrue (sym w.if-is_made_on.true) refl)))
      | else-is_made_on w ↦
          subst (λ (o : Option Hash). MadeOn who H (take i C ++ x ∷ []) o) (sym w.made-is)
          (made_before who H (take i C) x c.loop-change.made (λ is. let wrong : false ≡ true = subst IsTrue w.if-is_made_on.false (c.is_made_on.ensures.1 is) in absurd (cc)) c.loop-change.invariant)
    ])

pub returns : goal.returns
returns c =
    let C : List ChangeParts = c.changes-changes.result.now in
    let end : length C ≤ c.loop-change.change-index = grind arith in
    let all : take c.loop-change.change-index C ≡ c.args.document.now.applied = take_all c.loop-change.change-index C end ∙ c.changes-changes.ensures.changes in
    subst (λ (L : List ChangeParts). MadeOn c.args.actor.now c.args.heads.now L c.loop-change.made) all c.loop-change.invariant
