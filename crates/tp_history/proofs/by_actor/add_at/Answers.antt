use Rattle.tp_history.proofs.Common.{◌≡◌, ◌++◌, ◌∷◌, [], ◌<◌, ◌∙◌, Some, length, ap, sym, subst, refl, arith, slice_get, slice_get_read, In, In-last, In-left, Actor, ChangeParts}
use Rattle.std.proofs.Common.{rules}
use Rattle.tp_history.proofs.by_actor.add_at.Goals as goal

pub returns-clause-before : goal.returns-clause-before
returns-clause-before c =
    let grown : c.push.new.self.items ≡ c.args.actors.now.items ++ c.actor.result ∷ [] = search rules in
    λ a i. subst (In a) (sym grown) (In-left a c.args.actors.now.items (c.actor.result ∷ []) i)

pub returns-clause-at : goal.returns-clause-at
returns-clause-at c =
    let C = c.args.changes.now in
    let d : ChangeParts = c.index-changes-place.result in
    let grown : c.push.new.self.items ≡ c.args.actors.now.items ++ c.actor.result ∷ [] = search rules in
    let small : c.args.place < length C = omega arith in
    let there : slice_get C c.args.place ≡ Some d = slice_get_read C (length C) c.args.place d refl small c.index-changes-place.is in
    λ x at.
    let both : Some d ≡ Some x = sym there ∙ at in
    let same : d ≡ x = cc in
    subst (In x.actor) (sym grown) (subst (λ (a : Actor). In a (c.args.actors.now.items ++ c.actor.result ∷ [])) (c.actor.ensures ∙ ap (λ (y : ChangeParts). y.actor) same) (In-last c.actor.result c.args.actors.now.items))
