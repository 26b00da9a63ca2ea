use Rattle.tp_ancestry.proofs.Common.{◌≡◌, ◌∙◌, ap, sym, Equal, actor_cmp, same_actor-tied}
use Rattle.tp_ancestry.proofs.VectorLaws.{author-read}
use Rattle.tp_ancestry.proofs.ancestry.Ancestry.order_of.Goals as goal

pub returns : goal.returns
returns c = λ e.
    let x = c.at.result.now in
    let y = c.at-2.result.now in
    let tied : actor_cmp x.actor y.actor ≡ Equal = ap (λ a. actor_cmp a y.actor) (sym c.actor.ensures) ∙ ap (actor_cmp c.actor.result) (sym c.actor-2.ensures) ∙ sym c.order.ensures ∙ e in
    author-read c.args.self.now.changes c.args.i c.args.j x y c.at.ensures c.at-2.ensures (same_actor-tied x.actor y.actor tied)
