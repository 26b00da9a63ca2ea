use Rattle.tp_snapshot.proofs.Common.{◌≡◌, ◌∙◌, sym, ap, arith, nat_lt, end_at, same_actor-same}
use Rattle.tp_snapshot.proofs.TargetLaws.{not_below}
use Rattle.tp_snapshot.proofs.author.Author.lacks.Goals as goal

pub returns : goal.returns
returns c =
    let known = c.args.self.now in
    let id = c.args.id.now in
    let K = c.args._clock.now in
    λ h.
    let same : known.actor ≡ id.actor = same_actor-same known.actor id.actor (sym c.is.ensures ∙ h) in
    let end : known.end ≡ end_at K id.actor = c.requires ∙ ap (end_at K) same in
    ap (nat_lt id.counter) (sym end) ∙ not_below id.counter known.end (omega (arith, c.if-id-self.false))
