use Rattle.tp_snapshot.proofs.Common.{◌≡◌, ◌∙◌, sym, ap, nat_lt, end_at, same_actor-same}
use Rattle.tp_snapshot.specs.declared.author.Author.{Author}
use Rattle.tp_snapshot.proofs.author.Author.has.Goals as goal
use Rattle.tp_snapshot.proofs.author.Author.has.Goals.{then-not-is, else-not-is}

pub returns-clause-has : goal.returns-clause-has
returns-clause-has c =
    let K = c.args.clock.now in
    let id = c.args.id.now in
    elim c.if-not-is.branch [
      | then-not-is w ↦ ap (λ (a : Author). nat_lt id.counter a.end) w.self-is ∙ ap (nat_lt id.counter) w.end.ensures
      | else-not-is w ↦
          let known = c.args.self.now in
          let same : known.actor ≡ id.actor = same_actor-same known.actor id.actor (sym c.is.ensures ∙ w.if-not-is.false) in
          ap (λ (a : Author). nat_lt id.counter a.end) w.self-is ∙ ap (nat_lt id.counter) (c.requires ∙ ap (end_at K) same)
    ]
