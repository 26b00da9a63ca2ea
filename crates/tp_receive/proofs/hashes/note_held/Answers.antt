use Rattle.tp_receive.proofs.Common.{◌∙◌, ◌++◌, List, sym, ap, append-nil, Hash}
use Rattle.tp_receive.proofs.ComingLaws.{held_of-here, held_of-none}
use Rattle.tp_receive.proofs.hashes.note_held.Goals as goal

pub returns-in_ok-push : goal.returns-in_ok-push
returns-in_ok-push c = λ K e.
    c.in_ok-push.ensures.items
    ∙ ap (λ (l : List Hash). c.args.held.now.items ++ l) (sym (held_of-here K c.args.came.now c.args.change.now c.hash-hash.result e c.hash-hash.ensures.hash (sym c.has.ensures ∙ c.if-has.true)))

pub returns-else-has : goal.returns-else-has
returns-else-has c = λ K e.
    sym (ap (λ (l : List Hash). c.args.held.now.items ++ l) (held_of-none K c.args.came.now c.args.change.now c.hash-hash.result e c.hash-hash.ensures.hash (sym c.has.ensures ∙ c.if-has.false))
    ∙ append-nil c.args.held.now.items)
