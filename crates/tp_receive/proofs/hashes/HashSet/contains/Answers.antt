use Rattle.tp_receive.proofs.Common.{◌≡◌, ◌∙◌, ◌++◌, ◌||◌, ap, sym, append-nil, List, Hash, has_hash}
use Rattle.tp_opid.specs.Same.{same_hash}
use Rattle.tp_opid.specs.Order.{hash_cmp}
use Rattle.tp_receive.proofs.HashLaws.{has_hash-append}
use Rattle.tp_receive.proofs.hashes.HashSet.contains.Goals as goal
use Rattle.tp_receive.proofs.hashes.HashSet.contains.Goals.{After-contains}

-- the ordered set has what it had, and what came since
all_put : (c : After-contains) (h : Hash) → has_hash c.put_in.new.sorted.keys h ≡ has_hash c.args.self.now h
all_put c h =
    c.in_ok-put_in.ensures h
    ∙ ap (λ (l : List Hash). has_hash c.self.inside.sorted.keys h || has_hash l h) c.deref.ensures.value
    ∙ sym (has_hash-append c.self.inside.sorted.keys c.self.inside.late.items h)
    ∙ ap (λ (l : List Hash). has_hash l h) c.self.view_is

pub returns-clause-there : goal.returns-clause-there
unfolding same_hash hash_cmp
returns-clause-there c = c.contains.ensures ∙ all_put c c.args.hash.now

pub returns-clause-stays : goal.returns-clause-stays
returns-clause-stays c = λ h.
    ap (λ (l : List Hash). has_hash l h) (ap (λ (l : List Hash). c.put_in.new.sorted.keys ++ l) c.clear.ensures.items ∙ append-nil c.put_in.new.sorted.keys)
    ∙ all_put c h
