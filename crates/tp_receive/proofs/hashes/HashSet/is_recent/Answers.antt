use Rattle.std.proofs.lemmas.List.Folds.{list_any_at}
use Rattle.tp_receive.proofs.Common.{◌≡◌, ◌<◌, ◌-◌, ◌∙◌, ap, sym, true, length, arith, or_right, same_hash, List, Hash, has_hash}
use Rattle.tp_receive.proofs.HashLaws.{has_hash-append}
use Rattle.tp_receive.proofs.hashes.HashSet.is_recent.Goals as goal

-- one of those that came last is one of all
pub returns-then-is_one : goal.returns-then-is_one
returns-then-is_one c = λ _.
    let h = c.args.hash.now in
    let H = c.self.inside.sorted.keys in
    let late = c.self.inside.late.items in
    let within : c.len-count.result - 1 - c.loop-i.i < length late = omega arith in
    let there : has_hash late h ≡ true = list_any_at (same_hash h) late (c.len-count.result - 1 - c.loop-i.i) c.index.result.now within
    (ap (same_hash h) (sym c.index.ensures) ∙ sym c.is_one.ensures ∙ c.if-is_one.true) in
    sym (ap (λ (l : List Hash). has_hash l h) c.self.view_is) ∙ has_hash-append H late h ∙ or_right (has_hash H h) (has_hash late h) there
