use Rattle.tp_receive.proofs.Common.{◌≡◌, ◌∙◌, ◌||◌, ap, true, false, Bool, cond, refl, List, Hash, has_hash, take_all}
use Rattle.tp_opid.specs.Same.{same_hash}
use Rattle.tp_opid.specs.Order.{hash_cmp}
use Rattle.tp_receive.proofs.HashLaws.{has_hash-more}
use Rattle.tp_receive.proofs.hashes.put_in.Goals as goal

either : (a b : Bool) → cond a true b ≡ (a || b)
either true b = refl
either false b = refl

none : (a : Bool) → a ≡ (a || false)
none true = refl
none false = refl

pub loop-hash-init : goal.loop-hash-init
loop-hash-init c = λ h. none (has_hash c.args.sorted.now.keys h)

pub loop-hash-preserved : goal.loop-hash-preserved
unfolding same_hash hash_cmp
loop-hash-preserved c = λ h.
    has_hash-more c.loop-hash.sorted.keys c.args.sorted.now.keys c.insert.new.self.keys c.args.late.now c.loop-hash.hash-index _ h
    c.loop-hash-test.true (c.loop-hash.invariant h)
    (c.in_ok-insert.ensures.updates.0 h ∙ either _ (has_hash c.loop-hash.sorted.keys h))

pub returns : goal.returns
returns c = λ h.
    c.loop-hash.invariant h ∙ ap (λ (l : List Hash). has_hash c.args.sorted.now.keys h || has_hash l h) (take_all c.loop-hash.hash-index c.args.late.now c.loop-hash-test.false)
