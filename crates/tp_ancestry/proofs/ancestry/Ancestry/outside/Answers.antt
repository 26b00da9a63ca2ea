use Rattle.tp_ancestry.proofs.Common.{◌≡◌, ◌≤◌, ◌∙◌, List, Bool, length, drop, map, sym, ap, arith, append-nil, Vec, Global, [], ◌∷◌, ◌++◌, drop_all, map-append, slice_get-there, ChangeParts, bits, prefix_of, skip}
use Rattle.std.specs.Borrow.{Bor}
use Rattle.tp_ancestry.proofs.VectorLaws.{length-bits, prefix-marked}
use Rattle.tp_ancestry.proofs.SinceLaws.{skip-on, skip-by, skip-prefix}
use Rattle.tp_ancestry.proofs.ancestry.Ancestry.outside.Goals.{then-not-holds+in_ok-push, else-not-holds}
use Rattle.tp_ancestry.proofs.ancestry.Ancestry.outside.Goals as goal

-- what they refer to
abbrev now_of : List (Bor ChangeParts) → List ChangeParts
now_of l = map (λ (r : Bor ChangeParts). r.now) l

pub loop-i-init : goal.loop-i-init
loop-i-init c =
    let C = c.args.self.now.changes in
    let past_set = c.args.past_set.now in
    ap (λ (l : List (Bor ChangeParts)). map (λ (r : Bor ChangeParts). r.now) l ++ skip (drop c.prefix-i.result (bits past_set C)) (drop c.prefix-i.result C)) c.new-found.ensures.items
    ∙ ap (λ n. skip (drop n (bits past_set C)) (drop n C)) c.prefix-i.ensures
    ∙ skip-prefix (bits past_set C) C (prefix_of past_set) (length-bits past_set C c.requires) (prefix-marked past_set C)

pub loop-i-preserved : goal.loop-i-preserved
loop-i-preserved c =
    let C = c.args.self.now.changes in
    let marks : List Bool = bits c.args.past_set.now C in
    let long : length marks ≡ length C = length-bits c.args.past_set.now C c.requires in
    elim c.if-not-holds.branch [
      | then-not-holds+in_ok-push w ↦
          skip-on marks C c.loop-i.i w.at.result.now (now_of c.loop-i.found.items) (now_of c.if-not-holds.found.items) long
          w.at.ensures
          (sym c.holds.ensures ∙ w.if-not-holds.true)
          (ap (λ (v : Vec (Bor ChangeParts) Global). now_of v.items) w.found-is ∙ ap now_of w.in_ok-push.ensures.items ∙ map-append (λ (r : Bor ChangeParts). r.now) c.loop-i.found.items (w.at.result ∷ []))
          c.loop-i.invariant
      | else-not-holds w ↦
          let p = slice_get-there C c.loop-i.i (rw c.len-i-end.ensures.len at c.loop-i-test.true) in
          skip-by marks C c.loop-i.i p.0 (now_of c.loop-i.found.items) (now_of c.if-not-holds.found.items) long p.1
          (sym c.holds.ensures ∙ w.if-not-holds.false) (ap (λ (v : Vec (Bor ChangeParts) Global). now_of v.items) w.found-is) c.loop-i.invariant
    ]

pub returns : goal.returns
returns c =
    let C = c.args.self.now.changes in
    let marks : List Bool = bits c.args.past_set.now C in
    let long : length marks ≡ length C = length-bits c.args.past_set.now C c.requires in
    let past : length marks ≤ c.loop-i.i = omega (arith, c.loop-i-test.false) in
    sym (append-nil (now_of c.loop-i.found.items))
    ∙ ap (λ l. now_of c.loop-i.found.items ++ skip l (drop c.loop-i.i C)) (sym (drop_all c.loop-i.i marks past))
    ∙ c.loop-i.invariant
