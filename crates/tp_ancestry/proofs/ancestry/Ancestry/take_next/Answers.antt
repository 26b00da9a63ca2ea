use Rattle.tp_ancestry.proofs.Common.{◌<◌, ◌∙◌, ◌++◌, ◌∷◌, [], length, ap, arith}
use Rattle.tp_ancestry.proofs.VectorLaws.{is_reached_by_any-left, is_reached_by_any-right, is_reached_by_any-both}
use Rattle.tp_ancestry.proofs.ancestry.Ancestry.take_next.Goals as goal

pub returns-then-i-xs-clause-reached : goal.returns-then-i-xs-clause-reached
returns-then-i-xs-clause-reached c =
    let near : c.args.j < length c.args.ys.now = omega (arith, c.requires.left, c.if-i-xs.true) in
    λ p. is_reached_by_any-right c.args.self.now.changes c.args.xs.now c.args.ys.now c.args.all.now.items c.push.new.self.items c.args.i c.args.j p near c.in_ok-push.ensures.items

pub returns-then-j-ys-clause-reached : goal.returns-then-j-ys-clause-reached
returns-then-j-ys-clause-reached c =
    let small : c.args.i < length c.args.xs.now = omega (arith, c.requires.left, c.if-j-ys.true) in
    λ p. is_reached_by_any-left c.args.self.now.changes c.args.xs.now c.args.ys.now c.args.all.now.items c.push-then-j-ys.new.self.items c.args.i c.args.j p small c.in_ok-push-2.ensures.items

pub returns-in_ok-push-in-Less-clause-reached : goal.returns-in_ok-push-in-Less-clause-reached
returns-in_ok-push-in-Less-clause-reached c =
    let small : c.args.i < length c.args.xs.now = omega (arith, c.requires.within.0, c.if-i-xs.false) in
    λ p. is_reached_by_any-left c.args.self.now.changes c.args.xs.now c.args.ys.now c.args.all.now.items c.push-in-Less.new.self.items c.args.i c.args.j p small c.in_ok-push-in-Less.ensures.items

pub returns-in_ok-push-in-Greater-clause-reached : goal.returns-in_ok-push-in-Greater-clause-reached
returns-in_ok-push-in-Greater-clause-reached c =
    let near : c.args.j < length c.args.ys.now = omega (arith, c.requires.within.1, c.if-j-ys.false) in
    λ p. is_reached_by_any-right c.args.self.now.changes c.args.xs.now c.args.ys.now c.args.all.now.items c.push-in-Greater.new.self.items c.args.i c.args.j p near c.in_ok-push-in-Greater.ensures.items

pub returns-in_ok-push-in-Equal-clause-reached : goal.returns-in_ok-push-in-Equal-clause-reached
returns-in_ok-push-in-Equal-clause-reached c =
    let small : c.args.i < length c.args.xs.now = omega (arith, c.requires.within.0, c.if-i-xs.false) in
    let near : c.args.j < length c.args.ys.now = omega (arith, c.requires.within.1, c.if-j-ys.false) in
    λ p. is_reached_by_any-both c.args.self.now.changes c.args.xs.now c.args.ys.now c.args.all.now.items c.push-in-Equal.new.self.items c.args.i c.args.j p small near (c.order_of.ensures c.in-Equal.is)
    (c.in_ok-push-in-Equal.ensures.items ∙ ap (λ n. c.args.all.now.items ++ n ∷ []) c.later_place.ensures)
