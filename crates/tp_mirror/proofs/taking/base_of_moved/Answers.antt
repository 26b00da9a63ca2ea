use Rattle.std.proofs.Common.{refl}
use Rattle.tp_mirror.proofs.Bases.{moved-alone, moved-earlier, moved-nearest, moved-own}
use Rattle.tp_mirror.proofs.Watching.{place_in}
use Rattle.tp_mirror.proofs.taking.base_of_moved.Goals as goal

pub returns-in_default-clause-base : goal.returns-in_default-clause-base
returns-in_default-clause-base g c =
    moved-alone g.W.Workspace.is_far c.args.state.now c.as_slice-texts.result.now c.args.at _ c.index-as_slice-at.result c.args.text c.in_ok-distance.distance c.in_ok-found.found c.base_on.result
    (place_in _ _ _ _ _ refl c.as_slice.ensures c.requires c.index-as_slice-at.is) c.index-as_slice-at.is c.as_slice-texts.ensures c.in_default.is c.in_ok-found.ensures.none c.in_ok-distance.ensures.far c.base_on.ensures

pub returns-then-near-known-clause-base : goal.returns-then-near-known-clause-base
returns-then-near-known-clause-base g c =
    moved-own g.W.Workspace.is_far c.args.state.now c.as_slice-texts.result.now c.args.at _ c.index-as_slice-at.result c.args.text c.in_ok-distance.distance c.in_ok-found.found c.in-Some.near c.base_on-then-near-known.result
    (place_in _ _ _ _ _ refl c.as_slice.ensures c.requires c.index-as_slice-at.is) c.index-as_slice-at.is c.as_slice-texts.ensures c.in-Some.is c.in_ok-found.ensures.nearest c.in_ok-distance.ensures.far c.if-near-known.true
    c.base_on-then-near-known.ensures

pub returns-then-near-distance-clause-base : goal.returns-then-near-distance-clause-base
returns-then-near-distance-clause-base g c =
    moved-earlier g.W.Workspace.is_far c.args.state.now c.as_slice-texts.result.now c.args.at _ c.index-as_slice-at.result c.args.text c.in_ok-distance.distance c.in-Some.near.distance c.in-Some.near.generation c.base_at.result
    (place_in _ _ _ _ _ refl c.as_slice.ensures c.requires c.index-as_slice-at.is) c.index-as_slice-at.is c.as_slice-texts.ensures c.in_ok-distance.ensures.far c.if-near-known.false c.if-near-distance.true c.base_at.ensures

pub returns-clause-base : goal.returns-clause-base
returns-clause-base g c =
    moved-nearest g.W.Workspace.is_far c.args.state.now c.as_slice-texts.result.now c.args.at _ c.index-as_slice-at.result c.args.text c.in_ok-distance.distance c.in_ok-found.found c.in-Some.near c.base_on-2.result
    (place_in _ _ _ _ _ refl c.as_slice.ensures c.requires c.index-as_slice-at.is) c.index-as_slice-at.is c.as_slice-texts.ensures c.in-Some.is c.in_ok-found.ensures.nearest c.in_ok-distance.ensures.far c.if-near-distance.false
    c.base_on-2.ensures
