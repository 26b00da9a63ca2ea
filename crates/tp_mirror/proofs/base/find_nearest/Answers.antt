use Rattle.std.proofs.Common.{length, refl, ◌∙◌}
use Rattle.std.proofs.lemmas.Option.{slice_get_read}
use Rattle.tp_mirror.proofs.Places.{nearest_found, nearest_more, nearest_pass, none_counted, none_counts_first, none_pass}
use Rattle.tp_mirror.proofs.base.find_nearest.Goals as goal

pub loop-at-init : goal.loop-at-init
loop-at-init g c = record { same = refl; best = tt; none = λ _. none_counts_first c.args.own c.args.texts.now }

pub loop-at-preserved-then-not-counts : goal.loop-at-preserved-then-not-counts
loop-at-preserved-then-not-counts g c =
    let place = slice_get_read c.args.texts.now (length c.args.texts.now) c.loop-at.at c.index-texts-at.result refl c.loop-at-test.true c.index-texts-at.is in
    record {
      same = c.loop-at.invariant.same;
      best = nearest_pass g.W.Workspace.is_far c.args.own c.args.texts.now c.args.text c.loop-at.best c.loop-at.at c.index-texts-at.result place (λ counts. absurd (let e = c.if-not-counts.ensures.1 counts in cc)) c.loop-at.invariant.best;
      none = λ e. none_pass c.args.own c.args.texts.now c.loop-at.at c.index-texts-at.result place (λ counts. absurd (let e = c.if-not-counts.ensures.1 counts in cc)) (c.loop-at.invariant.none e);
    }

pub loop-at-preserved : goal.loop-at-preserved
loop-at-preserved g c = record {
  same = c.in_ok-distance.ensures.same ∙ c.loop-at.invariant.same;
  best =
      nearest_more g.W.Workspace.is_far c.args.own c.args.texts.now c.args.text c.loop-at.best
      (record { at = c.loop-at.at; generation = c.index-texts-at.result.generation; distance = c.in_ok-distance.distance })
      c.nearer.result c.loop-at.at c.index-texts-at.result c.loop-at.invariant.none c.loop-at.invariant.best
      (slice_get_read c.args.texts.now (length c.args.texts.now) c.loop-at.at c.index-texts-at.result refl c.loop-at-test.true c.index-texts-at.is)
      refl refl (c.if-not-counts.ensures.0 refl) c.in_ok-distance.ensures.far c.nearer.ensures.one c.nearer.ensures.next c.nearer.ensures.best;
  none = λ e. absurd cc;
}

pub returns-clause-nearest : goal.returns-clause-nearest
returns-clause-nearest g c = nearest_found g.W.Workspace.is_far c.args.own c.args.texts.now c.args.text c.loop-at.best c.loop-at.at c.loop-at-test.false c.loop-at.invariant.best

pub returns-clause-none : goal.returns-clause-none
returns-clause-none g c = λ e. none_counted c.args.own c.args.texts.now c.loop-at.at c.loop-at-test.false (c.loop-at.invariant.none e)
