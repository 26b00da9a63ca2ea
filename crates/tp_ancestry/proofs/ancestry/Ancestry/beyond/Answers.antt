use Rattle.tp_ancestry.proofs.Common.{◌≡◌, ◌∙◌, ap, never, refl, sym, length, next_counter, heads, has_all, past}
use Rattle.tp_ancestry.proofs.DepsLaws.{after-joined}
use Rattle.tp_ancestry.proofs.VectorLaws.{IsVectorOf-whole}
use Rattle.tp_history.proofs.HeadsLaws.{has_all-heads, past-heads}
use Rattle.tp_ancestry.proofs.PastsLaws.{if_ok-map}
use Rattle.tp_history.proofs.SoundLaws.{deps_first}
use Rattle.tp_ancestry.proofs.ancestry.Ancestry.beyond.Goals as goal

pub returns-then-same_hashes-clause-beyond : goal.returns-then-same_hashes-clause-beyond
returns-then-same_hashes-clause-beyond c =
    let C = c.args.self.now.changes in
    let H = c.args.hashes.now in
    let same : H ≡ heads C = c.same_hashes.ensures.0 c.if-same_hashes.true ∙ c.heads.ensures in
    let whole : past C H ≡ C = ap (past C) same ∙ past-heads C (deps_first C c.changes-changes.ensures.sound) in
    record {
      there = ap (has_all C) same ∙ has_all-heads C;
      start = c.next_counter.ensures ∙ ap next_counter (sym whole);
      past = IsVectorOf-whole C H c.whole.result whole (c.whole.ensures.prefix ∙ ap length c.changes-changes.ensures.changes) c.whole.ensures.latest;
      heads = λ _. refl;
    }

pub returns-clause-beyond : goal.returns-clause-beyond
returns-clause-beyond c =
    if_ok-map c.join_hashes.result
    (after-joined c.args.self.now.changes c.args.hashes.now c.changes-changes.ensures.sound
    (λ e. never (c.same_hashes.ensures.1 (e ∙ sym c.heads.ensures)) c.if-same_hashes.false))
    c.join_hashes.ensures
