use Rattle.tp_ancestry.proofs.Common.{◌≡◌, ◌∙◌, ap, length, past}
use Rattle.tp_ancestry.proofs.VectorLaws.{IsVectorOf-whole}
use Rattle.tp_history.proofs.HeadsLaws.{past-heads}
use Rattle.tp_history.proofs.SoundLaws.{deps_first}
use Rattle.tp_ancestry.proofs.ancestry.Ancestry.known_past.Goals as goal

pub returns-then-same_hashes-clause-known : goal.returns-then-same_hashes-clause-known
returns-then-same_hashes-clause-known c =
    let C = c.args.self.now.changes in
    let whole : past C c.args.hashes.now ≡ C = ap (past C) (c.same_hashes.ensures.0 c.if-same_hashes.true ∙ c.heads.ensures) ∙ past-heads C (deps_first C c.changes-changes.ensures.sound) in
    IsVectorOf-whole C c.args.hashes.now c.whole.result whole (c.whole.ensures.prefix ∙ ap length c.changes-changes.ensures.changes) c.whole.ensures.latest
