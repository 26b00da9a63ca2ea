use Rattle.std.proofs.Common.{◌∙◌, List, ℕ, ap, refl}
use Rattle.tp_document.specs.Common.{past}
use Rattle.tp_snapshot.specs.declared.differences.Difference.{Difference}
use Rattle.tp_opid.specs.declared.hash.Hash.{Hash}
use Rattle.tp_c.specs.Earlier.{IsFound}
use Rattle.tp_c.specs.Heads.{AreHeads, hash_bytes}
use Rattle.tp_c.proofs.FoundLaws.{if_found}
use Rattle.tp_c.proofs.earlier.found_between.Goals as goal

pub returns-in-Ok-clause-ok : goal.returns-in-Ok-clause-ok
returns-in-Ok-clause-ok c =
    let C = c.args.document.now.applied in
    let from = c.args.from.now in
    let to = c.args.to.now in
    let H = c.deref.result.now in
    let K = c.deref-2.result.now in
    let known = c.in-Ok.ensures.known in
    let were : AreHeads C from H = record { bytes_are = ap hash_bytes c.deref.ensures.value ∙ c.in_ok-hashes.ensures.ok; known = known.0 } in
    let are : AreHeads C to K = record { bytes_are = ap hash_bytes c.deref-2.ensures.value ∙ c.in_ok-others.ensures.ok; known = known.1 } in
    if_found c.with_texts.result c.in-Ok.differences
    (λ (ds : List Difference) (ts : List ℕ). (x : List Hash) × AreHeads C from x × ((y : List Hash) × AreHeads C to y × IsFound C (past C x) (past C y) ds ts)) c.with_texts.ensures.ok
    (H, were, (K, are, record { are = c.in-Ok.ensures.each; leads = c.in-Ok.ensures.leads; joined = refl }))
