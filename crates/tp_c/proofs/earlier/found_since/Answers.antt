use Rattle.std.proofs.Common.{rules, ◌≡◌, ◌∙◌, List, ℕ, ap, refl, true}
use Rattle.tp_document.specs.Common.{past}
use Rattle.tp_snapshot.specs.declared.differences.Difference.{Difference}
use Rattle.tp_history.specs.Named.{has_all}
use Rattle.tp_opid.specs.declared.hash.Hash.{Hash}
use Rattle.tp_c.specs.Earlier.{IsFound}
use Rattle.tp_c.specs.Heads.{AreHeads, hash_bytes}
use Rattle.tp_c.proofs.FoundLaws.{if_found}
use Rattle.tp_c.proofs.earlier.found_since.Goals as goal

pub returns-in-Ok-clause-ok : goal.returns-in-Ok-clause-ok
returns-in-Ok-clause-ok c =
    let C = c.args.document.now.applied in
    let heads = c.args.heads.now in
    let H = c.deref.result.now in
    let known : has_all C H ≡ true = search rules in
    let are : AreHeads C heads H = record { bytes_are = ap hash_bytes c.deref.ensures.value ∙ c.in_ok-hashes.ensures.ok; known = known } in
    if_found c.with_texts.result c.in-Ok.differences (λ (ds : List Difference) (ts : List ℕ). (x : List Hash) × AreHeads C heads x × IsFound C (past C x) C ds ts) c.with_texts.ensures.ok
    (H, are, record { are = c.in-Ok.ensures.each; leads = c.in-Ok.ensures.leads; joined = refl })
