use Rattle.std.proofs.Common.{rules, subst, ◌≡◌, List, true}
use Rattle.std.specs.Prelude.{◌↔◌, IsTrue}
use Rattle.tp_opid.specs.Same.{same_actor}
use Rattle.tp_opid.specs.declared.hash.Hash.{Hash}
use Rattle.tp_window.proofs.MadeLaws.{made_otherwise, made_test}
use Rattle.tp_window.proofs.showing.is_made_on.Goals as goal

pub returns-then-is : goal.returns-then-is
returns-then-is c =
    let same : same_actor c.args.change.now.actor c.args.actor.now ≡ true = search rules in
    let on : IsTrue c.same_hashes.result ↔ (c.args.change.now.deps ≡ c.args.heads.now) =
    subst (λ (D : List Hash). IsTrue c.same_hashes.result ↔ (D ≡ c.args.heads.now)) c.deps.ensures c.same_hashes.ensures in
    made_test c.args.actor.now c.args.heads.now c.args.change.now c.same_hashes.result same on

pub returns-else-is : goal.returns-else-is
returns-else-is c =
    let is : c.is.result ≡ same_actor c.args.change.now.actor c.args.actor.now = search rules in
    made_otherwise c.args.actor.now c.args.heads.now c.args.change.now c.is.result is c.if-is.false
