use Rattle.std.proofs.Common.{rules}
use Rattle.tp_snapshot.proofs.Common.{◌≡◌, ◌∙◌, true, false, sym, In, hash_of, has}
use Rattle.tp_history.proofs.NamedLaws.{In-has}
use Rattle.tp_snapshot.proofs.effects.effect_of.Goals as goal

pub returns-in-Ok-clause-unknown : goal.returns-in-Ok-clause-unknown
returns-in-Ok-clause-unknown g c =
    let change = c.in-Some.change.now in
    let C = c.args.graph.now.applied in
    let h = c.args.hash.now in
    let found : In change C × (hash_of change ≡ h) = search rules in
    let known : has C h ≡ true = In-has C change h found.0 found.1 in
    (λ e. absurd (cc), λ none. let wrong : true ≡ false = sym known ∙ none in absurd (cc))

pub returns-in-Err-clause-unknown : goal.returns-in-Err-clause-unknown
returns-in-Err-clause-unknown g c =
    let change = c.in-Some.change.now in
    let C = c.args.graph.now.applied in
    let h = c.args.hash.now in
    let found : In change C × (hash_of change ≡ h) = search rules in
    let known : has C h ≡ true = In-has C change h found.0 found.1 in
    (λ e. absurd (cc), λ none. let wrong : true ≡ false = sym known ∙ none in absurd (cc))
