use Rattle.tp_document.proofs.Common.{◌≡◌, ◌<◌, ◌≤◌, ap, sym, ◌∙◌, subst, List, length, IfOk, In, ChangeParts, most_changes, past, Sound, sound_pasts, DocState, HasJust}
use Rattle.tp_document.proofs.ForkLaws.{past_of_places, few_in_past}
use Rattle.tp_document.proofs.ChangePlaces.{past_places-within}
use Rattle.tp_document.proofs.document.Document.fork_at.Goals as goal

pub document_at-requires-clause-within : goal.document_at-requires-clause-within
document_at-requires-clause-within g c i k =
    let C = c.self.inside.graph.applied in
    let H = c.args.hashes.now in
    let same : c.changes.result.now ≡ C = c.changes.ensures.changes ∙ sym (ap (λ (d : DocState). d.applied) c.self.view_is) in
    subst (λ (l : List ChangeParts). i < length l) (sym same) (past_places-within C H i (subst (λ l. In i l) (c.places.ensures ∙ c.in-Ok.ensures.places) k))

pub document_at-requires-clause-sound : goal.document_at-requires-clause-sound
document_at-requires-clause-sound g c =
    let C = c.self.inside.graph.applied in
    let H = c.args.hashes.now in
    let same : c.changes.result.now ≡ C = c.changes.ensures.changes ∙ sym (ap (λ (d : DocState). d.applied) c.self.view_is) in
    subst Sound (sym (past_of_places c.changes.result.now C c.places.result.now c.in-Ok.past H same c.places.ensures c.in-Ok.ensures.places))
    (sound_pasts C c.self.invariant.sound H)

pub document_at-requires-clause-few : goal.document_at-requires-clause-few
document_at-requires-clause-few g c =
    let C = c.self.inside.graph.applied in
    let H = c.args.hashes.now in
    let same : c.changes.result.now ≡ C = c.changes.ensures.changes ∙ sym (ap (λ (d : DocState). d.applied) c.self.view_is) in
    subst (λ (l : List ChangeParts). length l ≤ most_changes) (sym (past_of_places c.changes.result.now C c.places.result.now c.in-Ok.past H same c.places.ensures c.in-Ok.ensures.places))
    (few_in_past C H c.self.invariant.few)

pub returns-in-Ok-clause-ok : goal.returns-in-Ok-clause-ok
returns-in-Ok-clause-ok g c =
    let C = c.self.inside.graph.applied in
    let H = c.args.hashes.now in
    let same : c.changes.result.now ≡ C = c.changes.ensures.changes ∙ sym (ap (λ (d : DocState). d.applied) c.self.view_is) in
    subst (λ (s : DocState). IfOk c.document_at.result (λ d. HasJust s.id (past s.applied H) d)) c.self.view_is
    (subst (λ P. IfOk c.document_at.result (λ d. HasJust c.self.inside.id P d))
    (past_of_places c.changes.result.now C c.places.result.now c.in-Ok.past H same c.places.ensures c.in-Ok.ensures.places)
    c.document_at.ensures.ok)
