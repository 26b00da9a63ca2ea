use Rattle.tp_document.proofs.Common.{◌≡◌, None, ◌∙◌, ◌∷◌, [], ◌++◌, ap, sym, refl, subst, List, get_or, ChangeParts, cause, slice_get_read}
use Rattle.tp_document.proofs.ChangePlaces.{place_at, changes_at_places-more}
use Rattle.tp_document.proofs.ForkLaws.{next_enters}
use Rattle.tp_document.proofs.forking.document_at.Goals as goal

pub bounds-changes-place : goal.bounds-changes-place
bounds-changes-place g c = c.requires.within (get_or c.args.places.now c.loop-place.place-index 0) (place_at c.args.places.now c.loop-place.place-index c.loop-place-test.true)

pub enter_copy-requires : goal.enter_copy-requires
enter_copy-requires g c =
    let C = c.args.changes.now in
    let ps = c.args.places.now in
    let i = c.loop-place.place-index in
    let x = c.index-changes-place.result in
    let within = c.requires.within (get_or ps i 0) (place_at ps i c.loop-place-test.true) in
    subst (λ (D : List ChangeParts). cause D x ≡ None) (sym c.loop-place.invariant.applied)
    (next_enters C ps i x c.requires.sound c.requires.few c.loop-place-test.true (slice_get_read C _ (get_or ps i 0) x refl within c.index-changes-place.is))

pub loop-place-preserved : goal.loop-place-preserved
loop-place-preserved g c =
    let C = c.args.changes.now in
    let ps = c.args.places.now in
    let i = c.loop-place.place-index in
    let x = c.index-changes-place.result in
    let within = c.requires.within (get_or ps i 0) (place_at ps i c.loop-place-test.true) in
    record {
      named = c.in_ok-enter_copy.ensures.id ∙ c.loop-place.invariant.named;
      applied =
          c.in_ok-enter_copy.ensures.ok
          ∙ ap (λ (D : List ChangeParts). D ++ x ∷ []) c.loop-place.invariant.applied
          ∙ sym (changes_at_places-more C ps i x c.loop-place-test.true (slice_get_read C _ (get_or ps i 0) x refl within c.index-changes-place.is));
      waiting = c.in_ok-enter_copy.ensures.waiting ∙ c.loop-place.invariant.waiting;
    }
