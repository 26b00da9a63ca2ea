use Rattle.tp_history.proofs.Common.{refl, ◌∙◌, slice_get_within, HasAt}
use Rattle.tp_history.proofs.MarksLaws.{hashes_once}
use Rattle.tp_history.proofs.NotesLaws.{place_is, place_by_hash}
use Rattle.tp_history.proofs.index.place_of.Goals as goal

pub returns-then-has_at : goal.returns-then-has_at
returns-then-has_at c =
    let C = c.args.changes.now in
    let there : HasAt C c.saturating_sub-last.result c.args.hash.now = c.has_at.ensures.0 c.if-has_at.true in
    record {
      place = place_is C c.args.hash.now c.saturating_sub-last.result (hashes_once C c.requires.sound) there;
      within = slice_get_within C c.saturating_sub-last.result there.0 there.1;
    }

pub returns-in-Some : goal.returns-in-Some
returns-in-Some c = record {
  place = place_is c.args.changes.now c.args.hash.now c.in-Some.place (hashes_once c.args.changes.now c.requires.sound) c.in-Some.ensures.there;
  within = c.in-Some.ensures.within;
}

pub returns-clause-place : goal.returns-clause-place
returns-clause-place c =
    let C = c.args.changes.now in
    let h = c.args.hash.now in
    place_by_hash C c.args.index.now h c.noted_place.result (hashes_once C c.requires.sound) c.requires.noted
    (c.in_default.ensures.found refl)
    c.noted_place.ensures.there
    (λ p e at. c.noted_place.ensures.found p (c.by_hash.ensures ∙ e) at)
