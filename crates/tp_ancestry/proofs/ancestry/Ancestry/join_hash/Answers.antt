use Rattle.tp_ancestry.proofs.Common.{◌∙◌, ap, is_some, sym}
use Rattle.tp_ancestry.proofs.DepsLaws.{IsKnown-joined}
use Rattle.tp_ancestry.proofs.EndLaws.{end-on, end-grows, end_at_place}
use Rattle.tp_history.proofs.PlacesLaws.{has_all-on, has_all-stop, has-from_place, is_some-place_from}
use Rattle.tp_ancestry.proofs.ancestry.Ancestry.join_hash.Goals as goal

pub returns-in_ok-join_past-in-Some-clause-joined : goal.returns-in_ok-join_past-in-Some-clause-joined
returns-in_ok-join_past-in-Some-clause-joined c =
    let C = c.args.self.now.changes in
    let H = c.args.hashes.now in
    let n = c.args.number in
    let w = c.requires.joined in
    let end = c.end_at.ensures ∙ end_at_place C _ c.in-Some.place c.in-Some.ensures.place in
    let latest = end-on C H n c.args.beyond.now.start c.end_at.result _ c.requires.number end w.start in
    let some = end-grows c.args.beyond.now.start c.end_at.result w.some in
    λ _. record {
      start = rw c.later-beyond.ensures latest;
      some = rw c.later-beyond.ensures some;
      there = has_all-on C H n _ c.requires.number w.there (sym (is_some-place_from 0 C _) ∙ ap is_some (sym c.in-Some.ensures.place));
      past = IsKnown-joined C H n _ c.in-Some.place c.args.beyond.now.past c.join_past.new.past c.changes-changes.ensures.sound c.requires.number w.past c.in-Some.ensures.place c.in_ok-join_past-in-Some.ensures;
    }

pub returns-in-None-clause-missing : goal.returns-in-None-clause-missing
returns-in-None-clause-missing c = λ _. sym (has_all-stop c.args.self.now.changes c.args.hashes.now c.args.number _ c.requires.number c.requires.joined.there (has-from_place c.args.self.now.changes _ c.in-None.ensures.place))
