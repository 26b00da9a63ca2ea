use Rattle.tp_ancestry.proofs.Common.{◌≡◌, ◌<◌, ◌∙◌, ap, length, get_or, refl, sym, arith, slice_get_read, slice_get-there, AncestryState, ends_of}
use Rattle.tp_history.proofs.PlacesLaws.{end_at}
use Rattle.tp_ancestry.proofs.ancestry.Ancestry.end_at.Goals as goal

pub index-end-requires : goal.index-end-requires
index-end-requires c =
    let l = c.self.inside.lists in
    let long : length l.ends.items ≡ length l.changes.items = c.self.invariant.ends_are.each in
    let small : c.args.place < length l.changes.items = rw (ap (λ (s : AncestryState). length s.changes) c.self.view_is) c.requires in
    omega (arith, l.ends.ok.0)

pub returns-then-end-lt-WIDE : goal.returns-then-end-lt-WIDE
returns-then-end-lt-WIDE c =
    let l = c.self.inside.lists in
    let C = l.changes.items in
    let n = c.index-end.result.now in
    let small : c.args.place < length C = rw (ap (λ (s : AncestryState). length s.changes) c.self.view_is) c.requires in
    let long : length l.ends.items ≡ length C = c.self.invariant.ends_are.each in
    let within : c.args.place < length l.ends.items = omega arith in
    let w = slice_get-there C c.args.place small in
    c.self.invariant.ends_are.known c.args.place w.0 n w.1 (slice_get_read l.ends.items _ c.args.place n refl within c.index-end.ensures) c.if-end-lt-WIDE.true
    ∙ sym (end_at C c.args.place w.0 w.1)
    ∙ ap (λ (s : AncestryState). get_or (ends_of s.changes) c.args.place 0) c.self.view_is

pub returns-else-end-lt-WIDE : goal.returns-else-end-lt-WIDE
returns-else-end-lt-WIDE c =
    let C = c.self.inside.lists.changes.items in
    let x = c.index.result.now in
    let small : c.args.place < length C = rw (ap (λ (s : AncestryState). length s.changes) c.self.view_is) c.requires in
    c.next_start.ensures
    ∙ sym (end_at C c.args.place x (slice_get_read C _ c.args.place x refl small c.index.ensures))
    ∙ ap (λ (s : AncestryState). get_or (ends_of s.changes) c.args.place 0) c.self.view_is
