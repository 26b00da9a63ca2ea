use Rattle.tp_document.proofs.Common.{◌≡◌, ◌+◌, ◌<◌, ◌^◌, List, length, subst, sym, ap, chars, OpId, ChangeParts, count_by, visible_of, AllInRange, asking, IsEdit}
use Rattle.tp_document.proofs.EditFits.{range_of}
use Rattle.tp_document.proofs.EditSizes.{edit_limits}
use Rattle.tp_document.proofs.EditAnswers.{edit_made}
use Rattle.tp_document.proofs.editing.change_of.Goals as goal

pub parts_of-requires-clause-in_range : goal.parts_of-requires-clause-in_range
parts_of-requires-clause-in_range g c =
    let S = g.S.Sequence in
    let L = S.placed c.args.sequence.now in
    let h = c.requires.holds in
    subst (λ (R : List (OpId × OpId)). AllInRange (length (visible_of R L)) c.args.splices.now) (sym h.deletes)
    (range_of c.args.graph.now.applied L c.args.splices.now h.sound h.order c.requires.within.counters.before.asks.range)

pub make_change-requires : goal.make_change-requires
make_change-requires g c =
    let S = g.S.Sequence in
    let C = c.args.graph.now.applied in
    let asked = asking c.args.actor c.args.splices.now c.args.time (chars c.args.message.now) in
    let h = c.requires.holds in
    let numbered : c.next_seq-seq.result ≡ count_by c.args.actor C + 1 = c.next_seq-seq.ensures.seq in
    let is : IsEdit C asked c.in_ok-parts.parts = edit_made C (S.placed c.args.sequence.now) (S.removals c.args.sequence.now) asked c.next_seq-seq.result c.next_counter-next.result c.heads-heads.result.now c.in_ok-parts.parts h numbered c.next_counter-next.ensures c.heads-heads.ensures c.in_ok-parts.ensures in
    let small : c.in_ok-parts.parts.seq < 2 ^ 64 = subst (λ n. n < 2 ^ 64) (sym (ap (λ (p : ChangeParts). p.seq) c.in_ok-parts.ensures)) c.next_seq-seq.ensures.small in
    λ size. edit_limits C asked c.in_ok-parts.parts h.sound h.limits is c.requires.within.counters
    (record { actor = c.array_len-actor.ensures.bytes; time = c.ranges.time.fits; message = c.requires.within.spelled; texts = c.requires.within.texts })
    small c.requires.within.message size
