use Rattle.tp_receive.proofs.Common.{sym, ◌∙◌}
use Rattle.tp_receive.proofs.ComingLaws.{noted_delivers, noted_again, noted_slots}
use Rattle.tp_receive.proofs.coming.note.Goals as goal

pub returns-then-branch : goal.returns-then-branch
returns-then-branch g c D V e f =
    rw (rw c.deps.ensures at (sym (c.in_ok-all_there.ensures.there D e) ∙ c.if-branch.true))
    (noted_delivers D V c.args.change.now c.all_there.new.delivered c.args.slotted.now c.add.new.self c.hash-hash.result
    (λ h. c.in_ok-all_there.ensures.stays h ∙ e h) f c.hash-hash.ensures.hash c.in_ok-add.ensures)

pub returns-then-branch-2 : goal.returns-then-branch-2
returns-then-branch-2 g c D V e f =
    rw (rw c.deps.ensures at (sym (c.in_ok-all_there.ensures.there D e) ∙ c.if-branch.false))
    (noted_again D V c.args.change.now c.all_there.new.delivered c.contains.new.self
    (λ h. c.in_ok-all_there.ensures.stays h ∙ e h) (λ h. c.in_ok-contains.ensures.stays h ∙ f h)
    (c.in_ok-contains.ensures.stays _ ∙ rw c.hash-hash.ensures.hash at (sym c.in_ok-contains.ensures.there ∙ c.if-branch-2.true)))

pub returns : goal.returns
returns g c D V e f =
    rw (rw c.deps.ensures at (sym (c.in_ok-all_there.ensures.there D e) ∙ c.if-branch.false))
    (noted_slots D V c.args.change.now c.all_there.new.delivered c.contains.new.self c.add-2.new.self c.hash-hash.result
    (λ h. c.in_ok-all_there.ensures.stays h ∙ e h) (λ h. c.in_ok-contains.ensures.stays h ∙ f h) c.hash-hash.ensures.hash
    (c.in_ok-contains.ensures.stays _ ∙ rw c.hash-hash.ensures.hash at (sym c.in_ok-contains.ensures.there ∙ c.if-branch-2.false)) c.in_ok-add-2.ensures)
