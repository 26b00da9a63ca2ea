use Rattle.tp_event.proofs.Common.{refl, slice_get_read}
use Rattle.tp_event.proofs.MemberLaws.{merge_other, set_below}
use Rattle.tp_event.proofs.members.merge_other_at.Goals as goal

pub returns : goal.returns
returns c =
    let peers = c.args.members.now.items in
    let mid = c.exchange-member.new.members.items in
    merge_other peers mid c.exchange-nobody.new.members.items c.args.into c.args.from c.exchange-member.result c.nobody.result c.index-other.result.now c.merge-merged.new.self _
    c.exchange-member.ensures.out c.exchange-member.ensures.left
    (slice_get_read mid _ c.args.from c.index-other.result.now refl (set_below peers mid c.args.into c.args.from c.nobody.result c.exchange-member.ensures.left c.requires.from) c.index-other.ensures)
    c.requires.apart c.merge-merged.ensures c.exchange-nobody.ensures.left
