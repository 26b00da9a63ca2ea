use Rattle.std.proofs.Common.{◌-◌, drop, length, take}
use Rattle.tp_hunks.proofs.HunkLaws.{hunk_made, rest_is}
use Rattle.tp_hunks.proofs.trimming.hunk_of.Goals as goal

pub returns : goal.returns
returns c =
    let front = c.same_start-front.result in
    let gone = c.lines_up_to-gone.result.now in
    let come = c.lines_up_to-come.result.now in
    hunk_made c.args.group.now c.args.old.now c.args.new.now gone come (take (length gone - front) (drop front gone)) (take (length come - front) (drop front come))
    front c.same_end-back.result c.lines_up_to-gone.ensures.lines c.lines_up_to-come.ensures.lines (rest_is gone front) (rest_is come front)
    c.same_start-front.ensures.same c.same_end-back.ensures.same
