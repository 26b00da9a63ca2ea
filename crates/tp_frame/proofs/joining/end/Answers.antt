use Rattle.std.proofs.Common.{length}
use Rattle.tp_frame.specs.Joining.{with_given}
use Rattle.tp_frame.proofs.JoinLaws.{end_any}
use Rattle.tp_frame.proofs.joining.end.Goals as goal

pub returns : goal.returns
returns c =
    end_any c.args._came.now.bytes c.args.body.now c.next-end.result c.args.parts.now c.next-end.new.self c.requires
    (c.next-end.ensures.exact (with_given c.args._came.now.bytes (length c.args.body.now) c.args.body.now) c.requires)
