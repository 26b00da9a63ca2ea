use Rattle.tp_frame.specs.Joining.{led_by}
use Rattle.tp_frame.proofs.JoinLaws.{whole_joined}
use Rattle.tp_frame.proofs.joining.Joiner.next.Goals as goal

pub returns-in-Some-Whole-clause-joined : goal.returns-in-Some-Whole-clause-joined
returns-in-Some-Whole-clause-joined c =
    let answers = rw (c.in-Some-Whole.is, c.in-Some-Whole.field-0-is) at (c.in_ok-next.ensures.exact (led_by c.args.self.now.begun c.args.self.now.came.bytes) c.requires.present) in
    (whole_joined c.args.self.now.begun c.args.self.now.came.bytes c.in-Some-Whole.frame c.bytes_after_frame-self.result.bytes c.next.new.self c.requires.bytes c.bytes_after_frame-self.ensures answers).0

pub returns-in-Some-Whole-clause-exact : goal.returns-in-Some-Whole-clause-exact
returns-in-Some-Whole-clause-exact c =
    let answers = rw (c.in-Some-Whole.is, c.in-Some-Whole.field-0-is) at (c.in_ok-next.ensures.exact (led_by c.args.self.now.begun c.args.self.now.came.bytes) c.requires.present) in
    (whole_joined c.args.self.now.begun c.args.self.now.came.bytes c.in-Some-Whole.frame c.bytes_after_frame-self.result.bytes c.next.new.self c.requires.bytes c.bytes_after_frame-self.ensures answers).1
