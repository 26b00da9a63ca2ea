use Rattle.tp_frame.specs.declared.frame.Frame.TheVariants.{Sync}
use Rattle.tp_frame.proofs.JoinLaws.{follows_frame}
use Rattle.tp_frame.proofs.joining.Joiner.sync.Goals as goal

pub returns-in-Some-clause-joined : goal.returns-in-Some-clause-joined
returns-in-Some-clause-joined c =
    let body = rw c.in-Some.is at c.in_ok-sync_body.ensures in
    (follows_frame c.args.self.now.came.bytes (Sync c.in-Some.body) body.0 c.bytes_after_frame-self.result.bytes c.sync_body.new.parts c.requires.joined.bytes body.1 c.bytes_after_frame-self.ensures body.2).0

pub returns-in-Some-clause-exact : goal.returns-in-Some-clause-exact
returns-in-Some-clause-exact c =
    let body = rw c.in-Some.is at c.in_ok-sync_body.ensures in
    (follows_frame c.args.self.now.came.bytes (Sync c.in-Some.body) body.0 c.bytes_after_frame-self.result.bytes c.sync_body.new.parts c.requires.joined.bytes body.1 c.bytes_after_frame-self.ensures body.2).1
