use Rattle.std.proofs.Common.{rules, inr}
use Rattle.httparse.specs.Borrowed.{HoldsSomeRequest}
use Rattle.tp_web.proofs.HeadLaws.{wanted_by_parsed}
use Rattle.tp_web.proofs.head.wanted_by.Goals as goal

pub returns-in-Ok-Complete-clause-head : goal.returns-in-Ok-Complete-clause-head
returns-in-Ok-Complete-clause-head c = λ head rest reads few.
    let held : HoldsSomeRequest c.args.bytes.now c.parse.new.self c.in-Ok-Complete.field-0-0 = search rules in
    wanted_by_parsed c.args.site.now c.args.bytes.now c.parse.new.self c.in-Ok-Complete.field-0-0
    c.unwrap_or.result c.unwrap_or-in-Ok-Complete.result _ _ c.classify.result
    held c.unwrap_or.ensures c.unwrap_or-in-Ok-Complete.ensures c.classify.ensures head rest reads

pub returns-in-Ok-Complete-clause-only : goal.returns-in-Ok-Complete-clause-only
returns-in-Ok-Complete-clause-only c =
    let held : HoldsSomeRequest c.args.bytes.now c.parse.new.self c.in-Ok-Complete.field-0-0 = search rules in
    inr (
      held.0,
      _,
      held.1.reads,
      wanted_by_parsed c.args.site.now c.args.bytes.now c.parse.new.self c.in-Ok-Complete.field-0-0
          c.unwrap_or.result c.unwrap_or-in-Ok-Complete.result _ _ c.classify.result
          held c.unwrap_or.ensures c.unwrap_or-in-Ok-Complete.ensures c.classify.ensures held.0 _ held.1.reads,
    )
