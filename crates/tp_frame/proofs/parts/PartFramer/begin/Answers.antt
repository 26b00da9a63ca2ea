use Rattle.std.proofs.Common.{ap, ◌∙◌}
use Rattle.tp_frame.specs.declared.reading.NoFrame.TheVariants.{Fault}
use Rattle.tp_frame.specs.PartState.{PartState}
use Rattle.tp_frame.proofs.Openings.{fault_is_due}
use Rattle.tp_frame.proofs.PartLaws.{whole_given, refused_given}
use Rattle.tp_frame.proofs.parts.PartFramer.begin.Goals as goal

pub returns-in-Ok-Whole-clause-exact : goal.returns-in-Ok-Whole-clause-exact
returns-in-Ok-Whole-clause-exact c =
    whole_given c.args.self.now.held c.self.inside.buffer.items c.as_slice.result.now c.advance-in-Ok-Whole.new.self.items c.in-Ok-Whole.frame c.in-Ok-Whole.len c.self.inside.stage
    (ap (λ (s : PartState). s.held) c.self.view_is) c.as_slice.ensures (ap (λ (s : PartState). s.stage) c.self.view_is ∙ c.requires) c.advance-in-Ok-Whole.ensures.items
    (rw c.in-Ok-Whole.field-0-is at c.in-Ok-Whole.ensures.found)

pub returns-in-Err-Fault-clause-exact : goal.returns-in-Err-Fault-clause-exact
returns-in-Err-Fault-clause-exact c =
    let fault = rw c.in-Err-Fault.field-0-is at c.in-Err-Fault.ensures.err in
    refused_given c.args.self.now.held c.as_slice.result.now 0 c.in-Err-Fault.error c.refuse-in-Err-Fault.result c.refuse-in-Err-Fault.new.self
    (c.as_slice.ensures ∙ ap (λ (s : PartState). s.held) c.self.view_is)
    (fault_is_due c.as_slice.result.now c.in-Err-Fault.error c.opening_of.ensures.bytes fault.0 (λ e. fault.1 (ap Fault e)))
    c.refuse-in-Err-Fault.ensures.waits c.refuse-in-Err-Fault.ensures.shows c.refuse-in-Err-Fault.ensures.state
