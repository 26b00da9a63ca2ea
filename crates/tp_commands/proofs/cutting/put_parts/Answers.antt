use Rattle.tp_commands.proofs.PartLaws.{parts_on}
use Rattle.tp_commands.proofs.cutting.put_parts.Goals as goal

pub cutting-preserved : goal.cutting-preserved
cutting-preserved c =
    parts_on c.args.stretch c.cutting.rest c.in_ok-part.part c.in_ok-part.next c.args.parts.now.items c.cutting.parts.items c.push.new.self.items c.cutting.invariant c.in_ok-part.ensures c.in_ok-push.ensures.items
