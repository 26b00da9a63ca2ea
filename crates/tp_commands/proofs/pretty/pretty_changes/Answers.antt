use Rattle.std.proofs.Common.{◌∙◌, ◌++◌, ap, arith}
use Rattle.std.specs.String.{string_bytes}
use Rattle.tp_commands.proofs.PrettyLaws.{pretty_back}
use Rattle.tp_commands.proofs.pretty.pretty_changes.Goals as goal

pub loop-left-preserved : goal.loop-left-preserved
loop-left-preserved c = record {
  within = omega (arith, c.loop-left.invariant.within);
  lines =
      pretty_back c.args.changes.now c.loop-left.left _ _ _ _ _ c.loop-left-test.true c.loop-left.invariant.within c.index-changes-left.is c.loop-left.invariant.lines
      c.in_ok-pretty_line.ensures (c.in_ok-push_str.ensures.bytes ∙ ap (λ l. string_bytes c.loop-left.lines ++ l) c.as_str.ensures.value);
}
