use Rattle.std.proofs.Common.{◌∙◌, ap}
use Rattle.tp_mirror.specs.declared.known.TextAt.{TextAt}
use Rattle.tp_mirror.proofs.Bases.{named-base}
use Rattle.tp_mirror.proofs.Keeping.{kept-change, made-change, made-state, read-change, read-saved_or, read-state}
use Rattle.tp_mirror.proofs.taking.make_change.Goals as goal

pub make-requires-clause-base : goal.make-requires-clause-base
make-requires-clause-base g c = (c.args.source, read-saved_or _ _ _ _ _ c.in_ok-name_author.ensures.saved c.requires.read, λ o saved. named-base _ _ c.args.state.now _ _ _ _ _ c.in_ok-name_author.ensures.kept c.in_ok-name_author.ensures.others c.requires.base saved)

pub remember-requires-clause-kept : goal.remember-requires-clause-kept
remember-requires-clause-kept g c = kept-change _ _ _ _ _ c.in_ok-made.ensures.1 c.in_ok-name_author.ensures.kept

pub remember-requires-clause-made : goal.remember-requires-clause-made
remember-requires-clause-made g c = made-change _ _ _ c.in_ok-made.ensures.1

pub returns-clause-taken : goal.returns-clause-taken
returns-clause-taken g c = record {
  kept = c.in_ok-known.ensures.kept;
  read = read-state _ _ _ _ _ c.in_ok-known.ensures.saved (read-change _ _ _ _ _ c.in_ok-made.ensures.1 (read-saved_or _ _ _ _ _ c.in_ok-name_author.ensures.saved c.requires.read));
  made = rw c.in_ok-known.ensures.known (made-state _ _ _ _ c.in_ok-known.ensures.saved (made-change _ _ _ c.in_ok-made.ensures.1));
  digest_is = ap (λ (t : TextAt). t.digest) c.in_ok-known.ensures.known ∙ c.in_ok-made.ensures.0;
}
