use Rattle.std.proofs.Common.{arith, sym, rules, refl, ap, ◌∙◌, subst, ◌≡◌, ◌<◌, length, get_or, List}
use Rattle.std.proofs.lemmas.Option.{slice_get_read}
use Rattle.std.proofs.lemmas.Grind.{common_steps}
use Rattle.tp_window.proofs.memory.Memory.heads.Goals as goal

pub returns-clause-found : goal.returns-clause-found
returns-clause-found c =
    let found = c.in_ok-heads.ensures in
    let from = c.in_ok-at.ensures in
    record {
      at = c.in_ok-at.at;
      numbered = first_of (search rules, grind (arith, common_steps), omega (arith, from));
      heads = c.in_ok-heads.heads.now;
      here = first_of (search rules, grind (arith, common_steps), search (rules, slice_get_read));
      same = sym c.as_slice.ensures.value;
    }
