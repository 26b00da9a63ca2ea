use Rattle.tp_world.proofs.Common.{List, sym, ap, ◌∙◌, subst, option_map, ChangeParts, HashesApart, hashes_apart, event_of, world_of}
use Rattle.tp_world.proofs.Verdicts.{judges_bytes}
use Rattle.tp_world.proofs.verdict.brings_made.Goals as goal

pub carry_made-requires : goal.carry_made-requires
carry_made-requires c = subst (λ (l : List ChangeParts). HashesApart l) (sym c.as_slice.ensures) (hashes_apart c.args.state.now.made.items c.requires.coherent.sound)

pub returns-in-Some-clause-ok : goal.returns-in-Some-clause-ok
returns-in-Some-clause-ok c =
    judges_bytes (world_of c.args.state.now) (event_of c.args.event.now) _ c.as_slice.result.now c.carry_made.result (sym c.bytes_of.ensures ∙ ap (option_map (λ bytes. bytes.now)) c.in-Some.is) c.as_slice.ensures
    c.carry_made.ensures.ok
