use Rattle.std.proofs.Common.{ℕ, List, [], ap}
use Rattle.tp_opid.specs.declared.hash.Hash.{Hash}
use Rattle.tp_change.specs.ChangeHash.{hash_of}
use Rattle.tp_layout.specs.Spelling.{spelling}
use Rattle.tp_change.proofs.making.hash_body.Goals as goal

pub returns : goal.returns
unfolding hash_of
returns c =
    ap (λ (bytes : List ℕ). let h : Hash = record { 0 = bytes } in h)
    (c.finish.ensures (spelling c.args.body.now) (c.in-Ok.ensures.puts.after [] c.new-gatherer.ensures))
