use Rattle.std.proofs.Common.{◌∙◌}
use Rattle.tp_digest.proofs.Paddings.{tail_filled}
use Rattle.tp_digest.proofs.padded.padded_tail.Goals as goal

pub returns : goal.returns
returns c =
    tail_filled c.args.left.now c.copy_from_slice.new.self c.copy_from_slice-2.new.self c.args.bytes c.args.end _
    c.copy_from_slice.ensures.after c.requires.left c.requires.end
    (c.copy_from_slice-2.ensures.after ∙ c.to_be_bytes.ensures)
