use Rattle.std.proofs.Common.{◌≡◌, ◌-◌, IfSome, length, take}
use Rattle.std.specs.Prelude.{encode_utf8_all}
use Rattle.std.specs.String.{string_bytes}
use Rattle.tp_rga.specs.Shown.{visible_of}
use Rattle.tp_edit.specs.Text.{chars_of}
use Rattle.tp_edit.proofs.reading.text.Given as goal

-- the text so far is that of the elements that the walk has passed
abbrev pub invariant-loop-element : goal.invariant-loop-element
invariant-loop-element g l =
    let s = g.S.Sequence in record {
      noted : IfSome l.walk.spot (λ spot. s.present_at l.sequence spot l.walk.index);
      read : string_bytes l.text ≡ encode_utf8_all (chars_of (visible_of (s.removals l.sequence) (take l.walk.index (s.placed l.sequence))));
    }

abbrev pub decreases-loop-element : goal.decreases-loop-element
decreases-loop-element g l = length (g.S.Sequence.placed l.sequence) - l.walk.index
