use Rattle.tp_snapshot.proofs.Common.{IfSome, ◌≡◌, ◌-◌, length, take, string_bytes, chars_of, shown_by, encode_utf8_all, IsAuthorOf}
use Rattle.tp_snapshot.proofs.snapshot.Snapshot.text.Given as goal

-- the text so far is that of the elements that the walk has passed
abbrev pub invariant-loop-element : goal.invariant-loop-element
invariant-loop-element g l =
    let s = g.S.Sequence in
    let K = l.self.clock in
    let R = s.removals l.sequence in
    let L = s.placed l.sequence in
    record {
      noted : IfSome l.walk.spot (λ spot. s.present_at l.sequence spot l.walk.index);
      author : IsAuthorOf K l.trail.author;
      read : string_bytes l.text ≡ encode_utf8_all (chars_of (shown_by K R (take l.walk.index L)));
    }

abbrev pub decreases-loop-element : goal.decreases-loop-element
decreases-loop-element g l = length (g.S.Sequence.placed l.sequence) - l.walk.index
