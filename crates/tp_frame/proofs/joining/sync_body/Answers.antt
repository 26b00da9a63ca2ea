use Rattle.std.proofs.Common.{◌≤◌, ℕ, List, [], length, subst, sym, arith}
use Rattle.std.proofs.lemmas.Result.{err_from_is_err_and}
use Rattle.tp_frame.specs.Joining.{with_given}
use Rattle.tp_frame.specs.Parts.{IsPartStateOf}
use Rattle.tp_frame.proofs.JoinLaws.{body_waits, body_err, piece_all, never_none, never_begin, never_whole, never_end}
use Rattle.tp_frame.proofs.joining.sync_body.Goals as goal

pub returns-then-held-len : goal.returns-then-held-len
returns-then-held-len c = (body_waits c.args.came.now.bytes c.args.len c.args.parts.now c.requires (omega (arith, c.if-held-len.true, c.held.ensures)), c.requires)

pub returns-in_err-body : goal.returns-in_err-body
returns-in_err-body c =
    let p = err_from_is_err_and c.from_residual.result c.from_residual.ensures.1 in
    let le : c.args.len ≤ length c.args.parts.now.held = omega (arith, c.if-held-len.false, c.held.ensures) in
    let answers = c.in_err-body.ensures.exact (with_given c.args.came.now.bytes c.args.len []) c.requires in
    rw (p.1, p.2) (body_err c.args.came.now.bytes c.args.len c.in_err-body.field-0.0 c.args.parts.now c.next.new.self c.requires le answers)

pub end-requires-in-Some-Piece : goal.end-requires-in-Some-Piece
end-requires-in-Some-Piece c =
    let le : c.args.len ≤ length c.args.parts.now.held = omega (arith, c.if-held-len.false, c.held.ensures) in
    let answers = rw (c.in-Some-Piece.is, c.in-Some-Piece.field-0-is) at (c.in_ok-body.ensures.exact (with_given c.args.came.now.bytes c.args.len []) c.requires) in
    subst (λ (b : List ℕ). IsPartStateOf (with_given c.args.came.now.bytes (length b) b) c.next.new.self) (sym c.as_slice.ensures)
    (piece_all c.args.came.now.bytes c.args.len c.in-Some-Piece.body c.args.parts.now c.next.new.self c.requires le answers)

pub unreachable-requires : goal.unreachable-requires
unreachable-requires c =
    let answers = rw (c.in-Some-Begin.is, c.in-Some-Begin.field-0-is) at (c.in_ok-body.ensures.exact (with_given c.args.came.now.bytes c.args.len []) c.requires) in
    never_begin c.args.came.now.bytes c.args.len [] c.in-Some-Begin.field-0-0 c.next.new.self answers

pub unreachable-requires-in-Some-Whole : goal.unreachable-requires-in-Some-Whole
unreachable-requires-in-Some-Whole c =
    let answers = rw (c.in-Some-Whole.is, c.in-Some-Whole.field-0-is) at (c.in_ok-body.ensures.exact (with_given c.args.came.now.bytes c.args.len []) c.requires) in
    never_whole c.args.came.now.bytes c.args.len [] c.in-Some-Whole.field-0-0 c.next.new.self answers

pub unreachable-requires-in-Some-End : goal.unreachable-requires-in-Some-End
unreachable-requires-in-Some-End c =
    let answers = rw (c.in-Some-End.is, c.in-Some-End.field-0-is) at (c.in_ok-body.ensures.exact (with_given c.args.came.now.bytes c.args.len []) c.requires) in
    never_end c.args.came.now.bytes c.args.len c.next.new.self c.if-len-eq0.false answers

pub unreachable-requires-in-None : goal.unreachable-requires-in-None
unreachable-requires-in-None c =
    let le : c.args.len ≤ length c.args.parts.now.held = omega (arith, c.if-held-len.false, c.held.ensures) in
    let answers = rw c.in-None.is at (c.in_ok-body.ensures.exact (with_given c.args.came.now.bytes c.args.len []) c.requires) in
    never_none c.args.came.now.bytes c.args.len c.args.parts.now c.next.new.self c.requires le answers
