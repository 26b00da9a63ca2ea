use Rattle.std.proofs.Common.{◌≤◌, length, subst}
use Rattle.std.specs.String.{string_bytes}
use Rattle.tp_hunks.proofs.WordLaws.{end_put, ended_put}
use Rattle.tp_hunks.proofs.words.put_row.Goals as goal

pub returns-then-row : goal.returns-then-row
returns-then-row c =
    let row = c.args.row.now in
    ended_put (string_bytes c.loop-piece.text) (string_bytes c.args.text.now) c.args.pieces.now row.at row.len c.loop-piece.piece-index row.is_ended c.if-row.true
    c.loop-piece.invariant (subst (λ l. length l ≤ c.loop-piece.piece-index) c.items_at-piece-items.ensures c.loop-piece-test.false)

pub returns : goal.returns
returns c =
    let row = c.args.row.now in
    end_put (string_bytes c.loop-piece.text) (string_bytes c.push_str.new.self) (string_bytes c.args.text.now) c.args.pieces.now row.at row.len c.loop-piece.piece-index row.is_ended c.if-row.false
    c.loop-piece.invariant (subst (λ l. length l ≤ c.loop-piece.piece-index) c.items_at-piece-items.ensures c.loop-piece-test.false) c.in_ok-push_str.ensures.bytes
