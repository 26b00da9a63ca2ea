use Rattle.std.proofs.Common.{◌≡◌, ◌+◌, [], ◌∷◌, ◌++◌, length, length-append, refl, arith}
use Rattle.std.proofs.lemmas.Result.{err_from_is_err_and}
use Rattle.tp_codec.proofs.Loops.{goes_on, ends, is_done}
use Rattle.tp_codec.specs.Reading.{repeat_at}
use Rattle.tp_store.specs.Loading.{piece_at, offset_after}
use Rattle.tp_store.proofs.layout.skip_pieces.Goals as goal

pub returns-in_err-piece : goal.returns-in_err-piece
returns-in_err-piece c =
    let p = err_from_is_err_and c.from_residual.result c.from_residual.ensures.1 in
    let read = c.loop.invariant.read in
    rw (p.1, p.2)
    (ends piece_at offset_after read.0 c.args.count c.loop.counter c.loop.at c.loop.reader c.in_err-piece.field-0.0 (repeat_at piece_at offset_after c.args.count 28 c.args.reader.now) c.loop-test.true c.in_err-piece.ensures.piece read.2)

pub loop-preserved : goal.loop-preserved
loop-preserved c =
    let read = c.loop.invariant.read in
    let piece = c.in_ok-piece.piece.now in
    let place = c.loop.invariant.place in
    let len = c.in_ok-piece.ensures.len in
    let more : length (read.0 ++ piece ∷ []) ≡ length read.0 + 1 = length-append read.0 (piece ∷ []) in
    let size = read.1 in
    record {
      read = (
        read.0 ++ piece ∷ [],
        omega arith,
        goes_on piece_at offset_after read.0 c.args.count c.loop.counter c.loop.at c.loop.reader piece c.piece_of.new.reader (repeat_at piece_at offset_after c.args.count 28 c.args.reader.now) c.loop-test.true c.in_ok-piece.ensures.piece read.2,
      );
      place = omega arith;
    }

pub returns : goal.returns
returns c =
    let read = c.loop.invariant.read in
    let size = read.1 in (
      (read.0, c.loop.reader),
      is_done piece_at offset_after read.0 c.args.count c.loop.counter c.loop.at c.loop.reader (repeat_at piece_at offset_after c.args.count 28 c.args.reader.now) c.loop-test.false read.2,
      (omega arith, refl),
    )
