use Rattle.std.proofs.Common.{◌≡◌, ◌-◌, refl, sym, ap, ◌∙◌, arith}
use Rattle.std.proofs.lemmas.Result.{err_from_is_err_and}
use Rattle.tp_codec.specs.Reading.{repeat_at}
use Rattle.tp_store.specs.declared.error.StoreError.TheVariants.{OutOfMemory}
use Rattle.tp_store.specs.Loading.{piece_at, offset_after, with_piece, with_pieces}
use Rattle.tp_store.proofs.PieceSteps.{one_read, none_bad, none_left, entered_on, entered_bad, entered_done}
use Rattle.tp_codec.proofs.Refusals.{fails_on}
use Rattle.tp_store.proofs.loading.enter_pieces.Goals as goal

pub loop-init : goal.loop-init
loop-init g c =
    let all : c.args.count - 0 ≡ c.args.count = omega arith in
    record {
      id = refl;
      waiting = refl;
      place = refl;
      left = λ pieces rest e. (pieces, ap (λ n. repeat_at piece_at offset_after n 28 c.args.reader.now) all ∙ e, refl);
    }

pub returns-in_err-piece-clause-entered : goal.returns-in_err-piece-clause-entered
returns-in_err-piece-clause-entered g c pieces rest e =
    let left = c.loop.invariant.left pieces rest e in
    absurd (none_bad c.args.count c.loop.counter c.loop.at c.loop.reader c.in_err-piece.field-0.0 left.0 rest c.loop-test.true c.in_err-piece.ensures.piece left.1)

pub returns-in_err-enter_piece-clause-entered : goal.returns-in_err-enter_piece-clause-entered
returns-in_err-enter_piece-clause-entered g c pieces rest e =
    let p = err_from_is_err_and c.from_residual-in_err-enter_piece.result c.from_residual-in_err-enter_piece.ensures.1 in
    let left = c.loop.invariant.left pieces rest e in
    let piece = c.in_ok-piece.piece.now in
    let C = c.loop.document.applied in
    let fault = c.in_err-enter_piece.field-0.0 in
    let read = one_read c.args.count c.loop.counter c.loop.at c.loop.reader piece c.piece_of.new.reader left.0 rest c.loop-test.true c.in_ok-piece.ensures.piece left.1 in
    rw (p.1, p.2)
    (fails_on OutOfMemory fault (with_piece c.loop.at C piece) (with_pieces 28 c.args.document.now.applied pieces)
    (λ bad. sym left.2 ∙ entered_bad c.loop.at C piece left.0 read.0 fault read.1 bad) c.in_err-enter_piece.ensures.grown)

pub loop-preserved : goal.loop-preserved
loop-preserved g c =
    let piece = c.in_ok-piece.piece.now in
    let C = c.loop.document.applied in
    let D = c.enter_piece.new.document.applied in
    let place = c.loop.invariant.place in
    let len = c.in_ok-piece.ensures.len in
    record {
      id = c.in_ok-enter_piece.ensures.id ∙ c.loop.invariant.id;
      waiting = c.in_ok-enter_piece.ensures.waiting ∙ c.loop.invariant.waiting;
      place = omega arith;
      left = λ pieces rest e.
          let left = c.loop.invariant.left pieces rest e in
          let read = one_read c.args.count c.loop.counter c.loop.at c.loop.reader piece c.piece_of.new.reader left.0 rest c.loop-test.true c.in_ok-piece.ensures.piece left.1 in
          (read.0, read.2, sym (entered_on c.loop.at C D piece left.0 read.0 read.1 c.in_ok-enter_piece.ensures.grown) ∙ left.2);
    }

pub returns-clause-entered : goal.returns-clause-entered
returns-clause-entered g c pieces rest e =
    let left = c.loop.invariant.left pieces rest e in
    sym left.2
    ∙ entered_done c.loop.at c.loop.document.applied left.0 (none_left c.args.count c.loop.counter c.loop.at c.loop.reader left.0 rest c.loop-test.false left.1)
