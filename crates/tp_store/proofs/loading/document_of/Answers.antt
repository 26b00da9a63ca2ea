use Rattle.std.proofs.Common.{List, subst, sym, ap, ◌∙◌}
use Rattle.std.proofs.lemmas.Result.{err_from_is_err_and}
use Rattle.tp_layout.specs.declared.parts.ChangeParts.{ChangeParts}
use Rattle.tp_codec.specs.Reading.{repeat_at}
use Rattle.tp_codec.specs.Gives.{FailsWith}
use Rattle.tp_store.specs.declared.error.StoreError.TheVariants.{OutOfMemory}
use Rattle.tp_store.specs.Loading.{piece_at, offset_after, with_pieces}
use Rattle.tp_store.proofs.PieceSteps.{rest_whole}
use Rattle.tp_store.proofs.loading.document_of.Goals as goal

pub returns-in_err-enter_pieces-clause-entered : goal.returns-in_err-enter_pieces-clause-entered
returns-in_err-enter_pieces-clause-entered g c pieces rest e =
    let p = err_from_is_err_and c.from_residual.result c.from_residual.ensures.1 in
    let read = ap (repeat_at piece_at offset_after c.args.header.count 28) (c.new-reader.ensures ∙ rest_whole 28 c.args.bytes.now) ∙ e in
    rw (p.1, p.2)
    (subst (λ (C : List ChangeParts). FailsWith OutOfMemory c.in_err-enter_pieces.field-0.0 (with_pieces 28 C pieces)) c.new-document.ensures.applied (c.in_err-enter_pieces.ensures.entered pieces rest read))

pub returns-clause-entered : goal.returns-clause-entered
returns-clause-entered g c pieces rest e =
    let read = ap (repeat_at piece_at offset_after c.args.header.count 28) (c.new-reader.ensures ∙ rest_whole 28 c.args.bytes.now) ∙ e in
    ap (λ (C : List ChangeParts). with_pieces 28 C pieces) (sym c.new-document.ensures.applied) ∙ c.in_ok-enter_pieces.ensures.entered pieces rest read
