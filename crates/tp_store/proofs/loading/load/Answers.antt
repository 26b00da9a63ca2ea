use Rattle.std.proofs.Common.{◌≡◌, List, [], ℕ, drop, Result, Err, subst, sym, ap, ◌∙◌, arith}
use Rattle.std.specs.Str.{bytes_eq}
use Rattle.std.proofs.lemmas.Result.{err_from_is_err_and}
use Rattle.tp_opid.specs.declared.doc_id.DocId.{DocId}
use Rattle.tp_codec.proofs.Fields.{AreBytes}
use Rattle.tp_codec.specs.Gives.{Gives}
use Rattle.tp_codec.specs.Reading.{repeat_at}
use Rattle.tp_codec.proofs.Refusals.{fails_by}
use Rattle.tp_layout.specs.declared.parts.ChangeParts.{ChangeParts}
use Rattle.tp_store.specs.declared.error.StoreError.{StoreError}
use Rattle.tp_store.specs.declared.error.StoreError.TheVariants.{BadDigest, OutOfMemory}
use Rattle.tp_store.specs.Documents.{contents}
use Rattle.tp_store.specs.Loading.{piece_at, offset_after, digest_of, with_pieces, with_id, document_of_bytes}
use Rattle.tp_store.proofs.WholeFile.{changes_present, loaded_bad, digest_bad, loaded_changes}
use Rattle.tp_store.proofs.Refusals.{gives_contents, found_saved, saved_found}
use Rattle.tp_store.proofs.loading.load.Goals as goal

pub returns-in_err-outline-clause-exact : goal.returns-in_err-outline-clause-exact
returns-in_err-outline-clause-exact g c =
    let p = err_from_is_err_and c.from_residual.result c.from_residual.ensures.1 in
    rw (p.1, p.2) (fails_by OutOfMemory c.in_err-outline.field-0.0 (document_of_bytes c.args.bytes.now) (loaded_bad c.args.bytes.now c.in_err-outline.field-0.0 c.in_err-outline.ensures))

pub returns-in_err-outline-clause-only : goal.returns-in_err-outline-clause-only
returns-in_err-outline-clause-only g c id C is = saved_found c.args.bytes.now id C c.from_residual.result is (returns-in_err-outline-clause-exact g c)

pub has_digest-requires : goal.has_digest-requires
has_digest-requires g c =
    let fits : AreBytes c.args.bytes.now = λ i. omega (arith, c.type_inv.bytes i) in
    let size = (changes_present c.args.bytes.now c.in_ok-outline.ensures.0 fits c.in_ok-outline.ensures.1).0 in
    omega arith

pub document_of-requires : goal.document_of-requires
document_of-requires g c =
    let fits : AreBytes c.args.bytes.now = λ i. omega (arith, c.type_inv.bytes i) in
    let size = (changes_present c.args.bytes.now c.in_ok-outline.ensures.0 fits c.in_ok-outline.ensures.1).0 in
    omega arith

pub returns-then-not-has_digest-clause-exact : goal.returns-then-not-has_digest-clause-exact
returns-then-not-has_digest-clause-exact g c =
    let bytes = c.args.bytes.now in
    let outline = c.in_ok-outline.ensures in
    λ _. digest_bad bytes outline.0 outline.1 (ap (λ (d : List ℕ). bytes_eq d (digest_of bytes)) outline.2.digest ∙ sym c.has_digest.ensures ∙ c.if-not-has_digest.true)

pub returns-then-not-has_digest-clause-only : goal.returns-then-not-has_digest-clause-only
returns-then-not-has_digest-clause-only g c id C is =
    saved_found c.args.bytes.now id C (Err BadDigest) is (returns-then-not-has_digest-clause-exact g c)

pub returns-clause-exact : goal.returns-clause-exact
returns-clause-exact g c =
    let bytes = c.args.bytes.now in
    let fits : AreBytes bytes = λ i. omega (arith, c.type_inv.bytes i) in
    let outline = c.in_ok-outline.ensures in
    let l = outline.0 in
    let h = c.in_ok-outline.outline.header in
    let stand = (changes_present bytes l fits outline.1).1 in
    let read = ap (λ (n : ℕ). repeat_at piece_at offset_after n 28 (drop 28 bytes)) (sym outline.2.count) ∙ stand in
    let same = ap (λ (d : List ℕ). bytes_eq d (digest_of bytes)) outline.2.digest ∙ sym c.has_digest.ensures ∙ c.if-not-has_digest.false in
    let whole : document_of_bytes bytes ≡ with_id h.id (with_pieces 28 [] l.pieces) = loaded_changes bytes l outline.1 same ∙ ap (λ (i : DocId). with_id i (with_pieces 28 [] l.pieces)) outline.2.id in
    subst (λ (t : Result (DocId × List ChangeParts) StoreError). Gives OutOfMemory contents c.document_of.result t) (sym whole)
    (gives_contents c.document_of.result h.id (with_pieces 28 [] l.pieces) (c.document_of.ensures.entered l.pieces l.digest read) c.document_of.ensures.id)

pub returns-clause-found : goal.returns-clause-found
returns-clause-found g c =
    let fits : AreBytes c.args.bytes.now = λ i. omega (arith, c.type_inv.bytes i) in
    found_saved c.args.bytes.now c.document_of.result fits (returns-clause-exact g c)

pub returns-clause-only : goal.returns-clause-only
returns-clause-only g c id C is = saved_found c.args.bytes.now id C c.document_of.result is (returns-clause-exact g c)
