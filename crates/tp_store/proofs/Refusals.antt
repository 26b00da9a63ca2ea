-- What is known of a document by what was answered.
use Rattle.std.proofs.Common.{◌≡◌, ℕ, List, Result, Ok, Err, refl, sym, ap, ◌∙◌}
use Rattle.std.specs.Prelude.{IfOk}
use Rattle.tp_opid.specs.declared.doc_id.DocId.{DocId}
use Rattle.tp_codec.specs.Gives.{FailsWith, Gives}
use Rattle.tp_codec.proofs.Fields.{AreBytes}
use Rattle.tp_codec.proofs.Refusals.{fails_on}
use Rattle.tp_layout.specs.declared.parts.ChangeParts.{ChangeParts}
use Rattle.tp_document.specs.DocState.{DocState}
use Rattle.tp_store.specs.declared.error.StoreError.{StoreError}
use Rattle.tp_store.specs.declared.error.StoreError.TheVariants.{OutOfMemory}
use Rattle.tp_store.specs.Documents.{IsDocument, contents}
use Rattle.tp_store.specs.Loading.{with_id, document_of_bytes}
use Rattle.tp_store.specs.Saved.{IsSaved}
use Rattle.tp_store.proofs.WholeFile.{loaded_takes, loaded_of, same_result}

-- the changes with the identifier
pub gives_contents : (r : Result DocState StoreError) (id : DocId) (t : Result (List ChangeParts) StoreError) → Gives OutOfMemory (λ (d : DocState). d.applied) r t → IfOk r (λ d. d.id ≡ id) → Gives OutOfMemory contents r (with_id id t)
gives_contents (Ok d) id t h same =
    ap (with_id id) h ∙ ap (λ (i : DocId). let q : Result (DocId × List ChangeParts) StoreError = Ok (i, d.applied) in q) (sym same)
gives_contents (Err e) id t h same = fails_on OutOfMemory e t (with_id id t) (λ bad. ap (with_id id) bad) h

-- what was found was saved
pub found_saved : (bytes : List ℕ) (r : Result DocState StoreError) → AreBytes bytes → Gives OutOfMemory contents r (document_of_bytes bytes) → IfOk r (λ d. IsSaved bytes d.id d.applied)
found_saved bytes (Ok d) fits h = loaded_takes bytes d.id d.applied fits h
found_saved bytes (Err e) fits h = tt

memory_alone : (id : DocId) (C : List ChangeParts) (e : StoreError) (t : Result (DocId × List ChangeParts) StoreError) → t ≡ Ok (id, C) → FailsWith OutOfMemory e t → e ≡ OutOfMemory
memory_alone id C OutOfMemory t is h = refl
memory_alone id C e t is h = absurd (let no : (let q : Result (DocId × List ChangeParts) StoreError = Err e in q) ≡ Ok (id, C) = sym (h (λ x. cc)) ∙ is in cc)

-- what was saved is found
pub saved_found : (bytes : List ℕ) (id : DocId) (C : List ChangeParts) (r : Result DocState StoreError) → IsSaved bytes id C → Gives OutOfMemory contents r (document_of_bytes bytes) → IsDocument id C r
saved_found bytes id C (Ok d) is h = same_result d.id id d.applied C (sym h ∙ loaded_of bytes id C is)
saved_found bytes id C (Err e) is h = memory_alone id C e (document_of_bytes bytes) (loaded_of bytes id C is) h
