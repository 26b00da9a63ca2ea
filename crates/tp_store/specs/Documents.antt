-- What is returned of a document that is loaded.
use Rattle.std.specs.Prelude.{◌≡◌, List, Result, Ok, Err}
use Rattle.tp_opid.specs.declared.doc_id.DocId.{DocId}
use Rattle.tp_layout.specs.declared.parts.ChangeParts.{ChangeParts}
use Rattle.tp_document.specs.DocState.{DocState}
use Rattle.tp_store.specs.declared.error.StoreError.{StoreError}
use Rattle.tp_store.specs.declared.error.StoreError.TheVariants.{OutOfMemory}

-- A document with the identifier and the applied changes was returned, unless memory ran out.
abbrev pub IsDocument : DocId → List ChangeParts → Result DocState StoreError → Type 0
IsDocument id C (Ok d) = (d.id ≡ id) × (d.applied ≡ C)
IsDocument id C (Err e) = e ≡ OutOfMemory

-- the identifier and the applied changes of a document
abbrev pub contents : DocState → DocId × List ChangeParts
contents d = (d.id, d.applied)
