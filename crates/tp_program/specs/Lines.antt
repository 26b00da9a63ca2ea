-- What is printed of what was done to journals.
use Rattle.std.specs.Prelude.{◌≡◌, ℕ, List, [], ◌++◌, Option, Some, None, codes}
use Rattle.std.specs.Fmt.{decimal}
use Rattle.hex.specs.Hex.{encode_lower}
use Rattle.rand_chacha.specs.ChaCha.{ChaCha}
use Rattle.tp_opid.specs.declared.doc_id.DocId.{DocId}
use Rattle.tp_opid.specs.declared.hash.Hash.{Hash}
use Rattle.tp_edit.specs.declared.splice.Splice.{Splice}
use Rattle.tp_peer.specs.PeerState.{PeerState}
use Rattle.tp_commands.specs.Editing.{EditsJournal, TakesJournal}
use Rattle.tp_commands.specs.Reading.{hash_line, lines_of_made}
use Rattle.tp_commands.specs.Since.{UpdatesFrom}
use Rattle.tp_commands.specs.Updating.{HasNoCharacters, UpdatesJournal}
use Rattle.tp_program.specs.Files.{BeginsJournal}
use Rattle.tp_disk.specs.Opening.{OpensJournal}
use Rattle.tp_disk.specs.Keys.{IsKeyed, after_draw, drawn_actor}
use Rattle.tp_list.specs.Bytes.{line}

-- The line of the identifier of a new document, the first that is drawn under the key, with which an unused journal was
-- begun.
pub record IsNewLine (key : Option (List ℕ)) (before after printed : List ℕ) : Type 0 where
  pub generator : ChaCha
  pub id : DocId
  pub keyed : IsKeyed key generator
  pub first : id.0 ≡ (drawn_actor generator).0
  pub begins : BeginsJournal id [] before after
  pub spelled : printed ≡ line (encode_lower id.0)

-- the line of what an edit made
abbrev pub made_line : Option Hash → List ℕ
made_line (Some h) = hash_line h
made_line None = line (codes "nothing")

-- The line of what the splice made of a journal, under the actor that is drawn under the key.
pub record IsEditLine (key : Option (List ℕ)) (splice : Splice) (time : ℕ) (message before after printed : List ℕ) : Type 0 where
  pub generator : ChaCha
  pub made : Option Hash
  pub keyed : IsKeyed key generator
  pub edits : EditsJournal before (drawn_actor generator) splice time message made after
  pub spelled : printed ≡ made_line made

-- The lines of the changes that made a journal's text this one, under the actor that is drawn under the key: the text at the
-- heads, where any are given, and else the text of all changes.
pub record AreUpdateLines (key : Option (List ℕ)) (since : List Hash) (text : List ℕ) (time : ℕ) (message before after printed : List ℕ) : Type 0 where
  pub generator : ChaCha
  pub hashes : List Hash
  pub keyed : IsKeyed key generator
  pub updates : UpdatesFrom since before (drawn_actor generator) text time message hashes after
  pub spelled : printed ≡ lines_of_made hashes

-- A journal was made without text, under the actor that is drawn second.
pub record AreImportLines (key : Option (List ℕ)) (text : List ℕ) (time : ℕ) (message before after printed : List ℕ) : Type 0 where
  pub generator : ChaCha
  pub hashes : List Hash
  pub keyed : IsKeyed key generator
  pub empty : HasNoCharacters before
  pub updates : UpdatesJournal before (drawn_actor (after_draw generator)) text time message hashes after
  pub spelled : printed ≡ lines_of_made hashes

-- The line of how many changes of another journal entered, which a journal took: this one was opened under the actor that
-- is drawn first under the key, the other one under the actor that is drawn then.
pub record IsMergeLine (key : Option (List ℕ)) (before other after printed : List ℕ) : Type 0 where
  pub generator : ChaCha
  pub peer : PeerState
  pub count : ℕ
  pub keyed : IsKeyed key generator
  pub opens : OpensJournal before (drawn_actor generator) peer
  pub takes : TakesJournal peer other (drawn_actor (after_draw generator)) count after
  pub spelled : printed ≡ line (codes "applied " ++ decimal count)
