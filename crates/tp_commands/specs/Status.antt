-- What `status` prints: what a journal has, a line for each fact.
use Rattle.std.specs.Prelude.{◌≡◌, ℕ, ◌+◌, List, [], ◌∷◌, ◌++◌, length, codes, ◌==◌, nat_lt, if◌then◌else◌}
use Rattle.std.specs.Fmt.{decimal}
use Rattle.std.specs.List.{flat_map}
use Rattle.hex.specs.Hex.{encode_lower}
use Rattle.tp_opid.specs.declared.doc_id.DocId.{DocId}
use Rattle.tp_opid.specs.declared.hash.Hash.{Hash}
use Rattle.tp_layout.specs.declared.parts.ChangeParts.{ChangeParts}
use Rattle.tp_history.specs.Fit.{count_by}
use Rattle.tp_history.specs.Heads.{heads}
use Rattle.tp_recovery.specs.Recovery.{Recovers}
use Rattle.tp_edit.specs.Text.{IsTextOf}
use Rattle.tp_commands.specs.declared.status.Lock.{Lock}
use Rattle.tp_commands.specs.declared.status.Lock.TheVariants.{Unknown, Free, HeldBy}
use Rattle.tp_commands.specs.Reading.{hash_line}
use Rattle.tp_list.specs.Bytes.{line}

-- one where the change is its actor's first: none of the changes before it is the actor's
abbrev pub first_count : List ChangeParts → ChangeParts → ℕ
first_count before c = if count_by c.actor before == 0 then 1 else 0

-- how many different actors the changes C have that none of the changes before them has
abbrev pub author_count_after : List ChangeParts → List ChangeParts → ℕ
author_count_after before [] = 0
author_count_after before (c ∷ C) = first_count before c + author_count_after (before ++ c ∷ []) C

-- how many different actors the changes have
abbrev pub author_count : List ChangeParts → ℕ
author_count C = author_count_after [] C

-- the line of a head
abbrev pub head_line : Hash → List ℕ
head_line h = codes "head " ++ hash_line h

-- the line of how many bytes a recovery keeps, where these are fewer than the journal has
abbrev pub kept_line : ℕ → ℕ → List ℕ
kept_line keep size = if nat_lt keep size then line (codes "kept " ++ decimal keep) else []

-- the line of who has the lock: none where it can't be known
abbrev pub lock_line : Lock → List ℕ
lock_line Unknown = []
lock_line Free = codes "unlocked\n"
lock_line (HeldBy process) = line (codes "locked by " ++ decimal process)

-- the lines of the document, its changes, how many actors these have, and how many characters its text
abbrev pub document_lines : DocId → List ChangeParts → ℕ → List ℕ
document_lines id C characters =
    codes "document " ++ line (encode_lower id.0) ++ codes "changes " ++ decimal (length C) ++ codes "\nauthors " ++ decimal (author_count C)
    ++ codes "\ncharacters " ++ decimal characters ++ codes "\n"

-- the lines of how many heads there are, and of each
abbrev pub status_heads : List Hash → List ℕ
status_heads hs = line (codes "heads " ++ decimal (length hs)) ++ flat_map head_line hs

-- all lines
abbrev pub status_text : DocId → List ChangeParts → ℕ → ℕ → ℕ → Lock → List ℕ
status_text id C characters size keep lock =
    document_lines id C characters ++ status_heads (heads C) ++ line (codes "bytes " ++ decimal size) ++ kept_line keep size ++ lock_line lock

-- What is printed is what the bytes of a journal have: its document, how many changes, actors and characters, its heads, how
-- many bytes and how many of these are kept; and who has its lock.
pub record IsStatus (journal : List ℕ) (lock : Lock) (printed : List ℕ) : Type 0 where
  pub id : DocId
  pub changes : List ChangeParts
  pub text : List ℕ
  pub keep : ℕ
  pub recovers : Recovers journal id changes keep
  pub is_text : IsTextOf changes text
  pub spelled : printed ≡ status_text id changes (length text) (length journal) keep lock
