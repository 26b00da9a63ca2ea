-- What is said of a journal's bytes, whatever is damaged in them, and what is had of them.
use Rattle.std.specs.Prelude.{◌≡◌, ◌<◌, ◌-◌, ◌⊎◌, ℕ, Bool, true, false, List, [], ◌∷◌, ◌++◌, ◌==◌, length, map, take, drop, nat_eq, nat_le, nat_lt, Option, Some, None, option_map, codes, encode_utf8_all, if◌then◌else◌, IsTrue}
use Rattle.std.specs.Fmt.{decimal}
use Rattle.std.specs.List.{flat_map, list_all, list_any, starts_with}
use Rattle.std.specs.Option.{option_or}
use Rattle.hex.specs.Hex.{encode_lower}
use Rattle.tp_list.specs.Members.{In}
use Rattle.tp_opid.specs.Same.{same_doc, same_hash}
use Rattle.tp_opid.specs.declared.doc_id.DocId.{DocId}
use Rattle.tp_opid.specs.declared.hash.Hash.{Hash}
use Rattle.tp_layout.specs.declared.parts.ChangeParts.{ChangeParts}
use Rattle.tp_layout.specs.declared.record.Record.{Record}
use Rattle.tp_layout.specs.declared.record.Record.TheVariants.{Insert, Delete, DeleteRun}
use Rattle.tp_change.specs.ChangeHash.{hash_of}
use Rattle.tp_history.specs.declared.error.GraphError.{GraphError}
use Rattle.tp_history.specs.declared.error.GraphError.TheVariants.{Known}
use Rattle.tp_history.specs.Fit.{cause}
use Rattle.tp_history.specs.Named.{has}
use Rattle.tp_recovery.specs.declared.layout.TheConstants.{MAGIC}
use Rattle.tp_recovery.specs.Layout.{journal}
use Rattle.tp_recovery.specs.Refusals.{IsHeaderFault}
use Rattle.tp_recovery.specs.Whole.{AreFound, Inspects, Rescues}
use Rattle.tp_recovery.specs.declared.rescuing.WholeRecord.{WholeRecord}
use Rattle.tp_store.specs.declared.error.StoreError.{StoreError}
use Rattle.tp_store.specs.declared.error.StoreError.TheVariants.{Damaged, Refused}
use Rattle.tp_commands.specs.Reading.{hash_line}
use Rattle.tp_disk.specs.DiskView.{DiskView, WasRead}
use Rattle.tp_simulate.specs.Names.{name_of_bytes}
use Rattle.tp_list.specs.Bytes.{line}

-- ---- what is there

-- the line of why recovering refuses the bytes, and where
abbrev pub refused_line : Option StoreError → ℕ → List ℕ
refused_line None at = []
refused_line (Some e) at = line (codes "refused " ++ name_of_bytes e ++ codes " " ++ decimal at)

-- how many changes and bytes recovering keeps, how many bytes and whole records are after these, and what is at fault
-- there
abbrev pub check_text : ℕ → ℕ → ℕ → ℕ → Option StoreError → List ℕ
check_text changes keep beyond whole fault =
    codes "changes " ++ decimal changes ++ codes "\nkept " ++ decimal keep ++ codes "\nbehind " ++ decimal beyond ++ codes "\nwhole " ++ decimal whole
    ++ codes "\n" ++ refused_line fault keep

-- What is at fault in all: what recovering refuses; or a whole record is after what is kept, which would be cut off.
abbrev pub check_fault : Option StoreError → ℕ → List WholeRecord → Option StoreError
check_fault (Some e) keep records = Some e
check_fault None keep [] = None
check_fault None keep (r ∷ records) = Some (Damaged keep)

-- what is printed of bytes that have a header, and what is at fault in them
pub record IsInspected (bytes : List ℕ) (fault : Option StoreError) (printed : List ℕ) : Type 0 where
  pub id : DocId
  pub kept : List ChangeParts
  pub keep : ℕ
  pub refused : Option StoreError
  pub records : List WholeRecord
  pub changes : List ChangeParts
  pub inspects : Inspects bytes id kept keep refused records changes
  pub fault_is : fault ≡ check_fault refused keep records
  pub spelled : printed ≡ check_text (length kept) keep (length bytes - keep) (length records) refused

-- What is printed is what is in the bytes, and the fault is what is wrong with them.
abbrev pub IsChecked : List ℕ → Option StoreError → List ℕ → Type 0
IsChecked bytes fault printed = IsInspected bytes fault printed
    ⊎ ((e : StoreError) × IsHeaderFault bytes e × (length bytes < 24) × (fault ≡ Some e) × (printed ≡ check_text 0 0 (length bytes) 0 (Some e)))

-- ---- what is had of it

-- the line of bytes from which no change came, from the first offset up to the other, where there are any
abbrev pub lost_line : ℕ → ℕ → List ℕ
lost_line from to = if nat_lt from to then line (codes "lost " ++ decimal from ++ codes " " ++ decimal to) else []

-- the lines of bytes from which no change of C came, from the offset on
abbrev pub lost_lines : List ChangeParts → ℕ → ℕ → List WholeRecord → List ℕ
lost_lines C from to [] = lost_line from to
lost_lines C from to (r ∷ records) = if has C r.hash then lost_line from r.at ++ lost_lines C r.end to records else lost_lines C from to records

-- why a change is left out: one that is there already isn't
abbrev pub cause_left : Option GraphError → Option GraphError
cause_left None = None
cause_left (Some Known) = None
cause_left (Some e) = Some e

-- the line of a change that is left out for this cause, unless one with its hash was named before
abbrev pub left_line : Option GraphError → Bool → Hash → List ℕ
left_line None named h = []
left_line (Some e) true h = []
left_line (Some e) false h = codes "left " ++ name_of_bytes (Refused e) ++ codes " " ++ hash_line h

-- the changes that were left out, after one more
abbrev pub left_after : Option GraphError → ChangeParts → List ChangeParts → List ChangeParts
left_after None c before = before
left_after (Some e) c before = c ∷ before

-- the lines of the changes that are left out of C, where others were before: each hash once
abbrev pub left_lines : List ChangeParts → List ChangeParts → List ChangeParts → List ℕ
left_lines C before [] = []
left_lines C before (c ∷ changes) =
    left_line (cause_left (cause C c)) (has before (hash_of c)) (hash_of c) ++ left_lines C (left_after (cause_left (cause C c)) c before) changes

-- the set has the hashes of the changes and no others
abbrev pub Names : List Hash → List ChangeParts → Type 0
Names set changes = (h : Hash) → list_any (same_hash h) set ≡ has changes h

-- why the first of the changes that are left out of C is, if any is
abbrev pub first_left : List ChangeParts → List ChangeParts → Option GraphError
first_left C [] = None
first_left C (c ∷ changes) = option_or (cause_left (cause C c)) (first_left C changes)

-- the offset from which on whole records are looked for: after what is kept, and after the header where that is nothing
abbrev pub tail_start : ℕ → ℕ
tail_start keep = if keep == 0 then 24 else keep

-- the line of the identifier that the journal has, where the damaged one has another
abbrev pub identifier_line : DocId → DocId → List ℕ
identifier_line own id = if same_doc own id then [] else codes "identifier " ++ line (encode_lower id.0)

-- how many changes are had, the identifier where it is another, from which bytes no change came, and which were left out
abbrev pub rescue_text : DocId → DocId → List ChangeParts → ℕ → ℕ → List WholeRecord → List ChangeParts → List ℕ
rescue_text own id C from to records changes =
    line (codes "changes " ++ decimal (length C)) ++ identifier_line own id ++ lost_lines C from to records ++ left_lines C [] changes

-- The identifier of the journal that is made: that of the damaged one, whose header leads to changes that are kept; else
-- the first in the headers of the other files, if any has one.
abbrev pub id_chosen : List ChangeParts → DocId → List DocId → DocId
id_chosen (c ∷ C) own ids = own
id_chosen [] own (i ∷ ids) = i
id_chosen [] own [] = own

-- All that can be had of the bytes, and of the changes and identifiers of other files, makes this journal: what recovering
-- keeps, and after it the changes of whole records; none of these that fits is left out, and each identifier is the
-- journal's. What is printed says what came and what didn't, and what is lacking why one of the bytes' own changes didn't.
pub record IsRescued (bytes : List ℕ) (more : List ChangeParts) (ids : List DocId) (after : List ℕ) (lacking : Option StoreError) (printed : List ℕ) : Type 0 where
  pub own : DocId
  pub id : DocId
  pub kept : List ChangeParts
  pub keep : ℕ
  pub refused : Option StoreError
  pub records : List WholeRecord
  pub changes : List ChangeParts
  pub had : List ChangeParts
  pub inspects : Inspects bytes own kept keep refused records changes
  pub chosen : id ≡ id_chosen kept own ids
  pub agree : IsTrue (list_all (same_doc id) ids)
  pub rescues : Rescues (changes ++ more) kept had
  pub begun : after ≡ journal id had
  pub lacks : lacking ≡ option_map Refused (first_left had changes)
  pub spelled : printed ≡ rescue_text own id had (tail_start keep) (length bytes) records (changes ++ more)

-- ---- other files, in which whole records are looked for

-- the identifier in a journal's header, where the bytes begin with one
abbrev pub id_in : List ℕ → Option DocId
id_in bytes = if starts_with nat_eq bytes MAGIC then (if nat_le 24 (length bytes) then Some (record { 0 = take 16 (drop 8 bytes) }) else None) else None

-- a file: its path, its bytes, and the whole records anywhere in these
pub record Other : Type 0 where
  pub path : List ℕ
  pub bytes : List ℕ
  pub records : List WholeRecord
  pub changes : List ChangeParts

abbrev pub path_of_other : Other → List ℕ
path_of_other o = o.path

abbrev pub changes_of_other : Other → List ChangeParts
changes_of_other o = o.changes

-- the identifier in its header, where it has one
abbrev pub header_ids : Option DocId → List DocId
header_ids None = []
header_ids (Some id) = id ∷ []

abbrev pub ids_of_other : Other → List DocId
ids_of_other o = header_ids (id_in o.bytes)

-- It was read, and these are its whole records.
pub record WasSearched (saw : DiskView → Type 0) (o : Other) : Type 0 where
  pub read : saw (WasRead o.path o.bytes)
  pub found : AreFound (length o.bytes) o.bytes o.records o.changes

-- The files at the paths were read, and these are the changes of their whole records, and the identifiers in their headers.
pub record AreOthers (saw : DiskView → Type 0) (paths : List (List ℕ)) (changes : List ChangeParts) (ids : List DocId) : Type 0 where
  pub others : List Other
  pub paths_are : paths ≡ map path_of_other others
  pub searched : (o : Other) → In o others → WasSearched saw o
  pub changes_are : changes ≡ flat_map changes_of_other others
  pub ids_are : ids ≡ flat_map ids_of_other others

-- Of the changes and identifiers of the files at the paths P holds.
abbrev pub OfOthers : (DiskView → Type 0) → List (List ℕ) → (List ChangeParts → List DocId → Type 0) → Type 0
OfOthers saw paths P = (changes : List ChangeParts) × (ids : List DocId) × AreOthers saw paths changes ids × P changes ids

-- ---- what was inserted

-- the characters that a record inserted
abbrev pub inserted_run : Record → List ℕ
inserted_run (Insert after text) = encode_utf8_all text
inserted_run (Delete target) = []
inserted_run (DeleteRun first count) = []

abbrev pub inserted_runs : ChangeParts → List ℕ
inserted_runs c = flat_map inserted_run c.records

-- What is printed is what the whole records anywhere in the bytes inserted, and then those other changes, in their order,
-- with a newline at the end.
pub record AreTexts (bytes : List ℕ) (more : List ChangeParts) (printed : List ℕ) : Type 0 where
  pub records : List WholeRecord
  pub changes : List ChangeParts
  pub found : AreFound (length bytes) bytes records changes
  pub spelled : printed ≡ line (flat_map inserted_runs (changes ++ more))
