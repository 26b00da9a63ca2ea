-- The headline: a world of peers that edit one text, each seen as the list of the changes that it has applied and as
-- nothing else; what may happen there; and what is promised of it.
use Rattle.std.specs.Prelude.{◌≡◌, ℕ, List, [], ◌∷◌, ◌++◌, filter, slice_set, false, Some, IsTrue}
use Rattle.tp_headline.specs.Common.{slice_get, In, AllIn, SameMembers, Hash, ChangeParts, hash_of, has_all, past, IsTextOf, chars_of}
use Rattle.tp_list.specs.Traces.{Trace}
use Rattle.tp_opid.specs.Insert.{Insert}
use Rattle.tp_opid.specs.Tree.{IdsApart}
use Rattle.tp_change.specs.Elements.{inserts, deletes, is_inserted}
use Rattle.tp_rga.specs.Order.{IsInOrder}
use Rattle.tp_rga.specs.Shown.{visible_of}
use Rattle.tp_history.specs.Heads.{heads}
use Rattle.tp_history.specs.Named.{has}
use Rattle.tp_history.specs.Sound.{Sound}

-- A read: the number of the peer, the heads at which the text was read, and its characters.
pub record ReadRecord : Type 0 where
  pub peer : ℕ
  pub heads : List Hash
  pub text : List ℕ

-- The list of each peer, at its number; all changes that were ever made; and all reads.
pub record Lists : Type 0 where
  pub lists : List (List ChangeParts)
  pub made : List ChangeParts
  pub reads : List ReadRecord

-- no peer yet
abbrev pub no_lists : Lists
no_lists = record { lists = []; made = []; reads = [] }

-- The peer numbered n has applied the changes C, in this order.
abbrev pub HasList : Lists → ℕ → List ChangeParts → Type 0
HasList s n C = slice_get s.lists n ≡ Some C

-- ---- what may happen

-- What may happen, as one act.
-- Nothing: what changes no list, as a message that is sent or lost, a refusal, or a crash between calls of a running peer.
-- Join: a peer joins, with no change. Fork n: one joins with those of the peer numbered n.
-- Make n c: n makes the change c, by an edit that is answered, or that a crash cuts after c's whole record.
-- Strand n c: n makes c and stops without it: its device failed after c's whole record. A later Take brings it.
-- Take n new: changes that were made come to n, by a merge or a message, or after a crash out of its own journal.
-- Read n text: n shows its text. ReadAt n H text: n shows its text at the hashes H.
pub data Act : Type 0 where
  Nothing : Act
  Join : Act
  Fork : ℕ → Act
  Make : ℕ → ChangeParts → Act
  Strand : ℕ → ChangeParts → Act
  Take : ℕ → List ChangeParts → Act
  Read : ℕ → List ℕ → Act
  ReadAt : ℕ → List Hash → List ℕ → Act

-- A peer that has the changes C may make c: it depends on their heads and is sound after them; nothing that was made
-- has its hash; and all that its actor made is in C.
pub record MayMake (s : Lists) (C : List ChangeParts) (c : ChangeParts) : Type 0 where
  pub deps : c.deps ≡ heads C
  pub sound : Sound (C ++ c ∷ [])
  pub hash : has s.made (hash_of c) ≡ false
  pub own : (d : ChangeParts) → In d s.made → d.actor ≡ c.actor → In d C

-- a peer joins that has the changes C
abbrev pub add_list : Lists → List ChangeParts → Lists
add_list s C = record s { lists = s.lists ++ C ∷ [] }

-- the peer numbered n has the changes C from now on
abbrev pub set_list : Lists → ℕ → List ChangeParts → Lists
set_list s n C = record s { lists = slice_set s.lists n C }

-- c was made
abbrev pub add_change : Lists → ChangeParts → Lists
add_change s c = record s { made = s.made ++ c ∷ [] }

-- the peer numbered n showed the text at the heads
abbrev pub add_read : Lists → ℕ → List Hash → List ℕ → Lists
add_read s n H text = record s { reads = s.reads ++ record { peer = n; heads = H; text = text } ∷ [] }

-- The act leads from s to s'.
abbrev pub ActStep : Lists → Act → Lists → Type 0
ActStep s Nothing s' = s' ≡ s
ActStep s Join s' = s' ≡ add_list s []
ActStep s (Fork n) s' = (C : List ChangeParts) × HasList s n C × (s' ≡ add_list s C)
ActStep s (Make n c) s' = (C : List ChangeParts) × HasList s n C × MayMake s C c × (s' ≡ add_change (set_list s n (C ++ c ∷ [])) c)
ActStep s (Strand n c) s' = (C : List ChangeParts) × HasList s n C × MayMake s C c × (s' ≡ add_change s c)
ActStep s (Take n new) s' = (C : List ChangeParts) × HasList s n C × AllIn new s.made × Sound (C ++ new) × (s' ≡ set_list s n (C ++ new))
ActStep s (Read n text) s' = (C : List ChangeParts) × HasList s n C × IsTextOf C text × (s' ≡ add_read s n (heads C) text)
ActStep s (ReadAt n H text) s' =
    (C : List ChangeParts) × HasList s n C × IsTrue (has_all C H) × IsTextOf (past C H) text × (s' ≡ add_read s n H text)

-- The acts, one after another, lead from s to s'.
abbrev pub ActSteps : Lists → List Act → Lists → Type 0
ActSteps s acts s' = Trace ActStep s acts s'

-- ---- what is promised

-- the changes that a read saw: the past of its heads
abbrev pub seen_changes : Lists → ReadRecord → List ChangeParts
seen_changes s r = past s.made r.heads

-- the elements of the list that the changes S insert
abbrev pub inserted_by : List ChangeParts → List Insert → List Insert
inserted_by S L = filter (λ (e : Insert). is_inserted (inserts S) e.id) L

-- The text is the list L kept to the elements that the changes S insert and don't delete.
abbrev pub Agrees : List Insert → List ChangeParts → List ℕ → Type 0
Agrees L S text = text ≡ chars_of (visible_of (deletes S) (inserted_by S L))

-- One list holds every element ever inserted, each once; every text ever read is that list kept to the elements that
-- its seen changes insert and don't delete; and two reads under equal heads, however these are given, are equal.
pub record Headline (s : Lists) : Type 0 where
  -- no two inserts of changes that were made share an identifier
  pub apart : IdsApart (inserts s.made)
  pub elements : List Insert
  pub order : IsInOrder (inserts s.made) elements
  pub once : IdsApart elements
  pub one_list : (other : List Insert) → IsInOrder (inserts s.made) other → other ≡ elements
  pub agree : (r : ReadRecord) → In r s.reads → Agrees elements (seen_changes s r) r.text
  pub alike : (r q : ReadRecord) → In r s.reads → In q s.reads → SameMembers r.heads q.heads → r.text ≡ q.text

-- What lasts, whatever happens from s on.
pub record Lasts (s : Lists) : Type 0 where
  -- each peer's list only grows at its end
  pub lists : (acts : List Act) (s' : Lists) (n : ℕ) (C : List ChangeParts) → ActSteps s acts s' → HasList s n C
      → (new : List ChangeParts) × HasList s' n (C ++ new)
  -- a peer that shows its text shows just what it has, and at hashes just their past
  pub shows : (n : ℕ) (C : List ChangeParts) → HasList s n C → SameMembers (past s.made (heads C)) C
  pub shows_at : (n : ℕ) (C : List ChangeParts) (H : List Hash) → HasList s n C → IsTrue (has_all C H) → SameMembers (past s.made H) (past C H)
  -- whatever happens in between, a read sees all that its peer had
  pub sees : (acts : List Act) (m s' : Lists) (n : ℕ) (C : List ChangeParts) (text : List ℕ) → ActSteps s acts m → HasList s n C
      → ActStep m (Read n text) s' → (r : ReadRecord) × (s'.reads ≡ m.reads ++ r ∷ []) × (r.text ≡ text) × AllIn C (seen_changes s' r)
  -- a read is never lost, what it saw stays the same, and its peer has that for ever
  pub reads : (acts : List Act) (s' : Lists) (r : ReadRecord) → ActSteps s acts s' → In r s.reads
      → In r s'.reads × (seen_changes s' r ≡ seen_changes s r) × (C : List ChangeParts) × HasList s' r.peer C × AllIn (seen_changes s r) C
  -- what a read saw has all that it depends on
  pub closed : (r : ReadRecord) → In r s.reads → (c : ChangeParts) → In c (seen_changes s r) → IsTrue (has_all (seen_changes s r) c.deps)
