-- What a folder keeps where a call of a mirror is done.
use Rattle.std.proofs.Common.{◌≡◌, ◌∙◌, ap, refl, sym, List, ℕ, Bool, true, false, Option, Some, None, ◌++◌, ◌∷◌, [], subst}
use Rattle.std.specs.Prelude.{IfSome, map}
use Rattle.std.specs.Str.{chars}
use Rattle.std.proofs.lemmas.Str.{chars-nil}
use Rattle.tp_layout.specs.declared.parts.ChangeParts.{ChangeParts}
use Rattle.tp_opid.specs.declared.actor.Actor.{Actor}
use Rattle.tp_opid.specs.declared.hash.Hash.{Hash}
use Rattle.tp_edit.specs.Text.{IsTextOf}
use Rattle.tp_history.specs.Past.{past}
use Rattle.tp_commands.specs.Since.{GrowsAlone, MakesTextAt}
use Rattle.tp_commands.proofs.GrowthLaws.{grows_on, same_grows}
use Rattle.tp_mirror.specs.declared.known.Digest.{Digest}
use Rattle.tp_list.specs.Members.{In}
use Rattle.tp_list.proofs.Members.{In-last, In-left, In-right}
use Rattle.tp_disk.specs.DiskView.{DiskView, WasRead}
use Rattle.tp_peer.specs.PeerState.{PeerState}
use Rattle.tp_mirror.specs.declared.known.Known.{Known}
use Rattle.tp_mirror.specs.declared.known.TextAt.{TextAt}
use Rattle.tp_mirror.specs.declared.state.Moved.{Moved}
use Rattle.tp_mirror.specs.declared.state.Name.{Name}
use Rattle.tp_mirror.specs.declared.state.State.{State}
use Rattle.tp_mirror.specs.declared.workspace.Change.{Change}
use Rattle.tp_mirror.specs.declared.workspace.Look.{Look}
use Rattle.tp_mirror.specs.declared.workspace.Look.TheVariants.{Absent, Busy, NotText, Empty, LeftEmpty, Text}
use Rattle.tp_mirror.specs.declared.workspace.Source.{Source}
use Rattle.tp_mirror.specs.Mirroring.{FileRead, HasAllMade, IsMade, IsPart, IsRead, IsRemoved, MirrorView, with_answer, with_heads, with_look, with_moved, with_new_text, with_part, with_state, without_part}
use Rattle.tp_mirroring.specs.Beside.{source_path}
use Rattle.tp_mirroring.specs.Folder.{IsAmongMade, IsFolder, IsLookOf, IsPartWritten, IsTextRead, IsWritten}
use Rattle.tp_mirroring.specs.Seeing.{first_seen, list_of, nothing_seen, text_of, texts_of}
use Rattle.tp_mirroring.specs.Taking.{HasTakings, Taking, AreTakings}

-- a text that is added leaves those that were made
still_made : (fresh : Option TextAt) (made : List TextAt) (t : TextAt) → IsAmongMade fresh made → IsAmongMade fresh (made ++ t ∷ [])
still_made None made t h = tt
still_made (Some x) made t h = In-left x made (t ∷ []) h

-- the text that a state lacks is among those that are made
own_made : (texts : List Known) (moved : List Moved) (fresh : Option TextAt)
    → IsAmongMade fresh (map (λ (k : Known). k.text) texts ++ map (λ (m : Moved). m.known.text) moved ++ list_of fresh)
own_made texts moved None = tt
own_made texts moved (Some t) = In-right t (map (λ (k : Known). k.text) texts ++ map (λ (m : Moved). m.known.text) moved) (t ∷ []) (In-last t [])

-- what was seen, where it was no text
other_look : (saw : DiskView → Type 0) (note : List ℕ) (source : Source) (text : List ℕ) (s : Source) (look : Look) → ((digest : Digest) → look ≡ Text digest → ⊥)
    → IsLookOf saw note source text s look
other_look saw note source text s (Text digest) never = absurd (never digest refl)
other_look saw note source text s Absent never = tt
other_look saw note source text s Busy never = tt
other_look saw note source text s NotText never = tt
other_look saw note source text s Empty never = tt
other_look saw note source text s LeftEmpty never = tt

-- the journal's text was read, and is the one with all that was made
pub heads_seen : (w v u : MirrorView) (copy t : TextAt) → w ≡ with_heads v copy → v ≡ u → copy ≡ t → (w ≡ with_heads u t) × HasAllMade (λ x y. Unit {0}) w t
unfolding HasAllMade
heads_seen w v u copy t is same own = (subst (λ (x : TextAt). w ≡ with_heads u x) own (subst (λ (o : MirrorView). w ≡ with_heads o copy) same is), λ s h. tt)

-- a text of the journal was written, and is on the disk
pub text_written : (synced : List ℕ → List ℕ → Type 0) (path : List ℕ) (applied : List ChangeParts) (heads : List Hash) (bytes read : List ℕ) (copy t : TextAt) → copy ≡ t → heads ≡ t.heads
    → read ≡ bytes → IsTextOf (past applied heads) (chars bytes) → synced path read → IsWritten synced path copy
text_written synced path applied heads bytes read copy t own at is text was = record {
  applied = applied;
  bytes = read;
  is_text = subst (λ (b : List ℕ). IsTextOf (past applied copy.heads) (chars b)) (sym is)
      (subst (λ (hs : List Hash). IsTextOf (past applied hs) (chars bytes)) (at ∙ ap (λ (x : TextAt). x.heads) (sym own)) text);
  is_synced = was;
}

module _ {here saw : DiskView → Type 0} {synced : List ℕ → List ℕ → Type 0} {note_here note part text : List ℕ} {source : Source} {first peer : PeerState} where
  -- before anything was done
  pub begun : ((d : DiskView) → here d → saw d) → note_here ≡ note → peer.stopped ≡ false → peer ≡ first
      → IsFolder here saw synced note_here note part text source nothing_seen false first peer
  unfolding nothing_seen
  begun sees beside runs is = record { sees = sees; beside = beside; is_made = tt; read = tt; written = tt; grows = subst (λ (p : PeerState). GrowsAlone p peer) is (same_grows peer); taken = (runs, ([], is)) }

  -- what is seen is the same
  pub still : (w v : MirrorView) {failed : Bool} → w ≡ v → IsFolder here saw synced note_here note part text source v failed first peer
      → IsFolder here saw synced note_here note part text source w failed first peer
  still w v {failed} is h = subst (λ (u : MirrorView). IsFolder here saw synced note_here note part text source u failed first peer) (sym is) h

  module _ {v : MirrorView} {failed : Bool} (h : IsFolder here saw synced note_here note part text source v failed first peer) where
    -- there is no state file
    pub nothing : IsFolder here saw synced note_here note part text source nothing_seen failed first peer
    unfolding nothing_seen
    nothing = record { sees = h.sees; beside = h.beside; is_made = tt; read = tt; written = tt; grows = h.grows; taken = h.taken }

    -- the state file was read
    pub started : (s : State) (fresh : Option TextAt) → IsFolder here saw synced note_here note part text source (first_seen s fresh) failed first peer
    unfolding first_seen texts_of
    started s fresh = record { sees = h.sees; beside = h.beside; is_made = own_made s.texts s.moved fresh; read = tt; written = tt; grows = h.grows; taken = h.taken }

    -- a file was read, and no text was in it
    pub look_kept : (s : Source) (look : Look) → ((digest : Digest) → look ≡ Text digest → ⊥)
        → IsFolder here saw synced note_here note part text source (with_look v s look) failed first peer
    unfolding with_look
    look_kept s look never = record { sees = h.sees; beside = h.beside; is_made = h.is_made; read = other_look saw note source text s look never; written = h.written; grows = h.grows; taken = h.taken }

    -- a file was read, and its text is the one that is kept
    pub text_kept : (s : Source) (bytes kept : List ℕ) (digest : Digest) → kept ≡ bytes → saw (WasRead (source_path note s) bytes)
        → IsFolder here saw synced note_here note part kept s (with_look v s (Text digest)) failed first peer
    unfolding with_look
    text_kept s bytes kept digest is was = record {
      sees = h.sees;
      beside = h.beside;
      is_made = h.is_made;
      read = (refl, subst (λ (b : List ℕ). saw (WasRead (source_path note s) b)) (sym is) was);
      written = h.written;
      grows = h.grows;
      taken = h.taken;
    }

    -- a change was made
    pub made_text : (t : TextAt) → IsFolder here saw synced note_here note part text source (with_new_text v t) failed first peer
    unfolding with_new_text
    made_text t = record { sees = h.sees; beside = h.beside; is_made = In-last t v.made; read = h.read; written = h.written; grows = h.grows; taken = h.taken }

    -- the journal's text was read
    pub has_heads : (t : TextAt) → IsFolder here saw synced note_here note part text source (with_heads v t) failed first peer
    unfolding with_heads
    has_heads t = record { sees = h.sees; beside = h.beside; is_made = still_made v.fresh v.made t h.is_made; read = h.read; written = h.written; grows = h.grows; taken = h.taken }

    -- the state was saved
    pub saved : (s : State) → IsFolder here saw synced note_here note part text source (with_state v s) failed first peer
    unfolding with_state
    saved s = record { sees = h.sees; beside = h.beside; is_made = tt; read = h.read; written = h.written; grows = h.grows; taken = h.taken }

    -- what is to become NOTE was written
    pub wrote : (t : TextAt) → IsWritten synced part t → IsFolder here saw synced note_here note part text source (with_part v t) failed first peer
    unfolding with_part
    wrote t is = record { sees = h.sees; beside = h.beside; is_made = h.is_made; read = h.read; written = is; grows = h.grows; taken = h.taken }

    -- NOTE was moved away
    pub moved : (name : Name) → IsFolder here saw synced note_here note part text source (with_moved v name) failed first peer
    unfolding with_moved
    moved name = record { sees = h.sees; beside = h.beside; is_made = h.is_made; read = h.read; written = h.written; grows = h.grows; taken = h.taken }

    -- it got its name, or didn't
    pub linked : (t : TextAt) (is_linked : Bool) → IsFolder here saw synced note_here note part text source (with_answer v t is_linked) failed first peer
    unfolding with_answer
    linked t is_linked = record { sees = h.sees; beside = h.beside; is_made = h.is_made; read = h.read; written = h.written; grows = h.grows; taken = h.taken }

    -- its own name was removed
    pub removed_part : IsFolder here saw synced note_here note part text source (without_part v) failed first peer
    unfolding without_part
    removed_part = record { sees = h.sees; beside = h.beside; is_made = h.is_made; read = h.read; written = tt; grows = h.grows; taken = h.taken }

    -- a file that was moved away was removed
    pub removed : (name : Name) (w : MirrorView) → IsRemoved v name w → IsFolder here saw synced note_here note part text source w failed first peer
    removed name w is = still w (record v { names = w.names }) is.others (record { sees = h.sees; beside = h.beside; is_made = h.is_made; read = h.read; written = h.written; grows = h.grows; taken = h.taken })

    -- what was written is on the disk
    pub part_synced : (path : List ℕ) → path ≡ part → (u : MirrorView) → v ≡ u → (t : TextAt) → IsPart u t → (bytes : List ℕ) × synced path bytes
    unfolding IsPart
    part_synced path own u same t is =
        let w : IsWritten synced part t = subst (λ (o : Option TextAt). IsPartWritten synced part o) is (subst (λ (o : MirrorView). IsPartWritten synced part o.part) same h.written)
        in (w.bytes, subst (λ (p : List ℕ). synced p w.bytes) (sym own) w.is_synced)

    -- the text that the state file lacks is one of those that were made
    pub among : (u : MirrorView) → v ≡ u → (found : Option Change) → v.fresh ≡ text_of found → IfSome found (λ c. IsMade u c.text)
    unfolding IsMade
    among u same None is = tt
    among u same (Some c) is = subst (λ (o : MirrorView). In c.text o.made) same (subst (λ (o : Option TextAt). IsAmongMade o v.made) is h.is_made)

    -- a call failed midway
    pub failed_midway : {peer' : PeerState} → GrowsAlone peer peer' → IsFolder here saw synced note_here note part text source v true first peer'
    failed_midway more = record { sees = h.sees; beside = h.beside; is_made = h.is_made; read = h.read; written = h.written; grows = grows_on first peer _ h.grows more; taken = tt }

    -- the text that was read last was made a change
    pub took : {peer' : PeerState} (u : MirrorView) → v ≡ u → (s : Source) (digest : Digest) → IsRead u s digest → failed ≡ false
        → (heads : List Hash) (actor : Actor) (bytes : List ℕ) (hashes : List Hash) → bytes ≡ text → GrowsAlone peer peer' → MakesTextAt peer heads actor (chars bytes) 0 (chars []) hashes peer'
        → IsFolder here saw synced note_here note part text source v false first peer'
    took {peer'} u same s digest is fine heads actor bytes hashes own more did =
        let before : HasTakings false saw note first peer = subst (λ (b : Bool). HasTakings b saw note first peer) fine h.taken in
        let read : IsTextRead saw note source text u.read = subst (λ (o : MirrorView). IsTextRead saw note source text o.read) same h.read in
        let look : IsLookOf saw note source text s (Text digest) = subst (λ (r : Option FileRead). IsTextRead saw note source text r) is.found read in
        let taking : Taking = record { source = source; bytes = text; heads = heads; actor = actor; hashes = hashes } in
        let silent : MakesTextAt peer heads actor (chars bytes) 0 [] hashes peer' = subst (λ (m : List ℕ). MakesTextAt peer heads actor (chars bytes) 0 m hashes peer') chars-nil did in
        let makes : MakesTextAt peer heads actor (chars text) 0 [] hashes peer' = subst (λ (b : List ℕ). MakesTextAt peer heads actor (chars b) 0 [] hashes peer') own silent in
        record {
          sees = h.sees;
          beside = h.beside;
          is_made = h.is_made;
          read = h.read;
          written = h.written;
          grows = grows_on first peer _ h.grows more;
          taken = (makes.makes.running, (taking ∷ before.1.0, (peer, before.1.1, record { read = look.1; makes = makes })));
        }
