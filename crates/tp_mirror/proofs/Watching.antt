-- What stays kept where the files that were moved away change.
use Rattle.std.proofs.Common.{◌≡◌, ◌⊎◌, ℕ, zero, suc, ◌<◌, List, [], ◌∷◌, ◌++◌, length, take, drop, set, get_or, slice_get, Bool, true, false, Option, Some, None, inl, inr, sym, subst, refl, ◌∙◌, ap}
use Rattle.std.proofs.lemmas.Option.{slice_get_read}
use Rattle.std.specs.List.{remove}
use Rattle.tp_list.specs.Members.{In}
use Rattle.tp_list.proofs.Members.{In-slice_get}
use Rattle.tp_mirror.specs.declared.known.Digest.{Digest}
use Rattle.tp_mirror.specs.declared.known.Known.{Known}
use Rattle.tp_mirror.specs.declared.known.TextAt.{TextAt}
use Rattle.tp_mirror.specs.declared.state.Moved.{Moved}
use Rattle.tp_mirror.specs.declared.state.Name.{Name}
use Rattle.tp_mirror.specs.declared.state.State.{State}
use Rattle.tp_mirror.specs.declared.workspace.Look.{Look}
use Rattle.tp_mirror.specs.declared.workspace.Look.TheVariants.{Absent, Busy, NotText, Empty, LeftEmpty, Text}
use Rattle.tp_mirror.specs.declared.workspace.Source.{Source}
use Rattle.tp_mirror.specs.declared.workspace.Source.TheVariants.{Note, Away}
use Rattle.tp_mirror.specs.Mirroring.{MirrorView, away_after, with_look, with_heads, IsRemoved, IsMade, WatchesName, IsNotBegun, IsRecoverable, IsKept, CanSave, IsRead, IsLeftEmpty, IsTaken, CanRemove}
use Rattle.tp_mirror.specs.FirstUses.{IsFirst}

none_is_some : {X : Type 0} (x : X) → (let n : Option X = None in n) ≡ Some x → ⊥
none_is_some x e = cc

-- ---- lists

set_member : {X : Type 0} (xs : List X) (at : ℕ) (y x : X) → In x (set xs at y) → In x xs ⊎ (x ≡ y)
set_member [] at y x c = absurd c
set_member (z ∷ xs) zero y x (inl e) = inr e
set_member (z ∷ xs) zero y x (inr c) = inl (inr c)
set_member (z ∷ xs) (suc at) y x (inl e) = inl (inl e)
set_member (z ∷ xs) (suc at) y x (inr c) = elim (set_member xs at y x c) as (λ _. In x (z ∷ xs) ⊎ (x ≡ y)) [ inl d ↦ inl (inr d) | inr e ↦ inr e ]

set_names : (xs : List Moved) (at : ℕ) (old m x : Moved) → slice_get xs at ≡ Some old → m.name ≡ old.name → In x xs → (y : Moved) × In y (set xs at m) × (y.name ≡ x.name)
set_names [] at old m x e same c = absurd c
set_names (z ∷ xs) zero old m x e same (inl f) = (m, inl refl, same ∙ ap (λ (q : Moved). q.name) (sym (let g : z ≡ old = cc in g)) ∙ ap (λ (q : Moved). q.name) (sym f))
set_names (z ∷ xs) zero old m x e same (inr c) = (x, inr c, refl)
set_names (z ∷ xs) (suc at) old m x e same (inl f) = (x, inl f, refl)
set_names (z ∷ xs) (suc at) old m x e same (inr c) = let p = set_names xs at old m x e same c in (p.0, inr p.1, p.2)

removed_member : {X : Type 0} (xs : List X) (at : ℕ) (x : X) → In x (take at xs ++ drop (suc at) xs) → In x xs
removed_member [] zero x c = absurd c
removed_member [] (suc at) x c = absurd c
removed_member (z ∷ xs) zero x c = inr c
removed_member (z ∷ xs) (suc at) x (inl e) = inl e
removed_member (z ∷ xs) (suc at) x (inr c) = inr (removed_member xs at x c)

others_stay : {X : Type 0} (xs : List X) (at : ℕ) (out x : X) → slice_get xs at ≡ Some out → In x xs → (x ≡ out → ⊥) → In x (take at xs ++ drop (suc at) xs)
others_stay [] at out x e c other = absurd c
others_stay (z ∷ xs) zero out x e (inl f) other = absurd (other (f ∙ (let g : z ≡ out = cc in g)))
others_stay (z ∷ xs) zero out x e (inr c) other = c
others_stay (z ∷ xs) (suc at) out x e (inl f) other = inl f
others_stay (z ∷ xs) (suc at) out x e (inr c) other = inr (others_stay xs at out x e c other)

pub at_place : (xs : List Moved) (at : ℕ) (m : Moved) → at < length xs → m ≡ get_or xs at m → slice_get xs at ≡ Some m
at_place xs at m lt e = slice_get_read xs (length xs) at m refl lt e

-- ---- a file is read anew

still_watched : (s n : State) (at : ℕ) (old m : Moved) (name : Name) → n.moved ≡ set s.moved at m → slice_get s.moved at ≡ Some old → m.name ≡ old.name → WatchesName s name → WatchesName n name
unfolding WatchesName
still_watched s n at old m name e place same (x, c, is) =
    let p = set_names s.moved at old m x place same c in (p.0, subst (λ (l : List Moved). In p.0 l) (sym e) p.1, p.2 ∙ is)

pub can-rewatch : (v : MirrorView) (s n : State) (at : ℕ) (old m : Moved) → IsKept v s None → n.texts ≡ s.texts → n.is_away ≡ s.is_away → n.moved ≡ set s.moved at m
    → slice_get s.moved at ≡ Some old → m.name ≡ old.name → IsMade v m.known.text → CanSave v n
can-rewatch v s n at old m kept texts away moved place same made = record {
  fits = record {
    made = λ x c. kept.fits.made x (subst (λ (l : List Known). In x l) texts c);
    moved = λ x c. elim (set_member s.moved at m x (subst (λ (l : List Moved). In x l) moved c)) [ inl d ↦ kept.fits.moved x d | inr e ↦ subst (λ (y : Moved). IsMade v y.known.text) (sym e) made ];
    watched = λ name c. still_watched s n at old m name moved place same (kept.fits.watched name c);
    away = λ h. away ∙ kept.fits.away h;
  };
  fresh = λ t e. absurd (none_is_some t (sym kept.fresh ∙ e));
  next = λ t o e f g. absurd (none_is_some t (sym kept.fresh ∙ e));
}

-- ---- a file is removed

pub kept-removed : (v w : MirrorView) (name : Name) (s : State) → IsRemoved v name w → IsKept v s None → IsKept w s None
unfolding IsMade
kept-removed v w name s r k = rw r.others (record {
  saved = k.saved;
  fits = record { made = k.fits.made; moved = k.fits.moved; watched = λ n c. k.fits.watched n (r.fewer n c); away = k.fits.away };
  fresh = k.fresh;
})

others_watched : (s n : State) (at : ℕ) (out : Moved) (name : Name) → n.moved ≡ remove s.moved at → slice_get s.moved at ≡ Some out → (name ≡ out.name → ⊥) → WatchesName s name → WatchesName n name
unfolding WatchesName
others_watched s n at out name e place other (x, c, is) =
    (x, subst (λ (l : List Moved). In x l) (sym e) (others_stay s.moved at out x place c (λ f. other (sym is ∙ ap (λ (q : Moved). q.name) f))), is)

pub can-remove : (v w : MirrorView) (name : Name) (s n : State) (at : ℕ) (out : Moved) → IsRemoved v name w → IsKept v s None → n.texts ≡ s.texts → n.is_away ≡ s.is_away → n.moved ≡ remove s.moved at
    → slice_get s.moved at ≡ Some out → out.name ≡ name → CanSave w n
can-remove v w name s n at out r before texts away moved place same =
    let kept = kept-removed v w name s r before in
    record {
      fits = record {
        made = λ x c. kept.fits.made x (subst (λ (l : List Known). In x l) texts c);
        moved = λ x c. kept.fits.moved x (removed_member s.moved at x (subst (λ (l : List Moved). In x l) moved c));
        watched = λ other c. others_watched s n at out other moved place (λ e. r.gone other c (e ∙ same)) (kept.fits.watched other c);
        away = λ h. away ∙ kept.fits.away h;
      };
      fresh = λ t e. absurd (none_is_some t (sym kept.fresh ∙ e));
      next = λ t o e f g. absurd (none_is_some t (sym kept.fresh ∙ e));
    }

-- ---- what was found

found_there : (source : Source) (digest : Digest) (away : Bool) → source ≡ Note → away_after source (Text digest) away ≡ false
found_there Note digest away e = refl
found_there (Away name) digest away e = absurd cc

pub read-found : (v w : MirrorView) (source : Source) (digest : Digest) → w ≡ with_look v source (Text digest) → IsRead w source digest
unfolding with_look
read-found v w source digest e = rw e (record { found = refl; there = λ s. found_there source digest v.away s })

pub read-left_empty : (v w : MirrorView) → w ≡ with_look v Note LeftEmpty → IsLeftEmpty w
unfolding with_look IsLeftEmpty
read-left_empty v w e = rw e refl

pub remove-text : (v : MirrorView) (name : Name) (t : TextAt) (digest : Digest) → IsRead v (Away name) digest → t.digest ≡ digest → IsMade v t → CanRemove v name t
unfolding CanRemove
remove-text v name t digest r same made = (Text digest, r.found, (same, made))

pub remove-absent : (v w : MirrorView) (name : Name) (t : TextAt) → w ≡ with_look v (Away name) Absent → CanRemove w name t
unfolding CanRemove with_look
remove-absent v w name t e = (Absent, ap (λ (x : MirrorView). x.read) e, tt)

pub remove-empty : (v w : MirrorView) (name : Name) (t : TextAt) → w ≡ with_look v (Away name) Empty → CanRemove w name t
unfolding CanRemove with_look
remove-empty v w name t e = (Empty, ap (λ (x : MirrorView). x.read) e, tt)

pub remove-left_empty : (v w : MirrorView) (name : Name) (t : TextAt) → w ≡ with_look v (Away name) LeftEmpty → CanRemove w name t
unfolding CanRemove with_look
remove-left_empty v w name t e = (LeftEmpty, ap (λ (x : MirrorView). x.read) e, tt)

-- ---- the first state

still_there : (source : Source) (look : Look) (away : Bool) → away ≡ false → away_after source look away ≡ false
still_there Note Absent away e = e
still_there Note Busy away e = e
still_there Note NotText away e = e
still_there Note Empty away e = e
still_there Note LeftEmpty away e = refl
still_there Note (Text digest) away e = refl
still_there (Away name) look away e = e

pub unused-read : (v w : MirrorView) (source : Source) (look : Look) → w ≡ with_look v source look → IsNotBegun v → IsNotBegun w
unfolding with_look
unused-read v w source look e u = rw e (record { fresh = u.fresh; away = still_there source look v.away u.away; names = u.names })

pub unused-heads : (v w : MirrorView) (t : TextAt) → w ≡ with_heads v t → IsNotBegun v → IsNotBegun w
unfolding with_heads
unused-heads v w t e u = rw e (record { fresh = u.fresh; away = u.away; names = u.names })

pub saved-read : (v w : MirrorView) (source : Source) (look : Look) → w ≡ with_look v source look → v.saved ≡ None → w.saved ≡ None
unfolding with_look
saved-read v w source look e n = ap (λ (x : MirrorView). x.saved) e ∙ n

pub saved-heads : (v w : MirrorView) (t : TextAt) → w ≡ with_heads v t → v.saved ≡ None → w.saved ≡ None
unfolding with_heads
saved-heads v w t e n = ap (λ (x : MirrorView). x.saved) e ∙ n

pub unused-recoverable : (v : MirrorView) → v.saved ≡ None → IsNotBegun v → IsRecoverable v
unused-recoverable v n u = record { state = λ s e. absurd (none_is_some s (sym n ∙ e)); unused = λ _. u }

pub can-first : (v : MirrorView) (s : State) (now : TextAt) → v.saved ≡ None → IsNotBegun v → IsFirst now s → IsMade v now → CanSave v s
can-first v s now n u f made = record {
  fits = record {
    made = λ x c. elim (let P : List Known → Type 0 = λ l. In x l in subst P f.texts c) [
      | inl e ↦ subst (λ (t : TextAt). IsMade v t) (sym (ap (λ (k : Known). k.text) e ∙ f.text)) made
      | inr none ↦ absurd none
    ];
    moved = λ x c. absurd (let P : List Moved → Type 0 = λ l. In x l in subst P f.moved c);
    watched = λ name c. absurd (let P : List Name → Type 0 = λ l. In name l in subst P u.names c);
    away = λ h. absurd (let e : true ≡ false = sym h ∙ u.away in cc);
  };
  fresh = λ t e. absurd (none_is_some t (sym u.fresh ∙ e));
  next = λ t o e g h. absurd (none_is_some t (sym u.fresh ∙ e));
}

pub first-sound : (v w : MirrorView) → w ≡ v → v.saved ≡ None → IsNotBegun v → IsRecoverable w
first-sound v w e n u = subst (λ (x : MirrorView). IsRecoverable x) (sym e) (unused-recoverable v n u)

pub first-can : (v w : MirrorView) (s : State) (now : TextAt) → w ≡ v → v.saved ≡ None → IsNotBegun v → IsFirst now s → IsMade v now → CanSave w s
first-can v w s now e n u f made = subst (λ (x : MirrorView). CanSave x s) (sym e) (can-first v s now n u f made)

-- a file by its place, in lists that are equal
pub place_in : (xs ys zs : List Moved) (at : ℕ) (m : Moved) → zs ≡ xs → ys ≡ xs → at < length xs → m ≡ get_or ys at m → slice_get zs at ≡ Some m
place_in xs ys zs at m e f lt read = rw e (at_place xs at m lt (let P : List Moved → Type 0 = λ l. m ≡ get_or l at m in subst P f read))

pub read-found-by : (v w : MirrorView) (source : Source) (look : Look) (digest : Digest) → w ≡ with_look v source look → look ≡ Text digest → IsRead w source digest
read-found-by v w source look digest e f = read-found v w source digest (e ∙ ap (λ (l : Look). with_look v source l) f)

pub left-empty-by : (v w : MirrorView) (look : Look) → w ≡ with_look v Note look → look ≡ LeftEmpty → IsLeftEmpty w
left-empty-by v w look e f = read-left_empty v w (e ∙ ap (λ (l : Look). with_look v Note l) f)

pub remove-absent-by : (v w : MirrorView) (name : Name) (look : Look) → w ≡ with_look v (Away name) look → look ≡ Absent → (t : TextAt) → CanRemove w name t
remove-absent-by v w name look e f t = remove-absent v w name t (e ∙ ap (λ (l : Look). with_look v (Away name) l) f)

pub remove-empty-by : (v w : MirrorView) (name : Name) (look : Look) → w ≡ with_look v (Away name) look → look ≡ Empty → (t : TextAt) → CanRemove w name t
remove-empty-by v w name look e f t = remove-empty v w name t (e ∙ ap (λ (l : Look). with_look v (Away name) l) f)

pub remove-left_empty-by : (v w : MirrorView) (name : Name) (look : Look) → w ≡ with_look v (Away name) look → look ≡ LeftEmpty → (t : TextAt) → CanRemove w name t
remove-left_empty-by v w name look e f t = remove-left_empty v w name t (e ∙ ap (λ (l : Look). with_look v (Away name) l) f)

pub taken-own : (v : MirrorView) (s : State) (source : Source) (digest : Digest) (k : Known) → IsTaken v s source digest k → IsTaken v s source k.text.digest k
taken-own v s source digest k t = subst (λ (d : Digest). IsTaken v s source d k) (sym t.digest_is) t

-- a file that was moved away may be removed whose text is the one that was read there last
pub remove-known : (v : MirrorView) (s : State) (lacks : Option TextAt) (at : ℕ) (m : Moved) (t : TextAt) (digest : Digest) → IsKept v s lacks → slice_get s.moved at ≡ Some m → IsRead v (Away m.name) digest
    → t.digest ≡ digest → t ≡ m.known.text → CanRemove v m.name t
remove-known v s lacks at m t digest kept there read same own =
    remove-text v m.name t digest read same (subst (IsMade v) (sym own) (kept.fits.moved m (In-slice_get s.moved at m there)))
