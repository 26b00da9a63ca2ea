-- What a mirror starts from is what a start can go on from; and what is kept of a list was in it.
use Rattle.std.proofs.Common.{◌≡◌, ◌⊎◌, inl, inr, refl, sym, ap, subst, List, [], ◌∷◌, ◌++◌, map, Bool, true, false, Option, Some, None}
use Rattle.tp_list.specs.Members.{In}
use Rattle.tp_list.proofs.Members.{In-left, In-right}
use Rattle.std.specs.List.{items_where_true}
use Rattle.std.specs.List.Retain.{IsFiltered}
use Rattle.tp_mirror.specs.declared.known.Known.{Known}
use Rattle.tp_mirror.specs.declared.known.TextAt.{TextAt}
use Rattle.tp_mirror.specs.declared.state.Moved.{Moved}
use Rattle.tp_mirror.specs.declared.state.Name.{Name}
use Rattle.tp_mirror.specs.declared.state.State.{State}
use Rattle.tp_mirror.specs.Mirroring.{GoesOnFrom, IsMade, IsNotBegun, IsRecoverable, MirrorView, WatchesName}
use Rattle.tp_mirroring.specs.Seeing.{first_seen, list_of, nothing_seen, texts_of}

-- what a function gives of a member is a member of what it gives of all
in_map : {X Y : Type 0} (f : X → Y) (x : X) (xs : List X) → In x xs → In (f x) (map f xs)
in_map f x [] h = absurd h
in_map f x (y ∷ ys) (inl e) = inl (ap f e)
in_map f x (y ∷ ys) (inr h) = inr (in_map f x ys h)

-- a name among those of the files that were moved away is that of one of them
of_moved : (xs : List Moved) (name : Name) → In name (map (λ m. m.name) xs) → (m : Moved) × In m xs × (m.name ≡ name)
of_moved [] name h = absurd h
of_moved (y ∷ ys) name (inl e) = (y, inl refl, sym e)
of_moved (y ∷ ys) name (inr h) = let p = of_moved ys name h in (p.0, inr p.1, p.2)

none_recoverable : IsRecoverable nothing_seen
unfolding nothing_seen
none_recoverable = record { state = λ s e. absurd (cc); unused = λ e. record { fresh = refl; away = refl; names = refl } }

-- nothing was done yet
pub nothing_recoverable : (v : MirrorView) → v ≡ nothing_seen → IsRecoverable v
nothing_recoverable v is = subst IsRecoverable (sym is) none_recoverable

-- and there is no state file
pub nothing_saved : (v : MirrorView) → v ≡ nothing_seen → v.saved ≡ None
unfolding nothing_seen
nothing_saved v is = ap (λ (u : MirrorView). u.saved) is

first_goes_on : (s : State) (fresh : Option TextAt) → GoesOnFrom (first_seen s fresh) s
unfolding first_seen texts_of IsMade WatchesName
first_goes_on s fresh = record {
  made = λ k h. In-left k.text (map (λ (j : Known). j.text) s.texts ++ map (λ (m : Moved). m.known.text) s.moved) (list_of fresh)
      (In-left k.text (map (λ (j : Known). j.text) s.texts) (map (λ (m : Moved). m.known.text) s.moved) (in_map (λ (j : Known). j.text) k s.texts h));
  moved = λ m h. In-left m.known.text (map (λ (j : Known). j.text) s.texts ++ map (λ (n : Moved). n.known.text) s.moved) (list_of fresh)
      (In-right m.known.text (map (λ (j : Known). j.text) s.texts) (map (λ (n : Moved). n.known.text) s.moved) (in_map (λ (n : Moved). n.known.text) m s.moved h));
  watched = λ name h. of_moved s.moved name h;
  away = λ e. e;
}

state_recoverable : (s : State) (fresh : Option TextAt) → IsRecoverable (first_seen s fresh)
unfolding first_seen
state_recoverable s fresh = record {
  state = λ t e. subst (GoesOnFrom (first_seen s fresh)) (same t e) (first_goes_on s fresh);
  unused = λ e. absurd (never e);
}
  where
    same : (t : State) → (first_seen s fresh).saved ≡ Some t → s ≡ t
    same t e = cc

    never : (first_seen s fresh).saved ≡ None → ⊥
    never e = cc

-- the state was read of the state file
pub first_recoverable : (v : MirrorView) (s : State) (fresh : Option TextAt) → v ≡ first_seen s fresh → IsRecoverable v
first_recoverable v s fresh is = subst IsRecoverable (sym is) (state_recoverable s fresh)

-- which has the state
pub first_saved : (v : MirrorView) (s : State) (fresh : Option TextAt) → v ≡ first_seen s fresh → v.saved ≡ Some s
unfolding first_seen
first_saved v s fresh is = ap (λ (u : MirrorView). u.saved) is

-- what is kept was there
in_kept : {X : Type 0} (bs : List Bool) (xs : List X) (x : X) → In x (items_where_true bs xs) → In x xs
in_kept [] xs x h = absurd h
in_kept (b ∷ bs) [] x h = absurd h
in_kept (true ∷ bs) (y ∷ ys) x (inl e) = inl e
in_kept (true ∷ bs) (y ∷ ys) x (inr h) = inr (in_kept bs ys x h)
in_kept (false ∷ bs) (y ∷ ys) x h = inr (in_kept bs ys x h)

pub fewer_kept : {X P : Type 0} {R : P → X → Bool → P → Type 0} {p : P} {xs ys : List X} → IsFiltered R p xs ys → (x : X) → In x ys → In x xs
fewer_kept {X} {P} {R} {p} {xs} {ys} f x h = in_kept f.0 xs x (subst (λ (l : List X). In x l) f.4 h)
