-- What is known on each link, once one was changed, made or forgotten.
use Rattle.tp_peer.proofs.Common.{◌≡◌, ◌⊎◌, inl, inr, ℕ, suc, zero, ◌+◌, ◌<◌, ◌≤◌, List, [], ◌∷◌, ◌++◌, length, take, Bool, true, false, ◌||◌, eqb, eqb-true, length-append, refl, sym, ap, ◌∙◌, subst, arith, slice_index_or, nat_le, SyncParts, new_sync_state, MovesLinks, TouchesLink, Call, Edit, Forget, Generate, Merge, Read, ReadAt, ReadHeads, Receive, AreLinks, IsLinkAt, NumbersOnce, has_link, is_one_too_many, known_of, with_link, without_link, neither, neither_left, neither_right, or_left}
use Rattle.std.proofs.lemmas.Bool.{eq-eqb}
use Rattle.std.proofs.lemmas.Bool.Decides.{nat_tests}
use Rattle.std.specs.List.{remove, slice_set}
use Rattle.tp_peer.specs.declared.links.TheConstants.{MAX_LINKS}

-- ---- tests

-- what a test decided
split : {A : Type 0} (b : Bool) → (b ≡ true → A) → (b ≡ false → A) → A
split true f g = f refl
split false f g = g refl

-- a test of two numbers, the other way round
turned : (n m : ℕ) → eqb n m ≡ false → eqb m n ≡ false
turned n m f = split (eqb m n) (λ t. absurd (let e : eqb n m ≡ true = eq-eqb n m (sym (eqb-true m n t)) in cc)) (λ g. g)

-- ---- where a link is

pub not_same : (n m : ℕ) → (n ≡ m → ⊥) → eqb n m ≡ false
not_same n m h = split (eqb n m) (λ t. absurd (h (eqb-true n m t))) (λ f. f)

pub has_last : (L : List (ℕ × SyncParts)) (l : ℕ × SyncParts) (n : ℕ) → has_link L n ≡ false → eqb l.0 n ≡ false → has_link (L ++ l ∷ []) n ≡ false
has_last [] l n h k = neither (eqb l.0 n) false k refl
has_last (m ∷ L) l n h k = neither (eqb m.0 n) (has_link (L ++ l ∷ []) n) (neither_left (eqb m.0 n) (has_link L n) h) (has_last L l n (neither_right (eqb m.0 n) (has_link L n) h) k)

-- the index among the links after the first
rest_at : (l : ℕ × SyncParts) (L : List (ℕ × SyncParts)) (n i : ℕ) → IsLinkAt (l ∷ L) n (suc i) → IsLinkAt L n i
rest_at l L n i a = record { within = let w = a.within in omega arith; first = neither_right (eqb l.0 n) (has_link (take i L) n) a.first; number = a.number }

-- the first isn't the one
not_first : (l : ℕ × SyncParts) (L : List (ℕ × SyncParts)) (n i : ℕ) → IsLinkAt (l ∷ L) n (suc i) → eqb l.0 n ≡ false
not_first l L n i a = neither_left (eqb l.0 n) (has_link (take i L) n) a.first

pub at_with : (L : List (ℕ × SyncParts)) (n i : ℕ) (s : SyncParts) → IsLinkAt L n i → with_link L n s ≡ slice_set L i (n, s)
at_with [] n i s a = absurd (let w = a.within in omega arith)
at_with (l ∷ L) n zero s a = let h : eqb l.0 n ≡ true = eq-eqb l.0 n (a.number l) in rw h refl
at_with (l ∷ L) n (suc i) s a = rw (not_first l L n i a) (ap (λ (M : List (ℕ × SyncParts)). l ∷ M) (at_with L n i s (rest_at l L n i a)))

pub none_with : (L : List (ℕ × SyncParts)) (n : ℕ) (s : SyncParts) → has_link L n ≡ false → with_link L n s ≡ L ++ (n, s) ∷ []
none_with [] n s h = refl
none_with (l ∷ L) n s h =
    rw (neither_left (eqb l.0 n) (has_link L n) h) (ap (λ (M : List (ℕ × SyncParts)). l ∷ M) (none_with L n s (neither_right (eqb l.0 n) (has_link L n) h)))

pub at_known : (L : List (ℕ × SyncParts)) (n i : ℕ) (d : ℕ × SyncParts) → IsLinkAt L n i → known_of L n ≡ (slice_index_or L i d).1
at_known [] n i d a = absurd (let w = a.within in omega arith)
at_known (l ∷ L) n zero d a = let h : eqb l.0 n ≡ true = eq-eqb l.0 n (a.number l) in rw h refl
at_known (l ∷ L) n (suc i) d a = rw (not_first l L n i a) (at_known L n i d (rest_at l L n i a))

pub none_without : (L : List (ℕ × SyncParts)) (n : ℕ) → has_link L n ≡ false → without_link L n ≡ L
none_without [] n h = refl
none_without (l ∷ L) n h =
    rw (neither_left (eqb l.0 n) (has_link L n) h) (ap (λ (M : List (ℕ × SyncParts)). l ∷ M) (none_without L n (neither_right (eqb l.0 n) (has_link L n) h)))

pub at_without : (L : List (ℕ × SyncParts)) (n i : ℕ) → NumbersOnce L → IsLinkAt L n i → without_link L n ≡ remove L i
at_without [] n i once a = absurd (let w = a.within in omega arith)
at_without (l ∷ L) n zero once a =
    let h : eqb l.0 n ≡ true = eq-eqb l.0 n (a.number l) in
    rw h (none_without L n (subst (λ (m : ℕ). has_link L m ≡ false) (a.number l) once.0))
at_without (l ∷ L) n (suc i) once a = rw (not_first l L n i a) (ap (λ (M : List (ℕ × SyncParts)). l ∷ M) (at_without L n i once.1 (rest_at l L n i a)))

pub none_known : (L : List (ℕ × SyncParts)) (n : ℕ) → has_link L n ≡ false → known_of L n ≡ new_sync_state
none_known [] n h = refl
none_known (l ∷ L) n h = rw (neither_left (eqb l.0 n) (has_link L n) h) (none_known L n (neither_right (eqb l.0 n) (has_link L n) h))

pub at_has : (L : List (ℕ × SyncParts)) (n i : ℕ) → IsLinkAt L n i → has_link L n ≡ true
at_has [] n i a = absurd (let w = a.within in omega arith)
at_has (l ∷ L) n zero a = or_left (eqb l.0 n) (has_link L n) (eq-eqb l.0 n (a.number l))
at_has (l ∷ L) n (suc i) a = rw (not_first l L n i a) (at_has L n i (rest_at l L n i a))

-- ---- another link

pub other_with : (L : List (ℕ × SyncParts)) (n m : ℕ) (s : SyncParts) → eqb n m ≡ false → known_of (with_link L n s) m ≡ known_of L m
other_with [] n m s other = rw other refl
other_with (l ∷ L) n m s other =
    split (eqb l.0 n)
    (λ t. let differs : eqb l.0 m ≡ false = ap (λ (k : ℕ). eqb k m) (eqb-true l.0 n t) ∙ other in rw (t, other, differs) refl)
    (λ f. rw f (split (eqb l.0 m) (λ t. rw t refl) (λ g. rw g (other_with L n m s other))))

pub other_without : (L : List (ℕ × SyncParts)) (n m : ℕ) → eqb n m ≡ false → known_of (without_link L n) m ≡ known_of L m
other_without [] n m other = refl
other_without (l ∷ L) n m other =
    split (eqb l.0 n)
    (λ t. let differs : eqb l.0 m ≡ false = ap (λ (k : ℕ). eqb k m) (eqb-true l.0 n t) ∙ other in rw (t, differs) (other_without L n m other))
    (λ f. rw f (split (eqb l.0 m) (λ t. rw t refl) (λ g. rw g (other_without L n m other))))

pub has_with : (L : List (ℕ × SyncParts)) (n m : ℕ) (s : SyncParts) → eqb n m ≡ false → has_link L m ≡ false → has_link (with_link L n s) m ≡ false
has_with [] n m s other h = neither (eqb n m) false other refl
has_with (l ∷ L) n m s other h =
    split (eqb l.0 n)
    (λ t. rw t (neither (eqb n m) (has_link L m) other (neither_right (eqb l.0 m) (has_link L m) h)))
    (λ f. rw f (neither (eqb l.0 m) (has_link (with_link L n s) m) (neither_left (eqb l.0 m) (has_link L m) h) (has_with L n m s other (neither_right (eqb l.0 m) (has_link L m) h))))

pub has_without : (L : List (ℕ × SyncParts)) (n m : ℕ) → has_link L m ≡ false → has_link (without_link L n) m ≡ false
has_without [] n m h = refl
has_without (l ∷ L) n m h =
    let rest = has_without L n m (neither_right (eqb l.0 m) (has_link L m) h) in
    split (eqb l.0 n) (λ t. rw t rest) (λ f. rw f (neither (eqb l.0 m) (has_link (without_link L n) m) (neither_left (eqb l.0 m) (has_link L m) h) rest))

-- ---- what links keep

once_with : (L : List (ℕ × SyncParts)) (n : ℕ) (s : SyncParts) → NumbersOnce L → NumbersOnce (with_link L n s)
once_with [] n s h = (refl, tt)
once_with (l ∷ L) n s h =
    split (eqb l.0 n)
    (λ t. rw t (subst (λ (m : ℕ). has_link L m ≡ false) (eqb-true l.0 n t) h.0, h.1))
    (λ f. rw f (has_with L n l.0 s (turned l.0 n f) h.0, once_with L n s h.1))

once_without : (L : List (ℕ × SyncParts)) (n : ℕ) → NumbersOnce L → NumbersOnce (without_link L n)
once_without [] n h = tt
once_without (l ∷ L) n h = split (eqb l.0 n) (λ t. rw t (once_without L n h.1)) (λ f. rw f (has_without L n l.0 h.0, once_without L n h.1))

len_with : (L : List (ℕ × SyncParts)) (n : ℕ) (s : SyncParts) → has_link L n ≡ true → length (with_link L n s) ≡ length L
len_with [] n s h = absurd cc
len_with (l ∷ L) n s h = split (eqb l.0 n) (λ t. rw t refl) (λ f. rw f (ap suc (len_with L n s (subst (λ (b : Bool). (b || has_link L n) ≡ true) f h))))

len_without : (L : List (ℕ × SyncParts)) (n : ℕ) → length (without_link L n) ≤ length L
len_without [] n = omega arith
len_without (l ∷ L) n = let r = len_without L n in split (eqb l.0 n) (λ t. rw t (omega arith)) (λ f. rw f (omega arith))

below : (n : ℕ) → nat_le MAX_LINKS n ≡ false → n < MAX_LINKS
below n f = grind (arith, nat_tests)

pub old_is_none_too_many : (L : List (ℕ × SyncParts)) (n i : ℕ) → IsLinkAt L n i → is_one_too_many L n ≡ false
old_is_none_too_many L n i a = let h = at_has L n i a in rw h refl

pub new_is_one_too_many : (L : List (ℕ × SyncParts)) (n : ℕ) → has_link L n ≡ false → nat_le MAX_LINKS (length L) ≡ is_one_too_many L n
new_is_one_too_many L n h = rw h refl

few_new : (L : List (ℕ × SyncParts)) (n : ℕ) → has_link L n ≡ false → is_one_too_many L n ≡ false → length L < MAX_LINKS
few_new L n h room = split (nat_le MAX_LINKS (length L)) (λ t. absurd (let e : is_one_too_many L n ≡ true = rw (h, t) refl in cc)) (λ f. below (length L) f)

pub links_with : (L : List (ℕ × SyncParts)) (n : ℕ) (s : SyncParts) → AreLinks L → is_one_too_many L n ≡ false → AreLinks (with_link L n s)
links_with L n s h room = record {
  few = split (has_link L n)
      (λ t. let e = len_with L n s t in let f = h.few in rw e f)
      (λ f. let e = few_new L n f room in let len : length (with_link L n s) ≡ length L + 1 = ap length (none_with L n s f) ∙ length-append L ((n, s) ∷ []) in omega arith);
  once = once_with L n s h.once;
}

pub links_without : (L : List (ℕ × SyncParts)) (n : ℕ) → AreLinks L → AreLinks (without_link L n)
links_without L n h = record { few = let r = len_without L n in let f = h.few in omega arith; once = once_without L n h.once }

-- ---- what calls do to links

pub stays : (call : Call) (L : List (ℕ × SyncParts)) → MovesLinks call L L
stays (Edit splices time message) L = refl
stays (Merge other) L = refl
stays (Receive link bytes) L = inl refl
stays (Generate link) L = inl refl
stays (Forget link) L = inl refl
stays Read L = refl
stays (ReadAt H) L = refl
stays ReadHeads L = refl

touch_leaves : (L L' : List (ℕ × SyncParts)) (link : ℕ) → TouchesLink L link L' → AreLinks L → AreLinks L'
touch_leaves L L' link (inl same) h = subst AreLinks (sym same) h
touch_leaves L L' link (inr t) h = subst AreLinks (sym t.2) (links_with L link t.0 h t.1)

forget_leaves : (L L' : List (ℕ × SyncParts)) (link : ℕ) → (L' ≡ L) ⊎ (L' ≡ without_link L link) → AreLinks L → AreLinks L'
forget_leaves L L' link (inl same) h = subst AreLinks (sym same) h
forget_leaves L L' link (inr gone) h = subst AreLinks (sym gone) (links_without L link h)

pub moves_leave : (call : Call) (L L' : List (ℕ × SyncParts)) → MovesLinks call L L' → AreLinks L → AreLinks L'
moves_leave (Receive link bytes) L L' m h = touch_leaves L L' link m h
moves_leave (Generate link) L L' m h = touch_leaves L L' link m h
moves_leave (Forget link) L L' m h = forget_leaves L L' link m h
moves_leave (Edit splices time message) L L' m h = subst AreLinks (sym m) h
moves_leave (Merge other) L L' m h = subst AreLinks (sym m) h
moves_leave Read L L' m h = subst AreLinks (sym m) h
moves_leave (ReadAt H) L L' m h = subst AreLinks (sym m) h
moves_leave ReadHeads L L' m h = subst AreLinks (sym m) h
