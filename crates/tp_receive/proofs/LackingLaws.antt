-- What the changes that wait are known to lack: what follows, and what stays known.
use Rattle.tp_receive.proofs.Common.{◌≡◌, ◌⊎◌, inl, inr, ℕ, suc, zero, ◌+◌, ◌<◌, ◌≤◌, List, [], ◌∷◌, ◌++◌, length, Bool, true, false, Option, Some, None, take, drop, set, replicate, refl, sym, ap, ◌∙◌, subst, arith, get_or, slice_get, remove, take_more, never, not_true, Hash, same_hash, same_hash-same, ChangeParts, hash_of, has, has_all, cause, has-append, In-has, AllWait, lacks_deps, GainsOnly, KnowsApart, KnowsLack, Lacks, LacksApart, get_or_from_slice_get, slice_get-get_or, AllZip-long, In-slice_get, HashesOnce, AllZip, take_all, take_more_set, drop_more, drop-set-lt, set-get_or, get_or-set_other, slice_get_within, all_zipped_more, neither_left, neither_right, same_hash-itself, lacks_it, slice_get-there}
use Rattle.std.specs.Option.{is_some}
use Rattle.tp_receive.proofs.CausesLaws.{lacks_cause, lacks_one, waits_again, waits_for}
use Rattle.std.proofs.lemmas.Bool.{cases_lt}

-- ---- lists whose elements belong together, one by one

pub zipped_none : {A B : Type 0} (Q : A → B → Type 0) (xs : List A) (y : B) → ((x : A) → Q x y) → AllZip Q xs (replicate (length xs) y)
zipped_none Q [] y f = tt
zipped_none Q (x ∷ xs) y f = (f x, zipped_none Q xs y f)

pub zipped_at : {A B : Type 0} (Q : A → B → Type 0) (xs : List A) (ys : List B) (i : ℕ) (x : A) (y : B) → AllZip Q xs ys → slice_get xs i ≡ Some x → slice_get ys i ≡ Some y → Q x y
zipped_at Q [] [] i x y all e f = cc
zipped_at Q [] (b ∷ ys) i x y all e f = absurd all
zipped_at Q (a ∷ xs) [] i x y all e f = absurd all
zipped_at {A = A} {B = B} Q (a ∷ xs) (b ∷ ys) zero x y all e f =
    let one : a ≡ x = cc in
    let two : b ≡ y = cc in
    subst (λ (z : B). Q x z) two (subst (λ (z : A). Q z b) one all.0)
zipped_at Q (a ∷ xs) (b ∷ ys) (suc i) x y all e f = zipped_at Q xs ys i x y all.1 e f

pub zipped_set : {A B : Type 0} (Q : A → B → Type 0) (xs : List A) (ys : List B) (i : ℕ) (x : A) (y : B) → AllZip Q xs ys → slice_get xs i ≡ Some x → Q x y → AllZip Q xs (set ys i y)
zipped_set Q [] [] i x y all e q = cc
zipped_set Q [] (b ∷ ys) i x y all e q = absurd all
zipped_set Q (a ∷ xs) [] i x y all e q = absurd all
zipped_set {A = A} Q (a ∷ xs) (b ∷ ys) zero x y all e q = let one : a ≡ x = cc in (subst (λ (z : A). Q z y) (sym one) q, all.1)
zipped_set Q (a ∷ xs) (b ∷ ys) (suc i) x y all e q = (all.0, zipped_set Q xs ys i x y all.1 e q)

pub zipped_remove : {A B : Type 0} (Q : A → B → Type 0) (xs : List A) (ys : List B) (i : ℕ) → AllZip Q xs ys → AllZip Q (remove xs i) (remove ys i)
zipped_remove Q [] [] zero all = tt
zipped_remove Q [] [] (suc i) all = tt
zipped_remove Q [] (b ∷ ys) i all = absurd all
zipped_remove Q (a ∷ xs) [] i all = absurd all
zipped_remove Q (a ∷ xs) (b ∷ ys) zero all = all.1
zipped_remove Q (a ∷ xs) (b ∷ ys) (suc i) all = (all.0, zipped_remove Q xs ys i all.1)

-- Up to the number i the elements belong together by the one rule, and from there on by the other.
pub record IsHalfway {A B : Type 0} (Q R : A → B → Type 0) (xs : List A) (ys : List B) (i : ℕ) : Type 0 where
  pub done : AllZip R (take i xs) (take i ys)
  pub left : AllZip Q (drop i xs) (drop i ys)

pub halfway_more : {A B : Type 0} (Q R : A → B → Type 0) (xs : List A) (ys : List B) (i : ℕ) (x : A) (y z : B) → i < length xs → length ys ≡ length xs → x ≡ get_or xs i x → y ≡ get_or ys i y
    → (Q x y → R x z) → IsHalfway Q R xs ys i → IsHalfway Q R xs (set ys i z) (i + 1)
halfway_more {A = A} {B = B} Q R xs ys i x y z small same is js f h =
    let there : i < length ys = omega (arith, same) in
    let w = subst (λ (l : List B). AllZip Q (get_or xs i x ∷ drop (i + 1) xs) l) (drop_more ys i y there) (subst (λ (l : List A). AllZip Q l (drop i ys)) (drop_more xs i x small) h.left) in
    let now : R x z = f (subst (λ (b : B). Q x b) (sym js) (subst (λ (a : A). Q a (get_or ys i y)) (sym is) w.0)) in
    record {
      done = rw (take_more xs i x small, take_more_set ys i z there, ← is) (all_zipped_more R (take i xs) (take i ys) x z h.done now);
      left = subst (AllZip Q (drop (i + 1) xs)) (sym (drop-set-lt (i + 1) ys i z (omega arith))) w.1;
    }

pub halfway_stays : {A B : Type 0} (Q R : A → B → Type 0) (xs : List A) (ys : List B) (i : ℕ) (x : A) (y : B) → i < length xs → length ys ≡ length xs → x ≡ get_or xs i x → y ≡ get_or ys i y
    → (Q x y → R x y) → IsHalfway Q R xs ys i → IsHalfway Q R xs ys (i + 1)
halfway_stays Q R xs ys i x y small same is js f h =
    subst (λ l. IsHalfway Q R xs l (i + 1)) (ap (set ys i) js ∙ set-get_or ys i y) (halfway_more Q R xs ys i x y y small same is js f h)

pub halfway_end : {A B : Type 0} (Q R : A → B → Type 0) (xs : List A) (ys : List B) (i : ℕ) → length xs ≤ i → length ys ≡ length xs → IsHalfway Q R xs ys i → AllZip R xs ys
halfway_end Q R xs ys i past same h = rw (take_all i xs past, take_all i ys (omega (arith, same))) at h.done

-- ---- what is known of a change

-- One that is known to lack a dependency must wait.
pub known_waits : (C : List ChangeParts) (c : ChangeParts) (h : Hash) → Lacks C c (Some h) → lacks_deps (cause C c) ≡ true
known_waits C c h k = ap lacks_deps (waits_again C c k.0 (lacks_one C c.deps h k.1 k.2))

-- One that lacks none, or that is known, needn't wait.
pub whole_enters : (C : List ChangeParts) (c : ChangeParts) → has_all C c.deps ≡ true → false ≡ lacks_deps (cause C c)
whole_enters C c there = sym (not_true (lacks_deps (cause C c)) (λ t. never there (waits_for C c (lacks_cause (cause C c) t)).1))

pub known_enters : (C : List ChangeParts) (c : ChangeParts) → has C (hash_of c) ≡ true → false ≡ lacks_deps (cause C c)
known_enters C c known = sym (not_true (lacks_deps (cause C c)) (λ t. never known (waits_for C c (lacks_cause (cause C c) t)).0))

-- What enters as the last is all that comes to be there.
pub gains_last : (C : List ChangeParts) (x : ChangeParts) → GainsOnly C (C ++ x ∷ []) (hash_of x)
gains_last C x h other lacks = has-append C (x ∷ []) h ∙ rw (lacks, other) refl

-- ---- the changes that wait, one of them at a time

-- An element that was read is what is there.
pub read_at : {X : Type 0} (V W : List X) (i : ℕ) (d c : X) → V ≡ W → d ≡ get_or V i d → slice_get W i ≡ Some c → d ≡ c
read_at V W i d c same is get = is ∙ ap (λ l. get_or l i d) same ∙ get_or_from_slice_get W i c d get

-- There is an entry for each that waits.
pub entry_within : (C W : List ChangeParts) (L : List (Option Hash)) (i : ℕ) → KnowsLack C W L → i < length W → i < length L
entry_within C W L i knows small = omega (arith, AllZip-long (Lacks C) W L knows)

-- an entry that is there
pub entry_there : {Y : Type 0} (L : List Y) (i : ℕ) → i < length L → (y : Y) × (y ≡ get_or L i y)
entry_there L i small = let w = slice_get-there L i small in (w.0, sym (get_or_from_slice_get L i w.0 w.0 w.1))

pub known_at : (C W : List ChangeParts) (L : List (Option Hash)) (i : ℕ) (b : Bool) (c : ChangeParts) → KnowsLack C W L → ((l : Option Hash) → slice_get L i ≡ Some l → b ≡ is_some l) → b ≡ true → slice_get W i ≡ Some c
    → true ≡ lacks_deps (cause C c)
known_at C W L i b c knows is t get = by (slice_get-there L i (entry_within C W L i knows (slice_get_within W i c get))) where
  by : (l : Option Hash) × (slice_get L i ≡ Some l) → true ≡ lacks_deps (cause C c)
  by (None, e) = let w : true ≡ false = sym t ∙ is None e in cc
  by (Some h, e) = sym (known_waits C c h (zipped_at (Lacks C) W L i c (Some h) knows get e))

-- one that waits no longer
pub KnowsLack-removed : (C W V : List ChangeParts) (L M : List (Option Hash)) (i : ℕ) → KnowsLack C W L → V ≡ remove W i → M ≡ remove L i → KnowsLack C V M
KnowsLack-removed C W V L M i knows v m = rw (v, m) (zipped_remove (Lacks C) W L i knows)

-- one more that waits
pub KnowsLack-pushed : (C W V : List ChangeParts) (L M : List (Option Hash)) (c : ChangeParts) → KnowsLack C W L → V ≡ W ++ c ∷ [] → M ≡ L ++ None ∷ [] → KnowsLack C V M
KnowsLack-pushed C W V L M c knows v m = rw (v, m) (all_zipped_more (Lacks C) W L c None knows tt)

-- ---- what stays known where a change entered

pub apart_of : (C : List ChangeParts) (x : Hash) (c : ChangeParts) (o : Option Hash) → same_hash x (hash_of c) ≡ false → Lacks C c o → LacksApart C x c o
apart_of C x c None apart k = tt
apart_of C x c (Some h) apart k = (apart, k)

-- What one lacks it still lacks where another entered.
pub still_lacks : (C D : List ChangeParts) (x : Hash) (c : ChangeParts) (o : Option Hash) → GainsOnly C D x → lacks_it x o ≡ false → LacksApart C x c o → Lacks D c o
still_lacks C D x c None gains other k = tt
still_lacks C D x c (Some h) gains other k = (gains (hash_of c) k.0 k.1.0, k.1.1, gains h other k.1.2)

-- None of those that wait has the hash.
pub knows_apart : (C : List ChangeParts) (x : Hash) (W : List ChangeParts) (L : List (Option Hash)) → has W x ≡ false → KnowsLack C W L → KnowsApart C x W L
knows_apart C x [] [] new k = tt
knows_apart C x [] (o ∷ L) new k = absurd k
knows_apart C x (c ∷ W) [] new k = absurd k
knows_apart C x (c ∷ W) (o ∷ L) new k =
    let other : same_hash x (hash_of c) ≡ false =
    not_true (same_hash x (hash_of c))
    (λ t. never (subst (λ h. same_hash (hash_of c) h ≡ true) (sym (same_hash-same x (hash_of c) t)) (same_hash-itself (hash_of c))) (neither_left (same_hash (hash_of c) x) (has W x) new)) in
    (apart_of C x c o other k.0, knows_apart C x W L (neither_right (same_hash (hash_of c) x) (has W x) new) k.1)

-- Of those whose hashes wait once, no other has the hash of the one that is taken out.
pub removed_once : (W : List ChangeParts) (i : ℕ) (c : ChangeParts) → HashesOnce W → slice_get W i ≡ Some c → has (remove W i) (hash_of c) ≡ false
removed_once [] i c o e = cc
removed_once (d ∷ W) zero c o e = let same : d ≡ c = cc in subst (λ x. has W (hash_of x) ≡ false) same o.0
removed_once (d ∷ W) (suc i) c o e =
    let apart : same_hash (hash_of d) (hash_of c) ≡ false =
    not_true (same_hash (hash_of d) (hash_of c)) (λ t. never (In-has W c (hash_of d) (In-slice_get W i c e) (sym (same_hash-same (hash_of d) (hash_of c) t))) o.0) in
    rw (apart, removed_once W i c o.1 e) refl

-- What is known of the others where one is taken out: nothing of one with its hash.
pub knows_after : (C W V : List ChangeParts) (L M : List (Option Hash)) (i : ℕ) (c : ChangeParts) (x : Hash) → HashesOnce W → slice_get W i ≡ Some c → x ≡ hash_of c → KnowsLack C W L → V ≡ remove W i → M ≡ remove L i
    → KnowsApart C x V M
knows_after C W V L M i c x once get is knows v m =
    knows_apart C x V M (ap (has V) is ∙ ap (λ l. has l (hash_of c)) v ∙ removed_once W i c once get) (KnowsLack-removed C W V L M i knows v m)

-- the step to the next one, which isn't known to lack another any more
pub forgets_one : (C D W : List ChangeParts) (L M : List (Option Hash)) (i : ℕ) (x : Hash) → KnowsApart C x W L → length M ≡ length L → i < length M → IsHalfway (LacksApart C x) (Lacks D) W M i
    → IsHalfway (LacksApart C x) (Lacks D) W (set M i None) (i + 1)
forgets_one C D W L M i x k same small h =
    let long = AllZip-long (LacksApart C x) W L k in
    let c = entry_there W i (omega (arith, long, same)) in
    let y = entry_there M i small in
    halfway_more (LacksApart C x) (Lacks D) W M i c.0 y.0 None (omega (arith, long, same)) (same ∙ long) c.1 y.1 (λ q. tt) h

-- and to the next one where it stays known
pub keeps_one : (C D W : List ChangeParts) (L M : List (Option Hash)) (i : ℕ) (x : Hash) (o : Option Hash) → GainsOnly C D x → KnowsApart C x W L → length M ≡ length L → i < length M → o ≡ get_or M i o → lacks_it x o ≡ false
    → IsHalfway (LacksApart C x) (Lacks D) W M i → IsHalfway (LacksApart C x) (Lacks D) W M (i + 1)
keeps_one C D W L M i x o gains k same small is other h =
    let long = AllZip-long (LacksApart C x) W L k in
    let c = entry_there W i (omega (arith, long, same)) in
    halfway_stays (LacksApart C x) (Lacks D) W M i c.0 o (omega (arith, long, same)) (same ∙ long) c.1 is (still_lacks C D x c.0 o gains other) h

pub forget_end : (C D W : List ChangeParts) (L M : List (Option Hash)) (i : ℕ) (x : Hash) → KnowsApart C x W L → length M ≡ length L → length M ≤ i → IsHalfway (LacksApart C x) (Lacks D) W M i → KnowsLack D W M
forget_end C D W L M i x k same past h =
    let long = AllZip-long (LacksApart C x) W L k in
    halfway_end (LacksApart C x) (Lacks D) W M i (omega (arith, long, same)) (same ∙ long) h

-- Of the first n something is known.
abbrev pub AreKnown : ℕ → List (Option Hash) → Type 0
AreKnown n L = (j : ℕ) → j < n → is_some (get_or L j None) ≡ true

pub known_before : (n i : ℕ) (L : List (Option Hash)) (o : Option Hash) → n ≤ i → AreKnown n L → AreKnown n (set L i o)
known_before n i L o few known j small = ap is_some (get_or-set_other L i j o None (λ e. absurd (omega (arith, e, small)))) ∙ known j small

pub known_more : (n i : ℕ) (L : List (Option Hash)) (o : Option Hash) → n ≡ i → i < length L → o ≡ get_or L i o → is_some o ≡ true → AreKnown n L → AreKnown (i + 1) L
known_more n i L o e within is some known j small = elim (cases_lt j i) [
  | inl less ↦ known j (omega (arith, e))
  | inr over ↦
      let same : i ≡ j = omega arith in
      subst (λ k. is_some (get_or L k None) ≡ true) same (ap is_some (get_or_from_slice_get L i o None (slice_get-get_or L i o within ∙ ap Some (sym is))) ∙ some)
]

-- Those that are known to lack another must wait.
pub all_known : (D W : List ChangeParts) (L : List (Option Hash)) (n : ℕ) → KnowsLack D W L → AreKnown n L → AllWait D (take n W)
all_known D W L zero k known c i = absurd i
all_known D [] [] (suc n) k known c i = absurd i
all_known D [] (o ∷ L) (suc n) k known c i = absurd k
all_known D (d ∷ W) [] (suc n) k known c i = absurd k
all_known D (d ∷ W) (None ∷ L) (suc n) k known c i = let no : false ≡ true = known 0 (omega arith) in cc
all_known D (d ∷ W) (Some h ∷ L) (suc n) k known c (inl e) = rw e (known_waits D d h k.0)
all_known D (d ∷ W) (Some h ∷ L) (suc n) k known c (inr i) = all_known D W L n k.1 (λ j small. known (suc j) (omega arith)) c i
