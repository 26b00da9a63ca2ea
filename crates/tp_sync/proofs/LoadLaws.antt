-- What a message carries, by marks of the changes that are due.
use Rattle.tp_sync.proofs.Common.{◌≡◌, ◌<◌, ◌≤◌, ◌↔◌, inl, inr, ℕ, List, [], ◌∷◌, ◌++◌, length, length-append, Bool, true, false, ◌||◌, ◌&&◌, not, cond, Some, drop, take, map, filter, refl, sym, ap, ◌∙◌, subst, nat_lt, arith, list_any, nat_tests, In, filter-In, In-left, truth, never, not_true, or_left, or_right, Hash, ChangeParts, hash_of, names, has, heads, past, pick, marks_since, Sound, In-has, SyncParts, declared_hashes, begins_at, message_changes, due, due_from, due_of, is_any, is_due, is_truncated, take_due, option_map, has-In, length-map, neither, names-In, In-names, deps_first, past-heads, past-more, starts_over}
use Rattle.tp_sync.proofs.MarkLaws.{marks_are_due, any-drop, any-take, pick-drop}
use Rattle.tp_sync.proofs.TakeLaws.{carried_within, due_parts, piece}

-- ---- by marks

-- The marks say of each change whether it is due.
pub record AreMarks (C : List ChangeParts) (s : SyncParts) (marks : List Bool) : Type 0 where
  pub long : length marks ≡ length C
  pub any : (n : ℕ) → list_any (λ (b : Bool). b) (drop n marks) ≡ is_any (due_from C s n)
  pub picks : (n : ℕ) → pick (drop n marks) (drop n C) ≡ due_from C s n
  pub front : (n : ℕ) → list_any (λ (b : Bool). b) (take n marks) ≡ is_any (due_of C (declared_hashes s) s.wants (take n C))

pub are_marks : (C : List ChangeParts) (theirs : List Hash) (s : SyncParts) (marks : List Bool) → Sound C → declared_hashes s ≡ Some theirs → marks ≡ marks_since C theirs s.wants → AreMarks C s marks
are_marks C theirs s marks sound e m =
    let f : ChangeParts → Bool = is_due C theirs s.wants in
    let are : marks ≡ map f C = m ∙ marks_are_due C theirs s.wants sound in
    let by : (D : List ChangeParts) → filter f D ≡ due_of C (declared_hashes s) s.wants D = λ D. ap (λ o. due_of C o s.wants D) (sym e) in
    record {
      long = ap length are ∙ length-map C f;
      any = λ n. ap (λ l. list_any (λ (b : Bool). b) (drop n l)) are ∙ any-drop f C n ∙ ap is_any (by (drop n C));
      picks = λ n. ap (λ l. pick (drop n l) (drop n C)) are ∙ pick-drop f C n ∙ by (drop n C);
      front = λ n. ap (λ l. list_any (λ (b : Bool). b) (take n l)) are ∙ any-take f C n ∙ ap is_any (by (take n C));
    }

pub begins_by : (C : List ChangeParts) (s : SyncParts) (marks : List Bool) (goes_on : Bool) (from : ℕ) → AreMarks C s marks → goes_on ≡ list_any (λ (b : Bool). b) (drop s.next marks) → from ≡ cond goes_on s.next 0 → from ≡ begins_at C s
begins_by C s marks goes_on from w g f = f ∙ ap (λ b. cond b s.next 0) (g ∙ w.any s.next)

pub carried_by : (C : List ChangeParts) (s : SyncParts) (marks : List Bool) (from : ℕ) (changes : List ChangeParts) → AreMarks C s marks → from ≡ begins_at C s
    → changes ≡ take_due 0 0 (pick (drop from marks) (drop from C)) → changes ≡ message_changes C s
carried_by C s marks from changes w f e = e ∙ ap (take_due 0 0) (w.picks from) ∙ ap (λ n. take_due 0 0 (due_from C s n)) f

some_counts : (D : List ChangeParts) (n : ℕ) → n ≡ length D → nat_lt 0 n ≡ is_any D
some_counts [] n e = rw e refl
some_counts (c ∷ D) n e = let more : 0 < n = omega arith in grind (arith, nat_tests)

-- Where nothing is due from the next place on, something is carried where something is due.
carries_some : (C : List ChangeParts) (s : SyncParts) (on : Bool) → is_any (due_from C s s.next) ≡ on → (is_any (message_changes C s) && not on) ≡ (is_any (due C s) && not on)
carries_some C s true e = no (is_any (message_changes C s)) (is_any (due C s)) where
  no : (a b : Bool) → (a && false) ≡ (b && false)
  no true true = refl
  no true false = refl
  no false true = refl
  no false false = refl
carries_some C s false e =
    ap (λ b. b && true) (ap (λ (b : Bool). is_any (take_due 0 0 (due_from C s (cond b s.next 0)))) e ∙ first (due C s)) where
      first : (D : List ChangeParts) → is_any (take_due 0 0 D) ≡ is_any D
      first [] = refl
      first (c ∷ D) = refl

-- a front that is there too counts
counted : (F D : List ChangeParts) (n : ℕ) → n ≤ length D → nat_lt n (length (F ++ D)) ≡ (nat_lt n (length D) || is_any F)
counted [] D n le = sym (or_none (nat_lt n (length D))) where
  or_none : (b : Bool) → (b || false) ≡ b
  or_none true = refl
  or_none false = refl
counted (c ∷ F) D n le =
    let more : n < length ((c ∷ F) ++ D) = let sizes = length-append (c ∷ F) D in omega (arith, sizes, le) in
    let yes : nat_lt n (length ((c ∷ F) ++ D)) ≡ true = grind (arith, nat_tests) in
    yes ∙ sym (or_right (nat_lt n (length D)) true refl)

-- Due changes are left out where one is from where the message began, or one before.
pub left_out_by : (C : List ChangeParts) (s : SyncParts) (marks : List Bool) (from count : ℕ) (left : Bool) → AreMarks C s marks → from ≡ begins_at C s → count ≡ length (message_changes C s)
    → left ≡ nat_lt count (length (pick (drop from marks) (drop from C))) → is_truncated C s ≡ (left || list_any (λ (b : Bool). b) (take from marks))
left_out_by C s marks from count left w f n l =
    let F : List ChangeParts = due_of C (declared_hashes s) s.wants (take from C) in
    let D : List ChangeParts = due_from C s from in
    let few : length (message_changes C s) ≤ length D = subst (λ (m : ℕ). length (message_changes C s) ≤ length (due_from C s m)) (sym f) (carried_within C s) in
    let is : left ≡ nat_lt (length (message_changes C s)) (length D) = l ∙ ap (λ m. nat_lt m (length (pick (drop from marks) (drop from C)))) n ∙ ap (λ E. nat_lt (length (message_changes C s)) (length E)) (w.picks from) in
    ap (λ E. nat_lt (length (message_changes C s)) (length E)) (due_parts C s from)
    ∙ counted F D (length (message_changes C s)) few
    ∙ ap (λ b. b || is_any F) (sym is)
    ∙ ap (λ b. left || b) (sym (w.front from))

pub again_by : (C : List ChangeParts) (s : SyncParts) (marks : List Bool) (goes_on : Bool) (count : ℕ) → AreMarks C s marks → goes_on ≡ list_any (λ (b : Bool). b) (drop s.next marks)
    → count ≡ length (message_changes C s) → (nat_lt 0 count && not goes_on) ≡ starts_over C s
again_by C s marks goes_on count w g n =
    ap (λ b. nat_lt 0 count && not b) (g ∙ w.any s.next) ∙ ap (λ b. b && not (is_any (due_from C s s.next))) (some_counts (message_changes C s) count n)
    ∙ carries_some C s (is_any (due_from C s s.next)) refl

-- ---- where nothing is due

-- What a message carries then: nothing.
pub record CarriesNone (C : List ChangeParts) (s : SyncParts) : Type 0 where
  pub none : [] ≡ message_changes C s
  pub again : false ≡ starts_over C s
  pub whole : false ≡ is_truncated C s

pub carries_none : (C : List ChangeParts) (s : SyncParts) → due C s ≡ [] → CarriesNone C s
carries_none C s e =
    let p = piece C s in
    let no : message_changes C s ≡ [] = inner p.before (message_changes C s) p.beyond (sym p.joined ∙ e) in
    record {
      none = sym no;
      again = sym (ap (λ l. is_any l && not (is_any (due_from C s s.next))) e);
      whole = sym (ap (λ l. nat_lt (length l) (length (due C s))) no ∙ ap (λ l. nat_lt 0 (length l)) e);
    } where
      inner : (A B D : List ChangeParts) → A ++ (B ++ D) ≡ [] → B ≡ []
      inner [] [] D f = refl
      inner [] (b ∷ B) D f = cc
      inner (a ∷ A) B D f = cc

-- ---- heads that are the same

filter-none : (f : ChangeParts → Bool) (C : List ChangeParts) → ((c : ChangeParts) → In c C → f c ≡ false) → filter f C ≡ []
filter-none f [] h = refl
filter-none f (c ∷ C) h = ap (λ b. cond b (c ∷ filter f C) (filter f C)) (h c (inl refl)) ∙ filter-none f C (λ d i. h d (inr i))

any-In : (C : List ChangeParts) (H : List Hash) → list_any (λ (h : Hash). has C h) H ≡ true → (h : Hash) × In h H × (has C h ≡ true)
any-In C [] e = cc
any-In C (h ∷ H) e = elim (truth (has C h)) [
  | inl t ↦ (h, inl refl, t)
  | inr f ↦ let w = any-In C H (ap (λ b. b || list_any (λ (h : Hash). has C h) H) (sym f) ∙ e) in (w.0, inr w.1, w.2)
]

In-any : (C : List ChangeParts) (H : List Hash) (h : Hash) → In h H → has C h ≡ true → list_any (λ (h : Hash). has C h) H ≡ true
In-any C [] h i e = absurd i
In-any C (g ∷ H) h (inl k) e = ap (λ b. b || list_any (λ (h : Hash). has C h) H) (ap (has C) (sym k) ∙ e)
In-any C (g ∷ H) h (inr j) e = elim (truth (has C g)) [
  | inl t ↦ or_left (has C g) (list_any (λ (h : Hash). has C h) H) t
  | inr f ↦ ap (λ b. b || list_any (λ (h : Hash). has C h) H) f ∙ In-any C H h j e
]

-- where the other has the heads, only what it wants is due
even_due : (C : List ChangeParts) (known wants : List Hash) (c : ChangeParts) → Sound C → In c C → is_due C (heads C ++ known) wants c ≡ (names wants c || false)
even_due C known wants c sound i =
    let theirs : List Hash = heads C ++ known in
    let under : In c (past C (heads C)) = subst (In c) (sym (past-heads C (deps_first C sound))) i in
    let all : has (past C theirs) (hash_of c) ≡ true = In-has (past C theirs) c (hash_of c) (past-more C (heads C) theirs (λ h j. In-left h (heads C) known j) c under) refl in
    ap (λ b. names wants c || not b) all

pub even_is : (C : List ChangeParts) (s : SyncParts) → Sound C → s.theirs ≡ Some (heads C) → (list_any (λ (h : Hash). has C h) s.wants ≡ false) ↔ (due C s ≡ [])
even_is C s sound e =
    let theirs : List Hash = heads C ++ s.known in
    let by : due C s ≡ filter (is_due C theirs s.wants) C = ap (λ o. due_of C (option_map (λ (hs : List Hash). hs ++ s.known) o) s.wants C) e in (
      λ none. by ∙ filter-none (is_due C theirs s.wants) C (λ c i. even_due C s.known s.wants c sound i ∙ neither (names s.wants c) false
          (not_true (names s.wants c) (λ t. never (In-any C s.wants (hash_of c) (names-In s.wants c t) (In-has C c (hash_of c) i refl)) none)) refl),
      λ none. not_true (list_any (λ (h : Hash). has C h) s.wants) (λ t.
          let w = any-In C s.wants t in
          let c = has-In C w.0 w.2 in
          let wanted : names s.wants c.0 ≡ true = In-names s.wants c.0 (subst (λ h. In h s.wants) (sym c.2) w.1) in
          let is : is_due C theirs s.wants c.0 ≡ true = even_due C s.known s.wants c.0 sound c.1 ∙ or_left (names s.wants c.0) false wanted in
          subst (In c.0) (sym by ∙ none) (filter-In (is_due C theirs s.wants) C c.0 c.1 is)),
    )

pub not_any : (b : Bool) → (not b ≡ true) ↔ (b ≡ false)
not_any true = (λ e. sym e, λ e. sym e)
not_any false = (λ e. refl, λ e. refl)
