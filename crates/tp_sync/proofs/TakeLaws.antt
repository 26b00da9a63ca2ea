-- Laws of what a message takes.
use Rattle.tp_sync.proofs.Common.{◌≡◌, ◌<◌, ◌≤◌, ℕ, suc, zero, ◌+◌, inl, inr, List, [], ◌∷◌, ◌++◌, length, Bool, true, false, cond, Some, drop, get_or, refl, sym, ap, subst, ◌∙◌, arith, add-one, append_assoc, append-nil, filter, length-append, take, Option, None, nat_le, slice_get, slice_get-there, take-append-drop, nat_tests, Hash, ChangeParts, spelling, pick, In, In-filter, In-left, In-right, neither_left, truth, MAX_CHANGES, SyncParts, declared_hashes, begins_at, message_changes, due, due_from, due_of, is_any, is_due, is_truncated, take_due, FULL_BYTES, is_message_full, IsInfixOf, MovesOn}

pick-step : (bs : List Bool) (C : List ChangeParts) (i : ℕ) (c : ChangeParts) → length bs ≡ length C → slice_get C i ≡ Some c
    → pick (drop i bs) (drop i C) ≡ cond (get_or bs i false) (c ∷ pick (drop (suc i) bs) (drop (suc i) C)) (pick (drop (suc i) bs) (drop (suc i) C))
pick-step bs [] i c l e = cc
pick-step [] (x ∷ C) i c l e = absurd (omega arith)
pick-step (b ∷ bs) (x ∷ C) zero c l e = let s : x ≡ c = cc in rw s refl
pick-step (b ∷ bs) (x ∷ C) (suc i) c l e = let less : length bs ≡ length C = omega arith in pick-step bs C i c less e

-- a laden message takes nothing
pub take_due-laden : (count bytes : ℕ) (D : List ChangeParts) → is_message_full count bytes ≡ true → take_due count bytes D ≡ []
take_due-laden count bytes [] e = refl
take_due-laden count bytes (c ∷ D) e = ap (λ b. cond b [] (c ∷ take_due (count + 1) (bytes + length (spelling c)) D)) e

pub take_due-on : (count bytes : ℕ) (c : ChangeParts) (D : List ChangeParts) → is_message_full count bytes ≡ false → take_due count bytes (c ∷ D) ≡ c ∷ take_due (count + 1) (bytes + length (spelling c)) D
take_due-on count bytes c D e = ap (λ b. cond b [] (c ∷ take_due (count + 1) (bytes + length (spelling c)) D)) e

-- a change that is marked is the next that is picked
picked_next : (bs : List Bool) (C : List ChangeParts) (i : ℕ) (c : ChangeParts) → length bs ≡ length C → slice_get C i ≡ Some c → get_or bs i false ≡ true
    → pick (drop i bs) (drop i C) ≡ c ∷ pick (drop (i + 1) bs) (drop (i + 1) C)
picked_next bs C i c l e f =
    let rest : ℕ → List ChangeParts = λ n. pick (drop n bs) (drop n C) in
    pick-step bs C i c l e ∙ ap (λ b. cond b (c ∷ rest (suc i)) (rest (suc i))) f ∙ ap (λ n. c ∷ rest n) (sym (add-one i))

-- and the next that is taken
pub taken_next : (bs : List Bool) (C : List ChangeParts) (i : ℕ) (c : ChangeParts) (count bytes : ℕ) → length bs ≡ length C → slice_get C i ≡ Some c → get_or bs i false ≡ true → is_message_full count bytes ≡ false
    → take_due count bytes (pick (drop i bs) (drop i C)) ≡ c ∷ take_due (count + 1) (bytes + length (spelling c)) (pick (drop (i + 1) bs) (drop (i + 1) C))
taken_next bs C i c count bytes l e f more =
    ap (take_due count bytes) (picked_next bs C i c l e f) ∙ take_due-on count bytes c (pick (drop (i + 1) bs) (drop (i + 1) C)) more

-- one is picked from a place on that is marked
pub some_picked : (bs : List Bool) (C : List ChangeParts) (i : ℕ) → length bs ≡ length C → i < length C → get_or bs i false ≡ true → is_any (pick (drop i bs) (drop i C)) ≡ true
some_picked bs C i l small f = let p = slice_get-there C i small in ap is_any (picked_next bs C i p.0 l p.1 f)

-- ---- what is carried is a piece of what is due

pub taken_prefix : (count bytes : ℕ) (D : List ChangeParts) → (rest : List ChangeParts) × (D ≡ take_due count bytes D ++ rest)
taken_prefix count bytes [] = ([], refl)
taken_prefix count bytes (c ∷ D) =
    let w = taken_prefix (count + 1) (bytes + length (spelling c)) D in
    elim (is_message_full count bytes) as (λ b. (rest : List ChangeParts) × (c ∷ D ≡ cond b [] (c ∷ take_due (count + 1) (bytes + length (spelling c)) D) ++ rest)) [
      | true ↦ (c ∷ D, refl)
      | false ↦ (w.0, ap (λ l. c ∷ l) w.1)
    ]

filter-append : (f : ChangeParts → Bool) (C D : List ChangeParts) → filter f (C ++ D) ≡ filter f C ++ filter f D
filter-append f [] D = refl
filter-append f (c ∷ C) D =
    elim (f c) as (λ b. cond b (c ∷ filter f (C ++ D)) (filter f (C ++ D)) ≡ cond b (c ∷ filter f C) (filter f C) ++ filter f D) [
      | true ↦ ap (λ l. c ∷ l) (filter-append f C D)
      | false ↦ filter-append f C D
    ]

due_of-append : (C : List ChangeParts) (theirs : Option (List Hash)) (wants : List Hash) (D E : List ChangeParts) → due_of C theirs wants (D ++ E) ≡ due_of C theirs wants D ++ due_of C theirs wants E
due_of-append C None wants D E = refl
due_of-append C (Some theirs) wants D E = filter-append (is_due C theirs wants) D E

-- what is due before a place, and what from there on
pub due_parts : (C : List ChangeParts) (s : SyncParts) (n : ℕ) → due C s ≡ due_of C (declared_hashes s) s.wants (take n C) ++ due_from C s n
due_parts C s n = ap (due_of C (declared_hashes s) s.wants) (sym (take-append-drop n C)) ∙ due_of-append C (declared_hashes s) s.wants (take n C) (drop n C)

-- no more is carried than is due from where a message begins
pub carried_within : (C : List ChangeParts) (s : SyncParts) → length (message_changes C s) ≤ length (due_from C s (begins_at C s))
carried_within C s =
    let w = taken_prefix 0 0 (due_from C s (begins_at C s)) in
    let sizes : length (due_from C s (begins_at C s)) ≡ length (message_changes C s) + length w.0 = ap length w.1 ∙ length-append (message_changes C s) w.0 in
    omega arith

pub piece : (C : List ChangeParts) (s : SyncParts) → IsInfixOf (message_changes C s) (due C s)
piece C s =
    let n = begins_at C s in
    let w = taken_prefix 0 0 (due_from C s n) in
    record {
      before = due_of C (declared_hashes s) s.wants (take n C);
      beyond = w.0;
      joined = due_parts C s n ∙ ap (λ l. due_of C (declared_hashes s) s.wants (take n C) ++ l) w.1;
    }

whole_piece : (part whole : List ChangeParts) → IsInfixOf part whole → length whole ≤ length part → part ≡ whole
whole_piece part whole w few =
    let sizes : length whole ≡ length w.before + (length part + length w.beyond) = ap length w.joined ∙ length-append w.before (part ++ w.beyond) ∙ ap (λ n. length w.before + n) (length-append part w.beyond) in
    let front : w.before ≡ [] = none w.before (omega arith) in
    let back : w.beyond ≡ [] = none w.beyond (omega arith) in
    sym (w.joined ∙ ap (λ l. l ++ (part ++ w.beyond)) front ∙ ap (λ l. part ++ l) back ∙ append-nil part) where
      none : (D : List ChangeParts) → length D ≤ 0 → D ≡ []
      none [] h = refl
      none (c ∷ D) h = absurd (omega arith)

-- where nothing is left out, all that is due is carried
pub all_carried : (C : List ChangeParts) (s : SyncParts) → is_truncated C s ≡ false → message_changes C s ≡ due C s
all_carried C s e = whole_piece (message_changes C s) (due C s) (piece C s) (grind (arith, nat_tests))

-- something is carried where something is due
some_taken : (D : List ChangeParts) → is_any D ≡ true → is_any (take_due 0 0 D) ≡ true
some_taken [] e = cc
some_taken (c ∷ D) e = refl

pub some_carried : (C : List ChangeParts) (s : SyncParts) → is_any (due C s) ≡ true → is_any (message_changes C s) ≡ true
some_carried C s e =
    elim (is_any (due_from C s s.next)) as (λ b. is_any (due_from C s s.next) ≡ b → is_any (take_due 0 0 (due_from C s (cond b s.next 0))) ≡ true) [
      | true ↦ λ f. some_taken (due_from C s s.next) f
      | false ↦ λ f. some_taken (due_from C s 0) e
    ] refl

-- ---- the loop that takes

-- What is taken so far, and then what is picked from the place on, is all that is picked; what is still to be taken of
-- that is all that a message takes.
pub record TakesOn (C : List ChangeParts) (marks : List Bool) (from old place : ℕ) (changes : List ChangeParts) (bytes next : ℕ) : Type 0 where
  pub all : changes ++ pick (drop place marks) (drop place C) ≡ pick (drop from marks) (drop from C)
  pub on : changes ++ take_due (length changes) bytes (pick (drop place marks) (drop place C)) ≡ take_due 0 0 (pick (drop from marks) (drop from C))
  pub moved : MovesOn C changes old next

pub TakesOn-laden : (C : List ChangeParts) (marks : List Bool) (from old place : ℕ) (changes : List ChangeParts) (bytes next : ℕ) → TakesOn C marks from old place changes bytes next
    → is_message_full (length changes) bytes ≡ true → changes ≡ take_due 0 0 (pick (drop from marks) (drop from C))
TakesOn-laden C marks from old place changes bytes next w e =
    sym (append-nil changes) ∙ ap (λ l. changes ++ l) (sym (take_due-laden (length changes) bytes (pick (drop place marks) (drop place C)) e)) ∙ w.on

pub TakesOn-on : (C : List ChangeParts) (marks : List Bool) (from old place : ℕ) (changes more : List ChangeParts) (bytes next bytes' next' : ℕ) (c : ChangeParts) → length marks ≡ length C → slice_get C place ≡ Some c
    → get_or marks place false ≡ true → is_message_full (length changes) bytes ≡ false → more ≡ changes ++ c ∷ [] → bytes' ≡ bytes + length (spelling c) → next' ≡ place + 1
    → TakesOn C marks from old place changes bytes next → TakesOn C marks from old (place + 1) more bytes' next'
TakesOn-on C marks from old place changes more bytes next bytes' next' c l e f room grown size beyond w = record {
  all =
      let rest : List ChangeParts = pick (drop (place + 1) marks) (drop (place + 1) C) in
      ap (λ m. m ++ rest) grown ∙ append_assoc changes (c ∷ []) rest ∙ ap (λ d. changes ++ d) (sym (picked_next marks C place c l e f)) ∙ w.all;
  on =
      let rest : List ChangeParts = pick (drop (place + 1) marks) (drop (place + 1) C) in
      let count : length more ≡ length changes + 1 = ap length grown ∙ length-append changes (c ∷ []) in
      ap (λ n. more ++ take_due n bytes' rest) count
      ∙ ap (λ n. more ++ take_due (length changes + 1) n rest) size
      ∙ ap (λ m. m ++ take_due (length changes + 1) (bytes + length (spelling c)) rest) grown
      ∙ append_assoc changes (c ∷ []) (take_due (length changes + 1) (bytes + length (spelling c)) rest)
      ∙ ap (λ d. changes ++ d) (sym (taken_next marks C place c (length changes) bytes l e f room))
      ∙ w.on;
  moved = inr (record { before = changes; last = c; place = place; ends = grown; present = e; beyond = beyond });
}

-- ---- limits

due_of-In : (C : List ChangeParts) (theirs : Option (List Hash)) (wants : List Hash) (D : List ChangeParts) (c : ChangeParts) → In c (due_of C theirs wants D) → In c D
due_of-In C None wants D c i = absurd i
due_of-In C (Some theirs) wants D c i = (In-filter (is_due C theirs wants) D c i).0

-- what is carried is of the list
pub message_changes-In : (C : List ChangeParts) (s : SyncParts) (c : ChangeParts) → In c (message_changes C s) → In c C
message_changes-In C s c i =
    let p = piece C s in
    due_of-In C (declared_hashes s) s.wants C c (subst (In c) (sym p.joined) (In-right c p.before (message_changes C s ++ p.beyond) (In-left c (message_changes C s) p.beyond i)))

take_few : (count bytes : ℕ) (D : List ChangeParts) → count ≤ MAX_CHANGES → length (take_due count bytes D) + count ≤ MAX_CHANGES
take_few count bytes [] h = omega arith
take_few count bytes (c ∷ D) h = elim (truth (is_message_full count bytes)) [
  | inl e ↦ subst (λ (l : List ChangeParts). length l + count ≤ MAX_CHANGES) (sym (take_due-laden count bytes (c ∷ D) e)) (omega arith)
  | inr f ↦
      let room : count < MAX_CHANGES = not_laden count (neither_left (nat_le MAX_CHANGES count) (nat_le FULL_BYTES bytes) f) in
      let rest : length (take_due (count + 1) (bytes + length (spelling c)) D) + (count + 1) ≤ MAX_CHANGES = take_few (count + 1) (bytes + length (spelling c)) D (omega arith) in
      subst (λ (l : List ChangeParts). length l + count ≤ MAX_CHANGES) (sym (take_due-on count bytes c D f)) (omega arith)
] where
  not_laden : (n : ℕ) → nat_le MAX_CHANGES n ≡ false → n < MAX_CHANGES
  not_laden n e = grind (arith, nat_tests)

pub carried_few : (C : List ChangeParts) (s : SyncParts) → length (message_changes C s) ≤ MAX_CHANGES
carried_few C s = let few : length (message_changes C s) + 0 ≤ MAX_CHANGES = take_few 0 0 (due_from C s (begins_at C s)) (omega arith) in omega arith
