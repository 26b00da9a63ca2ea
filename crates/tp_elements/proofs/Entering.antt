-- Entries: the elements that they stand for, and what one more leaves of them.
use Rattle.tp_list.proofs.Members.{In-index, In-get_or}
use Rattle.std.proofs.Common.{◌≡◌, ◌⊎◌, inl, inr, ℕ, zero, suc, ◌<◌, ◌≤◌, true, false, Option, None, Some, List, [], ◌∷◌, ◌++◌, length, map, get_or, position, refl, sym, ap, ◌∙◌, subst, arith, length-append}
use Rattle.std.proofs.lemmas.List.{length-map}
use Rattle.tp_list.specs.Members.{In}
use Rattle.tp_opid.specs.declared.actor.Actor.{Actor}
use Rattle.tp_opid.specs.declared.op_id.OpId.{OpId}
use Rattle.tp_opid.specs.declared.op_id.Place.{Place}
use Rattle.tp_opid.specs.declared.op_id.Place.TheVariants.{After}
use Rattle.tp_opid.specs.Insert.{Insert}
use Rattle.tp_opid.specs.Same.{id_eq}
use Rattle.tp_rga.proofs.Flagging.{map_agree}
use Rattle.tp_rga.proofs.Lookups.{IsFirst, position-first}
use Rattle.tp_elements.specs.declared.entry.Entry.{Entry}
use Rattle.tp_elements.specs.declared.entry.Reference.{Reference}
use Rattle.tp_elements.specs.declared.entry.Reference.TheVariants.{Start as AtStart, After as Behind}
use Rattle.tp_elements.specs.Came.{blank, element_at}
use Rattle.tp_elements.specs.Indexed.{actor_of_element}
use Rattle.tp_elements.specs.Entered.{no_entry, entry_at, author_at, id_of_entry, place_of, insert_of, inserts_of_entries, IsNumberBelow, place_of_reference, AreEntered}
use Rattle.tp_elements.proofs.Lists.{get_or-prefix, get_or-last, get_or-of_map}
use Rattle.tp_elements.proofs.Linking.{position_nowhere}

-- ---- reading

-- there are as many elements as entries
pub length-inserts_of_entries : (entries : List Entry) (actors : List Actor) → length (inserts_of_entries entries actors) ≡ length entries
length-inserts_of_entries entries actors = length-map entries (insert_of entries actors)

-- the element with a number
pub element_is : (entries : List Entry) (actors : List Actor) (k : ℕ) → k < length entries → element_at (inserts_of_entries entries actors) k ≡ insert_of entries actors (entry_at entries k)
element_is entries actors k lt = get_or-of_map (insert_of entries actors) entries k blank no_entry lt

-- a reference by number stands for the same among entries and among their elements
pub place_is : (entries : List Entry) (actors : List Actor) (r : Reference) → IsNumberBelow (length entries) r → place_of entries actors r ≡ place_of_reference (inserts_of_entries entries actors) r
place_is entries actors AtStart lt = refl
place_is entries actors (Behind k) lt = ap (λ (w : Insert). After w.id) (sym (element_is entries actors k lt))

-- ---- one more

-- one of a list holds what each place holds
each_held : (P : Entry → Type 0) (entries : List Entry) → ((k : ℕ) → k < length entries → P (entry_at entries k)) → (e : Entry) → In e entries → P e
each_held P entries h e i = let r = In-index e entries i in subst P (r.2 no_entry) (h r.0 r.1)

-- an actor that is there stays
author_prefix : (actors more : List Actor) (i : ℕ) → i < length actors → author_at (actors ++ more) i ≡ author_at actors i
author_prefix actors more i lt = get_or-prefix actors more i (record { 0 = [] }) lt

-- the identifier of an entry stays
id_prefix : (actors more : List Actor) (e : Entry) → e.author < length actors → id_of_entry (actors ++ more) e ≡ id_of_entry actors e
id_prefix actors more e lt = ap (λ (a : Actor). let x : OpId = record { counter = e.counter; actor = a } in x) (author_prefix actors more e.author lt)

-- a reference stays
place_prefix : (entries : List Entry) (actors more : List Actor) (x : Entry) (r : Reference) → AreEntered entries actors → IsNumberBelow (length entries) r → place_of (entries ++ x ∷ []) (actors ++ more) r ≡ place_of entries actors r
place_prefix entries actors more x AtStart kept lt = refl
place_prefix entries actors more x (Behind k) kept lt =
    ap After (ap (id_of_entry (actors ++ more)) (get_or-prefix entries (x ∷ []) k no_entry lt) ∙ id_prefix actors more (entry_at entries k) (kept.authors k lt))

-- an element stays
insert_prefix : (entries : List Entry) (actors more : List Actor) (x e : Entry) → AreEntered entries actors → e.author < length actors → IsNumberBelow (length entries) e.after → insert_of (entries ++ x ∷ []) (actors ++ more) e ≡ insert_of entries actors e
insert_prefix entries actors more x e kept by below =
    ap (λ (i : OpId). let w : Insert = record { id = i; after = place_of (entries ++ x ∷ []) (actors ++ more) e.after; ch = e.ch } in w) (id_prefix actors more e by)
    ∙ ap (λ (p : Place). let w : Insert = record { id = id_of_entry actors e; after = p; ch = e.ch } in w) (place_prefix entries actors more x e.after kept below)

map-last : {X Y : Type 0} (f : X → Y) (xs : List X) (x : X) → map f (xs ++ x ∷ []) ≡ map f xs ++ f x ∷ []
map-last f [] x = refl
map-last f (y ∷ xs) x = ap (λ z. f y ∷ z) (map-last f xs x)

-- the elements with one more
inserts_more : (entries : List Entry) (actors more : List Actor) (x : Entry) → AreEntered entries actors → inserts_of_entries (entries ++ x ∷ []) (actors ++ more) ≡ inserts_of_entries entries actors ++ insert_of (entries ++ x ∷ []) (actors ++ more) x ∷ []
inserts_more entries actors more x kept =
    let f = insert_of (entries ++ x ∷ []) (actors ++ more) in
    map-last f entries x
    ∙ ap (λ (z : List Insert). z ++ f x ∷ []) (map_agree f (insert_of entries actors) entries (λ e i.
    insert_prefix entries actors more x e kept (each_held (λ y. y.author < length actors) entries kept.authors e i) (each_held (λ y. IsNumberBelow (length entries) y.after) entries kept.references e i)))

-- the new element
new_is : (entries : List Entry) (actors more : List Actor) (x : Entry) (id : OpId) → AreEntered entries actors → IsNumberBelow (length entries) x.after → x.counter ≡ id.counter → author_at (actors ++ more) x.author ≡ id.actor → insert_of (entries ++ x ∷ []) (actors ++ more) x ≡ (let w : Insert = record { id = id; after = place_of_reference (inserts_of_entries entries actors) x.after; ch = x.ch } in w)
new_is entries actors more x id kept below count by =
    ap (λ (a : Actor). let w : Insert = record { id = record { counter = x.counter; actor = a }; after = place_of (entries ++ x ∷ []) (actors ++ more) x.after; ch = x.ch } in w) by
    ∙ ap (λ (n : ℕ). let w : Insert = record { id = record { counter = n; actor = id.actor }; after = place_of (entries ++ x ∷ []) (actors ++ more) x.after; ch = x.ch } in w) count
    ∙ ap (λ (p : Place). let w : Insert = record { id = id; after = p; ch = x.ch } in w) (place_prefix entries actors more x x.after kept below ∙ place_is entries actors x.after below)

-- a reference below a number is below a greater one
below_more : (n m : ℕ) (r : Reference) → n ≤ m → IsNumberBelow n r → IsNumberBelow m r
below_more n m AtStart le lt = tt
below_more n m (Behind k) le lt = omega arith

below_next : (k n : ℕ) → k < suc n → (k < n) ⊎ (k ≡ n)
below_next k zero lt = inr (omega arith)
below_next zero (suc n) lt = inl (omega arith)
below_next (suc k) (suc n) lt = elim (below_next k n (omega arith)) as (λ _. (suc k < suc n) ⊎ (suc k ≡ suc n)) [ inl h ↦ inl (omega (arith, h)) | inr e ↦ inr (ap suc e) ]

-- the entries with one more stay entered
entered_more : (entries : List Entry) (actors more : List Actor) (x : Entry) → AreEntered entries actors → IsNumberBelow (length entries) x.after → x.author < length (actors ++ more) → length more ≤ 1 → length entries < 4294967295 → AreEntered (entries ++ x ∷ []) (actors ++ more)
entered_more entries actors more x kept below by one most =
    let size = length-append entries (x ∷ []) in
    let table = length-append actors more in
    record {
      few = (let f = kept.few in omega arith);
      most = omega arith;
      authors = λ k lt. elim (below_next k (length entries) (omega arith)) as (λ _. (entry_at (entries ++ x ∷ []) k).author < length (actors ++ more)) [
        | inl less ↦ (let e = ap (λ (w : Entry). w.author) (get_or-prefix entries (x ∷ []) k no_entry less) in let a = kept.authors k less in omega arith)
        | inr is ↦ (let e = ap (λ (w : Entry). w.author) (get_or-last entries x k no_entry is) in omega arith)
      ];
      references = λ k lt. elim (below_next k (length entries) (omega arith)) as (λ _. IsNumberBelow (length (entries ++ x ∷ [])) (entry_at (entries ++ x ∷ []) k).after) [
        | inl less ↦ subst (λ (w : Entry). IsNumberBelow (length (entries ++ x ∷ [])) w.after) (sym (get_or-prefix entries (x ∷ []) k no_entry less)) (below_more (length entries) (length (entries ++ x ∷ [])) (entry_at entries k).after (omega arith) (kept.references k less))
        | inr is ↦ subst (λ (w : Entry). IsNumberBelow (length (entries ++ x ∷ [])) w.after) (sym (get_or-last entries x k no_entry is)) (below_more (length entries) (length (entries ++ x ∷ [])) x.after (omega arith) below)
      ];
    }

-- an element of an actor that the table has
pub pushed_known : (entries : List Entry) (actors : List Actor) (x : Entry) (id : OpId) (k : ℕ) → AreEntered entries actors → IsNumberBelow (length entries) x.after → x.counter ≡ id.counter → k < length entries → x.author ≡ (entry_at entries k).author → actor_of_element (inserts_of_entries entries actors) k ≡ id.actor → length entries < 4294967295 → AreEntered (entries ++ x ∷ []) actors × (inserts_of_entries (entries ++ x ∷ []) actors ≡ inserts_of_entries entries actors ++ record { id = id; after = place_of_reference (inserts_of_entries entries actors) x.after; ch = x.ch } ∷ [])
pushed_known entries actors x id k kept below count lt same by most =
    let none : actors ++ [] ≡ actors = append-none actors in
    let there = kept.authors k lt in
    let within : x.author < length (actors ++ []) = (let l = ap length none in omega (arith, same)) in
    let author : author_at (actors ++ []) x.author ≡ id.actor = ap (λ z. author_at z x.author) none ∙ ap (author_at actors) same ∙ sym (ap (λ (w : Insert). w.id.actor) (element_is entries actors k lt)) ∙ by in
    let entered = entered_more entries actors [] x kept below within (omega arith) most in
    let more = inserts_more entries actors [] x kept ∙ ap (λ w. inserts_of_entries entries actors ++ w ∷ []) (new_is entries actors [] x id kept below count author) in
    (subst (AreEntered (entries ++ x ∷ [])) none entered, ap (inserts_of_entries (entries ++ x ∷ [])) (sym none) ∙ more)
  where
    append-none : {X : Type 0} (xs : List X) → xs ++ [] ≡ xs
    append-none [] = refl
    append-none (x ∷ xs) = ap (λ z. x ∷ z) (append-none xs)

-- an element of a new actor
pub pushed_new : (entries : List Entry) (actors : List Actor) (x : Entry) (id : OpId) → AreEntered entries actors → IsNumberBelow (length entries) x.after → x.counter ≡ id.counter → x.author ≡ length actors → length entries < 4294967295 → AreEntered (entries ++ x ∷ []) (actors ++ id.actor ∷ []) × (inserts_of_entries (entries ++ x ∷ []) (actors ++ id.actor ∷ []) ≡ inserts_of_entries entries actors ++ record { id = id; after = place_of_reference (inserts_of_entries entries actors) x.after; ch = x.ch } ∷ [])
pushed_new entries actors x id kept below count last most =
    let table = length-append actors (id.actor ∷ []) in
    let author : author_at (actors ++ id.actor ∷ []) x.author ≡ id.actor = get_or-last actors id.actor x.author (record { 0 = [] }) last in (
      entered_more entries actors (id.actor ∷ []) x kept below (omega (arith, last)) (omega arith) most,
      inserts_more entries actors (id.actor ∷ []) x kept ∙ ap (λ w. inserts_of_entries entries actors ++ w ∷ []) (new_is entries actors (id.actor ∷ []) x id kept below count author),
    )

-- an element of the actor of another is put in
pub pushed_sibling : (entries new : List Entry) (actors : List Actor) (E : List Insert) (x : Entry) (id : OpId) (k : ℕ) → AreEntered entries actors → inserts_of_entries entries actors ≡ E → IsNumberBelow (length E) x.after → x.counter ≡ id.counter → (k < length E) × (actor_of_element E k ≡ id.actor) → x.author ≡ (entry_at entries k).author → length entries < 4294967295 → new ≡ entries ++ x ∷ [] → inserts_of_entries new actors ≡ E ++ record { id = id; after = place_of_reference E x.after; ch = x.ch } ∷ []
pushed_sibling entries new actors E x id k kept view below count sibling by most new_is =
    let size : length E ≡ length entries = sym (ap length view) ∙ length-inserts_of_entries entries actors in
    let lt : k < length entries = (let s = sibling.0 in omega arith) in
    let actor : actor_of_element (inserts_of_entries entries actors) k ≡ id.actor = ap (λ z. actor_of_element z k) view ∙ sibling.1 in
    let r = pushed_known entries actors x id k kept (subst (λ n. IsNumberBelow n x.after) size below) count lt by actor most in
    ap (λ z. inserts_of_entries z actors) new_is ∙ r.1 ∙ ap (λ (z : List Insert). z ++ record { id = id; after = place_of_reference z x.after; ch = x.ch } ∷ []) view

-- an element of a new actor is put in
pub pushed_first : (entries new : List Entry) (actors table : List Actor) (E : List Insert) (x : Entry) (id : OpId) → AreEntered entries actors → inserts_of_entries entries actors ≡ E → IsNumberBelow (length E) x.after → x.counter ≡ id.counter → x.author ≡ length actors → length entries < 4294967295 → new ≡ entries ++ x ∷ [] → table ≡ actors ++ id.actor ∷ [] → inserts_of_entries new table ≡ E ++ record { id = id; after = place_of_reference E x.after; ch = x.ch } ∷ []
pushed_first entries new actors table E x id kept view below count by most new_is table_is =
    let size : length E ≡ length entries = sym (ap length view) ∙ length-inserts_of_entries entries actors in
    let r = pushed_new entries actors x id kept (subst (λ n. IsNumberBelow n x.after) size below) count by most in
    ap (λ z. inserts_of_entries z table) new_is ∙ ap (inserts_of_entries (entries ++ x ∷ [])) table_is ∙ r.1 ∙ ap (λ (z : List Insert). z ++ record { id = id; after = place_of_reference z x.after; ch = x.ch } ∷ []) view

-- ---- a search

-- the first element with an identifier is found
pub position_least : (E : List Insert) (i : ℕ) (x : OpId) → i < length E → id_eq (element_at E i).id x ≡ true → ((j : ℕ) → j < i → id_eq (element_at E j).id x ≡ false) → position (λ (e : Insert). id_eq e.id x) E ≡ Some i
position_least E i x lt named before = from (position (λ (e : Insert). id_eq e.id x) E) (position-first (λ (e : Insert). id_eq e.id x) E)
  where
    middle : (A : List Insert) (e : Insert) (B : List Insert) (n : ℕ) (d : Insert) → length A ≡ n → get_or (A ++ e ∷ B) n d ≡ e
    middle A e B n d h = ap (λ z. get_or z n d) (split A e B) ∙ get_or-prefix (A ++ e ∷ []) B n d (let l = length-append A (e ∷ []) in omega arith) ∙ get_or-last A e n d (sym h)
      where
        split : (A : List Insert) (e : Insert) (B : List Insert) → A ++ e ∷ B ≡ (A ++ e ∷ []) ++ B
        split [] e B = refl
        split (a ∷ A) e B = ap (λ z. a ∷ z) (split A e B)

    order : (i j : ℕ) → (i < j) ⊎ ((i ≡ j) ⊎ (j < i))
    order zero zero = inr (inl refl)
    order zero (suc j) = inl (omega arith)
    order (suc i) zero = inr (inr (omega arith))
    order (suc i) (suc j) = elim (order i j) as (λ _. (suc i < suc j) ⊎ ((suc i ≡ suc j) ⊎ (suc j < suc i))) [
      | inl a ↦ inl (omega (arith, a))
      | inr b ↦ elim b as (λ _. (suc i < suc j) ⊎ ((suc i ≡ suc j) ⊎ (suc j < suc i))) [ inl e ↦ inr (inl (ap suc e)) | inr c ↦ inr (inr (omega (arith, c))) ]
    ]

    from : (r : Option ℕ) → IsFirst (λ (e : Insert). id_eq e.id x) E r → r ≡ Some i
    from None h = let other : id_eq (element_at E i).id x ≡ false = h (element_at E i) (In-get_or E i blank lt) in cc
    from (Some j) h =
        let at : element_at E j ≡ h.1 = ap (λ z. get_or z j blank) h.3 ∙ middle h.0 h.1 h.2 j blank h.4 in
        let here : id_eq (element_at E j).id x ≡ true = ap (λ (w : Insert). id_eq w.id x) at ∙ h.5 in
        elim (order i j) as (λ _. Some j ≡ Some i) [
          | inl a ↦ (
              let short : i < length h.0 = (let n = h.4 in omega (arith, a)) in
              let is : element_at E i ≡ get_or h.0 i blank = ap (λ z. get_or z i blank) h.3 ∙ get_or-prefix h.0 (h.1 ∷ h.2) i blank short in
              let other : id_eq (element_at E i).id x ≡ false = ap (λ (w : Insert). id_eq w.id x) is ∙ h.6 (get_or h.0 i blank) (In-get_or h.0 i blank short) in
              cc)
          | inr b ↦ elim b as (λ _. Some j ≡ Some i) [
            | inl e ↦ ap Some (sym e)
            | inr c ↦ (let other : id_eq (element_at E j).id x ≡ false = before j c in cc)
          ]
        ]

-- where no element has the identifier none is found
pub nowhere : (E : List Insert) (n : ℕ) (x : OpId) → length E ≤ n → ((j : ℕ) → j < n → id_eq (element_at E j).id x ≡ false) → position (λ (e : Insert). id_eq e.id x) E ≡ None
nowhere E n x past none = position_nowhere E x (λ j lt named. let other : id_eq (element_at E j).id x ≡ false = none j (omega arith) in cc)
