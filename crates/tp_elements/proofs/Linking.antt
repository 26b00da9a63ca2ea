-- The index: what an element more leaves of it, and what a look-up finds.
use Rattle.tp_list.proofs.Members.{In-index, In-get_or, In-middle}
use Rattle.std.proofs.Common.{◌≡◌, ◌⊎◌, inl, inr, ℕ, zero, suc, ◌+◌, ◌<◌, ◌≤◌, true, false, Option, None, Some, List, [], ◌∷◌, ◌++◌, length, get_or, insert, map, position, refl, sym, ap, ◌∙◌, subst, arith, length-append}
use Rattle.tp_list.specs.Members.{In}
use Rattle.tp_opid.specs.declared.actor.Actor.{Actor}
use Rattle.tp_opid.specs.declared.op_id.OpId.{OpId}
use Rattle.tp_opid.specs.Insert.{Insert}
use Rattle.tp_opid.specs.Same.{id_eq, same_actor}
use Rattle.tp_opid.proofs.Orders.{id_eq-same, id_eq-itself, same_actor-same, same_actor-apart}
use Rattle.tp_rga.proofs.Lookups.{IsFirst, IsFirst-position, position-first}
use Rattle.tp_elements.specs.declared.links.Link.{Link}
use Rattle.tp_elements.specs.declared.links.Latest.{Latest}
use Rattle.tp_elements.specs.Came.{blank, element_at}
use Rattle.tp_elements.specs.Indexed.{actor_of_element, counter_of_element, no_link, link_at, note_latest, IsLink, IsIndexed}
use Rattle.tp_elements.specs.Actors.{latest_at, IsPlaceOf}
use Rattle.tp_elements.proofs.Lists.{below_or_not, below_next, get_or-prefix, get_or-last, get_or-any, In-insert, In-inserted, In-insert_still}
use Rattle.tp_elements.proofs.ByActor.{note_latest-actor, note_latest-number, none_of_place, AreByActor-note_latest, AreByActor-insert}

-- ---- an element more

-- the elements that came before are as they were
actor_prefix : (E : List Insert) (e : Insert) (k : ℕ) → k < length E → actor_of_element (E ++ e ∷ []) k ≡ actor_of_element E k
actor_prefix E e k lt = ap (λ (w : Insert). w.id.actor) (get_or-prefix E (e ∷ []) k blank lt)

counter_prefix : (E : List Insert) (e : Insert) (k : ℕ) → k < length E → counter_of_element (E ++ e ∷ []) k ≡ counter_of_element E k
counter_prefix E e k lt = ap (λ (w : Insert). w.id.counter) (get_or-prefix E (e ∷ []) k blank lt)

-- the new one
actor_last : (E : List Insert) (e : Insert) (n : ℕ) → n ≡ length E → actor_of_element (E ++ e ∷ []) n ≡ e.id.actor
actor_last E e n is = ap (λ (w : Insert). w.id.actor) (get_or-last E e n blank is)

counter_last : (E : List Insert) (e : Insert) (n : ℕ) → n ≡ length E → counter_of_element (E ++ e ∷ []) n ≡ e.id.counter
counter_last E e n is = ap (λ (w : Insert). w.id.counter) (get_or-last E e n blank is)

-- a link stays one
IsLink-prefix : (E : List Insert) (e : Insert) (k : ℕ) (l : Link) → k < length E → IsLink E k l → IsLink (E ++ e ∷ []) k l
IsLink-prefix E e k l lt link = record {
  before = link.before;
  before_by = actor_prefix E e l.before (let b = link.before in omega arith) ∙ link.before_by ∙ sym (actor_prefix E e k lt);
  jump = link.jump;
  jump_by = actor_prefix E e l.jump (let b = link.jump in omega arith) ∙ link.jump_by ∙ sym (actor_prefix E e k lt);
  prior = λ j less same. link.prior j less (sym (actor_prefix E e j (omega arith)) ∙ same ∙ actor_prefix E e k lt);
}

-- the links with one more
links_more : (E : List Insert) (e : Insert) (links : List Link) (l : Link) → length links ≡ length E → ((k : ℕ) → k < length E → IsLink E k (link_at links k)) → IsLink (E ++ e ∷ []) (length E) l → (k : ℕ) → k < length (E ++ e ∷ []) → IsLink (E ++ e ∷ []) k (link_at (links ++ l ∷ []) k)
links_more E e links l many linked new k lt =
    let more = length-append E (e ∷ []) in
    elim (below_next k (length E) (omega arith)) as (λ _. IsLink (E ++ e ∷ []) k (link_at (links ++ l ∷ []) k)) [
      | inl less ↦ subst (IsLink (E ++ e ∷ []) k) (sym (get_or-prefix links (l ∷ []) k no_link (omega arith))) (IsLink-prefix E e k (link_at links k) less (linked k less))
      | inr is ↦ subst (IsLink (E ++ e ∷ []) k) (sym (get_or-last links l k no_link (is ∙ sym many))) (subst (λ n. IsLink (E ++ e ∷ []) n l) (sym is) new)
    ]

In-map : {X Y : Type 0} (f : X → Y) (xs : List X) (x : X) → In x xs → In (f x) (map f xs)
In-map f [] x i = absurd i
In-map f (y ∷ xs) x (inl e) = inl (ap f e)
In-map f (y ∷ xs) x (inr i) = inr (In-map f xs x i)

In-of_map : {X Y : Type 0} (f : X → Y) (xs : List X) (y : Y) → In y (map f xs) → (x : X) × In x xs × (y ≡ f x)
In-of_map f [] y i = absurd i
In-of_map f (x ∷ xs) y (inl e) = (x, inl refl, e)
In-of_map f (x ∷ xs) y (inr i) = let r = In-of_map f xs y i in (r.0, inr r.1, r.2)

-- an actor's next element, with a greater counter
pub IsIndexed-more : (E : List Insert) (latest : List Latest) (links : List Link) (e : Insert) (x : Latest) (l : Link) → IsIndexed E latest links → In x latest → x.actor ≡ e.id.actor → counter_of_element E x.number < e.id.counter → l.before ≡ x.number → (l.jump ≡ x.number) ⊎ (l.jump ≡ (link_at links (link_at links x.number).jump).jump) → IsIndexed (E ++ e ∷ []) (map (note_latest e.id.actor (length E)) latest) (links ++ l ∷ [])
IsIndexed-more E latest links e x l kept i by greater before_is jump_is =
    let E' = E ++ e ∷ [] in
    let n = length E in
    let a = e.id.actor in
    let more : length E' ≡ suc n = length-append E (e ∷ []) ∙ omega arith in
    let m = x.number in
    let there = kept.there x i in
    let at_n : actor_of_element E' n ≡ a = actor_last E e n refl in
    let at_m : actor_of_element E' m ≡ actor_of_element E' n = actor_prefix E e m there.0 ∙ there.1 ∙ by ∙ sym at_n in
    let near = kept.linked m there.0 in
    let near_in : (link_at links m).jump < n = (let b = near.jump in let t = there.0 in omega arith) in
    let far = kept.linked (link_at links m).jump near_in in
    let new : IsLink E' n l = record {
      before = (let t = there.0 in omega (arith, before_is));
      before_by = ap (actor_of_element E') before_is ∙ at_m;
      jump = elim jump_is as (λ _. l.jump ≤ n) [ inl e1 ↦ (let t = there.0 in omega (arith, e1)) | inr e2 ↦ (let b = far.jump in omega (arith, e2)) ];
      jump_by = elim jump_is as (λ _. actor_of_element E' l.jump ≡ actor_of_element E' n) [
        | inl e1 ↦ ap (actor_of_element E') e1 ∙ at_m
        | inr e2 ↦ (
            let j = (link_at links (link_at links m).jump).jump in
            let j_in : j < n = (let b = far.jump in omega arith) in
            ap (actor_of_element E') e2 ∙ actor_prefix E e j j_in ∙ far.jump_by ∙ near.jump_by ∙ sym (actor_prefix E e m there.0) ∙ at_m)
      ];
      prior = λ j less same. (let t = there.0 in omega (arith, before_is), (let le = kept.last x i j less (sym (actor_prefix E e j less) ∙ same ∙ at_n ∙ sym by) in omega (arith, before_is)));
    } in
    record {
      sorted = AreByActor-note_latest latest a n kept.sorted;
      many = length-append links (l ∷ []) ∙ ap (λ z. z + 1) kept.many ∙ sym (length-append E (e ∷ []));
      linked = links_more E e links l kept.many kept.linked new;
      rises = λ j k less lt same. elim (below_next k n (omega arith)) as (λ _. counter_of_element E' j < counter_of_element E' k) [
        | inl inside ↦ (
            let j_in : j < n = omega arith in
            let old = kept.rises j k less inside (sym (actor_prefix E e j j_in) ∙ same ∙ actor_prefix E e k inside) in
            let cj = counter_prefix E e j j_in in let ck = counter_prefix E e k inside in omega arith)
        | inr is ↦ (
            let j_in : j < n = omega arith in
            let same_a : actor_of_element E j ≡ x.actor = sym (actor_prefix E e j j_in) ∙ same ∙ ap (actor_of_element E') is ∙ at_n ∙ sym by in
            let le = kept.last x i j j_in same_a in
            let cj = counter_prefix E e j j_in in
            let ck : counter_of_element E' k ≡ e.id.counter = counter_last E e k is in
            elim (below_next j m (omega arith)) as (λ _. counter_of_element E' j < counter_of_element E' k) [
              | inl lower ↦ (let old = kept.rises j m lower there.0 (same_a ∙ sym there.1) in omega arith)
              | inr top ↦ (let same_c = ap (counter_of_element E) top in omega arith)
            ])
      ];
      known = λ k lt. elim (below_next k n (omega arith)) as (λ _. (y : Latest) × In y (map (note_latest a n) latest) × (y.actor ≡ actor_of_element E' k)) [
        | inl inside ↦ (let r = kept.known k inside in (note_latest a n r.0, In-map (note_latest a n) latest r.0 r.1, note_latest-actor a n r.0 ∙ r.2 ∙ sym (actor_prefix E e k inside)))
        | inr is ↦ (note_latest a n x, In-map (note_latest a n) latest x i, note_latest-actor a n x ∙ by ∙ sym (ap (actor_of_element E') is ∙ at_n))
      ];
      there = λ y h. (let r = In-of_map (note_latest a n) latest y h in there_noted E e latest links kept r.0 r.1 y r.2);
      last = λ y h j lt same. (let r = In-of_map (note_latest a n) latest y h in last_noted E e latest links kept r.0 r.1 y r.2 j lt same);
    }
  where
    there_noted : (E : List Insert) (e : Insert) (latest : List Latest) (links : List Link) → IsIndexed E latest links → (x : Latest) → In x latest → (y : Latest) → y ≡ note_latest e.id.actor (length E) x → (y.number < length (E ++ e ∷ [])) × (actor_of_element (E ++ e ∷ []) y.number ≡ y.actor)
    there_noted E e latest links kept x i y is =
        let more = length-append E (e ∷ []) in
        let old = kept.there x i in
        let act : y.actor ≡ x.actor = ap (λ (w : Latest). w.actor) is ∙ note_latest-actor e.id.actor (length E) x in
        elim (same_actor x.actor e.id.actor) as (λ b. same_actor x.actor e.id.actor ≡ b → (y.number < length (E ++ e ∷ [])) × (actor_of_element (E ++ e ∷ []) y.number ≡ y.actor)) [
          | true ↦ λ same. (
              let num : y.number ≡ length E = ap (λ (w : Latest). w.number) is ∙ note_latest-number e.id.actor (length E) x true same in
              (omega arith, actor_last E e y.number num ∙ sym (act ∙ same_actor-same x.actor e.id.actor same)))
          | false ↦ λ other. (
              let num : y.number ≡ x.number = ap (λ (w : Latest). w.number) is ∙ note_latest-number e.id.actor (length E) x false other in
              let lt = old.0 in
              (omega arith, ap (actor_of_element (E ++ e ∷ [])) num ∙ actor_prefix E e x.number old.0 ∙ old.1 ∙ sym act))
        ] refl

    last_noted : (E : List Insert) (e : Insert) (latest : List Latest) (links : List Link) → IsIndexed E latest links → (x : Latest) → In x latest → (y : Latest) → y ≡ note_latest e.id.actor (length E) x → (j : ℕ) → j < length (E ++ e ∷ []) → actor_of_element (E ++ e ∷ []) j ≡ y.actor → j ≤ y.number
    last_noted E e latest links kept x i y is j lt same =
        let more = length-append E (e ∷ []) in
        let act : y.actor ≡ x.actor = ap (λ (w : Latest). w.actor) is ∙ note_latest-actor e.id.actor (length E) x in
        elim (same_actor x.actor e.id.actor) as (λ b. same_actor x.actor e.id.actor ≡ b → j ≤ y.number) [
          | true ↦ λ found. (let num = ap (λ (w : Latest). w.number) is ∙ note_latest-number e.id.actor (length E) x true found in omega arith)
          | false ↦ λ other. (
              let num : y.number ≡ x.number = ap (λ (w : Latest). w.number) is ∙ note_latest-number e.id.actor (length E) x false other in
              elim (below_next j (length E) (omega arith)) as (λ _. j ≤ y.number) [
                | inl inside ↦ (let le = kept.last x i j inside (sym (actor_prefix E e j inside) ∙ same ∙ act) in omega arith)
                | inr top ↦ absurd (same_actor-apart x.actor e.id.actor other (sym (sym (actor_last E e j top) ∙ same ∙ act)))
              ])
        ] refl

-- an actor's first element
pub IsIndexed-first : (E : List Insert) (latest : List Latest) (links : List Link) (e : Insert) (x : Latest) (l : Link) (p : ℕ) → IsIndexed E latest links → IsPlaceOf latest e.id.actor p → x.actor ≡ e.id.actor → x.number ≡ length E → l.before ≡ length E → l.jump ≡ length E → IsIndexed (E ++ e ∷ []) (insert latest p x) (links ++ l ∷ [])
IsIndexed-first E latest links e x l p kept place by at before_is jump_is =
    let none : (y : Latest) → In y latest → same_actor y.actor e.id.actor ≡ false = none_of_place latest e.id.actor p place in
    let E' = E ++ e ∷ [] in
    let n = length E in
    let a = e.id.actor in
    let more : length E' ≡ suc n = length-append E (e ∷ []) ∙ omega arith in
    let at_n : actor_of_element E' n ≡ a = actor_last E e n refl in
    let nobody : (j : ℕ) → j < n → actor_of_element E j ≡ a → ⊥ = (λ j lt same. let r = kept.known j lt in same_actor-apart r.0.actor a (none r.0 r.1) (r.2 ∙ same)) in
    let nobody' : (j : ℕ) → j < n → actor_of_element E' j ≡ a → ⊥ = (λ j lt same. nobody j lt (sym (actor_prefix E e j lt) ∙ same)) in
    let new : IsLink E' n l = record {
      before = omega (arith, before_is);
      before_by = ap (actor_of_element E') before_is;
      jump = omega (arith, jump_is);
      jump_by = ap (actor_of_element E') jump_is;
      prior = λ j less same. absurd (nobody' j less (same ∙ at_n));
    } in
    record {
      sorted = AreByActor-insert latest p x kept.sorted (subst (λ b. IsPlaceOf latest b p) (sym by) place);
      many = length-append links (l ∷ []) ∙ ap (λ z. z + 1) kept.many ∙ sym (length-append E (e ∷ []));
      linked = links_more E e links l kept.many kept.linked new;
      rises = λ j k less lt same. elim (below_next k n (omega arith)) as (λ _. counter_of_element E' j < counter_of_element E' k) [
        | inl inside ↦ (
            let j_in : j < n = omega arith in
            let old = kept.rises j k less inside (sym (actor_prefix E e j j_in) ∙ same ∙ actor_prefix E e k inside) in
            let cj = counter_prefix E e j j_in in let ck = counter_prefix E e k inside in omega arith)
        | inr is ↦ absurd (let j_in : j < n = omega arith in nobody' j j_in (same ∙ ap (actor_of_element E') is ∙ at_n))
      ];
      known = λ k lt. elim (below_next k n (omega arith)) as (λ _. (y : Latest) × In y (insert latest p x) × (y.actor ≡ actor_of_element E' k)) [
        | inl inside ↦ (let r = kept.known k inside in (r.0, In-insert_still latest p x r.0 r.1, r.2 ∙ sym (actor_prefix E e k inside)))
        | inr is ↦ (x, In-inserted latest p x, by ∙ sym (ap (actor_of_element E') is ∙ at_n))
      ];
      there = λ y h. elim (In-insert latest p x y h) as (λ _. (y.number < length E') × (actor_of_element E' y.number ≡ y.actor)) [
        | inr i ↦ (let old = kept.there y i in (let t = old.0 in omega arith, actor_prefix E e y.number old.0 ∙ old.1))
        | inl is ↦ (
            let num : y.number ≡ n = ap (λ (w : Latest). w.number) is ∙ at in
            (omega arith, actor_last E e y.number num ∙ sym (ap (λ (w : Latest). w.actor) is ∙ by)))
      ];
      last = λ y h j lt same. elim (In-insert latest p x y h) as (λ _. j ≤ y.number) [
        | inr i ↦ elim (below_next j n (omega arith)) as (λ _. j ≤ y.number) [
          | inl inside ↦ kept.last y i j inside (sym (actor_prefix E e j inside) ∙ same)
          | inr top ↦ absurd (same_actor-apart y.actor a (none y i) (sym same ∙ ap (actor_of_element E') top ∙ at_n))
        ]
        | inl is ↦ (let num : y.number ≡ n = ap (λ (w : Latest). w.number) is ∙ at in omega arith)
      ];
    }

-- ---- look-ups

-- the one element with an identifier is found
pub position_only : (E : List Insert) (i : ℕ) (x : OpId) → i < length E → id_eq (element_at E i).id x ≡ true → ((j : ℕ) → j < length E → id_eq (element_at E j).id x ≡ true → j ≡ i) → position (λ (e : Insert). id_eq e.id x) E ≡ Some i
position_only E i x lt named only = from (position (λ (e : Insert). id_eq e.id x) E) (position-first (λ (e : Insert). id_eq e.id x) E)
  where
    middle : (A : List Insert) (e : Insert) (B : List Insert) (n : ℕ) (d : Insert) → length A ≡ n → get_or (A ++ e ∷ B) n d ≡ e
    middle [] e B zero d h = refl
    middle [] e B (suc n) d h = absurd (omega arith)
    middle (a ∷ A) e B zero d h = absurd (omega arith)
    middle (a ∷ A) e B (suc n) d h = middle A e B n d (omega arith)

    from : (r : Option ℕ) → IsFirst (λ (e : Insert). id_eq e.id x) E r → r ≡ Some i
    from None h = let other : id_eq (element_at E i).id x ≡ false = h (element_at E i) (In-get_or E i blank lt) in cc
    from (Some j) h =
        let at : element_at E j ≡ h.1 = ap (λ z. get_or z j blank) h.3 ∙ middle h.0 h.1 h.2 j blank h.4 in
        let short : j < length E = (let l = ap length h.3 in let m = length-append h.0 (h.1 ∷ h.2) in let n = h.4 in omega arith) in
        ap Some (only j short (ap (λ (w : Insert). id_eq w.id x) at ∙ h.5))

-- nothing is found where no element has the identifier
pub position_nowhere : (E : List Insert) (x : OpId) → ((j : ℕ) → j < length E → id_eq (element_at E j).id x ≡ true → ⊥) → position (λ (e : Insert). id_eq e.id x) E ≡ None
position_nowhere E x none = from (position (λ (e : Insert). id_eq e.id x) E) (position-first (λ (e : Insert). id_eq e.id x) E)
  where
    from : (r : Option ℕ) → IsFirst (λ (e : Insert). id_eq e.id x) E r → r ≡ None
    from None h = refl
    from (Some i) h =
        let r = In-index h.1 E (subst (In h.1) (sym h.3) (In-middle h.0 h.1 h.2)) in
        absurd (none r.0 r.1 (ap (λ (w : Insert). id_eq w.id x) (r.2 blank) ∙ h.5))

-- an identifier's actor and counter
pub id_actor : (E : List Insert) (j : ℕ) (x : OpId) → id_eq (element_at E j).id x ≡ true → actor_of_element E j ≡ x.actor
id_actor E j x named = ap (λ (w : OpId). w.actor) (id_eq-same (element_at E j).id x named)

pub id_counter : (E : List Insert) (j : ℕ) (x : OpId) → id_eq (element_at E j).id x ≡ true → counter_of_element E j ≡ x.counter
id_counter E j x named = ap (λ (w : OpId). w.counter) (id_eq-same (element_at E j).id x named)

-- an element of that actor with that counter has the identifier
pub id_named : (E : List Insert) (j : ℕ) (x : OpId) → actor_of_element E j ≡ x.actor → counter_of_element E j ≡ x.counter → id_eq (element_at E j).id x ≡ true
id_named E j x same_a same_c =
    let first : (element_at E j).id ≡ (let y : OpId = record { counter = x.counter; actor = actor_of_element E j } in y) = ap (λ (n : ℕ). let y : OpId = record { counter = n; actor = actor_of_element E j } in y) same_c in
    let one : (element_at E j).id ≡ x = first ∙ ap (λ (a : Actor). let y : OpId = record { counter = x.counter; actor = a } in y) same_a in
    ap (λ (w : OpId). id_eq w x) one ∙ id_eq-itself x

-- a step back keeps what is sought ahead
pub step_back : (E : List Insert) (from at next c : ℕ) → actor_of_element E at ≡ actor_of_element E from → c < counter_of_element E at → ((j : ℕ) → j ≤ from → actor_of_element E j ≡ actor_of_element E from → counter_of_element E j ≤ c → j ≤ at) → ((j : ℕ) → j < at → actor_of_element E j ≡ actor_of_element E at → counter_of_element E j ≤ c → j ≤ next) → (j : ℕ) → j ≤ from → actor_of_element E j ≡ actor_of_element E from → counter_of_element E j ≤ c → j ≤ next
step_back E from at next c same greater ahead step j le by small =
    elim (below_next j at (let a = ahead j le by small in omega arith)) as (λ _. j ≤ next) [
      | inl less ↦ step j less (by ∙ sym same) small
      | inr is ↦ absurd (let e = ap (counter_of_element E) is in omega arith)
    ]

-- where there is no step back, all counters are greater
pub none_back : (E : List Insert) (from at c : ℕ) → actor_of_element E at ≡ actor_of_element E from → c < counter_of_element E at → ((j : ℕ) → j ≤ from → actor_of_element E j ≡ actor_of_element E from → counter_of_element E j ≤ c → j ≤ at) → ((j : ℕ) → j < at → actor_of_element E j ≡ actor_of_element E at → ⊥) → (j : ℕ) → j ≤ from → actor_of_element E j ≡ actor_of_element E from → c < counter_of_element E j
none_back E from at c same greater ahead none j le by =
    elim (below_or_not c (counter_of_element E j)) as (λ _. c < counter_of_element E j) [
      | inl less ↦ less
      | inr small ↦ absurd (
          elim (below_next j at (let a = ahead j le by small in omega arith)) as (λ _. ⊥) [
            | inl less ↦ none j less (by ∙ sym same)
            | inr is ↦ (let e = ap (counter_of_element E) is in omega arith)
          ])
    ]

-- ---- what a look-up finds

-- an entry that was found and is read
pub entry_read : {E : List Insert} {latest seen : List Latest} {links : List Link} {x : Latest} (i : ℕ) (a : Actor) → IsIndexed E latest links → seen ≡ latest → (i < length seen) × ((latest_at seen i).actor ≡ a) → x ≡ get_or latest i x → In x latest × (x.actor ≡ a) × (x.number < length E)
entry_read {E} {latest} {seen} {links} {x} i a kept same there read =
    let d : Latest = record { actor = record { 0 = [] }; number = 0 } in
    let found = subst (λ (z : List Latest). (i < length z) × ((latest_at z i).actor ≡ a)) same there in
    let is : x ≡ latest_at latest i = read ∙ get_or-any latest i x d found.0 in
    let inside : In x latest = subst (λ w. In w latest) (sym is) (In-get_or latest i d found.0) in
    (inside, ap (λ (w : Latest). w.actor) is ∙ found.1, (kept.there x inside).0)

-- an actor without elements has no such element
pub look_nobody : (E : List Insert) (latest : List Latest) (links : List Link) (id : OpId) (i : ℕ) → IsIndexed E latest links → IsPlaceOf latest id.actor i → position (λ (e : Insert). id_eq e.id id) E ≡ None
look_nobody E latest links id i kept place =
    let none : (x : Latest) → In x latest → same_actor x.actor id.actor ≡ false = none_of_place latest id.actor i place in
    position_nowhere E id (λ j lt named.
    let r = kept.known j lt in same_actor-apart r.0.actor id.actor (none r.0 r.1) (r.2 ∙ id_actor E j id named))

-- an actor all of whose counters are greater hasn't either
pub look_above : (E : List Insert) (latest : List Latest) (links : List Link) (id : OpId) (x : Latest) → IsIndexed E latest links → In x latest → x.actor ≡ id.actor → ((j : ℕ) → j ≤ x.number → actor_of_element E j ≡ actor_of_element E x.number → id.counter < counter_of_element E j) → position (λ (e : Insert). id_eq e.id id) E ≡ None
look_above E latest links id x kept i by greater =
    position_nowhere E id (λ j lt named.
    let same : actor_of_element E j ≡ x.actor = id_actor E j id named ∙ sym by in
    let above = greater j (kept.last x i j lt same) (same ∙ sym (kept.there x i).1) in
    let is = id_counter E j id named in omega arith)

-- the first whose counter isn't greater has that counter: it is the one
pub look_found : (E : List Insert) (latest : List Latest) (links : List Link) (id : OpId) (x : Latest) (at : ℕ) → IsIndexed E latest links → In x latest → x.actor ≡ id.actor → at < length E → actor_of_element E at ≡ actor_of_element E x.number → counter_of_element E at ≡ id.counter → position (λ (e : Insert). id_eq e.id id) E ≡ Some at
look_found E latest links id x at kept i by lt same is =
    let same_id : actor_of_element E at ≡ id.actor = same ∙ (kept.there x i).1 ∙ by in
    position_only E at id lt (id_named E at id same_id is) (λ j short named. only j short (id_actor E j id named ∙ sym same_id) (id_counter E j id named))
  where
    only : (j : ℕ) → j < length E → actor_of_element E j ≡ actor_of_element E at → counter_of_element E j ≡ id.counter → j ≡ at
    only j short one count = elim (below_or_not j at) as (λ _. j ≡ at) [
      | inl less ↦ absurd (let r = kept.rises j at less lt one in omega arith)
      | inr ge ↦ elim (below_or_not at j) as (λ _. j ≡ at) [
        | inl more ↦ absurd (let r = kept.rises at j more short (sym one) in omega arith)
        | inr le ↦ omega arith
      ]
    ]

-- an element that has the identifier is the one
pub look_guessed : (E : List Insert) (latest : List Latest) (links : List Link) (id : OpId) (at : ℕ) → IsIndexed E latest links → at < length E → id_eq (element_at E at).id id ≡ true → position (λ (e : Insert). id_eq e.id id) E ≡ Some at
look_guessed E latest links id at kept lt named =
    position_only E at id lt named (λ j short other.
    let one : actor_of_element E j ≡ actor_of_element E at = id_actor E j id other ∙ sym (id_actor E at id named) in
    let same : counter_of_element E j ≡ counter_of_element E at = id_counter E j id other ∙ sym (id_counter E at id named) in
    elim (below_or_not j at) as (λ _. j ≡ at) [
      | inl less ↦ absurd (let r = kept.rises j at less lt one in omega arith)
      | inr ge ↦ elim (below_or_not at j) as (λ _. j ≡ at) [
        | inl more ↦ absurd (let r = kept.rises at j more short (sym one) in omega arith)
        | inr le ↦ omega arith
      ]
    ])

-- it has a smaller one: there is none
pub look_below : (E : List Insert) (latest : List Latest) (links : List Link) (id : OpId) (x : Latest) (at : ℕ) → IsIndexed E latest links → In x latest → x.actor ≡ id.actor → at < length E → actor_of_element E at ≡ actor_of_element E x.number → counter_of_element E at < id.counter → ((j : ℕ) → j ≤ x.number → actor_of_element E j ≡ actor_of_element E x.number → counter_of_element E j ≤ id.counter → j ≤ at) → position (λ (e : Insert). id_eq e.id id) E ≡ None
look_below E latest links id x at kept i by lt same less ahead =
    position_nowhere E id (λ j short named.
    let by_x : actor_of_element E j ≡ x.actor = id_actor E j id named ∙ sym by in
    let same_x : actor_of_element E j ≡ actor_of_element E x.number = by_x ∙ sym (kept.there x i).1 in
    let count = id_counter E j id named in
    let le = ahead j (kept.last x i j short by_x) same_x (omega arith) in
    elim (below_or_not j at) as (λ _. ⊥) [
      | inl before ↦ (let r = kept.rises j at before lt (same_x ∙ sym same) in omega arith)
      | inr ge ↦ (let one : j ≡ at = omega arith in let c = ap (counter_of_element E) one in omega arith)
    ])

-- the number that a look-up gives is that of the element
pub number_is : (E : List Insert) (x : OpId) (k : ℕ) → position (λ (e : Insert). id_eq e.id x) E ≡ Some k → (k < length E) × (id_eq (element_at E k).id x ≡ true)
number_is E x k e =
    let h = IsFirst-position E x (Some k) e in
    let at : get_or E k blank ≡ h.1 = ap (λ z. get_or z k blank) h.3 ∙ middle h.0 h.1 h.2 k blank h.4 in
    (let l = ap length h.3 in let m = length-append h.0 (h.1 ∷ h.2) in let n = h.4 in omega arith, ap (λ (w : Insert). id_eq w.id x) at ∙ h.5)
  where
    middle : (A : List Insert) (e : Insert) (B : List Insert) (n : ℕ) (d : Insert) → length A ≡ n → get_or (A ++ e ∷ B) n d ≡ e
    middle [] e B zero d h = refl
    middle [] e B (suc n) d h = absurd (omega arith)
    middle (a ∷ A) e B zero d h = absurd (omega arith)
    middle (a ∷ A) e B (suc n) d h = middle A e B n d (omega arith)
