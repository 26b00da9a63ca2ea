-- The elements in blocks: what reads find, and what an insert and a delete leave.
use Rattle.tp_list.proofs.Members.{In-get_or, In-index, In-middle}
use Rattle.tp_opid.specs.Tree.{IsThere, IsNew, IdsApart, CanInsert}
use Rattle.std.proofs.Common.{◌≡◌, inl, inr, ℕ, zero, suc, ◌+◌, ◌-◌, ◌<◌, ◌≤◌, Bool, true, false, not, Option, None, Some, List, [], ◌∷◌, ◌++◌, length, take, get_or, insert, set, map, filter, position, slice_get, refl, sym, ap, ◌∙◌, subst, arith, length-append, MatchBool}
use Rattle.std.specs.Option.{option_map, is_some, IfSome}
use Rattle.std.proofs.lemmas.List.{length-map, length-set, get_or-set_other, get_or-set_same}
use Rattle.tp_list.specs.Members.{In}
use Rattle.tp_opid.specs.declared.op_id.OpId.{OpId}
use Rattle.tp_opid.specs.declared.op_id.Place.{Place}
use Rattle.tp_opid.specs.declared.op_id.Place.TheVariants.{Start, After}
use Rattle.tp_opid.specs.Insert.{Insert}
use Rattle.tp_opid.specs.Order.{Below}
use Rattle.tp_opid.specs.Same.{id_eq}
use Rattle.tp_opid.proofs.Orders.{id_eq-same, id_eq-flip}
use Rattle.tp_rga.specs.declared.element.Element.{Element}
use Rattle.tp_rga.specs.declared.walk.Seen.{Seen}
use Rattle.tp_rga.specs.declared.walk.Spot.{Spot}
use Rattle.tp_rga.specs.Shown.{index_in, is_removed, visible_of, visible_before, element_of, seen_of}
use Rattle.tp_rga.specs.PlainState.{IsPlainState}
use Rattle.tp_rga.proofs.Flagging.{map-insert, map_agree, length-left, take-map_lem, slice_get-past}
use Rattle.tp_rga.proofs.Lookups.{IsFirst, IsFirst-position, position-first, IsThere-not_new, found-position}
use Rattle.tp_rga.proofs.PlainStates.{IsPlainState-insert, IsPlainState-delete, IsPlainState-delete_again, visible_of-found, visible_of-past, visible_of-before, visible_before-found}
use Rattle.tp_elements.specs.declared.entry.Reference.{Reference}
use Rattle.tp_elements.specs.Came.{blank, element_at}
use Rattle.tp_elements.specs.Entered.{place_of_reference}
use Rattle.tp_elements.proofs.Lists.{get_or-any, get_or-prefix, get_or-last, get_or-of_map}
use Rattle.tp_elements.proofs.Linking.{number_is}
use Rattle.tp_posindex.specs.Layout.{concat_blocks, block_at, index_at, IsAfter, AreSized, StandsAt}
use Rattle.tp_posindex.specs.Laid.{IsNumbered, Once, flag_of, flags_of, count_visible}
use Rattle.tp_posindex.specs.Blocked.{pieces, IsBlocked}
use Rattle.tp_posindex.proofs.Joining.{concat_blocks-map, In-concat_blocks, In-block, get_or-concat_blocks, index_at-before}
use Rattle.tp_posindex.proofs.Laying.{IsNumbered-insert, get_or-there, count-other}
use Rattle.tp_posindex.proofs.Seeking.{none_placed, found_placed, present_whole}

-- ---- blocks of elements

-- the block numbered p
pub block_at-map : {X Y : Type 0} (f : X → Y) (bs : List (List X)) (p : ℕ) → block_at (map (map f) bs) p ≡ map f (block_at bs p)
block_at-map f [] zero = refl
block_at-map f [] (suc p) = refl
block_at-map f (b ∷ bs) zero = refl
block_at-map f (b ∷ bs) (suc p) = block_at-map f bs p

-- the spots are as those of the numbers
pub index_at-map : {X Y : Type 0} (f : X → Y) (bs : List (List X)) (p offset : ℕ) → index_at (map (map f) bs) p offset ≡ index_at bs p offset
index_at-map f bs p offset =
    ap (λ z. length (concat_blocks z) + offset) (take-map_lem (map f) p bs)
    ∙ ap (λ z. length z + offset) (concat_blocks-map f (take p bs))
    ∙ ap (λ n. n + offset) (length-map (concat_blocks (take p bs)) f)

-- a block of the elements is one of numbers
In-map_back : {X Y : Type 0} (f : X → Y) (xs : List X) (y : Y) → In y (map f xs) → (x : X) × In x xs × (y ≡ f x)
In-map_back f [] y i = absurd i
In-map_back f (x ∷ xs) y (inl e) = (x, inl refl, e)
In-map_back f (x ∷ xs) y (inr i) = let r = In-map_back f xs y i in (r.0, inr r.1, r.2)

-- the sizes are as those of the numbers
pub AreSized-map : {X Y : Type 0} (f : X → Y) (bs : List (List X)) → AreSized bs → AreSized (map (map f) bs)
AreSized-map f bs sized =
    let many : length (map (map f) bs) ≡ length bs = length-map bs (map f) in
    record {
      some = λ c i. (let r = In-map_back (map f) bs c i in let l = ap length r.2 in let m = length-map r.0 f in let s = sized.some r.0 r.1 in omega arith);
      few = λ c i. (let r = In-map_back (map f) bs c i in let l = ap length r.2 in let m = length-map r.0 f in let s = sized.few r.0 r.1 in omega arith);
      half = λ several c i. (let r = In-map_back (map f) bs c i in let l = ap length r.2 in let m = length-map r.0 f in let s = sized.half (omega arith) r.0 r.1 in omega arith);
    }

-- ---- flags of elements

-- what two maps agree on
agree_at : {X Y Z : Type 0} (f : X → Z) (g : Y → Z) (h : X → Y) (xs : List X) → map f xs ≡ map g (map h xs) → (x : X) → In x xs → f x ≡ g (h x)
agree_at f g h [] e x i = absurd i
agree_at f g h (y ∷ xs) e x (inl is) = (let here : f y ≡ g (h y) = cc in ap f is ∙ here ∙ ap (λ z. g (h z)) (sym is))
agree_at f g h (y ∷ xs) e x (inr i) = (let rest : map f xs ≡ map g (map h xs) = cc in agree_at f g h xs rest x i)

-- a map through another
map_through : {X Y Z : Type 0} (f : X → Z) (g : Y → Z) (h : X → Y) (xs : List X) → ((x : X) → In x xs → f x ≡ g (h x)) → map f xs ≡ map g (map h xs)
map_through f g h [] same = refl
map_through f g h (x ∷ xs) same =
    let here = same x (inl refl) in let rest = map_through f g h xs (λ y i. same y (inr i)) in cc

-- the flag of a number says whether its element is deleted
pub flag_is : (E : List Insert) (bs : List (List ℕ)) (flags : List Bool) (R : List (OpId × OpId)) (left : ℕ) (k : ℕ) → IsBlocked E bs flags R left → k < length E → flag_of flags k ≡ is_removed R (element_at E k).id
flag_is E bs flags R left k kept lt = agree_at (flag_of flags) (λ (e : Insert). is_removed R e.id) (element_at E) (concat_blocks bs) kept.kept.flagged k (kept.numbered.there k lt)

-- as many flags are down in a block as elements are shown
pub block_shown : (E : List Insert) (bs : List (List ℕ)) (flags : List Bool) (R : List (OpId × OpId)) (left p : ℕ) → IsBlocked E bs flags R left → p < length bs → count_visible flags (block_at bs p) ≡ length (visible_of R (block_at (pieces E bs) p))
block_shown E bs flags R left p kept lt =
    let b = block_at bs p in
    let f : Insert → Bool = λ (e : Insert). is_removed R e.id in
    let same : flags_of flags b ≡ map f (map (element_at E) b) =
    map_through (flag_of flags) f (element_at E) b (λ k i. flag_is E bs flags R left k kept (kept.numbered.below k (In-concat_blocks k b bs (In-block bs p lt) i))) in
    ap (λ z. length (filter not z)) same ∙ length-left f (map (element_at E) b) ∙ ap (λ z. length (visible_of R z)) (sym (block_at-map (element_at E) bs p))

-- ---- reads

-- the elements one after another
pub placed_is : (E : List Insert) (bs : List (List ℕ)) → concat_blocks (pieces E bs) ≡ map (element_at E) (concat_blocks bs)
placed_is E bs = concat_blocks-map (element_at E) bs

-- the element at a spot
pub element_read : (E : List Insert) (bs : List (List ℕ)) (p offset : ℕ) (x : Insert) → IsNumbered (length E) (concat_blocks bs) → p < length bs → offset < length (block_at bs p) → x ≡ get_or E (get_or (block_at bs p) offset 0) x → (d : Insert) → get_or (map (element_at E) (concat_blocks bs)) (index_at bs p offset) d ≡ x
element_read E bs p offset x numbered lt short read d =
    let k = get_or (block_at bs p) offset 0 in
    let within : k < length E = numbered.below k (In-concat_blocks k (block_at bs p) bs (In-block bs p lt) (In-get_or (block_at bs p) offset 0 short)) in
    get_or-of_map (element_at E) (concat_blocks bs) (index_at bs p offset) d 0 (index_at-before bs p offset lt short)
    ∙ ap (element_at E) (get_or-concat_blocks bs p offset 0 lt short)
    ∙ get_or-any E k blank x within
    ∙ sym read

-- the element found by the counts has that place in the text
pub shown_at : (E : List Insert) (bs : List (List ℕ)) (flags : List Bool) (R : List (OpId × OpId)) (left p offset i : ℕ) (x : Insert) → IsBlocked E bs flags R left → p < length bs → offset < length (block_at bs p) → flag_of flags (get_or (block_at bs p) offset 0) ≡ false → count_visible flags (take (index_at bs p offset) (concat_blocks bs)) ≡ i → x ≡ get_or E (get_or (block_at bs p) offset 0) x → slice_get (visible_of R (concat_blocks (pieces E bs))) i ≡ Some x
shown_at E bs flags R left p offset i x kept lt short down before read =
    let G = index_at bs p offset in
    let js = concat_blocks bs in
    let inside : G < length js = index_at-before bs p offset lt short in
    let at : get_or (flags_of flags js) G false ≡ false = get_or-of_map (flag_of flags) js G false 0 inside ∙ ap (flag_of flags) (get_or-concat_blocks bs p offset 0 lt short) ∙ down in
    let present : slice_get (flags_of flags js) G ≡ Some false = get_or-there (flags_of flags js) G false false (let l = length-map js (flag_of flags) in omega arith) at in
    let counted : length (filter not (take G (flags_of flags js))) ≡ i = ap (λ z. length (filter not z)) (take-map_lem (flag_of flags) G js) ∙ before in
    let here : x ≡ get_or (map (element_at E) js) G x = sym (element_read E bs p offset x kept.numbered lt short read x) in
    ap (λ z. slice_get (visible_of R z) i) (placed_is E bs) ∙ visible_of-found (map (element_at E) js) (flags_of flags js) R left G i x kept.kept present counted here

-- past what is shown there is nothing
pub shown_past : (E : List Insert) (bs : List (List ℕ)) (flags : List Bool) (R : List (OpId × OpId)) (left i : ℕ) → IsBlocked E bs flags R left → count_visible flags (concat_blocks bs) ≤ i → slice_get (visible_of R (concat_blocks (pieces E bs))) i ≡ None
shown_past E bs flags R left i kept past =
    ap (λ z. slice_get (visible_of R z) i) (placed_is E bs) ∙ visible_of-past (map (element_at E) (concat_blocks bs)) (flags_of flags (concat_blocks bs)) R left i kept.kept past

-- two spots of one identifier are one
one_place : (L : List Insert) (i j : ℕ) (d e : Insert) → IdsApart L → i < length L → j < length L → id_eq (get_or L i d).id (get_or L j e).id ≡ true → i ≡ j
one_place [] i j d e apart h k same = absurd (omega arith)
one_place (a ∷ L) zero zero d e apart h k same = refl
one_place (a ∷ L) zero (suc j) d e apart h k same =
    let other : id_eq a.id (get_or L j e).id ≡ false = id_eq-flip (get_or L j e).id a.id (apart.0 (get_or L j e) (In-get_or L j e (omega arith))) in cc
one_place (a ∷ L) (suc i) zero d e apart h k same =
    let other : id_eq (get_or L i d).id a.id ≡ false = apart.0 (get_or L i d) (In-get_or L i d (omega arith)) in cc
one_place (a ∷ L) (suc i) (suc j) d e apart h k same = ap suc (one_place L i j d e apart.1 (omega arith) (omega arith) same)

-- the first element with an identifier, where no two have one
pub position_at : (L : List Insert) (i : ℕ) (d : Insert) (x : OpId) → IdsApart L → i < length L → id_eq (get_or L i d).id x ≡ true → position (λ (e : Insert). id_eq e.id x) L ≡ Some i
position_at L i d x apart lt named = from (position (λ (e : Insert). id_eq e.id x) L) (position-first (λ (e : Insert). id_eq e.id x) L)
  where
    middle : (A : List Insert) (e : Insert) (B : List Insert) (n : ℕ) (d : Insert) → length A ≡ n → get_or (A ++ e ∷ B) n d ≡ e
    middle [] e B zero d h = refl
    middle [] e B (suc n) d h = absurd (omega arith)
    middle (a ∷ A) e B zero d h = absurd (omega arith)
    middle (a ∷ A) e B (suc n) d h = middle A e B n d (omega arith)

    from : (r : Option ℕ) → IsFirst (λ (e : Insert). id_eq e.id x) L r → r ≡ Some i
    from None h = let other : id_eq (get_or L i d).id x ≡ false = h (get_or L i d) (In-get_or L i d lt) in cc
    from (Some j) h =
        let at : get_or L j d ≡ h.1 = ap (λ z. get_or z j d) h.3 ∙ middle h.0 h.1 h.2 j d h.4 in
        let short : j < length L = (let l = ap length h.3 in let m = length-append h.0 (h.1 ∷ h.2) in let n = h.4 in omega arith) in
        let same : id_eq (get_or L i d).id (get_or L j d).id ≡ true =
        subst (λ w. id_eq (get_or L i d).id w ≡ true) (sym (ap (λ (w : Insert). w.id) at ∙ id_eq-same h.1.id x h.5)) named in
        ap Some (sym (one_place L i j d d apart lt short same))

-- nothing is found of what isn't there
pub position_new : (L : List Insert) (x : OpId) → IsNew L x → position (λ (e : Insert). id_eq e.id x) L ≡ None
position_new L x new = from (position (λ (e : Insert). id_eq e.id x) L) (position-first (λ (e : Insert). id_eq e.id x) L)
  where
    from : (r : Option ℕ) → IsFirst (λ (e : Insert). id_eq e.id x) L r → r ≡ None
    from None h = refl
    from (Some j) h = let other : id_eq h.1.id x ≡ false = new h.1 (subst (In h.1) (sym h.3) (In-middle h.0 h.1 h.2)) in let named = h.5 in cc

-- where an element that was found is among the elements in order
pub position_placed : (E : List Insert) (bs : List (List ℕ)) (flags : List Bool) (R : List (OpId × OpId)) (left p offset k : ℕ) (x : OpId) → IsBlocked E bs flags R left → StandsAt bs p offset k → position (λ (e : Insert). id_eq e.id x) E ≡ Some k → position (λ (e : Insert). id_eq e.id x) (map (element_at E) (concat_blocks bs)) ≡ Some (index_at bs p offset)
position_placed E bs flags R left p offset k x kept at found =
    let whole = present_whole bs p offset k 0 at in
    let L = map (element_at E) (concat_blocks bs) in
    let G = index_at bs p offset in
    let here : get_or L G blank ≡ element_at E k = get_or-of_map (element_at E) (concat_blocks bs) G blank 0 whole.0 ∙ ap (element_at E) whole.1 in
    position_at L G blank x kept.kept.apart (let l = length-map (concat_blocks bs) (element_at E) in let w = whole.0 in omega arith) (ap (λ (w : Insert). id_eq w.id x) here ∙ (number_is E x k found).1)

-- the index of an element that was found
pub index_found : (E : List Insert) (bs : List (List ℕ)) (flags : List Bool) (R : List (OpId × OpId)) (left p offset k n : ℕ) (x : OpId) → IsBlocked E bs flags R left → StandsAt bs p offset k → position (λ (e : Insert). id_eq e.id x) E ≡ Some k → n ≡ index_at bs p offset → index_in (concat_blocks (pieces E bs)) x ≡ Some n
index_found E bs flags R left p offset k n x kept at found is =
    ap (λ z. index_in z x) (placed_is E bs) ∙ position_placed E bs flags R left p offset k x kept at found ∙ ap Some (sym is)

-- how far a spot is after its block's first index
pub index_from_first : (bs : List (List ℕ)) (p offset n : ℕ) → n ≡ index_at bs p 0 → n + offset ≡ index_at bs p offset
index_from_first bs p offset n e = omega arith

-- what isn't there has none
pub index_none : (E : List Insert) (bs : List (List ℕ)) (flags : List Bool) (R : List (OpId × OpId)) (left : ℕ) (x : OpId) → IsBlocked E bs flags R left → position (λ (e : Insert). id_eq e.id x) E ≡ None → index_in (concat_blocks (pieces E bs)) x ≡ None
index_none E bs flags R left x kept none =
    ap (λ z. index_in z x) (placed_is E bs) ∙ position_new (map (element_at E) (concat_blocks bs)) x (none_placed E (concat_blocks bs) x kept.numbered.below none)

-- how many are shown before an element that was found
pub position_shown : (E : List Insert) (bs : List (List ℕ)) (flags : List Bool) (R : List (OpId × OpId)) (left p offset k n : ℕ) (x : OpId) → IsBlocked E bs flags R left → StandsAt bs p offset k → position (λ (e : Insert). id_eq e.id x) E ≡ Some k → n ≡ count_visible flags (take (index_at bs p offset) (concat_blocks bs)) → visible_before R (concat_blocks (pieces E bs)) x ≡ Some n
position_shown E bs flags R left p offset k n x kept at found count =
    let L = map (element_at E) (concat_blocks bs) in
    let G = index_at bs p offset in
    ap (λ z. visible_before R z x) (placed_is E bs)
    ∙ visible_before-found R L x G (position_placed E bs flags R left p offset k x kept at found)
    ∙ ap Some (sym (visible_of-before L (flags_of flags (concat_blocks bs)) R left G kept.kept) ∙ ap (λ z. length (filter not z)) (take-map_lem (flag_of flags) G (concat_blocks bs)) ∙ sym count)

-- nothing is before what isn't there
pub position_none : (E : List Insert) (bs : List (List ℕ)) (flags : List Bool) (R : List (OpId × OpId)) (left : ℕ) (x : OpId) → IsBlocked E bs flags R left → position (λ (e : Insert). id_eq e.id x) E ≡ None → visible_before R (concat_blocks (pieces E bs)) x ≡ None
position_none E bs flags R left x kept none =
    ap (λ z. visible_before R z x) (placed_is E bs)
    ∙ ap (option_map (λ i. length (visible_of R (take i (map (element_at E) (concat_blocks bs)))))) (position_new (map (element_at E) (concat_blocks bs)) x (none_placed E (concat_blocks bs) x kept.numbered.below none))

-- the element at a place of all elements
pub element_at_place : (E : List Insert) (bs : List (List ℕ)) (flags : List Bool) (R : List (OpId × OpId)) (left p offset k i : ℕ) (x : Insert) (gone : Bool) → IsBlocked E bs flags R left → p < length bs → offset < length (block_at bs p) → index_at bs p offset ≡ i → k ≡ get_or (block_at bs p) offset 0 → x ≡ get_or E k x → gone ≡ flag_of flags k → option_map (element_of R) (slice_get (concat_blocks (pieces E bs)) i) ≡ Some (record { id = x.id; after = x.after; ch = x.ch; deleted = gone })
element_at_place E bs flags R left p offset k i x gone kept lt short at k_is read flag =
    let js = concat_blocks bs in
    let read' : x ≡ get_or E (get_or (block_at bs p) offset 0) x = read ∙ ap (λ n. get_or E n x) k_is in
    let within : k < length E = kept.numbered.below k (subst (λ (n : ℕ). In n js) (sym k_is) (In-concat_blocks (get_or (block_at bs p) offset 0) (block_at bs p) bs (In-block bs p lt) (In-get_or (block_at bs p) offset 0 short))) in
    let here : get_or (map (element_at E) js) i x ≡ x = ap (λ n. get_or (map (element_at E) js) n x) (sym at) ∙ element_read E bs p offset x kept.numbered lt short read' x in
    let inside : i < length (map (element_at E) js) = (let l = length-map js (element_at E) in let b = index_at-before bs p offset lt short in omega arith) in
    let present : slice_get (map (element_at E) js) i ≡ Some x = get_or-there (map (element_at E) js) i x x inside here in
    let element : element_at E k ≡ x = get_or-any E k blank x within ∙ sym read in
    let down : gone ≡ is_removed R x.id = flag ∙ flag_is E bs flags R left k kept within ∙ ap (λ (w : Insert). is_removed R w.id) element in
    ap (λ z. option_map (element_of R) (slice_get z i)) (placed_is E bs)
    ∙ ap (option_map (element_of R)) present
    ∙ ap (λ (b : Bool). Some (let e : Element = record { id = x.id; after = x.after; ch = x.ch; deleted = b } in e)) (sym down)

-- past all elements there is none
pub element_past : (E : List Insert) (bs : List (List ℕ)) (R : List (OpId × OpId)) (i : ℕ) → length (concat_blocks bs) ≤ i → option_map (element_of R) (slice_get (concat_blocks (pieces E bs)) i) ≡ None
element_past E bs R i past =
    ap (λ z. option_map (element_of R) (slice_get z i)) (placed_is E bs)
    ∙ ap (option_map (element_of R)) (slice_get-past (map (element_at E) (concat_blocks bs)) i (let l = length-map (concat_blocks bs) (element_at E) in omega arith))

-- ---- a walk

-- what is seen of an element
seen_as : Element → Seen
seen_as x = record { id = x.id; ch = x.ch; deleted = x.deleted }

seen-element : (R : List (OpId × OpId)) (o : Option Insert) → option_map (seen_of R) o ≡ option_map seen_as (option_map (element_of R) o)
unfolding seen_as
seen-element R None = refl
seen-element R (Some e) = refl

-- what is seen at a place of all elements
pub seen_at_place : (E : List Insert) (bs : List (List ℕ)) (flags : List Bool) (R : List (OpId × OpId)) (left p offset k i : ℕ) (gone : Bool) → IsBlocked E bs flags R left → p < length bs → offset < length (block_at bs p) → index_at bs p offset ≡ i → k ≡ get_or (block_at bs p) offset 0 → k < length E → gone ≡ flag_of flags k → option_map (seen_of R) (slice_get (concat_blocks (pieces E bs)) i) ≡ Some (record { id = (element_at E k).id; ch = (element_at E k).ch; deleted = gone })
unfolding seen_as
seen_at_place E bs flags R left p offset k i gone kept lt short at k_is within flag =
    let x = element_at E k in
    seen-element R (slice_get (concat_blocks (pieces E bs)) i)
    ∙ ap (option_map seen_as) (element_at_place E bs flags R left p offset k i x gone kept lt short at k_is (get_or-any E k blank x within) flag)

-- past all elements nothing is seen
pub seen_past : (E : List Insert) (bs : List (List ℕ)) (R : List (OpId × OpId)) (i : ℕ) → length (concat_blocks bs) ≤ i → option_map (seen_of R) (slice_get (concat_blocks (pieces E bs)) i) ≡ None
seen_past E bs R i past =
    seen-element R (slice_get (concat_blocks (pieces E bs)) i) ∙ ap (option_map seen_as) (element_past E bs R i past)

-- a spot among the elements is one among the numbers
pub after_numbers : (E : List Insert) (bs : List (List ℕ)) (p offset k : ℕ) → IsAfter (pieces E bs) p offset k → IsAfter bs p offset k
after_numbers E bs p offset k h =
    let many : length (pieces E bs) ≡ length bs = length-map bs (map (element_at E)) in
    let size : length (block_at (pieces E bs) p) ≡ length (block_at bs p) = ap length (block_at-map (element_at E) bs p) ∙ length-map (block_at bs p) (element_at E) in
    let block = h.block in
    let offset_in = h.offset_in in
    record { block = omega arith; offset_in = omega arith; before = sym (index_at-map (element_at E) bs p offset) ∙ h.before }

-- and so is the one that a walk noted
pub noted_numbers : (E : List Insert) (bs : List (List ℕ)) (o : Option Spot) (k : ℕ) → IfSome o (λ s. IsAfter (pieces E bs) s.block s.offset k) → IfSome o (λ s. IsAfter bs s.block s.offset k)
noted_numbers E bs None k h = h
noted_numbers E bs (Some s) k h = after_numbers E bs s.block s.offset k h

-- and the other way round, after an element
pub after_element : (E : List Insert) (bs : List (List ℕ)) (p offset k : ℕ) → p < length bs → offset < length (block_at bs p) → index_at bs p offset ≡ k → IsAfter (pieces E bs) p (offset + 1) (k + 1)
after_element E bs p offset k lt short at =
    let many : length (pieces E bs) ≡ length bs = length-map bs (map (element_at E)) in
    let size : length (block_at (pieces E bs) p) ≡ length (block_at bs p) = ap length (block_at-map (element_at E) bs p) ∙ length-map (block_at bs p) (element_at E) in
    let same = index_at-map (element_at E) bs p offset in
    record { block = omega arith; offset_in = omega arith; before = omega arith }

-- ---- tests

-- whether a look-up finds an element says whether it is there
pub there_test : (E : List Insert) (bs : List (List ℕ)) (x : OpId) (r : Option ℕ) → IsNumbered (length E) (concat_blocks bs) → position (λ (e : Insert). id_eq e.id x) E ≡ r → (is_some r ≡ true → IsThere (concat_blocks (pieces E bs)) x) × (IsThere (concat_blocks (pieces E bs)) x → is_some r ≡ true)
there_test E bs x None numbered e = (
  λ h. cc,
  λ there. absurd (IsThere-not_new (map (element_at E) (concat_blocks bs)) x (subst (λ z. IsThere z x) (placed_is E bs) there) (none_placed E (concat_blocks bs) x numbered.below e)),
)
there_test E bs x (Some k) numbered e = (
  λ h. subst (λ z. IsThere z x) (sym (placed_is E bs)) (found_placed E (concat_blocks bs) x k (numbered.there k (number_is E x k e).0) e),
  λ there. refl,
)

-- what a test says, either way
tested : (L : List Insert) (x : OpId) (b : Bool) → (b ≡ true → IsThere L x) × (IsThere L x → b ≡ true) → MatchBool b (IsThere L x) (IsNew L x)
tested L x true h = h.0 refl
tested L x false h = from (is_some (position (λ (e : Insert). id_eq e.id x) L)) (found-position L x)
  where
    from : (v : Bool) → MatchBool v (IsThere L x) (IsNew L x) → IsNew L x
    from true there = (let wrong : false ≡ true = h.1 there in cc)
    from false new = new

-- what isn't there is new
pub new_test : (L : List Insert) (x : OpId) (b : Bool) → (b ≡ true → IsThere L x) × (IsThere L x → b ≡ true) → b ≡ false → IsNew L x
new_test L x true h e = cc
new_test L x false h e = tested L x false h

-- what is there can't be inserted
pub can_not : (L : List Insert) (x : OpId) (p : Place) → IsThere L x → (false ≡ true → CanInsert L x p) × (CanInsert L x p → false ≡ true)
can_not L x p there = (λ e. cc, λ can. absurd (IsThere-not_new L x there can.new))

-- what is new can be inserted at the start
pub can_start : (L : List Insert) (x : OpId) → IsNew L x → (true ≡ true → CanInsert L x Start) × (CanInsert L x Start → true ≡ true)
can_start L x new = (λ e. record { new = new; place = tt }, λ can. refl)

-- what is new can be inserted after a smaller element that is there, and only after such a one
pub can_after : (L : List Insert) (x r : OpId) (b : Bool) → IsNew L x → Below r x → (b ≡ true → IsThere L r) × (IsThere L r → b ≡ true) → (b ≡ true → CanInsert L x (After r)) × (CanInsert L x (After r) → b ≡ true)
can_after L x r b new below h = (λ e. record { new = new; place = (h.0 e, below) }, λ can. h.1 can.place.0)

-- ---- an insert

-- the elements with a new one put in at a place
pub placed_insert : (E : List Insert) (ks : List ℕ) (G n : ℕ) (x : Insert) → ((k : ℕ) → In k ks → k < length E) → n ≡ length E → map (element_at (E ++ x ∷ [])) (insert ks G n) ≡ insert (map (element_at E) ks) G x
placed_insert E ks G n x below is =
    map-insert (element_at (E ++ x ∷ [])) ks G n
    ∙ ap (insert (map (element_at (E ++ x ∷ [])) ks) G) (get_or-last E x n blank is)
    ∙ ap (λ z. insert z G x) (map_agree (element_at (E ++ x ∷ [])) (element_at E) ks (λ k i. get_or-prefix E (x ∷ []) k blank (below k i)))

-- the flags with a new one put in at a place
flags_insert : (flags : List Bool) (ks : List ℕ) (G n : ℕ) → ((k : ℕ) → In k ks → k < length flags) → n ≡ length flags → flags_of (flags ++ false ∷ []) (insert ks G n) ≡ insert (flags_of flags ks) G false
flags_insert flags ks G n below is =
    map-insert (flag_of (flags ++ false ∷ [])) ks G n
    ∙ ap (insert (flags_of (flags ++ false ∷ []) ks) G) (get_or-last flags false n false is)
    ∙ ap (λ z. insert z G false) (map_agree (flag_of (flags ++ false ∷ [])) (flag_of flags) ks (λ k i. get_or-prefix flags (false ∷ []) k false (below k i)))

-- a new element is put in
pub IsBlocked-insert : (E : List Insert) (bs bs' : List (List ℕ)) (flags : List Bool) (R : List (OpId × OpId)) (left G : ℕ) (x : Insert) → IsBlocked E bs flags R left → concat_blocks bs' ≡ insert (concat_blocks bs) G (length flags) → IsNew (map (element_at E) (concat_blocks bs)) x.id → IsBlocked (E ++ x ∷ []) bs' (flags ++ false ∷ []) R (left + 1)
IsBlocked-insert E bs bs' flags R left G x kept whole new =
    let js = concat_blocks bs in
    let more : length (E ++ x ∷ []) ≡ suc (length E) = length-append E (x ∷ []) ∙ omega arith in
    let below : (k : ℕ) → In k js → k < length flags = (λ k i. subst (λ (z : ℕ). k < z) (sym kept.matched) (kept.numbered.below k i)) in
    let elements = placed_insert E js G (length flags) x kept.numbered.below kept.matched in
    let downs = flags_insert flags js G (length flags) below refl in
    let put = IsPlainState-insert (map (element_at E) js) (flags_of flags js) R left G x kept.kept new in
    record {
      matched = length-append flags (false ∷ []) ∙ ap (λ n. n + 1) kept.matched ∙ sym (length-append E (x ∷ []));
      numbered = subst (λ n. IsNumbered n (concat_blocks bs')) (sym more) (subst (IsNumbered (suc (length E))) (sym (whole ∙ ap (insert js G) kept.matched)) (IsNumbered-insert (length E) js G kept.numbered));
      kept = subst (λ z. IsPlainState (map (element_at (E ++ x ∷ [])) z) (flags_of (flags ++ false ∷ []) z) R (left + 1)) (sym whole)
          (subst (λ z. IsPlainState z (flags_of (flags ++ false ∷ []) (insert js G (length flags))) R (left + 1)) (sym elements)
          (subst (λ z. IsPlainState (insert (map (element_at E) js) G x) z R (left + 1)) (sym downs) put));
    }

-- ---- a delete

-- a raised flag in its place
flags_set : (flags : List Bool) (ks : List ℕ) (G k : ℕ) → Once ks → G < length ks → get_or ks G 0 ≡ k → k < length flags → flags_of (set flags k true) ks ≡ set (flags_of flags ks) G true
flags_set flags [] G k once lt at within = absurd (omega arith)
flags_set flags (j ∷ ks) zero k once lt at within =
    let up : flag_of (set flags k true) j ≡ true = ap (flag_of (set flags k true)) at ∙ get_or-set_same flags k true false within in
    let rest : flags_of (set flags k true) ks ≡ flags_of flags ks = count-other flags k ks (subst (λ (z : ℕ). In z ks → ⊥) at once.0) in
    cc
flags_set flags (j ∷ ks) (suc G) k once lt at within =
    let i : In k ks = subst (λ (z : ℕ). In z ks) at (In-get_or ks G 0 (omega arith)) in
    let ne : j ≡ k → ⊥ = (λ (e : j ≡ k). once.0 (subst (λ (z : ℕ). In z ks) (sym e) i)) in
    let here : flag_of (set flags k true) j ≡ flag_of flags j = get_or-set_other flags k j true false ne in
    let rest = flags_set flags ks G k once.1 (omega arith) at within in
    cc

-- an element that is there is found by its number
found_first : (E : List Insert) (bs : List (List ℕ)) (flags : List Bool) (R : List (OpId × OpId)) (left k : ℕ) (x : OpId) → IsBlocked E bs flags R left → position (λ (e : Insert). id_eq e.id x) E ≡ Some k → (G : ℕ) × (G < length (concat_blocks bs)) × (get_or (concat_blocks bs) G 0 ≡ k) × (position (λ (e : Insert). id_eq e.id x) (map (element_at E) (concat_blocks bs)) ≡ Some G)
found_first E bs flags R left k x kept found =
    let named = number_is E x k found in
    let r = In-index k (concat_blocks bs) (kept.numbered.there k named.0) in
    let L = map (element_at E) (concat_blocks bs) in
    let here : get_or L r.0 blank ≡ element_at E k = get_or-of_map (element_at E) (concat_blocks bs) r.0 blank 0 r.1 ∙ ap (element_at E) (r.2 0) in
    (r.0, r.1, r.2 0, position_at L r.0 blank x kept.kept.apart (let l = length-map (concat_blocks bs) (element_at E) in let w = r.1 in omega arith) (ap (λ (w : Insert). id_eq w.id x) here ∙ named.1))

-- an element is deleted
pub IsBlocked-delete : (E : List Insert) (bs : List (List ℕ)) (flags : List Bool) (R : List (OpId × OpId)) (left k : ℕ) (t b : OpId) → IsBlocked E bs flags R left → position (λ (e : Insert). id_eq e.id t) E ≡ Some k → flag_of flags k ≡ false → IsThere (map (element_at E) (concat_blocks bs)) t → (1 ≤ left) × IsBlocked E bs (set flags k true) (R ++ (t, b) ∷ []) (left - 1)
IsBlocked-delete E bs flags R left k t b kept found down there =
    let js = concat_blocks bs in
    let L = map (element_at E) js in
    let at = found_first E bs flags R left k t kept found in
    let named = number_is E t k found in
    let within : k < length flags = (let n = named.0 in let m = kept.matched in omega arith) in
    let read : flag_of flags k ≡ get_or (flags_of flags js) at.0 (flag_of flags k) = sym (get_or-of_map (flag_of flags) js at.0 (flag_of flags k) 0 at.1 ∙ ap (flag_of flags) at.2) in
    let gone = IsPlainState-delete L (flags_of flags js) R left t b at.0 kept.kept (IsFirst-position L t (Some at.0) at.3) (flag_of flags k) read down there in
    let same = flags_set flags js at.0 k kept.numbered.once at.1 at.2 within in (
      gone.0,
      record {
        matched = length-set flags k true ∙ kept.matched;
        numbered = kept.numbered;
        kept = subst (λ z. IsPlainState L z (R ++ (t, b) ∷ []) (left - 1)) (sym same) gone.1;
      },
    )

-- an element that is deleted already is deleted again
pub IsBlocked-delete_again : (E : List Insert) (bs : List (List ℕ)) (flags : List Bool) (R : List (OpId × OpId)) (left k : ℕ) (t b : OpId) → IsBlocked E bs flags R left → position (λ (e : Insert). id_eq e.id t) E ≡ Some k → flag_of flags k ≡ true → IsThere (map (element_at E) (concat_blocks bs)) t → IsBlocked E bs flags (R ++ (t, b) ∷ []) left
IsBlocked-delete_again E bs flags R left k t b kept found up there =
    let js = concat_blocks bs in
    let L = map (element_at E) js in
    let at = found_first E bs flags R left k t kept found in
    let read : flag_of flags k ≡ get_or (flags_of flags js) at.0 (flag_of flags k) = sym (get_or-of_map (flag_of flags) js at.0 (flag_of flags k) 0 at.1 ∙ ap (flag_of flags) at.2) in
    record {
      matched = kept.matched;
      numbered = kept.numbered;
      kept = IsPlainState-delete_again L (flags_of flags js) R left t b at.0 kept.kept (IsFirst-position L t (Some at.0) at.3) (flag_of flags k) read up there;
    }

-- what was put in after elements that are as before
pub pushed_is : (F E : List Insert) (id : OpId) (after : Place) (r : Reference) (ch : ℕ) (new : List Insert) → F ≡ E → place_of_reference F r ≡ after → new ≡ F ++ record { id = id; after = place_of_reference F r; ch = ch } ∷ [] → new ≡ E ++ record { id = id; after = after; ch = ch } ∷ []
pushed_is F E id after r ch new same place is =
    is
    ∙ ap (λ (p : Place). F ++ record { id = id; after = p; ch = ch } ∷ []) place
    ∙ ap (λ (z : List Insert). z ++ record { id = id; after = after; ch = ch } ∷ []) same
