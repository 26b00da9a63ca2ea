-- What is said of what could be had, one change and one file after another.
use Rattle.std.proofs.Common.{◌≡◌, ◌∙◌, ◌+◌, ◌<◌, ℕ, List, [], ◌∷◌, ◌++◌, length, map, take, drop, get_or, Bool, true, false, cond, Option, Result, Ok, Err, inl, inr, ap, refl, sym, subst, append_assoc, append-nil}
use Rattle.std.specs.Prelude.{◌||◌, IfOk, IsTrue, OnOk, option_map}
use Rattle.std.specs.Borrow.{Bor}
use Rattle.std.specs.List.{flat_map, list_all}
use Rattle.std.proofs.lemmas.Grind.{flat_map-append}
use Rattle.std.proofs.lemmas.List.{drop_more, map_push, take_at, take_more}
use Rattle.tp_list.specs.Members.{In}
use Rattle.tp_list.proofs.Members.{In-append}
use Rattle.tp_opid.specs.Same.{same_doc}
use Rattle.tp_opid.specs.declared.doc_id.DocId.{DocId}
use Rattle.tp_layout.specs.declared.parts.ChangeParts.{ChangeParts}
use Rattle.tp_change.specs.ChangeHash.{hash_of}
use Rattle.tp_history.specs.Fit.{cause}
use Rattle.tp_history.specs.Named.{has}
use Rattle.tp_recovery.specs.Layout.{journal}
use Rattle.tp_recovery.specs.Whole.{Inspects, Rescues}
use Rattle.tp_recovery.specs.declared.rescuing.WholeRecord.{WholeRecord}
use Rattle.tp_store.specs.declared.error.StoreError.{StoreError}
use Rattle.tp_store.specs.declared.error.StoreError.TheVariants.{Refused}
use Rattle.tp_disk.specs.DiskView.{DiskView}
use Rattle.tp_program.specs.Rescuing.{AreOthers, IsRescued, Other, WasSearched, cause_left, changes_of_other, first_left, id_chosen, ids_of_other, left_after, left_line, left_lines, path_of_other, rescue_text, tail_start}

-- the lines of one change more
pub left_more : (C before changes : List ChangeParts) (i : ℕ) (d c : ChangeParts) (lines more all : List ℕ) → i < length changes → c ≡ get_or changes i d
    → lines ++ left_lines C before (drop i changes) ≡ all → more ≡ lines ++ left_line (cause_left (cause C c)) (has before (hash_of c)) (hash_of c)
    → more ++ left_lines C (left_after (cause_left (cause C c)) c before) (drop (i + 1) changes) ≡ all
left_more C before changes i d c lines more all small is so_far put =
    let rest = left_lines C (left_after (cause_left (cause C c)) c before) (drop (i + 1) changes) in
    let next : drop i changes ≡ c ∷ drop (i + 1) changes = drop_more changes i d small ∙ ap (λ (x : ChangeParts). x ∷ drop (i + 1) changes) (sym is) in
    ap (λ (l : List ℕ). l ++ rest) put
    ∙ append_assoc lines (left_line (cause_left (cause C c)) (has before (hash_of c)) (hash_of c)) rest
    ∙ ap (λ (l : List ChangeParts). lines ++ left_lines C before l) (sym next) ∙ so_far

-- a test of two
pub either : (a b : Bool) → cond a true b ≡ (a || b)
either true b = refl
either false b = refl

-- what holds where it was done
pub then_on : {A E P Q : Type 0} (r : Result A E) → OnOk r P → (P → Q) → OnOk r Q
then_on (Ok x) p f = f p
then_on (Err e) p f = tt

flat_map_push : {X : Type 0} {A : Type 0} (f : X → List A) (xs : List X) (x : X) → flat_map f (xs ++ x ∷ []) ≡ flat_map f xs ++ f x
flat_map_push f xs x = flat_map-append f xs (x ∷ []) ∙ ap (λ l. flat_map f xs ++ l) (append-nil (f x))

-- one file more
pub others_more : (saw : DiskView → Type 0) (paths : List (List ℕ)) (path : List ℕ) (changes all : List ChangeParts) (ids named : List DocId) (o : Other)
    → AreOthers saw paths changes ids → o.path ≡ path → WasSearched saw o → all ≡ changes ++ o.changes → named ≡ ids ++ ids_of_other o
    → AreOthers saw (paths ++ path ∷ []) all named
others_more saw paths path changes all ids named o a of_path searched all_is named_is = record {
  others = a.others ++ o ∷ [];
  paths_are = ap (λ (l : List (List ℕ)). l ++ path ∷ []) a.paths_are ∙ ap (λ (p : List ℕ). map path_of_other a.others ++ p ∷ []) (sym of_path) ∙ sym (map_push path_of_other a.others o);
  searched = λ x i. elim (In-append x a.others (o ∷ []) i) [
    | inl before ↦ a.searched x before
    | inr last ↦ elim last [
      | inl same ↦ subst (WasSearched saw) (sym same) searched
      | inr none ↦ absurd none
    ]
  ];
  changes_are = all_is ∙ ap (λ (l : List ChangeParts). l ++ o.changes) a.changes_are ∙ sym (flat_map_push changes_of_other a.others o);
  ids_are = named_is ∙ ap (λ (l : List DocId). l ++ ids_of_other o) a.ids_are ∙ sym (flat_map_push ids_of_other a.others o);
}

-- no file
pub others_none : (saw : DiskView → Type 0) (changes : List ChangeParts) (ids : List DocId) → changes ≡ [] → ids ≡ [] → AreOthers saw [] changes ids
others_none saw changes ids no_changes no_ids = record { others = []; paths_are = refl; searched = λ o i. absurd i; changes_are = no_changes; ids_are = no_ids }

-- the file at the next path
pub others_next : (saw : DiskView → Type 0) (paths : List (Bor (List ℕ))) (i : ℕ) (d path : Bor (List ℕ)) (changes all : List ChangeParts) (ids named : List DocId) → i < length paths
    → path ≡ get_or paths i d → AreOthers saw (map (λ p. p.now) (take i paths)) changes ids
    → (o : Other) × (o.path ≡ path.now) × WasSearched saw o × (all ≡ changes ++ o.changes) × (named ≡ ids ++ ids_of_other o)
    → AreOthers saw (map (λ p. p.now) (take (i + 1) paths)) all named
others_next saw paths i d path changes all ids named small is a read =
    let before : List (List ℕ) = map (λ p. p.now) (take i paths) in
    let next : map (λ p. p.now) (take (i + 1) paths) ≡ before ++ path.now ∷ [] =
    ap (map (λ (p : Bor (List ℕ)). p.now)) (take_more paths i d small) ∙ map_push (λ (p : Bor (List ℕ)). p.now) (take i paths) (get_or paths i d)
    ∙ ap (λ (p : Bor (List ℕ)). before ++ p.now ∷ []) (sym is) in
    subst (λ (l : List (List ℕ)). AreOthers saw l all named) (sym next) (others_more saw before path.now changes all ids named read.0 a read.1 read.2 read.3 read.4)

-- what was had is of the changes, where all are those and others after them, and what else is said of it in other words
pub had_of_all : {A E : Type 0} (r : Result A E) (made said : A → List ℕ) (lacks : A → Option StoreError) (own as_own id same : DocId) (kept as_kept all changes more : List ChangeParts)
    (from as_from to count : ℕ) (records as_records : List WholeRecord) → as_own ≡ own → same ≡ id → as_kept ≡ kept → all ≡ changes ++ more → as_from ≡ from → count ≡ length changes → as_records ≡ records
    → IfOk r (λ x. (had : List ChangeParts) × Rescues all as_kept had × (made x ≡ journal same had) × (lacks x ≡ option_map Refused (first_left had (take count all)))
    × (said x ≡ rescue_text as_own same had as_from to as_records all))
    → IfOk r (λ x. (had : List ChangeParts) × Rescues (changes ++ more) kept had × (made x ≡ journal id had) × (lacks x ≡ option_map Refused (first_left had changes))
    × (said x ≡ rescue_text own id had from to records (changes ++ more)))
had_of_all (Ok x) made said lacks own as_own id same kept as_kept all changes more from as_from to count records as_records is_own is_id is_kept is_all is_from is_count is_records h =
    let own_changes : take count all ≡ changes = ap (λ (l : List ChangeParts). take count l) is_all ∙ take_at changes more count (sym is_count) in (
      h.0,
      subst (λ (K : List ChangeParts). Rescues (changes ++ more) K h.0) is_kept (subst (λ (l : List ChangeParts). Rescues l as_kept h.0) is_all h.1),
      h.2 ∙ ap (λ (i : DocId). journal i h.0) is_id,
      h.3 ∙ ap (λ (l : List ChangeParts). option_map Refused (first_left h.0 l)) own_changes,
      h.4 ∙ ap (λ (o : DocId). rescue_text o same h.0 as_from to as_records all) is_own ∙ ap (λ (i : DocId). rescue_text own i h.0 as_from to as_records all) is_id
          ∙ ap (λ (at : ℕ). rescue_text own id h.0 at to as_records all) is_from ∙ ap (λ (rs : List WholeRecord). rescue_text own id h.0 from to rs all) is_records
          ∙ ap (λ (l : List ChangeParts). rescue_text own id h.0 from to records l) is_all,
    )
had_of_all (Err e) made said lacks own as_own id same kept as_kept all changes more from as_from to count records as_records is_own is_id is_kept is_all is_from is_count is_records h = tt

-- the journal of all that could be had, and what is printed of that
pub rescued : {A E : Type 0} (bytes : List ℕ) (r : Result A E) (made said : A → List ℕ) (lacks : A → Option StoreError) (own : DocId) (kept changes more : List ChangeParts)
    (ids : List DocId) (keep : ℕ) (refused : Option StoreError) (records : List WholeRecord) → Inspects bytes own kept keep refused records changes
    → IsTrue (list_all (same_doc (id_chosen kept own ids)) ids)
    → IfOk r (λ x. (had : List ChangeParts) × Rescues (changes ++ more) kept had × (made x ≡ journal (id_chosen kept own ids) had)
    × (lacks x ≡ option_map Refused (first_left had changes))
    × (said x ≡ rescue_text own (id_chosen kept own ids) had (tail_start keep) (length bytes) records (changes ++ more)))
    → IfOk r (λ x. IsRescued bytes more ids (made x) (lacks x) (said x))
rescued bytes (Ok x) made said lacks own kept changes more ids keep refused records inspects agree h = record {
  own = own;
  id = id_chosen kept own ids;
  kept = kept;
  keep = keep;
  refused = refused;
  records = records;
  changes = changes;
  had = h.0;
  inspects = inspects;
  chosen = refl;
  agree = agree;
  rescues = h.1;
  begun = h.2;
  lacks = h.3;
  spelled = h.4;
}
rescued bytes (Err e) made said lacks own kept changes more ids keep refused records inspects agree h = tt
