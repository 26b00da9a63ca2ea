-- What acts keep of a world of lists, and what lasts in it.
use Rattle.tp_headline.proofs.Common.{◌≡◌, ◌⊎◌, inl, inr, ℕ, List, [], ◌∷◌, ◌++◌, true, Some, refl, sym, ap, ◌∙◌, subst, append-nil, append_assoc, In, AllIn, SameMembers, In-append, In-left, In-push, In-right, trace_keeps, same_actor, same_actor-same, Hash, ChangeParts, IsTextOf, text_at_all_heads, text_of_a_set, heads, has_all, past, Sound, has_all-heads, past-heads, has_all-more, past-In, Fits-whole, past-same, Fits-at, Sound-before, Sound-push, deps_first, deps_there, sound_pasts, Act, ActStep, ActSteps, Coherent, HasList, IsFaithful, Lasts, Lists, ReadRecord, add_change, add_list, add_read, no_lists, seen_changes, set_list}
use Rattle.tp_list.proofs.Members.{SameMembers-sym}
use Rattle.tp_headline.specs.Headline.{MayMake, Nothing, Join, Fork, Make, Strand, Take, Read, ReadAt}
use Rattle.tp_headline.proofs.PlaceLaws.{slice_get-left, slice_get-push, slice_get-set, slice_get-set_either, slice_get-set_same}

-- ---- what only grows

-- From s to s' each list only grew at its end, and so did what was made and read.
pub record Later (s s' : Lists) : Type 0 where
  pub lists : (n : ℕ) (C : List ChangeParts) → HasList s n C → (new : List ChangeParts) × HasList s' n (C ++ new)
  pub made : (new : List ChangeParts) × (s'.made ≡ s.made ++ new)
  pub reads : (new : List ReadRecord) × (s'.reads ≡ s.reads ++ new)

grown_on : {X : Type 0} (A B C : List X) → ((new : List X) × (B ≡ A ++ new)) → ((new : List X) × (C ≡ B ++ new)) → (new : List X) × (C ≡ A ++ new)
grown_on A B C first next = (first.0 ++ next.0, next.1 ∙ ap (λ l. l ++ next.0) first.1 ∙ append_assoc A first.0 next.0)

-- a list that stays
same_list : (s : Lists) (n : ℕ) (C : List ChangeParts) → HasList s n C → (new : List ChangeParts) × HasList s n (C ++ new)
same_list s n C there = ([], subst (λ l. HasList s n l) (sym (append-nil C)) there)

later_still : (s : Lists) → Later s s
later_still s = record { lists = λ n C there. same_list s n C there; made = ([], sym (append-nil s.made)); reads = ([], sym (append-nil s.reads)) }

pub later_on : (s m s' : Lists) → Later s m → Later m s' → Later s s'
later_on s m s' first next = record {
  lists = λ n C there.
      let one = first.lists n C there in
      let two = next.lists n (C ++ one.0) one.1 in
      (one.0 ++ two.0, subst (λ l. HasList s' n l) (append_assoc C one.0 two.0) two.1);
  made = grown_on s.made m.made s'.made first.made next.made;
  reads = grown_on s.reads m.reads s'.reads first.reads next.reads;
}

list_later : (s : Lists) (C : List ChangeParts) → Later s (add_list s C)
list_later s C = record {
  lists = λ n D there. same_list (add_list s C) n D (slice_get-left s.lists (C ∷ []) n D there);
  made = ([], sym (append-nil s.made));
  reads = ([], sym (append-nil s.reads));
}

set_later : (s : Lists) (n : ℕ) (C new : List ChangeParts) → HasList s n C → Later s (set_list s n (C ++ new))
set_later s n C new there =
    let s' = set_list s n (C ++ new) in
    record {
      lists = λ m D i. elim (slice_get-set_either s.lists n m C (C ++ new) D there i) [
        | inl same ↦
            let longer = subst (λ l. HasList s' n (l ++ new)) (sym same.1) (slice_get-set_same s.lists n C (C ++ new) there) in
            (new, subst (λ k. HasList s' k (D ++ new)) (sym same.0) longer)
        | inr other ↦ same_list s' m D other
      ];
      made = ([], sym (append-nil s.made));
      reads = ([], sym (append-nil s.reads));
    }

change_later : (s : Lists) (c : ChangeParts) → Later s (add_change s c)
change_later s c = record { lists = λ n C there. same_list (add_change s c) n C there; made = (c ∷ [], refl); reads = ([], sym (append-nil s.reads)) }

read_later : (s : Lists) (n : ℕ) (H : List Hash) (text : List ℕ) → Later s (add_read s n H text)
read_later s n H text =
    let new : ReadRecord = record { peer = n; heads = H; text = text } in
    record { lists = λ m C there. same_list (add_read s n H text) m C there; made = ([], sym (append-nil s.made)); reads = (new ∷ [], refl) }

later_as : (s s' t : Lists) → s' ≡ t → Later s t → Later s s'
later_as s s' t is later = subst (λ x. Later s x) (sym is) later

pub step_later : (s : Lists) (a : Act) (s' : Lists) → ActStep s a s' → Later s s'
step_later s Nothing s' step = later_as s s' s step (later_still s)
step_later s Join s' step = later_as s s' (add_list s []) step (list_later s [])
step_later s (Fork n) s' step = later_as s s' (add_list s step.0) step.2 (list_later s step.0)
step_later s (Make n c) s' step =
    let m = set_list s n (step.0 ++ c ∷ []) in
    later_as s s' (add_change m c) step.3 (later_on s m (add_change m c) (set_later s n step.0 (c ∷ []) step.1) (change_later m c))
step_later s (Strand n c) s' step = later_as s s' (add_change s c) step.3 (change_later s c)
step_later s (Take n new) s' step = later_as s s' (set_list s n (step.0 ++ new)) step.4 (set_later s n step.0 new step.1)
step_later s (Read n text) s' step = later_as s s' (add_read s n (heads step.0) text) step.3 (read_later s n (heads step.0) text)
step_later s (ReadAt n H text) s' step = later_as s s' (add_read s n H text) step.4 (read_later s n H text)

pub steps_later : (s : Lists) (acts : List Act) (s' : Lists) → ActSteps s acts s' → Later s s'
steps_later s acts s' steps =
    trace_keeps ActStep (λ t. Later s t) (λ m a t step later. later_on s m t later (step_later m a t step)) s acts s' steps (later_still s)

-- ---- what stays coherent

made_stays : (s s' : Lists) → Later s s' → AllIn s.made s'.made
made_stays s s' later c i = subst (λ l. In c l) (sym later.made.1) (In-left c s.made later.made.0 i)

-- what a read saw stays the same
seen_stays : (s s' : Lists) (r : ReadRecord) → Later s s' → Sound s'.made → has_all s.made r.heads ≡ true → seen_changes s' r ≡ seen_changes s r
seen_stays s s' r later sound known =
    ap (λ C. past C r.heads) later.made.1 ∙ Sound-before s.made later.made.0 r.heads known (subst Sound later.made.1 sound)

faithful_stays : (s s' : Lists) (r : ReadRecord) → Later s s' → Sound s'.made → IsFaithful s r → IsFaithful s' r
faithful_stays s s' r later sound h =
    let same = seen_stays s s' r later sound h.known in
    let on = later.lists r.peer h.list h.present in
    record {
      known = has_all-more s.made s'.made r.heads (made_stays s s' later) h.known;
      text = subst (λ C. IsTextOf C r.text) (sym same) h.text;
      list = h.list ++ on.0;
      present = on.1;
      has = λ c i. In-left c h.list on.0 (h.has c (subst (λ C. In c C) same i));
    }

-- where what was made is sound, and each list and each read is as before or as it should be
coheres : (s s' : Lists) → Coherent s → Later s s' → Sound s'.made → ((n : ℕ) (C : List ChangeParts) → HasList s' n C → HasList s n C ⊎ (Sound C × AllIn C s'.made))
    → ((r : ReadRecord) → In r s'.reads → In r s.reads ⊎ IsFaithful s' r) → Coherent s'
coheres s s' h later sound listed read = record {
  sound = sound;
  lists = λ n C i. elim (listed n C i) [ inl old ↦ h.lists n C old | inr new ↦ new.0 ];
  were_made = λ n C i c j. elim (listed n C i) [ inl old ↦ made_stays s s' later c (h.were_made n C old c j) | inr new ↦ new.1 c j ];
  reads = λ r i. elim (read r i) [ inl old ↦ faithful_stays s s' r later sound (h.reads r old) | inr new ↦ new ];
}

list_coheres : (s : Lists) (C : List ChangeParts) → Coherent s → Sound C → AllIn C s.made → Coherent (add_list s C)
list_coheres s C h sound made =
    coheres s (add_list s C) h (list_later s C) h.sound
    (λ n D i. elim (slice_get-push s.lists C D n i) [ inl last ↦ inr (subst (λ l. Sound l × AllIn l s.made) (sym last.1) (sound, made)) | inr old ↦ inl old ])
    (λ r i. inl i)

set_coheres : (s : Lists) (n : ℕ) (C new : List ChangeParts) → Coherent s → HasList s n C → Sound (C ++ new) → AllIn new s.made → Coherent (set_list s n (C ++ new))
set_coheres s n C new h there sound made =
    let all : AllIn (C ++ new) s.made = λ c i. elim (In-append c C new i) [ inl old ↦ h.were_made n C there c old | inr fresh ↦ made c fresh ] in
    coheres s (set_list s n (C ++ new)) h (set_later s n C new there) h.sound
    (λ m D i. elim (slice_get-set s.lists n m (C ++ new) D i) [ inl this ↦ inr (subst (λ l. Sound l × AllIn l s.made) (sym this.1) (sound, all)) | inr other ↦ inl other.1 ])
    (λ r i. inl i)

change_coheres : (s : Lists) (c : ChangeParts) → Coherent s → Sound (s.made ++ c ∷ []) → Coherent (add_change s c)
change_coheres s c h sound = coheres s (add_change s c) h (change_later s c) sound (λ n C i. inl i) (λ r i. inl i)

read_coheres : (s : Lists) (n : ℕ) (C : List ChangeParts) (H : List Hash) (text : List ℕ) → Coherent s → HasList s n C → has_all C H ≡ true → IsTextOf (past C H) text → Coherent (add_read s n H text)
read_coheres s n C H text h there known is =
    let s' = add_read s n H text in
    let new : ReadRecord = record { peer = n; heads = H; text = text } in
    let made = h.were_made n C there in
    let same : SameMembers (past C H) (past s.made H) = past-same C s.made H (h.lists n C there) h.sound known (λ c i. made c (past-In C H c i)) in
    let faithful : IsFaithful s' new = record {
      known = has_all-more C s.made H made known;
      text = (text_of_a_set (past C H) (past s.made H) text same).0 is;
      list = C;
      present = there;
      has = λ c i. past-In C H c (same.back c i);
    } in
    coheres s s' h (read_later s n H text) h.sound (λ m D i. inl i) (λ r i. elim (In-push r s.reads new i) [ inl old ↦ inl old | inr is_new ↦ inr (subst (λ x. IsFaithful s' x) (sym is_new) faithful) ])

-- what a peer may make fits all that was made
made_is_sound : (s : Lists) (n : ℕ) (C : List ChangeParts) (c : ChangeParts) → Coherent s → HasList s n C → MayMake s C c → Sound (s.made ++ c ∷ [])
made_is_sound s n C c h there may =
    let own : (d : ChangeParts) → In d s.made → same_actor d.actor c.actor ≡ true → In d C = λ d i same. may.own d i (same_actor-same d.actor c.actor same) in
    Sound-push s.made c h.sound (Fits-whole C s.made c (h.lists n C there) h.sound (h.were_made n C there) own (Fits-at C c [] may.sound) may.hash)

coherent_as : (s t : Lists) → s ≡ t → Coherent t → Coherent s
coherent_as s t is h = subst Coherent (sym is) h

pub step_coheres : (s : Lists) (a : Act) (s' : Lists) → Coherent s → ActStep s a s' → Coherent s'
step_coheres s Nothing s' h step = coherent_as s' s step h
step_coheres s Join s' h step = coherent_as s' (add_list s []) step (list_coheres s [] h tt (λ c i. absurd i))
step_coheres s (Fork n) s' h step = coherent_as s' (add_list s step.0) step.2 (list_coheres s step.0 h (h.lists n step.0 step.1) (h.were_made n step.0 step.1))
step_coheres s (Make n c) s' h step =
    let C = step.0 in
    let m = add_change s c in
    coherent_as s' (set_list m n (C ++ c ∷ [])) step.3
    (set_coheres m n C (c ∷ []) (change_coheres s c h (made_is_sound s n C c h step.1 step.2)) step.1 step.2.sound (λ d i. In-right d s.made (c ∷ []) i))
step_coheres s (Strand n c) s' h step = coherent_as s' (add_change s c) step.3 (change_coheres s c h (made_is_sound s n step.0 c h step.1 step.2))
step_coheres s (Take n new) s' h step = coherent_as s' (set_list s n (step.0 ++ new)) step.4 (set_coheres s n step.0 new h step.1 step.3 step.2)
step_coheres s (Read n text) s' h step =
    let C = step.0 in
    coherent_as s' (add_read s n (heads C) text) step.3 (read_coheres s n C (heads C) text h step.1 (has_all-heads C) ((text_at_all_heads C text (h.lists n C step.1)).1 step.2))
step_coheres s (ReadAt n H text) s' h step = coherent_as s' (add_read s n H text) step.4 (read_coheres s n step.0 H text h step.1 step.2 step.3)

pub steps_cohere : (s : Lists) (acts : List Act) (s' : Lists) → Coherent s → ActSteps s acts s' → Coherent s'
steps_cohere s acts s' h steps = trace_keeps ActStep Coherent (λ m a t step c. step_coheres m a t c step) s acts s' steps h

pub no_lists_coherent : Coherent no_lists
no_lists_coherent = record { sound = tt; lists = λ n C i. cc; were_made = λ n C i c j. cc; reads = λ r i. absurd i }

-- ---- what lasts

shows_past : (s : Lists) (n : ℕ) (C : List ChangeParts) (H : List Hash) → Coherent s → HasList s n C → has_all C H ≡ true → SameMembers (past s.made H) (past C H)
shows_past s n C H h there known =
    SameMembers-sym (past C H) (past s.made H) (past-same C s.made H (h.lists n C there) h.sound known (λ c i. h.were_made n C there c (past-In C H c i)))

shows_all : (s : Lists) (n : ℕ) (C : List ChangeParts) → Coherent s → HasList s n C → SameMembers (past s.made (heads C)) C
shows_all s n C h there = subst (λ l. SameMembers (past s.made (heads C)) l) (past-heads C (deps_first C (h.lists n C there))) (shows_past s n C (heads C) h there (has_all-heads C))

sees_all : (s m s' : Lists) (acts : List Act) (n : ℕ) (C : List ChangeParts) (text : List ℕ) → Coherent s → ActSteps s acts m → HasList s n C → ActStep m (Read n text) s'
    → (r : ReadRecord) × (s'.reads ≡ m.reads ++ r ∷ []) × (r.text ≡ text) × AllIn C (seen_changes s' r)
sees_all s m s' acts n C text h steps there step =
    let D = step.0 in
    let on = (steps_later s acts m steps).lists n C there in
    let same : D ≡ C ++ on.0 = let is : Some D ≡ Some (C ++ on.0) = sym step.1 ∙ on.1 in cc in
    let shows = shows_all m n D (steps_cohere s acts m h steps) step.1 in
    let r : ReadRecord = record { peer = n; heads = heads D; text = text } in
    let made : s'.made ≡ m.made = ap (λ (x : Lists). x.made) step.3 in (
      r,
      ap (λ (x : Lists). x.reads) step.3,
      refl,
      λ c i. subst (λ l. In c (past l (heads D))) (sym made) (shows.back c (subst (λ l. In c l) (sym same) (In-left c C on.0 i))),
    )

pub coherent_lasts : (s : Lists) → Coherent s → Lasts s
coherent_lasts s h = record {
  lists = λ acts s' n C steps there. (steps_later s acts s' steps).lists n C there;
  shows = λ n C there. shows_all s n C h there;
  shows_at = λ n C H there known. shows_past s n C H h there known;
  sees = λ acts m s' n C text steps there step. sees_all s m s' acts n C text h steps there step;
  reads = λ acts s' r steps i.
      let later = steps_later s acts s' steps in
      let f = h.reads r i in
      let on = later.lists r.peer f.list f.present in (
        subst (λ l. In r l) (sym later.reads.1) (In-left r s.reads later.reads.0 i),
        seen_stays s s' r later (steps_cohere s acts s' h steps).sound f.known,
        f.list ++ on.0,
        on.1,
        λ c j. In-left c f.list on.0 (f.has c j),
      );
  closed = λ r i c j. deps_there (seen_changes s r) (sound_pasts s.made h.sound r.heads) c j;
}
