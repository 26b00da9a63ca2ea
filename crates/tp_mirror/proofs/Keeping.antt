-- What stays kept at each call.
use Rattle.std.proofs.Common.{◌≡◌, ◌+◌, arith, List, [], ◌∷◌, ◌++◌, ℕ, zero, suc, take, drop, Bool, true, false, cond, Option, Some, None, inl, inr, sym, subst, refl, ◌∙◌, ap}
use Rattle.tp_list.specs.Members.{In}
use Rattle.tp_list.proofs.Members.{In-left, In-push, In-last, In-filter}
use Rattle.tp_opid.specs.declared.hash.Hash.{Hash}
use Rattle.tp_mirror.specs.declared.known.Digest.{Digest}
use Rattle.tp_mirror.specs.declared.known.Known.{Known}
use Rattle.tp_mirror.specs.declared.known.TextAt.{TextAt}
use Rattle.tp_mirror.specs.declared.state.Moved.{Moved}
use Rattle.tp_mirror.specs.declared.state.Name.{Name}
use Rattle.tp_mirror.specs.declared.state.State.{State}
use Rattle.tp_mirror.specs.declared.workspace.Look.{Look}
use Rattle.tp_mirror.specs.declared.workspace.Look.TheVariants.{Absent, Busy, NotText, Empty, LeftEmpty, Text}
use Rattle.tp_mirror.specs.declared.workspace.Source.{Source}
use Rattle.tp_mirror.specs.declared.workspace.Source.TheVariants.{Note, Away}
use Rattle.tp_mirror.specs.Generations.{Begins, ForgetsOneOf, stays_known, needed_texts}
use Rattle.tp_mirror.specs.Mirroring.{MirrorView, away_after, with_look, with_new_text, with_heads, with_state, with_part, without_part, with_moved, with_answer, IsSavedOr, IsMade, HasAllMade, Knows, WatchesName, GoesOnFrom, IsRecoverable, IsKept, CanSave, IsRead, MayMove, CanMove, IsLeftEmpty, IsPart, MayPut}

none_is_some : {X : Type 0} (x : X) → (let n : Option X = None in n) ≡ Some x → ⊥
none_is_some x e = cc

some_is : {X : Type 0} (x y : X) → (let o : Option X = Some x in o) ≡ Some y → x ≡ y
some_is x y e = cc

-- ---- a crash leaves what the next start goes on from

pub kept-recoverable : (v : MirrorView) (s : State) (lacks : Option TextAt) → IsKept v s lacks → IsRecoverable v
kept-recoverable v s lacks k = record {
  state = λ o e. subst (λ (x : State). GoesOnFrom v x) (some_is s o (sym k.saved ∙ e)) k.fits;
  unused = λ e. absurd (none_is_some s (sym e ∙ k.saved));
}

-- ---- the calls

still_away : (source : Source) (look : Look) (away : Bool) → away_after source look away ≡ true → away ≡ true
still_away Note Absent away e = e
still_away Note Busy away e = e
still_away Note NotText away e = e
still_away Note Empty away e = e
still_away Note LeftEmpty away e = absurd cc
still_away Note (Text digest) away e = absurd cc
still_away (Away name) look away e = e

pub kept-read : (v w : MirrorView) (source : Source) (look : Look) (s : State) (lacks : Option TextAt) → w ≡ with_look v source look → IsKept v s lacks → IsKept w s lacks
unfolding IsMade with_look
kept-read v w source look s lacks e k = rw e (record {
  saved = k.saved;
  fits = record { made = k.fits.made; moved = k.fits.moved; watched = k.fits.watched; away = λ h. k.fits.away (still_away source look v.away h) };
  fresh = k.fresh;
})

pub kept-change : (v w : MirrorView) (t : TextAt) (s : State) (lacks : Option TextAt) → w ≡ with_new_text v t → IsKept v s lacks → IsKept w s (Some t)
unfolding IsMade with_new_text
kept-change v w t s lacks e k = rw e (record {
  saved = k.saved;
  fits = record { made = λ x c. In-left x.text v.made (t ∷ []) (k.fits.made x c); moved = λ x c. In-left x.known.text v.made (t ∷ []) (k.fits.moved x c); watched = k.fits.watched; away = k.fits.away };
  fresh = refl;
})

pub kept-heads : (v w : MirrorView) (t : TextAt) (s : State) (lacks : Option TextAt) → w ≡ with_heads v t → IsKept v s lacks → IsKept w s lacks
unfolding IsMade with_heads
kept-heads v w t s lacks e k = rw e (record {
  saved = k.saved;
  fits = record { made = λ x c. In-left x.text v.made (t ∷ []) (k.fits.made x c); moved = λ x c. In-left x.known.text v.made (t ∷ []) (k.fits.moved x c); watched = k.fits.watched; away = k.fits.away };
  fresh = k.fresh;
})

pub kept-state : (v w : MirrorView) (s : State) → w ≡ with_state v s → CanSave v s → IsKept w s None
unfolding IsMade with_state
kept-state v w s e c = rw e (record {
  saved = refl;
  fits = record { made = c.fits.made; moved = c.fits.moved; watched = c.fits.watched; away = c.fits.away };
  fresh = refl;
})

pub kept-part : (v w : MirrorView) (t : TextAt) (s : State) (lacks : Option TextAt) → w ≡ with_part v t → IsKept v s lacks → IsKept w s lacks
unfolding IsMade with_part
kept-part v w t s lacks e k = rw e (record {
  saved = k.saved;
  fits = record { made = k.fits.made; moved = k.fits.moved; watched = k.fits.watched; away = k.fits.away };
  fresh = k.fresh;
})

pub kept-without_part : (v w : MirrorView) (s : State) (lacks : Option TextAt) → w ≡ without_part v → IsKept v s lacks → IsKept w s lacks
unfolding IsMade without_part
kept-without_part v w s lacks e k = rw e (record {
  saved = k.saved;
  fits = record { made = k.fits.made; moved = k.fits.moved; watched = k.fits.watched; away = k.fits.away };
  fresh = k.fresh;
})

watched_more : (names : List Name) (name : Name) (s : State) → ((n : Name) → In n names → WatchesName s n) → WatchesName s name → (n : Name) → In n (names ++ name ∷ []) → WatchesName s n
watched_more names name s all this n c = elim (In-push n names name c) [ inl old ↦ all n old | inr same ↦ subst (λ (x : Name). WatchesName s x) (sym same) this ]

pub kept-moved : (v w : MirrorView) (name : Name) (s : State) (lacks : Option TextAt) → w ≡ with_moved v name → s.is_away ≡ true → WatchesName s name → IsKept v s lacks → IsKept w s lacks
unfolding IsMade with_moved
kept-moved v w name s lacks e a this k = rw e (record {
  saved = k.saved;
  fits = record { made = k.fits.made; moved = k.fits.moved; watched = watched_more v.names name s k.fits.watched this; away = λ _. a };
  fresh = k.fresh;
})

answered_away : (is_linked away : Bool) → cond is_linked false away ≡ true → away ≡ true
answered_away true away e = absurd cc
answered_away false away e = e

pub kept-answer : (v w : MirrorView) (t : TextAt) (is_linked : Bool) (s : State) (lacks : Option TextAt) → w ≡ with_answer v t is_linked → IsKept v s lacks → IsKept w s lacks
unfolding IsMade with_answer
kept-answer v w t is_linked s lacks e k = rw e (record {
  saved = k.saved;
  fits = record { made = k.fits.made; moved = k.fits.moved; watched = k.fits.watched; away = λ h. k.fits.away (answered_away is_linked v.away h) };
  fresh = k.fresh;
})

-- ---- states that may be saved

watches-same : (s n : State) (name : Name) → n.moved ≡ s.moved → WatchesName s name → WatchesName n name
unfolding WatchesName
watches-same s n name e (m, c, same) = (m, subst (λ (l : List Moved). In m l) (sym e) c, same)

-- It names another author, and nothing was made since the last time.
pub can-name : (v w : MirrorView) (s n : State) → w ≡ v → IsKept v s None → n.texts ≡ s.texts → n.moved ≡ s.moved → n.is_away ≡ s.is_away → CanSave w n
can-name v w s n e kept texts moved away = rw e (record {
  fits = record {
    made = λ x c. kept.fits.made x (subst (λ (l : List Known). In x l) texts c);
    moved = λ m c. kept.fits.moved m (subst (λ (l : List Moved). In m l) moved c);
    watched = λ name c. watches-same s n name moved (kept.fits.watched name c);
    away = λ h. away ∙ kept.fits.away h;
  };
  fresh = λ t f. absurd (none_is_some t (sym kept.fresh ∙ f));
  next = λ t o f g h. absurd (none_is_some t (sym kept.fresh ∙ f));
})

made_more : (v : MirrorView) (texts : List Known) (k : Known) → ((x : Known) → In x texts → IsMade v x.text) → IsMade v k.text → (x : Known) → In x (texts ++ k ∷ []) → IsMade v x.text
made_more v texts k all this x c = elim (In-push x texts k c) [ inl old ↦ all x old | inr same ↦ subst (λ (y : Known). IsMade v y.text) (sym same) this ]

knows_last : (n : State) (texts : List Known) (k : Known) → n.texts ≡ texts ++ k ∷ [] → Knows n k.text
unfolding Knows
knows_last n texts k e = (k, subst (λ (l : List Known). In k l) (sym e) (In-last k texts), refl)

pub knows-pushed : (n : State) (texts : List Known) (k : Known) (t : TextAt) → n.texts ≡ texts ++ k ∷ [] → k.text ≡ t → Knows n t
knows-pushed n texts k t e f = subst (λ (x : TextAt). Knows n x) f (knows_last n texts k e)

can_remember : (v : MirrorView) (s n : State) (l : List Known) (k : Known) (t : TextAt) → IsKept v s (Some t) → IsMade v t → k.text ≡ t → ((x : Known) → In x l → In x s.texts)
    → n.texts ≡ l ++ k ∷ [] → n.moved ≡ s.moved → n.is_away ≡ s.is_away → n.author.seq ≡ s.author.seq + 1 → CanSave v n
can_remember v s n l k t kept made same fewer texts moved away seq = record {
  fits = record {
    made = λ x c. made_more v l k (λ y d. kept.fits.made y (fewer y d)) (subst (λ (y : TextAt). IsMade v y) (sym same) made) x (subst (λ (l : List Known). In x l) texts c);
    moved = λ m c. kept.fits.moved m (subst (λ (l : List Moved). In m l) moved c);
    watched = λ name c. watches-same s n name moved (kept.fits.watched name c);
    away = λ h. away ∙ kept.fits.away h;
  };
  fresh = λ u e. subst (λ (x : TextAt). Knows n x) (some_is t u (sym kept.fresh ∙ e)) (knows-pushed n l k t texts same);
  next = λ u o e f g. let old : s.author.seq ≡ o.author.seq = ap (λ (x : State). x.author.seq) (some_is s o (sym kept.saved ∙ f)) in omega (arith, old, seq);
}

removed_one : {X : Type 0} (xs : List X) (at : ℕ) (x : X) → In x (take at xs ++ drop (suc at) xs) → In x xs
removed_one [] zero x c = absurd c
removed_one [] (suc at) x c = absurd c
removed_one (z ∷ xs) zero x c = inr c
removed_one (z ∷ xs) (suc at) x (inl e) = inl e
removed_one (z ∷ xs) (suc at) x (inr c) = inr (removed_one xs at x c)

-- The texts that stay known are some of those before.
fewer_known : (number : ℕ) (before after : List Known) → ForgetsOneOf number before after → (x : Known) → In x after → In x before
unfolding ForgetsOneOf
fewer_known number before after (inl same) x c = subst (λ (l : List Known). In x l) same c
fewer_known number before after (inr (at, lt, of, same)) x c = removed_one before at x (subst (λ (l : List Known). In x l) same c)

-- It has the text of the change that was made, and names the next one; a text of the generation may be forgotten.
pub can-remember : (v : MirrorView) (s m f n : State) (number : ℕ) (k : Known) (t : TextAt) → IsKept v s (Some t) → IsMade v t → k.text ≡ t
    → m ≡ record s { begun = m.begun } → f ≡ record m { texts = f.texts } → ForgetsOneOf number m.texts f.texts
    → n.texts ≡ f.texts ++ k ∷ [] → n.moved ≡ f.moved → n.is_away ≡ f.is_away → n.author.seq ≡ s.author.seq + 1 → CanSave v n
can-remember v s m f n number k t kept made same between others forgets texts moved away seq =
    can_remember v s n f.texts k t kept made same
    (λ x c. subst (λ (y : State). In x y.texts) between (fewer_known number m.texts f.texts forgets x c))
    texts
    (moved ∙ ap (λ (x : State). x.moved) others ∙ ap (λ (x : State). x.moved) between)
    (away ∙ ap (λ (x : State). x.is_away) others ∙ ap (λ (x : State). x.is_away) between) seq

-- It has one text more, which is one of the journal's; nothing was made since the last time.
pub can-begin : (v : MirrorView) (s n : State) (l : List Known) (k : Known) → IsKept v s None → IsMade v k.text → ((x : Known) → In x l → In x s.texts)
    → n.texts ≡ l ++ k ∷ [] → n.moved ≡ s.moved → (v.away ≡ true → n.is_away ≡ true) → CanSave v n
can-begin v s n l k kept made fewer texts moved away = record {
  fits = record {
    made = λ x c. made_more v l k (λ y d. kept.fits.made y (fewer y d)) made x (subst (λ (l : List Known). In x l) texts c);
    moved = λ m c. kept.fits.moved m (subst (λ (l : List Moved). In m l) moved c);
    watched = λ name c. watches-same s n name moved (kept.fits.watched name c);
    away = away;
  };
  fresh = λ t e. absurd (none_is_some t (sym kept.fresh ∙ e));
  next = λ t o e f g. absurd (none_is_some t (sym kept.fresh ∙ e));
}

-- ---- what was read stays so, and what was made

pub read-state : (v w : MirrorView) (s : State) (source : Source) (digest : Digest) → w ≡ with_state v s → IsRead v source digest → IsRead w source digest
unfolding with_state
read-state v w s source digest e r = rw e (record { found = r.found; there = r.there })

pub read-saved_or : (v w : MirrorView) (s : State) (source : Source) (digest : Digest) → IsSavedOr v s w → IsRead v source digest → IsRead w source digest
read-saved_or v w s source digest (inl e) r = read-state v w s source digest e r
read-saved_or v w s source digest (inr e) r = subst (λ (x : MirrorView). IsRead x source digest) (sym e) r

pub read-change : (v w : MirrorView) (t : TextAt) (source : Source) (digest : Digest) → w ≡ with_new_text v t → IsRead v source digest → IsRead w source digest
unfolding with_new_text
read-change v w t source digest e r = rw e (record { found = r.found; there = r.there })

pub read-heads : (v w : MirrorView) (t : TextAt) (source : Source) (digest : Digest) → w ≡ with_heads v t → IsRead v source digest → IsRead w source digest
unfolding with_heads
read-heads v w t source digest e r = rw e (record { found = r.found; there = r.there })

pub made-state : (v w : MirrorView) (s : State) (t : TextAt) → w ≡ with_state v s → IsMade v t → IsMade w t
unfolding with_state IsMade
made-state v w s t e m = rw e m

pub made-change : (v w : MirrorView) (t : TextAt) → w ≡ with_new_text v t → IsMade w t
unfolding with_new_text IsMade
made-change v w t e = rw e (In-last t v.made)

pub made-heads : (v w : MirrorView) (t : TextAt) → w ≡ with_heads v t → IsMade w t
unfolding with_heads IsMade
made-heads v w t e = rw e (In-last t v.made)

pub made-heads-more : (v w : MirrorView) (t u : TextAt) → w ≡ with_heads v t → IsMade v u → IsMade w u
unfolding with_heads IsMade
made-heads-more v w t u e m = rw e (In-left u v.made (t ∷ []) m)

pub made-copy : (v : MirrorView) (t u : TextAt) → u ≡ t → IsMade v t → IsMade v u
made-copy v t u e m = subst (λ (x : TextAt). IsMade v x) (sym e) m

pub away-heads : (v w : MirrorView) (t : TextAt) → w ≡ with_heads v t → v.away ≡ false → w.away ≡ false
unfolding with_heads
away-heads v w t e a = rw e a

-- ---- states with a generation that begins

needed_are_known : (s : State) (x : Known) → In x (needed_texts s) → In x s.texts
needed_are_known s x c = (In-filter (stays_known s.begun s.moved) s.texts x c).0

pub can-put-again : (v : MirrorView) (s n : State) (k : Known) (t : TextAt) → IsKept v s None → IsMade v t → k.text ≡ t → Begins s n k → CanSave v n
can-put-again v s n k t kept made same b =
    can-begin v s n (needed_texts s) k kept (made-copy v t k.text same made) (needed_are_known s) (ap (λ (x : State). x.texts) b) (ap (λ (x : State). x.moved) b) (λ h. ap (λ (x : State). x.is_away) b ∙ kept.fits.away h)

pub can-settle : (v : MirrorView) (s m n : State) (k : Known) (t : TextAt) → IsKept v s None → IsMade v t → k.text ≡ t → Begins s m k → n.texts ≡ m.texts → n.moved ≡ m.moved → v.away ≡ false → CanSave v n
can-settle v s m n k t kept made same b texts moved there =
    can-begin v s n (needed_texts s) k kept (made-copy v t k.text same made) (needed_are_known s) (texts ∙ ap (λ (x : State). x.texts) b) (moved ∙ ap (λ (x : State). x.moved) b) (λ h. absurd (let f : true ≡ false = sym h ∙ there in cc))

pub can-come-back : (v : MirrorView) (s n : State) → IsKept v s None → v.away ≡ false → n.texts ≡ s.texts → n.moved ≡ s.moved → CanSave v n
can-come-back v s n kept there texts moved = record {
  fits = record {
    made = λ x c. kept.fits.made x (subst (λ (l : List Known). In x l) texts c);
    moved = λ m c. kept.fits.moved m (subst (λ (l : List Moved). In m l) moved c);
    watched = λ name c. watches-same s n name moved (kept.fits.watched name c);
    away = λ h. absurd (let f : true ≡ false = sym h ∙ there in cc);
  };
  fresh = λ t e. absurd (none_is_some t (sym kept.fresh ∙ e));
  next = λ t o e f g. absurd (none_is_some t (sym kept.fresh ∙ e));
}

pub there-linked : (u v w : MirrorView) (t : TextAt) (is_linked : Bool) → v ≡ with_answer u t is_linked → is_linked ≡ true → w ≡ without_part v → w.away ≡ false
unfolding with_answer without_part
there-linked u v w t is_linked e linked f = rw (f, e, linked) refl

watches_more : (s n : State) (m : Moved) (name : Name) → n.moved ≡ s.moved ++ m ∷ [] → WatchesName s name → WatchesName n name
unfolding WatchesName
watches_more s n m name e (x, c, same) = (x, subst (λ (l : List Moved). In x l) (sym e) (In-left x s.moved (m ∷ []) c), same)

pub watches-pushed : (n : State) (moved : List Moved) (m : Moved) → n.moved ≡ moved ++ m ∷ [] → WatchesName n m.name
unfolding WatchesName
watches-pushed n moved m e = (m, subst (λ (l : List Moved). In m l) (sym e) (In-last m moved), refl)

moved_more : (v : MirrorView) (moved : List Moved) (m : Moved) → ((x : Moved) → In x moved → IsMade v x.known.text) → IsMade v m.known.text → (x : Moved) → In x (moved ++ m ∷ []) → IsMade v x.known.text
moved_more v moved m all this x c = elim (In-push x moved m c) [ inl old ↦ all x old | inr same ↦ subst (λ (y : Moved). IsMade v y.known.text) (sym same) this ]

can_intend : (v : MirrorView) (s n : State) (l : List Known) (k : Known) (m : Moved) → IsKept v s None → IsMade v k.text → IsMade v m.known.text → ((x : Known) → In x l → In x s.texts)
    → n.texts ≡ l ++ k ∷ [] → n.moved ≡ s.moved ++ m ∷ [] → n.is_away ≡ true → CanSave v n
can_intend v s n l k m kept made read fewer texts moved away = record {
  fits = record {
    made = λ x c. made_more v l k (λ y d. kept.fits.made y (fewer y d)) made x (subst (λ (q : List Known). In x q) texts c);
    moved = λ x c. moved_more v s.moved m kept.fits.moved read x (subst (λ (q : List Moved). In x q) moved c);
    watched = λ name c. watches_more s n m name moved (kept.fits.watched name c);
    away = λ _. away;
  };
  fresh = λ t e. absurd (none_is_some t (sym kept.fresh ∙ e));
  next = λ t o e f g. absurd (none_is_some t (sym kept.fresh ∙ e));
}

-- p is s with a file more that is moved away, b is p with a generation more, and n is b with NOTE away.
pub can-intend : (v : MirrorView) (s p b n : State) (k : Known) (t : TextAt) (m : Moved) → IsKept v s None → IsMade v t → k.text ≡ t → IsMade v m.known.text
    → p.texts ≡ s.texts → p.moved ≡ s.moved ++ m ∷ [] → Begins p b k → n.texts ≡ b.texts → n.moved ≡ b.moved → n.is_away ≡ true → CanSave v n
can-intend v s p b n k t m kept made same read same-texts pushed begins texts moved away =
    can_intend v s n (needed_texts p) k m kept (made-copy v t k.text same made) read
    (λ x c. subst (λ (l : List Known). In x l) same-texts (needed_are_known p x c))
    (texts ∙ ap (λ (x : State). x.texts) begins) (moved ∙ ap (λ (x : State). x.moved) begins ∙ pushed) away

pub knows-begun : (s n : State) (k : Known) (t : TextAt) → Begins s n k → k.text ≡ t → Knows n t
knows-begun s n k t b same = knows-pushed n (needed_texts s) k t (ap (λ (x : State). x.texts) b) same

pub knows-copy : (s : State) (t u : TextAt) → t ≡ u → Knows s t → Knows s u
knows-copy s t u e k = subst (λ (x : TextAt). Knows s x) e k

-- ---- what may become NOTE

pub may-put : (includes : List Hash → List Hash → Type 0) (v w : MirrorView) (n : State) (t : TextAt) → w ≡ with_state v n → HasAllMade includes v t → Knows n t → n.is_away ≡ true → MayPut includes w t
unfolding with_state HasAllMade
may-put includes v w n t e whole known away = rw e (record {
  whole = whole;
  known = λ s f. subst (λ (x : State). Knows x t) (some_is n s f) known;
  away = λ s f. subst (λ (x : State). x.is_away ≡ true) (some_is n s f) away;
})

pub holds-same : (includes : List Hash → List Hash → Type 0) (v w : MirrorView) (t : TextAt) → w ≡ v → HasAllMade includes v t → HasAllMade includes w t
holds-same includes v w t e h = subst (λ (x : MirrorView). HasAllMade includes x t) (sym e) h

pub put-part : (includes : List Hash → List Hash → Type 0) (v w : MirrorView) (t : TextAt) → w ≡ with_part v t → MayPut includes v t → MayPut includes w t
unfolding with_part HasAllMade
put-part includes v w t e p = rw e (record { whole = p.whole; known = p.known; away = p.away })

pub put-moved : (includes : List Hash → List Hash → Type 0) (v w : MirrorView) (name : Name) (t : TextAt) → w ≡ with_moved v name → MayPut includes v t → MayPut includes w t
unfolding with_moved HasAllMade
put-moved includes v w name t e p = rw e (record { whole = p.whole; known = p.known; away = p.away })

pub part-is : (v w : MirrorView) (t : TextAt) → w ≡ with_part v t → IsPart w t
unfolding with_part IsPart
part-is v w t e = rw e refl

pub part-moved : (v w : MirrorView) (name : Name) (t : TextAt) → w ≡ with_moved v name → IsPart v t → IsPart w t
unfolding with_moved IsPart
part-moved v w name t e p = rw e p

-- ---- whether NOTE may be moved away

may_move_by : (v w : MirrorView) (t : TextAt) (look : Look) → w.made ≡ v.made → MayMove v t look → MayMove w t look
unfolding IsMade
may_move_by v w t (Text digest) e m = (m.0, rw e m.1)
may_move_by v w t LeftEmpty e m = tt
may_move_by v w t Absent e m = m
may_move_by v w t Busy e m = m
may_move_by v w t NotText e m = m
may_move_by v w t Empty e m = m

pub move-by : (v w : MirrorView) (t : TextAt) → w.read ≡ v.read → w.made ≡ v.made → CanMove v t → CanMove w t
unfolding CanMove
move-by v w t r e (look, found, m) = (look, r ∙ found, may_move_by v w t look e m)

pub move-state : (v w : MirrorView) (s : State) (t : TextAt) → w ≡ with_state v s → CanMove v t → CanMove w t
unfolding with_state
move-state v w s t e m = move-by v w t (ap (λ (x : MirrorView). x.read) e) (ap (λ (x : MirrorView). x.made) e) m

pub move-part : (v w : MirrorView) (u t : TextAt) → w ≡ with_part v u → CanMove v t → CanMove w t
unfolding with_part
move-part v w u t e m = move-by v w t (ap (λ (x : MirrorView). x.read) e) (ap (λ (x : MirrorView). x.made) e) m

pub move-same : (v w : MirrorView) (t : TextAt) → w ≡ v → CanMove v t → CanMove w t
move-same v w t e m = subst (λ (x : MirrorView). CanMove x t) (sym e) m

pub move-read : (v : MirrorView) (t : TextAt) (digest : Digest) → IsRead v Note digest → t.digest ≡ digest → IsMade v t → CanMove v t
unfolding CanMove
move-read v t digest r same made = (Text digest, r.found, (same, made))

pub move-empty : (v w : MirrorView) (t u : TextAt) → w ≡ with_heads v t → IsLeftEmpty v → CanMove w u
unfolding with_heads IsLeftEmpty CanMove
move-empty v w t u e h = (LeftEmpty, ap (λ (x : MirrorView). x.read) e ∙ h, tt)

pub watched-kept : (v : MirrorView) (s : State) (lacks : Option TextAt) (name : Name) → IsKept v s lacks → WatchesName s name → (o : State) → v.saved ≡ Some o → WatchesName o name
watched-kept v s lacks name k this o e = subst (λ (x : State). WatchesName x name) (some_is s o (sym k.saved ∙ e)) this
