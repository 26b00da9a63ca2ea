-- Laws of traces.
use Rattle.std.proofs.Common.{◌≡◌, List, [], ◌∷◌, ◌++◌, reverse, refl, sym, ap, subst, ◌∙◌}
use mathlib.Core.List.{reverse_aux}
use Rattle.tp_list.specs.Traces.{Trace}

module _ {S L : Type 0} (Step : S → L → S → Type 0) where
  -- one trace after another
  pub trace_join : (s : S) (ls : List L) (m : S) (ks : List L) (t : S) → Trace Step s ls m → Trace Step m ks t → Trace Step s (ls ++ ks) t
  trace_join s [] m ks t first then = subst (λ x. Trace Step x ks t) first then
  trace_join s (l ∷ ls) m ks t first then = (first.0, first.1, trace_join first.0 ls m ks t first.2 then)

  -- one step more
  pub trace_push : (s : S) (ls : List L) (m : S) (l : L) (t : S) → Trace Step s ls m → Step m l t → Trace Step s (ls ++ l ∷ []) t
  trace_push s ls m l t trace step = trace_join s ls m (l ∷ []) t trace (t, step, refl)

  -- a trace passes a state after each of its steps
  pub trace_split : (s : S) (ls ks : List L) (t : S) → Trace Step s (ls ++ ks) t → (m : S) × Trace Step s ls m × Trace Step m ks t
  trace_split s [] ks t trace = (s, refl, trace)
  trace_split s (l ∷ ls) ks t trace =
      let rest = trace_split trace.0 ls ks t trace.2 in (rest.0, (trace.0, trace.1, rest.1), rest.2)

  -- what holds at first and is kept by each step holds at the end
  pub trace_keeps : (P : S → Type 0) → ((s : S) (l : L) (t : S) → Step s l t → P s → P t) → (s : S) (ls : List L) (t : S) → Trace Step s ls t → P s → P t
  trace_keeps P kept s [] t trace p = subst P (sym trace) p
  trace_keeps P kept s (l ∷ ls) t trace p = trace_keeps P kept trace.0 ls t trace.2 (kept s l trace.0 trace.1 p)

  -- a trace is one of each relation that has all its steps
  pub trace_grows : (More : S → L → S → Type 0) → ((s : S) (l : L) (t : S) → Step s l t → More s l t) → (s : S) (ls : List L) (t : S) → Trace Step s ls t → Trace More s ls t
  trace_grows More more s [] t trace = trace
  trace_grows More more s (l ∷ ls) t trace = (trace.0, more s l trace.0 trace.1, trace_grows More more trace.0 ls t trace.2)

  -- where a label leads to one state, labels do
  pub trace_ends : ((s : S) (l : L) (t u : S) → Step s l t → Step s l u → t ≡ u) → (s : S) (ls : List L) (t u : S) → Trace Step s ls t → Trace Step s ls u → t ≡ u
  trace_ends one s [] t u h k = h ∙ sym k
  trace_ends one s (l ∷ ls) t u h k =
      trace_ends one k.0 ls t u (subst (λ x. Trace Step x ls t) (one s l h.0 k.0 h.1 k.1) h.2) k.2

  -- where a state has one step at most, and the state e none, one list of labels leads to e
  pub trace_once : ((s : S) (l k : L) (t u : S) → Step s l t → Step s k u → (l ≡ k) × (t ≡ u)) → (e : S) → ((l : L) (t : S) → Step e l t → ⊥)
      → (s : S) (ls ks : List L) → Trace Step s ls e → Trace Step s ks e → ls ≡ ks
  trace_once one e none s [] [] h k = refl
  trace_once one e none s [] (y ∷ ks) h k = absurd (none y k.0 (subst (λ x. Step x y k.0) (sym h) k.1))
  trace_once one e none s (x ∷ ls) [] h k = absurd (none x h.0 (subst (λ y. Step y x h.0) (sym k) h.1))
  trace_once one e none s (x ∷ ls) (y ∷ ks) h k =
      let same = one s x y h.0 k.0 h.1 k.1 in
      let rest : ls ≡ ks = trace_once one e none k.0 ls ks (subst (λ z. Trace Step z ls e) same.1 h.2) k.2 in
      ap (λ z. z ∷ ls) same.0 ∙ ap (λ l. y ∷ l) rest

  -- what leads to s, backwards, and then the trace from there, backwards
  back_onto : (r s : S) (ls ks : List L) (t : S) → Trace Step s ls t → Trace (λ y l x. Step x l y) s ks r → Trace (λ y l x. Step x l y) t (reverse_aux ls ks) r
  back_onto r s [] ks t trace back = subst (λ x. Trace (λ y l x. Step x l y) x ks r) (sym trace) back
  back_onto r s (l ∷ ls) ks t trace back = back_onto r trace.0 ls (l ∷ ks) t trace.2 (s, trace.1, back)

  -- a trace from its end is one of the steps backwards
  pub trace_back : (s : S) (ls : List L) (t : S) → Trace Step s ls t → Trace (λ y l x. Step x l y) t (reverse ls) s
  trace_back s ls t trace = back_onto s s ls [] t trace refl
