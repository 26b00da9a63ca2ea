-- Laws of sound lists: prefixes and pushes, induction, different hashes, dependencies first.
use Rattle.tp_history.proofs.Common.{◌≡◌, ◌+◌, ◌==◌, inl, inr, List, [], ◌∷◌, ◌++◌, Bool, true, false, ◌||◌, cond, Option, Some, None, refl, sym, ap, ◌∙◌, subst, append_assoc, append-nil, eqb-true, eq-eqb, In, AllIn, truth, never, not_true, In-left, In-right, In-append, Hash, ChangeParts, hash_of, ops_of, inserts, refers, next_counter, GraphError, Known, MissingDeps, BadSeq, BadStart, BadReference, SeqClash, names, has, has_all, is_needed, HashesApart, past, or_clash, clashes, count_by, SoundAfter, Sound, Fits}
use Rattle.tp_history.specs.Fit.{defect, defect_after}
use Rattle.tp_history.proofs.NamedLaws.{names-In, In-names, has-In, In-has, lacks-fewer, has_all-In, In-has_all, has_all-more, In-is_needed}
use Rattle.tp_history.proofs.PastLaws.{past-In, past-push, past-push_other, past-of_part, past-named, with_reached-In, In-with_reached, kept-In}
use Rattle.tp_history.proofs.ClashLaws.{clashes-fewer}

-- ---- fitting, part by part

first_out : {E : Type 0} (b : Bool) (e : E) (o : Option E) → cond b (Some e) o ≡ None → (b ≡ false) × (o ≡ None)
first_out true e o h = cc
first_out false e o h = (refl, h)

first_in : {E : Type 0} (b : Bool) (e : E) (o : Option E) → cond b o (Some e) ≡ None → (b ≡ true) × (o ≡ None)
first_in true e o h = (refl, h)
first_in false e o h = cc

no_clash : (o : Option GraphError) (b : Bool) → or_clash o b ≡ None → (o ≡ None) × (b ≡ false)
no_clash (Some e) b h = cc
no_clash None b h = let w = first_out b SeqClash None h in (refl, w.0)

-- what has no defect fits
pub Fits-from_defect : (C : List ChangeParts) (c : ChangeParts) → defect C c ≡ None → Fits C c
unfolding defect defect_after
Fits-from_defect C c h =
    let one = first_out (has C (hash_of c)) Known _ h in
    let two = first_in (has_all C c.deps) MissingDeps _ one.1 in
    let six = no_clash (defect_after (past C c.deps) c) (clashes C c) two.1 in
    let three = first_in (c.seq == count_by c.actor (past C c.deps) + 1) BadSeq _ six.0 in
    let four = first_in (c.start == next_counter (past C c.deps)) BadStart _ three.1 in
    let five = first_in (refers (inserts (past C c.deps)) (ops_of c)) BadReference None four.1 in
    record {
      new = one.0;
      deps = two.0;
      seq = eqb-true _ _ three.0;
      start = eqb-true _ _ four.0;
      refs = five.0;
      free = six.1;
    }

-- what fits has no defect
pub defect-from_Fits : (C : List ChangeParts) (c : ChangeParts) → Fits C c → defect C c ≡ None
unfolding defect defect_after
defect-from_Fits C c f = rw (f.new, f.deps, eq-eqb _ _ f.seq, eq-eqb _ _ f.start, f.refs, f.free) refl

-- ---- prefixes, rests and pushes

pub SoundAfter-append : (B C D : List ChangeParts) → SoundAfter B C → SoundAfter (B ++ C) D → SoundAfter B (C ++ D)
SoundAfter-append B [] D s t = subst (λ l. SoundAfter l D) (append-nil B) t
SoundAfter-append B (c ∷ C) D s t =
    (s.0, SoundAfter-append (B ++ c ∷ []) C D s.1 (subst (λ l. SoundAfter l D) (sym (append_assoc B (c ∷ []) C)) t))

pub SoundAfter-prefix : (B C D : List ChangeParts) → SoundAfter B (C ++ D) → SoundAfter B C
SoundAfter-prefix B [] D s = tt
SoundAfter-prefix B (c ∷ C) D s = (s.0, SoundAfter-prefix (B ++ c ∷ []) C D s.1)

pub SoundAfter-rest : (B C D : List ChangeParts) → SoundAfter B (C ++ D) → SoundAfter (B ++ C) D
SoundAfter-rest B [] D s = subst (λ l. SoundAfter l D) (sym (append-nil B)) s
SoundAfter-rest B (c ∷ C) D s = subst (λ l. SoundAfter l D) (append_assoc B (c ∷ []) C) (SoundAfter-rest (B ++ c ∷ []) C D s.1)

-- a prefix of a sound list is sound
pub Sound-prefix : (C D : List ChangeParts) → Sound (C ++ D) → Sound C
Sound-prefix C D s = SoundAfter-prefix [] C D s

pub Sound-push : (C : List ChangeParts) (c : ChangeParts) → Sound C → Fits C c → Sound (C ++ c ∷ [])
Sound-push C c s f = SoundAfter-append [] C (c ∷ []) s (defect-from_Fits C c f, tt)

-- each change of a sound list fits after those before it
pub Fits-at : (A : List ChangeParts) (c : ChangeParts) (B : List ChangeParts) → Sound (A ++ c ∷ B) → Fits A c
Fits-at A c B s = Fits-from_defect A c (SoundAfter-rest [] A (c ∷ B) s).0

-- what holds of no changes, and is kept where a change enters that fits, holds of each sound list
induct_after : (P : List ChangeParts → Type 0)
    → ((C : List ChangeParts) (c : ChangeParts) → Sound C → P C → Fits C c → P (C ++ c ∷ []))
    → (B C : List ChangeParts) → Sound B → P B → SoundAfter B C → P (B ++ C)
induct_after P step B [] s p t = subst P (sym (append-nil B)) p
induct_after P step B (c ∷ C) s p t =
    let f = Fits-from_defect B c t.0 in
    subst P (append_assoc B (c ∷ []) C) (induct_after P step (B ++ c ∷ []) C (Sound-push B c s f) (step B c s p f) t.1)

pub sound-induct : (P : List ChangeParts → Type 0)
    → P []
    → ((C : List ChangeParts) (c : ChangeParts) → Sound C → P C → Fits C c → P (C ++ c ∷ []))
    → (C : List ChangeParts) → Sound C → P C
sound-induct P none step C s = induct_after P step [] C tt none s

-- ---- different hashes, dependencies there

hashes_step : (C : List ChangeParts) (x : ChangeParts) → Sound C → HashesApart C → Fits C x → HashesApart (C ++ x ∷ [])
hashes_step C x s p f c d i j e =
    elim (In-append c C (x ∷ []) i) [
      | inl ic ↦ elim (In-append d C (x ∷ []) j) [
        | inl jd ↦ p c d ic jd e
        | inr jx ↦ elim jx [ inl dx ↦ never (In-has C c (hash_of x) ic (e ∙ ap hash_of dx)) f.new | inr n0 ↦ absurd n0 ]
      ]
      | inr ix ↦ elim ix [
        | inl cx ↦ elim (In-append d C (x ∷ []) j) [
          | inl jd ↦ never (In-has C d (hash_of x) jd (sym e ∙ ap hash_of cx)) f.new
          | inr jx ↦ elim jx [ inl dx ↦ cx ∙ sym dx | inr n0 ↦ absurd n0 ]
        ]
        | inr n0 ↦ absurd n0
      ]
    ]

pub hashes_apart : (C : List ChangeParts) → Sound C → HashesApart C
hashes_apart = sound-induct HashesApart (λ c d i j e. absurd i) hashes_step

-- the dependencies of each change of a sound list are in it
abbrev pub IsClosed : List ChangeParts → Type 0
IsClosed C = (c : ChangeParts) → In c C → has_all C c.deps ≡ true

closed_step : (C : List ChangeParts) (x : ChangeParts) → Sound C → IsClosed C → Fits C x → IsClosed (C ++ x ∷ [])
closed_step C x s p f c i =
    let more : AllIn C (C ++ x ∷ []) = λ d j. In-left d C (x ∷ []) j in
    elim (In-append c C (x ∷ []) i) [
      | inl ic ↦ has_all-more C (C ++ x ∷ []) c.deps more (p c ic)
      | inr ix ↦ elim ix [ inl e ↦ rw e (has_all-more C (C ++ x ∷ []) x.deps more f.deps) | inr n0 ↦ absurd n0 ]
    ]

pub deps_there : (C : List ChangeParts) → Sound C → IsClosed C
deps_there = sound-induct IsClosed (λ c i. absurd i) closed_step

-- Dependencies come first: no change depends on itself or on one after it.
abbrev pub DepsFirst : List ChangeParts → Type 0
DepsFirst [] = Unit {0}
DepsFirst (c ∷ C) = ((d : ChangeParts) → In d (c ∷ C) → names c.deps d ≡ false) × DepsFirst C

pub DepsFirst-push : (C : List ChangeParts) (x : ChangeParts)
    → DepsFirst C → ((c : ChangeParts) → In c C → names c.deps x ≡ false) → names x.deps x ≡ false → DepsFirst (C ++ x ∷ [])
DepsFirst-push [] x o f g = (λ d i. elim i [ inl e ↦ rw e g | inr n0 ↦ absurd n0 ], tt)
DepsFirst-push (c ∷ C) x o f g = (
  λ d i. elim (In-append d (c ∷ C) (x ∷ []) i) [
    | inl j ↦ o.0 d j
    | inr j ↦ elim j [ inl e ↦ rw e (f c (inl refl)) | inr n0 ↦ absurd n0 ]
  ],
  DepsFirst-push C x o.1 (λ d i. f d (inr i)) g,
)

-- a hash that isn't there is none of dependencies that are
pub not_among : (C : List ChangeParts) (H : List Hash) (x : ChangeParts) → has_all C H ≡ true → has C (hash_of x) ≡ false → names H x ≡ false
not_among C H x all new = not_true (names H x) (λ t. never (has_all-In C H all (hash_of x) (names-In H x t)) new)

first_step : (C : List ChangeParts) (x : ChangeParts) → Sound C → DepsFirst C → Fits C x → DepsFirst (C ++ x ∷ [])
first_step C x s p f = DepsFirst-push C x p (λ c i. not_among C c.deps x (deps_there C s c i) f.new) (not_among C x.deps x f.deps f.new)

pub deps_first : (C : List ChangeParts) → Sound C → DepsFirst C
deps_first = sound-induct DepsFirst tt first_step

-- ---- pasts in sound lists

-- what the past holds, it holds with its dependencies
pub past-closed : (C : List ChangeParts) (H : List Hash) → DepsFirst C → (c d : ChangeParts) → In d (past C H) → In c C → In (hash_of c) d.deps → In c (past C H)
past-closed [] H o c d i j n = absurd j
past-closed (x ∷ C) H o c d i (inl e) n =
    elim (with_reached-In H x d (past C H) i) [
      | inl w ↦ never (In-names x.deps c (rw (← w.0) n)) (o.0 c (inl e))
      | inr k ↦ rw e (kept-In H x (past C H) (needed (names H x) (is_needed (past C H) x) (In-is_needed (past C H) x d k (rw (← e) n))))
    ] where
      needed : (a b : Bool) → b ≡ true → (a || b) ≡ true
      needed true b h = refl
      needed false b h = h
past-closed (x ∷ C) H o c d i (inr j) n =
    elim (with_reached-In H x d (past C H) i) [
      | inl w ↦ never (In-names x.deps c (rw (← w.0) n)) (o.0 c (inr j))
      | inr k ↦ In-with_reached H x c (past C H) (past-closed C H o.1 c d k j n)
    ]

-- later changes don't enter a past
pub past-before : (C D : List ChangeParts) (H : List Hash) → has_all C H ≡ true → SoundAfter C D → past (C ++ D) H ≡ past C H
past-before C [] H all s = ap (λ l. past l H) (append-nil C)
past-before C (d ∷ D) H all s =
    let f = Fits-from_defect C d s.0 in
    let more : AllIn C (C ++ d ∷ []) = λ x j. In-left x C (d ∷ []) j in
    ap (λ l. past l H) (sym (append_assoc C (d ∷ []) D))
    ∙ past-before (C ++ d ∷ []) D H (has_all-more C (C ++ d ∷ []) H more all) s.1
    ∙ past-push_other C H d (not_among C H d all f.new)

pub Sound-before : (C D : List ChangeParts) (H : List Hash) → has_all C H ≡ true → Sound (C ++ D) → past (C ++ D) H ≡ past C H
Sound-before C D H all s = past-before C D H all (SoundAfter-rest [] C D s)

-- ---- sound pasts

-- what fits after a list fits after each past of it that holds its dependencies
pub Fits-past : (C : List ChangeParts) (c : ChangeParts) (H : List Hash) → AllIn c.deps H → Fits C c → Fits (past C H) c
Fits-past C c H more f =
    let same : past (past C H) c.deps ≡ past C c.deps = past-of_part C c.deps H more in
    record {
      new = lacks-fewer (past C H) C (hash_of c) (past-In C H) f.new;
      deps = In-has_all (past C H) c.deps
          (λ h i. let w = has-In C h (has_all-In C c.deps f.deps h i) in
          In-has (past C H) w.0 h (past-named C H w.0 w.1 (more (hash_of w.0) (rw w.2 i))) w.2);
      seq = f.seq ∙ ap (λ l. count_by c.actor l + 1) (sym same);
      start = f.start ∙ ap next_counter (sym same);
      refs = ap (λ l. refers (inserts l) (ops_of c)) same ∙ f.refs;
      free = clashes-fewer (past C H) C c (past-In C H) f.free;
    }

abbrev pub HasSoundPasts : List ChangeParts → Type 0
HasSoundPasts C = (H : List Hash) → Sound (past C H)

sound_pasts_step : (C : List ChangeParts) (x : ChangeParts) → Sound C → HasSoundPasts C → Fits C x → HasSoundPasts (C ++ x ∷ [])
sound_pasts_step C x s p f H =
    elim (truth (names H x)) [
      | inl t ↦
          subst Sound (sym (past-push C H x t))
          (Sound-push (past C (H ++ x.deps)) x (p (H ++ x.deps)) (Fits-past C x (H ++ x.deps) (λ h i. In-right h H x.deps i) f))
      | inr e ↦ subst Sound (sym (past-push_other C H x e)) (p H)
    ]

-- the past of any hashes of a sound list is sound
pub sound_pasts : (C : List ChangeParts) → Sound C → HasSoundPasts C
sound_pasts = sound-induct HasSoundPasts (λ H. tt) sound_pasts_step
