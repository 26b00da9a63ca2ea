-- What a change that was judged meets against the final list.
use Rattle.tp_receive.proofs.Common.{◌≡◌, ◌==◌, ◌||◌, ◌⊎◌, inl, inr, List, [], ◌∷◌, ◌++◌, length, Bool, true, false, Option, Some, None, refl, sym, ap, ◌∙◌, subst, append_assoc, append-nil, In, AllIn, Hash, ChangeParts, hash_of, GraphError, MissingDeps, has, has_all, HashesApart, most_changes, Sound, truth, never, not_true, has-In, has-append, has-left, Sound-push, Fits-from_cause, EntersAfter, lacks_deps, is_refusal, Known, or_full, has_all-In, enters, BadSeq, BadStart, BadReference, SeqClash, UnknownHead, Full, defect, defect-later, neither}
use Rattle.tp_history.specs.declared.error.GraphError.TheVariants.{OutOfMemory}
use Rattle.tp_history.specs.Fit.{cause}
use Rattle.tp_history.proofs.CauseLaws.{missing_deps_is}
use Rattle.tp_receive.proofs.RefusalLaws.{cause-known, refused-stays, EntersAfter-append}

-- ---- a cause other than a missing dependency stays the same

not_full : (o : Option GraphError) (b : Bool) (e : GraphError) → b ≡ false → or_full o b ≡ Some e → o ≡ Some e
not_full (Some f) b e n h = h
not_full None true e n h = cc
not_full None false e n h = cc

final-defect : (C : List ChangeParts) (c : ChangeParts) (e : GraphError) → has C (hash_of c) ≡ false → is_refusal (Some e) ≡ true → defect C c ≡ Some e → has_all C c.deps ≡ true
final-defect C c e new final m =
    elim (truth (has_all C c.deps)) [
      | inl t ↦ t
      | inr f ↦
          let lacks : defect C c ≡ Some MissingDeps = (missing_deps_is C c).1 (new, f) in
          let same : Some MissingDeps ≡ Some e = sym lacks ∙ m in
          let no : false ≡ true = ap is_refusal same ∙ final in
          cc
    ]

pub same-push : (C : List ChangeParts) (x c : ChangeParts) (e : GraphError) → Sound C → cause C x ≡ None → has (x ∷ []) (hash_of c) ≡ false
    → is_refusal (Some e) ≡ true → cause C c ≡ Some e → cause (C ++ x ∷ []) c ≡ Some e
unfolding cause
same-push C x c e s none apart final h =
    elim (truth (has C (hash_of c))) [
      | inl t ↦ cause-known (C ++ x ∷ []) c (has-left C (x ∷ []) (hash_of c) t) ∙ sym (cause-known C c t) ∙ h
      | inr new ↦
          let m = not_full (defect C c) (length C == most_changes) e (enters C x none).1 h in
          let later = defect-later C (x ∷ []) c e (Sound-push C x s (Fits-from_cause C x none)) (final-defect C c e new final m) apart m in
          ap (λ o. or_full o (length (C ++ x ∷ []) == most_changes)) later
    ]

pub same-stays : (C new K : List ChangeParts) (c : ChangeParts) (e : GraphError) → Sound C → EntersAfter C new → AllIn new K → HashesApart K → In c K
    → is_refusal (Some e) ≡ true → cause C c ≡ Some e → cause (C ++ new) c ≡ Some e
same-stays C [] K c e s fits came apart i final h = subst (λ l. cause l c ≡ Some e) (sym (append-nil C)) h
same-stays C (x ∷ new) K c e s fits came apart i final h =
    let other : has (x ∷ []) (hash_of c) ≡ false = not_true (has (x ∷ []) (hash_of c)) (λ t.
    let w = has-In (x ∷ []) (hash_of c) t in
    let one : x ≡ c = apart x c (came x (inl refl)) i (elim w.1 [ inl q ↦ ap hash_of (sym q) ∙ w.2 | inr n ↦ absurd n ]) in
    let none : cause C c ≡ None = subst (λ (y : ChangeParts). cause C y ≡ None) one fits.0 in
    let no : Some e ≡ None = sym h ∙ none in
    cc) in
    subst (λ l. cause l c ≡ Some e) (append_assoc C (x ∷ []) new)
    (same-stays (C ++ x ∷ []) new K c e (Sound-push C x s (Fits-from_cause C x fits.0)) fits.1 (λ y j. came y (inr j)) apart i final
    (same-push C x c e s fits.0 other final h))

-- ---- what must wait

pub lacks_cause : (o : Option GraphError) → lacks_deps o ≡ true → o ≡ Some MissingDeps
lacks_cause None h = cc
lacks_cause (Some MissingDeps) h = refl
lacks_cause (Some Known) h = cc
lacks_cause (Some BadSeq) h = cc
lacks_cause (Some BadStart) h = cc
lacks_cause (Some BadReference) h = cc
lacks_cause (Some SeqClash) h = cc
lacks_cause (Some UnknownHead) h = cc
lacks_cause (Some Full) h = cc
lacks_cause (Some OutOfMemory) h = cc

waits_defect : (o : Option GraphError) (b : Bool) → or_full o b ≡ Some MissingDeps → o ≡ Some MissingDeps
waits_defect (Some f) b h = h
waits_defect None true h = cc
waits_defect None false h = cc

-- a change that must wait isn't there, and lacks a dependency
pub waits_for : (C : List ChangeParts) (c : ChangeParts) → cause C c ≡ Some MissingDeps → (has C (hash_of c) ≡ false) × (has_all C c.deps ≡ false)
unfolding cause
waits_for C c h = (missing_deps_is C c).0 (waits_defect (defect C c) (length C == most_changes) h)

pub lacking : (C : List ChangeParts) (H : List Hash) → has_all C H ≡ false → (d : Hash) × In d H × (has C d ≡ false)
lacking C [] h = cc
lacking C (g ∷ H) h =
    elim (truth (has C g)) [
      | inl t ↦ let w = lacking C H (rw t at h) in (w.0, inr w.1, w.2)
      | inr f ↦ (g, inl refl, f)
    ]

-- What has no such change now lacks it.
pub lacks_one : (C : List ChangeParts) (H : List Hash) (d : Hash) → In d H → has C d ≡ false → has_all C H ≡ false
lacks_one C H d i f = not_true (has_all C H) (λ t. never (has_all-In C H t d i) f)

pub waits_again : (C : List ChangeParts) (c : ChangeParts) → has C (hash_of c) ≡ false → has_all C c.deps ≡ false → cause C c ≡ Some MissingDeps
unfolding cause
waits_again C c new lacks = ap (λ o. or_full o (length C == most_changes)) ((missing_deps_is C c).1 (new, lacks))

-- ---- what never enters

-- Whatever changes of F enter after C, none of them has the hash, and C has none.
abbrev pub Never : List ChangeParts → List ChangeParts → Hash → Type 0
Never F C h = (new : List ChangeParts) → EntersAfter C new → AllIn new F → has (C ++ new) h ≡ false

-- Whatever changes of F enter after C, the change isn't one of them.
abbrev pub NeverEnters : List ChangeParts → List ChangeParts → ChangeParts → Type 0
NeverEnters F C c = (new : List ChangeParts) → EntersAfter C new → AllIn new F → In c new → ⊥

-- The change isn't there, and a dependency never will be.
pub record Barred (F C : List ChangeParts) (c : ChangeParts) : Type 0 where
  pub new : has C (hash_of c) ≡ false
  pub dep : Hash
  pub needs : In dep c.deps
  pub lacks : Never F C dep

-- the turn of one of those that enter
pub entry_of : (C new F : List ChangeParts) (c : ChangeParts) → EntersAfter C new → AllIn new F → In c new
    → (A : List ChangeParts) × EntersAfter C A × AllIn A F × (cause (C ++ A) c ≡ None)
entry_of C [] F c fits came i = absurd i
entry_of C (x ∷ new) F c fits came (inl e) = ([], tt, (λ y j. absurd j), subst (λ l. cause l c ≡ None) (sym (append-nil C)) (rw e fits.0))
entry_of C (x ∷ new) F c fits came (inr i) =
    let w = entry_of (C ++ x ∷ []) new F c fits.1 (λ y j. came y (inr j)) i in (
      x ∷ w.0,
      (fits.0, w.1),
      λ y j. elim j [ inl e ↦ rw e (came x (inl refl)) | inr k ↦ w.2 y k ],
      subst (λ l. cause l c ≡ None) (append_assoc C (x ∷ []) w.0) w.3,
    )

pub Never-later : (F C new : List ChangeParts) (h : Hash) → EntersAfter C new → AllIn new F → Never F C h → Never F (C ++ new) h
Never-later F C new h fits came n more fits2 came2 =
    subst (λ l. has l h ≡ false) (sym (append_assoc C new more))
    (n (new ++ more) (EntersAfter-append C new more fits fits2) (λ x i. elim (In-parts x new more i) [ inl j ↦ came x j | inr j ↦ came2 x j ])) where
      In-parts : (x : ChangeParts) (A B : List ChangeParts) → In x (A ++ B) → In x A ⊎ In x B
      In-parts x [] B i = inr i
      In-parts x (y ∷ A) B (inl e) = inl (inl e)
      In-parts x (y ∷ A) B (inr i) = elim (In-parts x A B i) [ inl j ↦ inl (inr j) | inr j ↦ inr j ]

pub Never-now : (F C : List ChangeParts) (h : Hash) → Never F C h → has C h ≡ false
Never-now F C h n = subst (λ l. has l h ≡ false) (append-nil C) (n [] tt (λ x i. absurd i))

-- what lacks a dependency for ever stays out
pub out_of_dep : (F C : List ChangeParts) (c : ChangeParts) (d : Hash) → In d c.deps → Never F C d → NeverEnters F C c
out_of_dep F C c d needs n new fits came i =
    let w = entry_of C new F c fits came i in
    never (has_all-In (C ++ w.0) c.deps ((Fits-from_cause (C ++ w.0) c w.3).deps) d needs) (n w.0 w.1 w.2)

-- what is refused for good stays out
pub out_of_refusal : (F C : List ChangeParts) (c : ChangeParts) → is_refusal (cause C c) ≡ true → NeverEnters F C c
out_of_refusal F C c final new fits came i =
    let w = entry_of C new F c fits came i in
    let still : is_refusal (cause (C ++ w.0) c) ≡ true = refused-stays C w.0 c w.1 final in
    let no : false ≡ true = sym (ap is_refusal w.3) ∙ still in
    cc

-- the hash of a change that stays out never comes
pub Never-out : (F C : List ChangeParts) (c : ChangeParts) → HashesApart F → In c F → has C (hash_of c) ≡ false → NeverEnters F C c → Never F C (hash_of c)
Never-out F C c apart i lacks out new fits came =
    has-append C new (hash_of c) ∙ neither (has C (hash_of c)) (has new (hash_of c)) lacks (not_true (has new (hash_of c)) (λ t.
    let w = has-In new (hash_of c) t in
    out new fits came (subst (λ (y : ChangeParts). In y new) (apart w.0 c (came w.0 w.1) i w.2) w.1)))

pub Barred-later : (F C new : List ChangeParts) (c : ChangeParts) → HashesApart F → In c F → EntersAfter C new → AllIn new F → Barred F C c → Barred F (C ++ new) c
Barred-later F C new c apart i fits came b = record {
  new = Never-out F C c apart i b.new (out_of_dep F C c b.dep b.needs b.lacks) new fits came;
  dep = b.dep;
  needs = b.needs;
  lacks = Never-later F C new b.dep fits came b.lacks;
}

pub Barred-cause : (F C : List ChangeParts) (c : ChangeParts) → Barred F C c → cause C c ≡ Some MissingDeps
Barred-cause F C c b = waits_again C c b.new (lacks_one C c.deps b.dep b.needs (Never-now F C b.dep b.lacks))
