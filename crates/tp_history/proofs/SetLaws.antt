-- What depends on the changes as a set, and what stays as changes enter.
use Rattle.tp_history.proofs.Common.{◌≡◌, ℕ, suc, zero, ◌+◌, ◌≤◌, inl, inr, List, ◌∷◌, ◌++◌, Bool, true, false, ◌||◌, cond, Option, Some, None, refl, sym, ap, ◌∙◌, subst, arith, append_assoc, In, AllIn, SameMembers, truth, never, not_true, same_test, neither, In-left, In-right, In-split, Hash, same_actor, same_actor-same, ChangeParts, hash_of, ops_of, inserts, refers, next_counter, GraphError, Known, MissingDeps, has, has_all, past, Chain, heads, defect_after, or_clash, clashes, count_by, Sound, Fits}
use Rattle.tp_history.specs.Fit.{defect}
use Rattle.tp_history.proofs.NamedLaws.{has-In, has-append, has-more, lacks-fewer, has_all-In, has_all-more}
use Rattle.tp_history.proofs.PastLaws.{past-In}
use Rattle.tp_history.proofs.SoundLaws.{Fits-from_defect, defect-from_Fits, Sound-prefix, Fits-at, hashes_apart, deps_there, IsClosed, deps_first, Sound-before, sound_pasts}
use Rattle.tp_history.proofs.ClashLaws.{clashes-fewer, clashes-append, clash_of, In-clashes}
use Rattle.tp_history.proofs.ReachLaws.{InPast-from_past, past-held, past-held_back}
use Rattle.tp_history.proofs.HeadsLaws.{past-heads, has_all-heads}
use Rattle.tp_history.proofs.MarksLaws.{hashes_once}
use Rattle.tp_history.proofs.CountLaws.{defect_after-same, seqs_run}

-- ---- the defect, part by part

defect-parts : (C D : List ChangeParts) (c : ChangeParts) → has C (hash_of c) ≡ has D (hash_of c) → has_all C c.deps ≡ has_all D c.deps
    → defect_after (past C c.deps) c ≡ defect_after (past D c.deps) c → clashes C c ≡ clashes D c → defect C c ≡ defect D c
unfolding defect
defect-parts C D c e f g h =
    ap (λ b. cond b (Some Known) (cond (has_all C c.deps) (or_clash (defect_after (past C c.deps) c) (clashes C c)) (Some MissingDeps))) e
    ∙ ap (λ b. cond (has D (hash_of c)) (Some Known) (cond b (or_clash (defect_after (past C c.deps) c) (clashes C c)) (Some MissingDeps))) f
    ∙ ap (λ o. cond (has D (hash_of c)) (Some Known) (cond (has_all D c.deps) (or_clash o (clashes C c)) (Some MissingDeps))) g
    ∙ ap (λ b. cond (has D (hash_of c)) (Some Known) (cond (has_all D c.deps) (or_clash (defect_after (past D c.deps) c) b) (Some MissingDeps))) h

pub has-same : (C D : List ChangeParts) (h : Hash) → AllIn C D → AllIn D C → has C h ≡ has D h
has-same C D h f g = same_test (has C h) (has D h) (has-more C D h f) (has-more D C h g)

-- the defect depends on the changes as a set
pub defect-same : (C D : List ChangeParts) (c : ChangeParts) → Sound C → Sound D → AllIn C D → AllIn D C → defect C c ≡ defect D c
defect-same C D c s t f g =
    defect-parts C D c (has-same C D (hash_of c) f g)
    (same_test (has_all C c.deps) (has_all D c.deps) (has_all-more C D c.deps f) (has_all-more D C c.deps g))
    (defect_after-same (past C c.deps) (past D c.deps) c
    (hashes_once (past C c.deps) (sound_pasts C s c.deps)) (hashes_once (past D c.deps) (sound_pasts D t c.deps))
    (past-held C D c.deps (deps_first C s) (deps_first D t) (λ x i. f x (past-In C c.deps x i)))
    (past-held D C c.deps (deps_first D t) (deps_first C s) (λ x i. g x (past-In D c.deps x i))))
    (same_test (clashes C c) (clashes D c) (not_fewer C D f) (not_fewer D C g)) where
      not_fewer : (A B : List ChangeParts) → AllIn A B → clashes A c ≡ true → clashes B c ≡ true
      not_fewer A B more e = elim (truth (clashes B c)) [ inl t ↦ t | inr n ↦ never e (clashes-fewer A B c more n) ]

-- a past is the same in every sound list that holds it
pub past-same : (C D : List ChangeParts) (H : List Hash) → Sound C → Sound D → has_all C H ≡ true → AllIn (past C H) D → SameMembers (past C H) (past D H)
past-same C D H s t all held = record {
  there = past-held C D H (deps_first C s) (deps_first D t) held;
  back = past-held_back C D H (deps_first C s) (deps_there C s) (hashes_apart D t) all held;
}

-- ---- what stays as changes enter

-- a change that fits goes on fitting, unless its hash or a clash enters
pub Fits-later : (C D : List ChangeParts) (c : ChangeParts) → Sound (C ++ D) → Fits C c → has D (hash_of c) ≡ false → clashes D c ≡ false → Fits (C ++ D) c
Fits-later C D c s f new free =
    let same = Sound-before C D c.deps f.deps s in
    record {
      new = has-append C D (hash_of c) ∙ neither (has C (hash_of c)) (has D (hash_of c)) f.new new;
      deps = has_all-more C (C ++ D) c.deps (λ x i. In-left x C D i) f.deps;
      seq = f.seq ∙ ap (λ l. count_by c.actor l + 1) (sym same);
      start = f.start ∙ ap next_counter (sym same);
      refs = ap (λ l. refers (inserts l) (ops_of c)) same ∙ f.refs;
      free = clashes-append C D c f.free free;
    }

-- a defect of a change whose dependencies are there stays, unless its hash enters
pub defect-later : (C D : List ChangeParts) (c : ChangeParts) (e : GraphError) → Sound (C ++ D) → has_all C c.deps ≡ true → has D (hash_of c) ≡ false
    → defect C c ≡ Some e → defect (C ++ D) c ≡ Some e
unfolding defect
defect-later C D c e s all new m =
    let same_hash : has (C ++ D) (hash_of c) ≡ has C (hash_of c) = has-append C D (hash_of c) ∙ ap (λ b. has C (hash_of c) || b) new ∙ alone (has C (hash_of c)) in
    let all_there : has_all (C ++ D) c.deps ≡ true = has_all-more C (C ++ D) c.deps (λ x i. In-left x C D i) all in
    let same : past (C ++ D) c.deps ≡ past C c.deps = Sound-before C D c.deps all s in
    rw (same_hash, all_there, same)
    (step (has C (hash_of c)) (defect_after (past C c.deps) c) (clashes C c) (clashes (C ++ D) c)
    (λ t. more t) (ap (λ b. cond (has C (hash_of c)) (Some Known) (cond b (or_clash (defect_after (past C c.deps) c) (clashes C c)) (Some MissingDeps))) (sym all) ∙ m)) where
      alone : (b : Bool) → (b || false) ≡ b
      alone b = grind arith

      more : clashes C c ≡ true → clashes (C ++ D) c ≡ true
      more t = elim (truth (clashes (C ++ D) c)) [ inl u ↦ u | inr n ↦ never t (clashes-fewer C (C ++ D) c (λ x i. In-left x C D i) n) ]

      step : (h : Bool) (o : Option GraphError) (b d : Bool) → (b ≡ true → d ≡ true) → cond h (Some Known) (or_clash o b) ≡ Some e → cond h (Some Known) (or_clash o d) ≡ Some e
      step true o b d f k = k
      step false (Some x) b d f k = k
      step false None true d f k = rw (f refl) k
      step false None false d f k = cc

-- a change that is refused for good never enters
pub refused_stays_out : (C D : List ChangeParts) (c : ChangeParts) (e : GraphError) → Sound (C ++ D) → has_all C c.deps ≡ true → defect C c ≡ Some e → In c D → ⊥
refused_stays_out C D c e s all m i =
    let w = In-split c D i in
    let A = w.0 in
    let whole : Sound ((C ++ A) ++ c ∷ w.1) = subst Sound (ap (λ l. C ++ l) w.2 ∙ sym (append_assoc C A (c ∷ w.1))) s in
    let f = Fits-at (C ++ A) c w.1 whole in
    let new : has A (hash_of c) ≡ false = lacks-fewer A (C ++ A) (hash_of c) (λ x j. In-right x C A j) f.new in
    let late : defect (C ++ A) c ≡ Some e = defect-later C A c e (Sound-prefix (C ++ A) (c ∷ w.1) whole) all new m in
    let none : defect (C ++ A) c ≡ None = defect-from_Fits (C ++ A) c f in
    cc

-- ---- an edit

-- a change on the heads, with the next numbers and references that are there, fits
pub Fits-edit : (C : List ChangeParts) (c : ChangeParts) → Sound C → c.deps ≡ heads C → c.seq ≡ count_by c.actor C + 1 → c.start ≡ next_counter C
    → refers (inserts C) (ops_of c) ≡ true → has C (hash_of c) ≡ false → Fits C c
Fits-edit C c s deps seq start refs new =
    let whole : past C c.deps ≡ C = ap (past C) deps ∙ past-heads C (deps_first C s) in
    record {
      new = new;
      deps = ap (has_all C) deps ∙ has_all-heads C;
      seq = seq ∙ ap (λ l. count_by c.actor l + 1) (sym whole);
      start = start ∙ ap next_counter (sym whole);
      refs = ap (λ l. refers (inserts l) (ops_of c)) whole ∙ refs;
      free = not_true (clashes C c) (λ t. clash_not (clash_of C c t));
    } where
      clash_not : ((d : ChangeParts) × In d C × (same_actor d.actor c.actor ≡ true) × (d.seq ≡ c.seq)) → ⊥
      clash_not w =
          let bound : w.0.seq ≤ count_by w.0.actor C = (seqs_run C s).bounded w.0 w.1 in
          let one : count_by w.0.actor C ≡ count_by c.actor C = ap (λ a. count_by a C) (same_actor-same w.0.actor c.actor w.2) in
          let same : w.0.seq ≡ c.seq = w.3 in
          absurd (omega arith)

-- ---- equal heads

-- equal hashes mean equal changes, between the two lists
abbrev pub NoTwins : List ChangeParts → List ChangeParts → Type 0
NoTwins C D = (c d : ChangeParts) → In c C → In d D → hash_of c ≡ hash_of d → c ≡ d

-- what the other list's changes lead to from a hash that is there is there too
pub chain_over : (C D : List ChangeParts) → IsClosed D → NoTwins C D → (n : ℕ) (h g : Hash) → Chain C n h g → has D h ≡ true → has D g ≡ true
chain_over C D closed twins zero h g k e = subst (λ x. has D x ≡ true) k e
chain_over C D closed twins (suc n) h g k e =
    let d = has-In D h e in
    let same : k.0 ≡ d.0 = twins k.0 d.0 k.1 d.1 (k.2 ∙ sym d.2) in
    let dep : In k.3 d.0.deps = subst (λ (x : ChangeParts). In k.3 x.deps) same k.4 in
    chain_over C D closed twins n k.3 g k.5 (has_all-In D d.0.deps (closed d.0 d.1) k.3 dep)

pub heads_decide : (C D : List ChangeParts) → Sound C → Sound D → NoTwins C D → heads C ≡ heads D → AllIn C D
heads_decide C D s t twins e c i =
    let p = InPast-from_past C (heads C) c (subst (λ l. In c l) (sym (past-heads C (deps_first C s))) i) in
    let head : has D p.1 ≡ true = has_all-In D (heads D) (has_all-heads D) p.1 (subst (λ l. In p.1 l) e p.2) in
    let there = has-In D (hash_of c) (chain_over C D (deps_there D t) twins p.3.0 p.1 (hash_of c) p.3.1 head) in
    subst (λ x. In x D) (sym (twins c there.0 i there.1 (sym there.2))) there.1

-- ---- a part and the whole

-- what fits a part fits the whole, unless it clashes or is there
pub Fits-part : (P C : List ChangeParts) (c : ChangeParts) → Sound P → Sound C → AllIn P C → Fits P c → has C (hash_of c) ≡ false → clashes C c ≡ false → Fits C c
unfolding defect
Fits-part P C c p s more f new free =
    let there = past-held P C c.deps (deps_first P p) (deps_first C s) (λ x i. more x (past-In P c.deps x i)) in
    let back = past-held_back P C c.deps (deps_first P p) (deps_there P p) (hashes_apart C s) f.deps (λ x i. more x (past-In P c.deps x i)) in
    let same = defect_after-same (past P c.deps) (past C c.deps) c (hashes_once (past P c.deps) (sound_pasts P p c.deps)) (hashes_once (past C c.deps) (sound_pasts C s c.deps)) there back in
    let all = has_all-more P C c.deps more f.deps in
    Fits-from_defect C c (parts (sym same) all new free (defect-from_Fits P c f) f.new f.deps) where
      first : (o : Option GraphError) (b : Bool) → or_clash o b ≡ None → o ≡ None
      first (Some e) b h = cc
      first None b h = refl

      parts : defect_after (past C c.deps) c ≡ defect_after (past P c.deps) c → has_all C c.deps ≡ true → has C (hash_of c) ≡ false → clashes C c ≡ false
          → defect P c ≡ None → has P (hash_of c) ≡ false → has_all P c.deps ≡ true → defect C c ≡ None
      parts same all new free m new_too all_too =
          let none : defect_after (past P c.deps) c ≡ None = first (defect_after (past P c.deps) c) (clashes P c) (sym (rw (new_too, all_too) refl) ∙ m) in
          rw (new, all, same, none, free) refl

-- what fits a part that has all of its actor's changes fits the whole, unless it is there
pub Fits-whole : (P C : List ChangeParts) (c : ChangeParts) → Sound P → Sound C → AllIn P C → ((d : ChangeParts) → In d C → same_actor d.actor c.actor ≡ true → In d P)
    → Fits P c → has C (hash_of c) ≡ false → Fits C c
Fits-whole P C c p s more own f new = Fits-part P C c p s more f new (not_true (clashes C c) (λ t. let w = clash_of C c t in never (In-clashes P c w.0 (own w.0 w.1 w.2) w.2 w.3) f.free))
