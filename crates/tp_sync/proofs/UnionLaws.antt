-- Why an exchange leaves both documents with the union of what they had.
use Rattle.tp_sync.proofs.Common.{◌≡◌, ◌⊎◌, inl, inr, List, [], ◌∷◌, ◌++◌, Bool, true, false, not, Some, None, Option, length, ◌==◌, refl, sym, ap, ◌∙◌, subst, append_assoc, filter, In, In-left, In-right, In-append, filter-In, truth, never, neither_right, Hash, ChangeParts, hash_of, names, has, has_all, past, Sound, In-has, is_due, AllIn, SameMembers, GraphError, Known, HashesApart, most_changes, has-In, has_all-In, In-has_all, Intake, defect, or_full, has-left, Fits-at, deps_there, NoTwins, chain_over}
use Rattle.tp_history.specs.Fit.{cause}
use Rattle.tp_history.proofs.CauseLaws.{known_is}
use Rattle.tp_history.proofs.ReachLaws.{InPast-from_past}
use Rattle.tp_receive.specs.Receiving.{hashes}
use Rattle.tp_receive.specs.Replies.{Progress, Results}
use Rattle.tp_receive.proofs.CausesLaws.{waits_for}

-- ---- what isn't due is there

-- The other, which declared that it has some hashes, has each change that isn't due to it.
pub not_due_held : (C D : List ChangeParts) (theirs wants : List Hash) (c : ChangeParts) → Sound D → has_all D theirs ≡ true → NoTwins C D → In c C
    → is_due C theirs wants c ≡ false → has D (hash_of c) ≡ true
not_due_held C D theirs wants c sound there twins i e =
    let held : has (past C theirs) (hash_of c) ≡ true = held_by (has (past C theirs) (hash_of c)) (neither_right (names wants c) (not (has (past C theirs) (hash_of c))) e) in
    let x = has-In (past C theirs) (hash_of c) held in
    let p = InPast-from_past C theirs x.0 x.1 in
    let head : has D p.1 ≡ true = has_all-In D theirs there p.1 p.2 in
    subst (λ h. has D h ≡ true) x.2 (chain_over C D (deps_there D sound) twins p.3.0 p.1 (hash_of x.0) p.3.1 head) where
      held_by : (b : Bool) → not b ≡ false → b ≡ true
      held_by true f = refl
      held_by false f = cc

-- ---- what is due arrives

known_defect : (o : Option GraphError) (b : Bool) → or_full o b ≡ Some Known → o ≡ Some Known
known_defect (Some f) b h = h
known_defect None true h = cc
known_defect None false h = cc

-- a change that is known is there
known_there : (C : List ChangeParts) (c : ChangeParts) → cause C c ≡ Some Known → has C (hash_of c) ≡ true
unfolding cause
known_there C c h = (known_is C c).0 (known_defect (defect C c) (length C == most_changes) h)

In-hashes : (C : List ChangeParts) (h : Hash) → In h (hashes C) → has C h ≡ true
In-hashes [] h i = absurd i
In-hashes (c ∷ C) h i = elim i [
  | inl e ↦ In-has (c ∷ C) c h (inl refl) (sym e)
  | inr j ↦ In-has-later c C h (In-hashes C h j)
] where
  In-has-later : (c : ChangeParts) (C : List ChangeParts) (h : Hash) → has C h ≡ true → has (c ∷ C) h ≡ true
  In-has-later c C h e = let w = has-In C h e in In-has (c ∷ C) w.0 h (inr w.1) w.2

-- What a whole run did that received K after D, where nothing waited and nothing was refused but what was known.
pub record Arrived {S : Type 0} (keeps : S → ChangeParts → S → Type 0) (k : S) (D K : List ChangeParts) (t : Intake S) : Type 0 where
  pub progress : Progress keeps k D K t
  pub results : Results D [] K t
  pub known : (h : Hash) (e : GraphError) → In (h, e) t.refused → e ≡ Known

-- Each change of K that came and whose dependencies are there is there.
arrives : {S : Type 0} (keeps : S → ChangeParts → S → Type 0) (k : S) (D K : List ChangeParts) (t : Intake S) → Arrived keeps k D K t
    → (c : ChangeParts) → In c K → has_all t.applied c.deps ≡ true → has t.applied (hash_of c) ≡ true
arrives keeps k D K t w c i deps = elim (w.results.placed.reported c i) [
  | inl j ↦
      let new : has w.progress.new (hash_of c) ≡ true = In-hashes w.progress.new (hash_of c) (subst (In (hash_of c)) w.progress.reported j) in
      let x = has-In w.progress.new (hash_of c) new in
      In-has t.applied x.0 (hash_of c) (subst (In x.0) (sym w.progress.grows.begins) (In-right x.0 D w.progress.new x.1)) x.2
  | inr rest ↦ elim rest [
    | inl j ↦ never deps (waits_for t.applied c (w.results.placed.waiting c j)).1
    | inr r ↦
        let x = w.results.causes (hash_of c) r.0 r.1 in
        let known : cause t.applied x.0 ≡ Some Known = x.3 ∙ ap Some (w.known (hash_of c) r.0 r.1) in
        subst (λ h. has t.applied h ≡ true) x.2 (known_there t.applied x.0 known)
  ]
]

-- So each change of a sound list is there in the end, where those that came are all of it that weren't there.
all_there : {S : Type 0} (keeps : S → ChangeParts → S → Type 0) (k : S) (D K : List ChangeParts) (t : Intake S) → Arrived keeps k D K t
    → (P Q : List ChangeParts) → Sound (P ++ Q) → ((c : ChangeParts) → In c Q → In c K ⊎ (has D (hash_of c) ≡ true))
    → ((c : ChangeParts) → In c P → has t.applied (hash_of c) ≡ true) → (c : ChangeParts) → In c Q → has t.applied (hash_of c) ≡ true
all_there keeps k D K t w P [] sound came there c i = absurd i
all_there keeps k D K t w P (d ∷ Q) sound came there c i =
    let deps : has_all t.applied d.deps ≡ true = In-has_all t.applied d.deps (λ h j.
    let x = has-In P h (has_all-In P d.deps (Fits-at P d Q sound).deps h j) in
    subst (λ g. has t.applied g ≡ true) x.2 (there x.0 x.1)) in
    let here : has t.applied (hash_of d) ≡ true = elim (came d (inl refl)) [
      | inl j ↦ arrives keeps k D K t w d j deps
      | inr e ↦ rw w.progress.grows.begins (has-left D w.progress.new (hash_of d) e)
    ] in
    elim i [
      | inl e ↦ subst (λ (x : ChangeParts). has t.applied (hash_of x) ≡ true) (sym e) here
      | inr j ↦
          all_there keeps k D K t w (P ++ d ∷ []) Q (subst Sound (sym (append_assoc P (d ∷ []) Q)) sound) (λ x l. came x (inr l))
          (λ x l. elim (In-append x P (d ∷ []) l) [
            | inl m ↦ there x m
            | inr m ↦ elim m [ inl e ↦ subst (λ (y : ChangeParts). has t.applied (hash_of y) ≡ true) (sym e) here | inr n ↦ absurd n ]
          ]) c j
    ]

-- ---- one delivery

-- What a delivery leaves: the changes of both lists, and nothing that waits.
pub record Delivered (C D D' W' : List ChangeParts) : Type 0 where
  pub sound : Sound D'
  pub members : SameMembers D' (D ++ C)
  pub none_waits : W' ≡ []

pub no_member : {X : Type 0} (xs : List X) → ((x : X) → In x xs → ⊥) → xs ≡ []
no_member [] h = refl
no_member (x ∷ xs) h = absurd (h x (inl refl))

-- A sound list C is delivered where those of its changes came that D hasn't.
pub delivered : {S : Type 0} (keeps : S → ChangeParts → S → Type 0) (k : S) (C D K : List ChangeParts) (t : Intake S) → Sound C → HashesApart (D ++ C) → AllIn K C
    → ((c : ChangeParts) → In c C → In c K ⊎ (has D (hash_of c) ≡ true)) → Arrived keeps k D K t → Delivered C D t.applied t.waiting
delivered keeps k C D K t sound apart of came w =
    let there : (c : ChangeParts) → In c C → has t.applied (hash_of c) ≡ true = all_there keeps k D K t w [] C sound came (λ c i. absurd i) in
    let within : (c : ChangeParts) → In c t.applied → In c (D ++ C) =
    λ c i. elim (In-append c D w.progress.new (subst (In c) w.progress.grows.begins i)) [
      | inl j ↦ In-left c D C j
      | inr j ↦ In-right c D C (of c (w.progress.grows.came c j))
    ] in
    record {
      sound = w.results.receives.sound;
      members = record {
        there = within;
        back = λ c i. elim (In-append c D C i) [
          | inl j ↦ subst (In c) (sym w.progress.grows.begins) (In-left c D w.progress.new j)
          | inr j ↦
              let x = has-In t.applied (hash_of c) (there c j) in
              subst (λ y. In y t.applied) (apart x.0 c (within x.0 x.1) i x.2) x.1
        ];
      };
      none_waits = no_member t.waiting (λ c i.
          let mine : In c C = of c (w.progress.waits c i) in
          let deps : has_all t.applied c.deps ≡ true = In-has_all t.applied c.deps (λ h j.
          let x = has-In C h (has_all-In C c.deps (deps_there C sound c mine) h j) in
          subst (λ g. has t.applied g ≡ true) x.2 (there x.0 x.1)) in
          never deps (waits_for t.applied c (w.results.placed.waiting c i)).1);
    }

-- what came is what isn't held, where all that is due came
pub came_due : (C D : List ChangeParts) (theirs wants : List Hash) → Sound D → has_all D theirs ≡ true → NoTwins C D → (c : ChangeParts) → In c C
    → In c (filter (is_due C theirs wants) C) ⊎ (has D (hash_of c) ≡ true)
came_due C D theirs wants sound there twins c i = elim (truth (is_due C theirs wants c)) [
  | inl e ↦ inl (filter-In (is_due C theirs wants) C c i e)
  | inr e ↦ inr (not_due_held C D theirs wants c sound there twins i e)
]

pub twins_of : (D C : List ChangeParts) → HashesApart (D ++ C) → NoTwins C D
twins_of D C apart c d i j e = apart c d (In-right c D C i) (In-left d D C j) e
