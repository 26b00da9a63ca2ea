-- What a peer of a world holds once it took what came.
use Rattle.tp_headline.proofs.Common.{◌≡◌, ◌⊎◌, inl, inr, ◌<◌, List, [], ◌∷◌, ◌++◌, length, cond, Bool, true, false, Option, None, IsSome, refl, sym, ap, ◌∙◌, subst, append_assoc, In, AllIn, In-append, In-left, In-right, In-split, truth, never, not_true, same_actor, same_actor-same, ChangeParts, hash_of, absent, cause, clashes, most_changes, HashesApart, has, has_all, past, Fits, Sound, cause-from_Fits, has-In, In-has, has_all-more, past-In, Fits-part, past-same, Fits-at, Fits-past, Sound-before, Sound-prefix, hashes_apart, sound_pasts, AppendsRecord, PeerState, Done, Report, at_end, ReceivesAndAppends, journal_of, receiver_of, World, WorldInvariant, IsCarried}
use Rattle.tp_history.specs.declared.error.GraphError.{GraphError}
use Rattle.tp_history.proofs.ClashLaws.{clash_of, In-clashes}
use Rattle.tp_receive.proofs.ResultLaws.{results}

-- ---- what was made fits wherever its dependencies are

-- of the changes that were made one alone has an actor and a sequence number
one_of_each : (M : List ChangeParts) (c d : ChangeParts) → Sound M → In c M → In d M → same_actor d.actor c.actor ≡ true → d.seq ≡ c.seq → d ≡ c
one_of_each M c d sound i j actor seq =
    let s = In-split c M i in
    let A = s.0 in
    let B = s.1 in
    let whole : Sound (A ++ c ∷ B) = subst Sound s.2 sound in
    elim (In-append d A (c ∷ B) (subst (λ l. In d l) s.2 j)) [
      | inl before ↦ never (In-clashes A c d before actor seq) (Fits-at A c B whole).free
      | inr rest ↦ elim rest [
        | inl same ↦ same
        | inr beyond ↦
            let t = In-split d B beyond in
            let regrouped : A ++ c ∷ B ≡ (A ++ c ∷ t.0) ++ d ∷ t.1 = ap (λ l. A ++ c ∷ l) t.2 ∙ sym (append_assoc A (c ∷ t.0) (d ∷ t.1)) in
            let fit = Fits-at (A ++ c ∷ t.0) d t.1 (subst Sound regrouped whole) in
            let e : d.actor ≡ c.actor = same_actor-same d.actor c.actor actor in
            let back : same_actor c.actor d.actor ≡ true = subst (λ a. same_actor c.actor a ≡ true) (sym e) (subst (λ a. same_actor a c.actor ≡ true) e actor) in
            never (In-clashes (A ++ c ∷ t.0) d c (In-right c A (c ∷ t.0) (inl refl)) back (sym seq)) fit.free
      ]
    ]

-- a change that was made clashes with none of others that were made, where it isn't there
clashes_with_none : (M S : List ChangeParts) (c : ChangeParts) → Sound M → AllIn S M → In c M → has S (hash_of c) ≡ false → clashes S c ≡ false
clashes_with_none M S c sound all i new = not_true (clashes S c) (λ t.
    let w = clash_of S c t in
    let same = one_of_each M c w.0 sound i (all w.0 w.1) w.2 w.3 in
    never (In-has S w.0 (hash_of c) w.1 (ap hash_of same)) new)

ready_fits : (M S : List ChangeParts) (c : ChangeParts) → Sound M → Sound S → AllIn S M → In c M → has_all S c.deps ≡ true → has S (hash_of c) ≡ false → Fits S c
ready_fits M S c sound s all i deps new =
    let w = In-split c M i in
    let A = w.0 in
    let B = w.1 in
    let whole : Sound (A ++ c ∷ B) = subst Sound w.2 sound in
    let fit = Fits-at A c B whole in
    let before : past M c.deps ≡ past A c.deps = ap (λ l. past l c.deps) w.2 ∙ Sound-before A (c ∷ B) c.deps fit.deps whole in
    let same = past-same S M c.deps s sound deps (λ d j. all d (past-In S c.deps d j)) in
    let within : AllIn (past A c.deps) S = λ d j. past-In S c.deps d (same.back d (subst (λ l. In d l) (sym before) j)) in
    Fits-part (past A c.deps) S c (sound_pasts A (Sound-prefix A (c ∷ B) whole) c.deps) s within (Fits-past A c c.deps (λ h j. j) fit) new (clashes_with_none M S c sound all i new)

no_cause : {A : Type 0} (o : Option GraphError) → o ≡ None → IsSome o → A
no_cause o e some = absurd cc

-- so it is there once it had its turn, where there is a place left
pub ready_is_there : (M S : List ChangeParts) (c : ChangeParts) → Sound M → Sound S → AllIn S M → In c M → has_all S c.deps ≡ true → length S < most_changes → IsSome (cause S c) → In c S
ready_is_there M S c sound s all i deps few refused = elim (truth (has S (hash_of c))) [
  | inl t ↦
      let d = has-In S (hash_of c) t in
      subst (λ x. In x S) (hashes_apart M sound d.0 c (all d.0 d.1) i d.2) d.1
  | inr new ↦ no_cause (cause S c) (cause-from_Fits S c (ready_fits M S c sound s all i deps new) few) refused
]

-- ---- all of a call was received

-- each of the changes C is there whose dependencies are, where there is a place left
abbrev pub HasReady : List ChangeParts → List ChangeParts → Type 0
HasReady K C = length C < most_changes → (c : ChangeParts) → In c K → has_all C c.deps ≡ true → In c C

pub takes_ready : (w : World) (p : PeerState) (K : List ChangeParts) (r : Report) (p' : PeerState) → WorldInvariant w → IsCarried w p → AllIn (p.waiting ++ K) w.made → ReceivesAndAppends p K (Done r) p' → HasReady K p'.applied × AllIn p.applied p'.applied
takes_ready w p K r p' h q came t =
    let apart : HashesApart (p.waiting ++ K) = λ c d i j e. hashes_apart w.made h.coherent.sound c d (came c i) (came d j) e in
    let x = (results AppendsRecord (journal_of p) p.applied p.waiting K (at_end (receiver_of p') r) q.history.sound apart t.receives.space t.receives.run t.receives.ends).receives in
    let S = p'.applied in
    let all : AllIn S w.made = λ c i. elim (In-append c p.applied x.new (subst (λ l. In c l) x.entered.begins i)) [ inl old ↦ q.applied c old | inr new ↦ came c (x.entered.came c new) ] in
    let ready : HasReady K S = λ few c i deps. ready_is_there w.made S c h.coherent.sound x.sound all (came c (In-right c p.waiting K i)) deps few (x.closed c (In-right c p.waiting K i)) in
    (ready, λ c i. subst (λ l. In c l) (sym x.entered.begins) (In-left c p.applied x.new i))

-- what is there with all that came has all of a list, where the rest of it was there
pub all_arrive : (S K P Q : List ChangeParts) → Sound (P ++ Q) → ((c : ChangeParts) → In c Q → In c S ⊎ In c K) → AllIn P S → HasReady K S → length S < most_changes → AllIn Q S
all_arrive S K P [] sound came there ready few c i = absurd i
all_arrive S K P (d ∷ Q) sound came there ready few c i =
    let deps : has_all S d.deps ≡ true = has_all-more P S d.deps there (Fits-at P d Q sound).deps in
    let here : In d S = elim (came d (inl refl)) [ inl old ↦ old | inr new ↦ ready few d new deps ] in
    elim i [
      | inl is ↦ subst (λ x. In x S) (sym is) here
      | inr j ↦
          all_arrive S K (P ++ d ∷ []) Q (subst Sound (sym (append_assoc P (d ∷ []) Q)) sound) (λ x l. came x (inr l))
          (λ x l. elim (In-append x P (d ∷ []) l) [ inl m ↦ there x m | inr m ↦ elim m [ inl e ↦ subst (λ y. In y S) (sym e) here | inr none ↦ absurd none ] ]) ready few c j
    ]

absent_first : (b : Bool) (C D : List ChangeParts) (d : ChangeParts) → has C (hash_of d) ≡ b → In d (cond b (absent C D) (d ∷ absent C D)) ⊎ (has C (hash_of d) ≡ true)
absent_first true C D d e = inr e
absent_first false C D d e = inl (inl refl)

absent_rest : (b : Bool) (C D : List ChangeParts) (c d : ChangeParts) → In c (absent C D) → In c (cond b (absent C D) (d ∷ absent C D))
absent_rest true C D c d i = i
absent_rest false C D c d i = inr i

-- what isn't absent is there
pub absent_or_there : (C D : List ChangeParts) (c : ChangeParts) → In c D → In c (absent C D) ⊎ (has C (hash_of c) ≡ true)
absent_or_there C [] c i = absurd i
absent_or_there C (d ∷ D) c (inl is) = subst (λ x. In x (absent C (d ∷ D)) ⊎ (has C (hash_of x) ≡ true)) (sym is) (absent_first (has C (hash_of d)) C D d refl)
absent_or_there C (d ∷ D) c (inr i) = elim (absent_or_there C D c i) [ inl j ↦ inl (absent_rest (has C (hash_of d)) C D c d j) | inr t ↦ inr t ]
