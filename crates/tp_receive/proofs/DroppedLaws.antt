-- What was dropped for want of space, where two changes with one hash are one: it can never enter, and it is none of
-- the undeliverable ones.
use Rattle.tp_receive.proofs.Common.{◌≡◌, ◌+◌, ◌≤◌, ◌⊎◌, inl, inr, List, [], ◌∷◌, ◌++◌, length, Bool, true, false, cond, Some, refl, sym, ap, ◌∙◌, subst, append_assoc, arith, In-left, truth, never, not_true, In, AllIn, Hash, same_hash, same_hash-same, ChangeParts, hash_of, GraphError, MissingDeps, has, has_all, HashesApart, cause, most_waiting, has-In, In-has, has-left, has-append, is_refusal, delivery, with_slots, slots, takes_slot, Intake, Turn, refuse, In-last, or_cases, has_all-In, has_all-more, enter, neither, undeliverable}
use Rattle.tp_receive.proofs.CausesLaws.{Never, Barred, Never-later, Never-out, Barred-later, NeverEnters, out_of_dep, out_of_refusal, waits_for, lacking}
use Rattle.tp_receive.proofs.TurnLaws.{Turn-cases, IsHere, changes_of, with_rest}
use Rattle.tp_receive.proofs.RunLaws.{In-pushed, HasRoom, refusal_drops, placing_of}
use Rattle.tp_receive.proofs.AccountedLaws.{IsSettled, HadTurn, HadTurn-turn, done_entered, done_refused, waits_already}

-- Where F is what waited and came, the list K began after C0, and P is to come: D are the deliverable ones so far
-- and what was applied, V those with a slot, U the undeliverable ones so far, and zs are to come. Each of D is there or
-- never comes; each of V had its turn; and what was dropped is barred and not undeliverable.
pub record Delivering {S : Type 0} (F C0 K : List ChangeParts) (P : List (ChangeParts × Bool)) (t : Intake S) : Type 0 where
  pub D : List ChangeParts
  pub V : List ChangeParts
  pub U : List ChangeParts
  pub zs : List ChangeParts
  pub coming : P ≡ with_slots V (delivery D zs)
  pub whole : undeliverable (delivery C0 K) ≡ U ++ undeliverable (delivery D zs)
  pub delivered : (h : Hash) → has D h ≡ true → (has t.applied h ≡ true) ⊎ Never F t.applied h
  pub placed : (c : ChangeParts) → In c V → In c F × HadTurn t c
  pub slots : (h : Hash) → has U h ≡ true → has V h ≡ true
  pub barred : (c : ChangeParts) → In c F → In (hash_of c, MissingDeps) t.refused → Barred F t.applied c
  pub apart : (h : Hash) → In (h, MissingDeps) t.refused → has (undeliverable (delivery C0 K)) h ≡ false

-- Nothing had its turn.
pub Delivering-first : {S : Type 0} (C W K : List ChangeParts) (t : Intake S) → t.applied ≡ C → t.waiting ≡ W → t.refused ≡ [] → Delivering (W ++ K) C K (with_slots W (delivery C K)) t
Delivering-first C W K t a w r = record {
  D = C;
  V = W;
  U = [];
  zs = K;
  coming = refl;
  whole = refl;
  delivered = λ h e. inl (rw a e);
  placed = λ c i. (In-left c W K i, inl (rw w i));
  slots = λ h e. cc;
  barred = λ c i j. absurd (subst (λ (l : List (Hash × GraphError)). In (hash_of c, MissingDeps) l) r j);
  apart = λ h j. absurd (subst (λ (l : List (Hash × GraphError)). In (h, MissingDeps) l) r j);
}

-- ---- the next that comes

-- the first of what comes, and the rest
record IsFirst (D V zs : List ChangeParts) (c : ChangeParts) (slot : Bool) (Q : List (ChangeParts × Bool)) : Type 0 where
  more : List ChangeParts
  split : zs ≡ c ∷ more
  takes : slot ≡ takes_slot V (c, has_all D c.deps)
  rest : Q ≡ with_slots (cond (takes_slot V (c, has_all D c.deps)) (V ++ c ∷ []) V) (delivery (cond (has_all D c.deps) (D ++ c ∷ []) D) more)

pair_of : ChangeParts → Bool → ChangeParts × Bool
pair_of c b = (c, b)

first_of_coming : (D V zs : List ChangeParts) (c : ChangeParts) (slot : Bool) (Q : List (ChangeParts × Bool)) → (c, slot) ∷ Q ≡ with_slots V (delivery D zs) → IsFirst D V zs c slot Q
unfolding pair_of
first_of_coming D V [] c slot Q e = cc
first_of_coming D V (x ∷ zs) c slot Q e =
    let b = takes_slot V (x, has_all D x.deps) in
    let first : pair_of c slot ≡ pair_of x b = cc in
    let rest : Q ≡ with_slots (cond b (V ++ x ∷ []) V) (delivery (cond (has_all D x.deps) (D ++ x ∷ []) D) zs) = cc in
    subst (λ (y : ChangeParts). IsFirst D V (x ∷ zs) y slot Q) (sym (ap (λ (p : ChangeParts × Bool). p.0) first))
    (record { more = zs; split = refl; takes = ap (λ (p : ChangeParts × Bool). p.1) first; rest = rest })

-- the hash of one more: an earlier one's, or its own
pushed_cases : (A : List ChangeParts) (c : ChangeParts) (h : Hash) → has (A ++ c ∷ []) h ≡ true → (has A h ≡ true) ⊎ (hash_of c ≡ h)
pushed_cases A c h e =
    elim (or_cases (has A h) (has (c ∷ []) h) (sym (has-append A (c ∷ []) h) ∙ e)) [
      | inl t ↦ inl t
      | inr t ↦ elim (or_cases (same_hash (hash_of c) h) false t) [ inl s ↦ inr (same_hash-same (hash_of c) h s) | inr n ↦ cc ]
    ]

-- a dependency that lacks never comes, where all are deliverable
lacks_for_ever : (F C D : List ChangeParts) (c : ChangeParts) → ((h : Hash) → has D h ≡ true → (has C h ≡ true) ⊎ Never F C h)
    → has_all D c.deps ≡ true → cause C c ≡ Some MissingDeps → (d : Hash) × In d c.deps × Never F C d
lacks_for_ever F C D c delivered all waits =
    let lack = lacking C c.deps ((waits_for C c waits).1) in
    elim (delivered lack.0 (has_all-In D c.deps all lack.0 lack.1)) [ inl there ↦ absurd (never there lack.2) | inr n ↦ (lack.0, lack.1, n) ]

-- a deliverable change that had its turn is there or never comes
arrives : {S : Type 0} (F D : List ChangeParts) (t : Intake S) (c : ChangeParts) → HashesApart F → In c F → ((h : Hash) → has D h ≡ true → (has t.applied h ≡ true) ⊎ Never F t.applied h)
    → IsSettled t.applied t.entered t.refused c ⊎ (cause t.applied c ≡ Some MissingDeps) → has_all D c.deps ≡ true → (has t.applied (hash_of c) ≡ true) ⊎ Never F t.applied (hash_of c)
arrives F D t c apart i delivered met all =
    elim (truth (has t.applied (hash_of c))) [
      | inl there ↦ inl there
      | inr new ↦ inr (Never-out F t.applied c apart i new (out met))
    ] where
      out : IsSettled t.applied t.entered t.refused c ⊎ (cause t.applied c ≡ Some MissingDeps) → NeverEnters F t.applied c
      out (inl done) = out_of_refusal F t.applied c done.final
      out (inr waits) = let w = lacks_for_ever F t.applied D c delivered all waits in out_of_dep F t.applied c w.0 w.1 w.2

-- The next had its turn.
Delivering-next : {S : Type 0} (F C0 K : List ChangeParts) (P Q : List (ChangeParts × Bool)) (c : ChangeParts) (slot : Bool) (t : Intake S) → HashesApart F → In c F → P ≡ (c, slot) ∷ Q
    → HadTurn t c → IsSettled t.applied t.entered t.refused c ⊎ (cause t.applied c ≡ Some MissingDeps) → Delivering F C0 K P t → Delivering F C0 K Q t
Delivering-next {S} F C0 K P Q c slot t apart i is turn met g =
    let f = first_of_coming g.D g.V g.zs c slot Q (sym is ∙ g.coming) in
    step f (truth (has_all g.D c.deps)) (truth (has g.V (hash_of c))) where
      next : (more D V U : List ChangeParts) → Q ≡ with_slots V (delivery D more) → undeliverable (delivery C0 K) ≡ U ++ undeliverable (delivery D more)
          → ((h : Hash) → has D h ≡ true → (has t.applied h ≡ true) ⊎ Never F t.applied h) → ((d : ChangeParts) → In d V → In d F × HadTurn t d) → ((h : Hash) → has U h ≡ true → has V h ≡ true)
          → Delivering F C0 K Q t
      next more D V U coming whole delivered placed slots = record {
        D = D;
        V = V;
        U = U;
        zs = more;
        coming = coming;
        whole = whole;
        delivered = delivered;
        placed = placed;
        slots = slots;
        barred = g.barred;
        apart = g.apart;
      }

      step : IsFirst g.D g.V g.zs c slot Q → (has_all g.D c.deps ≡ true) ⊎ (has_all g.D c.deps ≡ false) → (has g.V (hash_of c) ≡ true) ⊎ (has g.V (hash_of c) ≡ false) → Delivering F C0 K Q t
      step f (inl all) known =
          next f.more (g.D ++ c ∷ []) g.V g.U (rw all at f.rest) (g.whole ∙ ap (λ (l : List ChangeParts). g.U ++ undeliverable (delivery g.D l)) f.split ∙ rw all refl)
          (λ h e. elim (pushed_cases g.D c h e) [
            | inl old ↦ g.delivered h old
            | inr same ↦ subst (λ (x : Hash). (has t.applied x ≡ true) ⊎ Never F t.applied x) same (arrives F g.D t c apart i g.delivered met all)
          ])
          g.placed g.slots
      step f (inr lacks) (inl known) =
          next f.more g.D g.V (g.U ++ c ∷ []) (rw (lacks, known) at f.rest)
          (g.whole ∙ ap (λ (l : List ChangeParts). g.U ++ undeliverable (delivery g.D l)) f.split ∙ rw lacks (sym (append_assoc g.U (c ∷ []) (undeliverable (delivery g.D f.more)))))
          g.delivered g.placed
          (λ h e. elim (pushed_cases g.U c h e) [ inl old ↦ g.slots h old | inr same ↦ subst (λ (x : Hash). has g.V x ≡ true) same known ])
      step f (inr lacks) (inr new) =
          next f.more g.D (g.V ++ c ∷ []) (g.U ++ c ∷ []) (rw (lacks, new) at f.rest)
          (g.whole ∙ ap (λ (l : List ChangeParts). g.U ++ undeliverable (delivery g.D l)) f.split ∙ rw lacks (sym (append_assoc g.U (c ∷ []) (undeliverable (delivery g.D f.more)))))
          g.delivered
          (λ d j. elim (In-pushed g.V c d j) [ inl e ↦ rw e (i, turn) | inr k ↦ g.placed d k ])
          (λ h e. elim (pushed_cases g.U c h e) [
            | inl old ↦ has-left g.V (c ∷ []) h (g.slots h old)
            | inr same ↦ In-has (g.V ++ c ∷ []) c h (In-last c g.V) same
          ])

-- ---- one turn

-- Delivering goes on in a state whose turn changed what is applied and reported, where what was dropped is so still.
moved : {S : Type 0} (F C0 K : List ChangeParts) (P : List (ChangeParts × Bool)) (s t : Intake S) → Delivering F C0 K P s
    → ((h : Hash) → has s.applied h ≡ true → has t.applied h ≡ true) → ((h : Hash) → Never F s.applied h → Never F t.applied h) → ((c : ChangeParts) → HadTurn s c → HadTurn t c)
    → ((c : ChangeParts) → In c F → In (hash_of c, MissingDeps) t.refused → Barred F t.applied c) → ((h : Hash) → In (h, MissingDeps) t.refused → has (undeliverable (delivery C0 K)) h ≡ false)
    → Delivering F C0 K P t
moved F C0 K P s t g grown still later barred apart = record {
  D = g.D;
  V = g.V;
  U = g.U;
  zs = g.zs;
  coming = g.coming;
  whole = g.whole;
  delivered = λ h e. elim (g.delivered h e) [ inl there ↦ inl (grown h there) | inr n ↦ inr (still h n) ];
  placed = λ c i. let w = g.placed c i in (w.0, later c w.1);
  slots = g.slots;
  barred = barred;
  apart = apart;
}

-- a hash stays out of the undeliverable ones where each change with it is deliverable
stays_deliverable : (D K : List ChangeParts) (h : Hash) → ((c : ChangeParts) → In c K → hash_of c ≡ h → has_all D c.deps ≡ true) → has (undeliverable (delivery D K)) h ≡ false
stays_deliverable D [] h all = refl
stays_deliverable D (c ∷ K) h all =
    elim (truth (has_all D c.deps)) [
      | inl t ↦ rw t (stays_deliverable (D ++ c ∷ []) K h (λ d i e. has_all-more D (D ++ c ∷ []) d.deps (λ x j. In-left x D (c ∷ []) j) (all d (inr i) e)))
      | inr f ↦ rw f (neither (same_hash (hash_of c) h) (has (undeliverable (delivery D K)) h)
          (not_true (same_hash (hash_of c) h) (λ s. never (all c (inl refl) (same_hash-same (hash_of c) h s)) f))
          (stays_deliverable D K h (λ d i e. all d (inr i) e)))
    ]

-- What was dropped is barred, and none of the undeliverable ones.
dropped_barred : {S : Type 0} (F C0 K : List ChangeParts) (s : Intake S) (c : ChangeParts) (Q : List (ChangeParts × Bool)) (slot : Bool) → HashesApart F → ((d : ChangeParts) → IsHere s.waiting s.coming d → In d F)
    → HasRoom s → Delivering F C0 K s.coming s → s.coming ≡ (c, slot) ∷ Q → cause s.applied c ≡ Some MissingDeps → has s.waiting (hash_of c) ≡ false → most_waiting ≤ length s.waiting + slots Q
    → Barred F s.applied c × (has (undeliverable (delivery C0 K)) (hash_of c) ≡ false)
dropped_barred {S} F C0 K s c Q slot apart here room g is lacks new full =
    by (first_of_coming g.D g.V g.zs c slot Q (sym is ∙ g.coming)) (truth (has g.V (hash_of c))) (truth (has_all g.D c.deps)) where
      came : In c F
      came = here c (inr (subst (λ (P : List (ChangeParts × Bool)). In c (changes_of P)) (sym is) (inl refl)))

      crowded : slot ≡ true → ⊥
      crowded t =
          let all : slots s.coming ≡ slots Q + 1 = ap slots is ∙ ap (λ b. cond b (slots Q + 1) (slots Q)) t in
          absurd (omega arith)

      earlier : In c g.V → Barred F s.applied c × (has (undeliverable (delivery C0 K)) (hash_of c) ≡ false)
      earlier i = elim ((g.placed c i).1) [
        | inl wait ↦ absurd (never (In-has s.waiting c (hash_of c) wait refl) new)
        | inr out ↦ elim out [
          | inl done ↦
              let no : false ≡ true = sym (ap is_refusal lacks) ∙ done.final in
              cc
          | inr reported ↦ (g.barred c came reported, g.apart (hash_of c) reported)
        ]
      ]

      by : IsFirst g.D g.V g.zs c slot Q → (has g.V (hash_of c) ≡ true) ⊎ (has g.V (hash_of c) ≡ false) → (has_all g.D c.deps ≡ true) ⊎ (has_all g.D c.deps ≡ false)
          → Barred F s.applied c × (has (undeliverable (delivery C0 K)) (hash_of c) ≡ false)
      by f (inl known) b =
          let w = has-In g.V (hash_of c) known in
          earlier (subst (λ (x : ChangeParts). In x g.V) (apart w.0 c ((g.placed w.0 w.1).0) came w.2) w.1)
      by f (inr fresh) (inr undelivered) = absurd (crowded (f.takes ∙ rw (undelivered, fresh) refl))
      by f (inr fresh) (inl all) =
          let dep = lacks_for_ever F s.applied g.D c g.delivered all lacks in
          let rest : (d : ChangeParts) → In d f.more → In d F = λ d i. here d (inr (subst (λ (P : List (ChangeParts × Bool)). In d (changes_of P)) (sym g.coming) (subst (In d) (sym (placing_of g.D g.V g.zs)) (subst (In d) (sym f.split) (inr i))))) in (
            record { new = (waits_for s.applied c lacks).0; dep = dep.0; needs = dep.1; lacks = dep.2 },
            ap (λ l. has l (hash_of c)) (g.whole ∙ ap (λ (l : List ChangeParts). g.U ++ undeliverable (delivery g.D l)) f.split ∙ rw all refl)
                ∙ has-append g.U (undeliverable (delivery (g.D ++ c ∷ []) f.more)) (hash_of c)
                ∙ neither (has g.U (hash_of c)) (has (undeliverable (delivery (g.D ++ c ∷ []) f.more)) (hash_of c))
                (not_true (has g.U (hash_of c)) (λ u. never (g.slots (hash_of c) u) fresh))
                (stays_deliverable (g.D ++ c ∷ []) f.more (hash_of c)
                (λ d i e. subst (λ (x : ChangeParts). has_all (g.D ++ c ∷ []) x.deps ≡ true) (sym (apart d c (rest d i) came e))
                (has_all-more g.D (g.D ++ c ∷ []) c.deps (λ x j. In-left x g.D (c ∷ []) j) all))),
          )

-- After each turn.
pub Delivering-turn : {S : Type 0} (keeps : S → ChangeParts → S → Type 0) (F C0 K : List ChangeParts) (s t : Intake S) → HashesApart F → ((d : ChangeParts) → IsHere s.waiting s.coming d → In d F)
    → HasRoom s → Turn keeps s t → Delivering F C0 K s.coming s → Delivering F C0 K t.coming t
Delivering-turn {S} keeps F C0 K s t apart here room u g =
    Turn-cases keeps (λ (t : Intake S). ((d : ChangeParts) → HadTurn s d → HadTurn t d) → Delivering F C0 K t.coming t) s t
    (record {
      entered = λ c V Q k out none keep later.
          let came : AllIn (c ∷ []) F = λ d j. elim j [ inl e ↦ rw e (here c out.here) | inr n ↦ absurd n ] in
          let done = done_entered s.applied s.entered s.refused c in
          let g2 : Delivering F C0 K s.coming (enter (with_rest s V Q) c k) = moved F C0 K s.coming s (enter (with_rest s V Q) c k) g
          (λ h e. has-left s.applied (c ∷ []) h e)
          (λ h n. Never-later F s.applied (c ∷ []) h (none, tt) came n)
          later
          (λ d i j. Barred-later F s.applied (c ∷ []) d apart i (none, tt) came (g.barred d i j))
          g.apart in
          elim out.comes [
            | inl same ↦ subst (λ (P : List (ChangeParts × Bool)). Delivering F C0 K P (enter (with_rest s V Q) c k)) (sym same) g2
            | inr w ↦ Delivering-next F C0 K s.coming Q c w.0 (enter (with_rest s V Q) c k) apart (here c out.here) w.1 (inr (inl done)) (inl done) g2
          ];
      refused = λ c V Q e out caused final later.
          let done = done_refused s.applied s.entered s.refused c e caused final in
          let g2 : Delivering F C0 K s.coming (refuse (with_rest s V Q) c e) = moved F C0 K s.coming s (refuse (with_rest s V Q) c e) g (λ h x. x) (λ h n. n) later
          (λ d i j. g.barred d i (refusal_drops s.refused (hash_of c) (hash_of d) e final j))
          (λ h j. g.apart h (refusal_drops s.refused (hash_of c) h e final j)) in
          elim out.comes [
            | inl same ↦ subst (λ (P : List (ChangeParts × Bool)). Delivering F C0 K P (refuse (with_rest s V Q) c e)) (sym same) g2
            | inr w ↦ Delivering-next F C0 K s.coming Q c w.0 (refuse (with_rest s V Q) c e) apart (here c out.here) w.1 (inr (inl done)) (inl done) g2
          ];
      again = λ c Q slot out is lacks there later.
          Delivering-next F C0 K s.coming Q c slot (with_rest s s.waiting Q) apart (here c out.here) is
          (inl (waits_already F s.waiting c apart (λ d i. here d (inl i)) (here c out.here) there)) (inr lacks)
          (moved F C0 K s.coming s (with_rest s s.waiting Q) g (λ h x. x) (λ h n. n) later g.barred g.apart);
      held = λ c Q slot out is lacks new space later.
          Delivering-next F C0 K s.coming Q c slot (with_rest s (s.waiting ++ c ∷ []) Q) apart (here c out.here) is
          (inl (In-last c s.waiting)) (inr lacks)
          (moved F C0 K s.coming s (with_rest s (s.waiting ++ c ∷ []) Q) g (λ h x. x) (λ h n. n) later g.barred g.apart);
      dropped = λ c Q slot out is lacks new full later.
          let b = dropped_barred F C0 K s c Q slot apart here room g is lacks new full in
          Delivering-next F C0 K s.coming Q c slot (refuse (with_rest s s.waiting Q) c MissingDeps) apart (here c out.here) is
          (inr (inr (In-last (hash_of c, MissingDeps) s.refused))) (inr lacks)
          (moved F C0 K s.coming s (refuse (with_rest s s.waiting Q) c MissingDeps) g (λ h x. x) (λ h n. n) later
          (λ d i j. elim (In-pushed s.refused (hash_of c, MissingDeps) (hash_of d, MissingDeps) j) [
            | inl same ↦ subst (λ (x : ChangeParts). Barred F s.applied x) (sym (apart d c i (here c out.here) (ap (λ (p : Hash × GraphError). p.0) same))) b.0
            | inr old ↦ g.barred d i old
          ])
          (λ h j. elim (In-pushed s.refused (hash_of c, MissingDeps) (h, MissingDeps) j) [
            | inl same ↦ subst (λ (x : Hash). has (undeliverable (delivery C0 K)) x ≡ false) (sym (ap (λ (p : Hash × GraphError). p.0) same)) b.1
            | inr old ↦ g.apart h old
          ]));
    })
    u (λ d. HadTurn-turn keeps d s t u)
