-- What holds wherever a run stops: what entered and was kept, that nothing is lost, and how many wait.
use Rattle.tp_receive.proofs.Common.{◌≡◌, ℕ, suc, ◌+◌, ◌≤◌, ◌⊎◌, inl, inr, List, [], ◌∷◌, ◌++◌, length, Bool, true, false, cond, Option, Some, refl, sym, ap, ◌∙◌, subst, arith, length-append, append_assoc, append-nil, In-left, In-right, In-append, In, AllIn, Hash, ChangeParts, hash_of, has_all, GraphError, MissingDeps, cause, most_waiting, is_refusal, hashes, delivery, with_slots, takes_slot, slots, Intake, Turn, SomeTurns, begin, refuse, Grows, KeepsAll, Progress, WasRefused, LosesNone, NoneDropped}
use Rattle.tp_receive.proofs.RefusalLaws.{refused-push}
use Rattle.tp_receive.proofs.GrowsLaws.{Grows-none, Grows-one, Grows-then}
use Rattle.tp_receive.proofs.HashLaws.{hashes-append}
use Rattle.tp_receive.proofs.TurnLaws.{SomeTurns-keeps, Turn-cases, IsHere, changes_of, with_rest}

pub In-pushed : {X : Type 0} (xs : List X) (x y : X) → In y (xs ++ x ∷ []) → (y ≡ x) ⊎ In y xs
In-pushed xs x y i = elim (In-append y xs (x ∷ []) i) [ inl j ↦ inr j | inr j ↦ elim j [ inl e ↦ inl e | inr n ↦ absurd n ] ]

-- ---- what entered

KeepsAll-push : {S : Type 0} (keeps : S → ChangeParts → S → Type 0) (k m k' : S) (A : List ChangeParts) (c : ChangeParts) → KeepsAll keeps k A m → keeps m c k' → KeepsAll keeps k (A ++ c ∷ []) k'
KeepsAll-push {S} keeps k m k' [] c a b = (k', subst (λ (x : S). keeps x c k') (sym a) b, refl)
KeepsAll-push {S} keeps k m k' (d ∷ A) c a b = (a.0, a.1, KeepsAll-push keeps a.0 m k' A c a.2 b)

-- From s on receiving changes of F came to t.
pub record Grew {S : Type 0} (keeps : S → ChangeParts → S → Type 0) (s : Intake S) (F : List ChangeParts) (t : Intake S) : Type 0 where
  pub new : List ChangeParts
  pub grows : Grows s.applied F t.applied new
  pub kept : KeepsAll keeps s.keeper new t.keeper
  pub reported : t.entered ≡ s.entered ++ hashes new
  pub refused : (h : Hash) (e : GraphError) → In (h, e) t.refused → WasRefused s.applied F t.applied h e
  pub here : (d : ChangeParts) → IsHere t.waiting t.coming d → In d F

Grew-on : {S : Type 0} (keeps : S → ChangeParts → S → Type 0) (s0 : Intake S) (F : List ChangeParts) (s : Intake S) (V : List ChangeParts) (Q : List (ChangeParts × Bool))
    → Grew keeps s0 F s → ((d : ChangeParts) → IsHere V Q d → In d F) → Grew keeps s0 F (with_rest s V Q)
Grew-on keeps s0 F s V Q g here = record { new = g.new; grows = g.grows; kept = g.kept; reported = g.reported; refused = g.refused; here = here }

-- The change of F was reported as refused.
Grew-reported : {S : Type 0} (keeps : S → ChangeParts → S → Type 0) (s0 : Intake S) (F : List ChangeParts) (s : Intake S) (c : ChangeParts) (e : GraphError) → cause s.applied c ≡ Some e → In c F
    → Grew keeps s0 F s → Grew keeps s0 F (refuse s c e)
Grew-reported keeps s0 F s c e caused came g = record {
  new = g.new;
  grows = g.grows;
  kept = g.kept;
  reported = g.reported;
  refused = λ h f i. elim (In-pushed s.refused (hash_of c, e) (h, f) i) [
    | inl p ↦ record {
      change = c;
      came = came;
      is = sym (ap (λ (q : Hash × GraphError). q.0) p);
      at = s.applied;
      after = (g.new, g.grows.begins);
      before = ([], sym (append-nil s.applied));
      caused = caused ∙ ap (λ (q : Hash × GraphError). let o : Option GraphError = Some q.1 in o) (sym p);
    }
    | inr j ↦ g.refused h f j
  ];
  here = g.here;
}

pub Grew-turn : {S : Type 0} (keeps : S → ChangeParts → S → Type 0) (s0 : Intake S) (F : List ChangeParts) (s t : Intake S) → Turn keeps s t → Grew keeps s0 F s → Grew keeps s0 F t
Grew-turn {S} keeps s0 F s t u g =
    Turn-cases keeps (Grew keeps s0 F) s t
    (record {
      entered = λ c V Q k out none keep. record {
        new = g.new ++ c ∷ [];
        grows = Grows-then s0.applied s.applied (s.applied ++ c ∷ []) F F F g.new (c ∷ []) g.grows (Grows-one s.applied F c none (g.here c out.here)) (λ d i. i) (λ d i. i);
        kept = KeepsAll-push keeps s0.keeper s.keeper k g.new c g.kept keep;
        reported = ap (λ l. l ++ hash_of c ∷ []) g.reported ∙ append_assoc s0.entered (hashes g.new) (hash_of c ∷ []) ∙ ap (λ l. s0.entered ++ l) (sym (hashes-append g.new (c ∷ [])));
        refused = λ h e i.
            let w = g.refused h e i in
            record {
              change = w.change;
              came = w.came;
              is = w.is;
              at = w.at;
              after = w.after;
              before = (w.before.0 ++ c ∷ [], ap (λ l. l ++ c ∷ []) w.before.1 ∙ append_assoc w.at w.before.0 (c ∷ []));
              caused = w.caused;
            };
        here = λ d h. g.here d (out.less d h);
      };
      refused = λ c V Q e out caused final. Grew-reported keeps s0 F (with_rest s V Q) c e caused (g.here c out.here) (Grew-on keeps s0 F s V Q g (λ d h. g.here d (out.less d h)));
      again = λ c Q slot out is lacks there. Grew-on keeps s0 F s s.waiting Q g (λ d h. g.here d (out.less d h));
      held = λ c Q slot out is lacks new space. Grew-on keeps s0 F s (s.waiting ++ c ∷ []) Q g
          (λ d h. elim h [
            | inl i ↦ elim (In-pushed s.waiting c d i) [ inl e ↦ rw e (g.here c out.here) | inr j ↦ g.here d (inl j) ]
            | inr i ↦ g.here d (out.less d (inr i))
          ]);
      dropped = λ c Q slot out is lacks new full. Grew-reported keeps s0 F (with_rest s s.waiting Q) c MissingDeps lacks (g.here c out.here) (Grew-on keeps s0 F s s.waiting Q g (λ d h. g.here d (out.less d h)));
    })
    u

pub Grew-first : {S : Type 0} (keeps : S → ChangeParts → S → Type 0) (s : Intake S) (F : List ChangeParts) → s.refused ≡ [] → ((d : ChangeParts) → IsHere s.waiting s.coming d → In d F) → Grew keeps s F s
Grew-first keeps s F none here = record {
  new = [];
  grows = Grows-none s.applied F;
  kept = refl;
  reported = sym (append-nil s.entered);
  refused = λ h e i. absurd (subst (λ (l : List (Hash × GraphError)). In (h, e) l) none i);
  here = here;
}

-- the changes of a list are those that come
pub placing_of : (C V K : List ChangeParts) → changes_of (with_slots V (delivery C K)) ≡ K
placing_of C V [] = refl
placing_of C V (c ∷ K) =
    ap (λ l. c ∷ l) (placing_of (cond (has_all C c.deps) (C ++ c ∷ []) C) (cond (takes_slot V (c, has_all C c.deps)) (V ++ c ∷ []) V) K)

pub here_first : (C W K : List ChangeParts) (d : ChangeParts) → IsHere W (with_slots W (delivery C K)) d → In d (W ++ K)
here_first C W K d (inl i) = In-left d W K i
here_first C W K d (inr i) = In-right d W K (subst (In d) (placing_of C W K) i)

pub Grew-run : {S : Type 0} (keeps : S → ChangeParts → S → Type 0) (k : S) (C W K : List ChangeParts) (t : Intake S) → SomeTurns keeps (begin k C W K) t → Grew keeps (begin k C W K) (W ++ K) t
Grew-run keeps k C W K t r =
    SomeTurns-keeps keeps (Grew keeps (begin k C W K) (W ++ K)) (Grew-turn keeps (begin k C W K) (W ++ K)) (begin k C W K) t r
    (Grew-first keeps (begin k C W K) (W ++ K) refl (here_first C W K))

pub progress : {S : Type 0} (keeps : S → ChangeParts → S → Type 0) (k : S) (C W K : List ChangeParts) (t : Intake S) → SomeTurns keeps (begin k C W K) t → Progress keeps k C (W ++ K) t
progress keeps k C W K t r =
    let g = Grew-run keeps k C W K t r in
    record { new = g.new; grows = g.grows; kept = g.kept; reported = g.reported; refused = g.refused; waits = λ d i. g.here d (inl i) }

-- ---- nothing is lost

LosesNone-then : (C D E W V X : List ChangeParts) → LosesNone C D W V → LosesNone D E V X → LosesNone C E W X
LosesNone-then C D E W V X a b = record {
  grown = λ c i. b.grown c (a.grown c i);
  final = λ c h. b.final c (a.final c h);
  stays = λ c i. elim (a.stays c i) [
    | inl wait ↦ b.stays c wait
    | inr rest ↦ elim rest [ inl there ↦ inr (inl (b.grown c there)) | inr done ↦ inr (inr (b.final c done)) ]
  ];
}

LosesNone-held : (C W V : List ChangeParts) → AllIn W V → LosesNone C C W V
LosesNone-held C W V f = record { grown = λ c i. i; final = λ c h. h; stays = λ c i. inl (f c i) }

LosesNone-turn : {S : Type 0} (keeps : S → ChangeParts → S → Type 0) (s t : Intake S) → Turn keeps s t → LosesNone s.applied t.applied s.waiting t.waiting
LosesNone-turn {S} keeps s t u =
    Turn-cases keeps (λ (t : Intake S). LosesNone s.applied t.applied s.waiting t.waiting) s t
    (record {
      entered = λ c V Q k out none keep. record {
        grown = λ d i. In-left d s.applied (c ∷ []) i;
        final = λ d h. refused-push s.applied c d none h;
        stays = λ d i. elim (out.waits d i) [ inl e ↦ inr (inl (In-right d s.applied (c ∷ []) (inl e))) | inr j ↦ inl j ];
      };
      refused = λ c V Q e out caused final. record {
        grown = λ d i. i;
        final = λ d h. h;
        stays = λ d i. elim (out.waits d i) [ inl same ↦ inr (inr (rw same (ap is_refusal caused ∙ final))) | inr j ↦ inl j ];
      };
      again = λ c Q slot out is lacks there. LosesNone-held s.applied s.waiting s.waiting (λ d i. i);
      held = λ c Q slot out is lacks new space. LosesNone-held s.applied s.waiting (s.waiting ++ c ∷ []) (λ d i. In-left d s.waiting (c ∷ []) i);
      dropped = λ c Q slot out is lacks new full. LosesNone-held s.applied s.waiting s.waiting (λ d i. i);
    })
    u

pub nothing_lost : {S : Type 0} (keeps : S → ChangeParts → S → Type 0) (s t : Intake S) → SomeTurns keeps s t → LosesNone s.applied t.applied s.waiting t.waiting
nothing_lost {S} keeps s t r =
    SomeTurns-keeps keeps (λ (t : Intake S). LosesNone s.applied t.applied s.waiting t.waiting)
    (λ m t u l. LosesNone-then s.applied m.applied t.applied s.waiting m.waiting t.waiting l (LosesNone-turn keeps m t u))
    s t r (LosesNone-held s.applied s.waiting s.waiting (λ d i. i))

-- ---- how many wait

-- what waits and the reserved slots are no more than may wait
abbrev pub HasRoom : {S : Type 0} → Intake S → Type 0
HasRoom s = length s.waiting + slots s.coming ≤ most_waiting

pub HasRoom-turn : {S : Type 0} (keeps : S → ChangeParts → S → Type 0) (s t : Intake S) → Turn keeps s t → HasRoom s → HasRoom t
HasRoom-turn {S} keeps s t u room =
    Turn-cases keeps HasRoom s t
    (record {
      entered = λ c V Q k out none keep. omega (arith, out.few);
      refused = λ c V Q e out caused final. omega (arith, out.few);
      again = λ c Q slot out is lacks there. omega (arith, out.few);
      held = λ c Q slot out is lacks new space. omega (arith, length-append s.waiting (c ∷ []));
      dropped = λ c Q slot out is lacks new full. omega (arith, out.few);
    })
    u

pub few_at_end : {S : Type 0} (keeps : S → ChangeParts → S → Type 0) (s t : Intake S) → SomeTurns keeps s t → HasRoom s → length t.waiting ≤ most_waiting
few_at_end {S} keeps s t r room = let h : HasRoom t = SomeTurns-keeps keeps HasRoom (HasRoom-turn keeps) s t r room in omega arith

-- what waits and is still to come is no more than may wait, and none was dropped
record Fewest {S : Type 0} (s : Intake S) : Type 0 where
  few : length s.waiting + length s.coming ≤ most_waiting
  none : NoneDropped s.refused

pub slots-most : (P : List (ChangeParts × Bool)) → slots P ≤ length P
slots-most [] = omega arith
slots-most (p ∷ P) = step p.1 (slots-most P) where
  step : (b : Bool) → slots P ≤ length P → cond b (slots P + 1) (slots P) ≤ length (p ∷ P)
  step true h = omega arith
  step false h = omega arith

pub refusal_drops : (r : List (Hash × GraphError)) (g h : Hash) (e : GraphError) → is_refusal (Some e) ≡ true → In (h, MissingDeps) (r ++ (g, e) ∷ []) → In (h, MissingDeps) r
refusal_drops r g h e final i =
    elim (In-pushed r (g, e) (h, MissingDeps) i) [
      | inl s ↦
          let same : MissingDeps ≡ e = ap (λ (p : Hash × GraphError). p.1) s in
          let no : is_refusal (Some MissingDeps) ≡ true = ap (λ (x : GraphError). is_refusal (Some x)) same ∙ final in
          cc
      | inr j ↦ j
    ]

Fewest-turn : {S : Type 0} (keeps : S → ChangeParts → S → Type 0) (s t : Intake S) → Turn keeps s t → Fewest s → Fewest t
Fewest-turn {S} keeps s t u f =
    Turn-cases keeps Fewest s t
    (record {
      entered = λ c V Q k out none keep. record { few = omega (arith, out.fewer, f.few); none = f.none };
      refused = λ c V Q e out caused final. record { few = omega (arith, out.fewer, f.few); none = λ h i. f.none h (refusal_drops s.refused (hash_of c) h e final i) };
      again = λ c Q slot out is lacks there. record { few = omega (arith, out.fewer, f.few); none = f.none };
      held = λ c Q slot out is lacks new space. record { few = omega (arith, out.fewer, f.few, length-append s.waiting (c ∷ [])); none = f.none };
      dropped = λ c Q slot out is lacks new full. absurd (omega (arith, out.fewer, f.few, slots-most Q));
    })
    u

-- Where what waited and came is few, none was dropped.
pub none_dropped : {S : Type 0} (keeps : S → ChangeParts → S → Type 0) (k : S) (C W K : List ChangeParts) (t : Intake S) → length W + length K ≤ most_waiting → SomeTurns keeps (begin k C W K) t → NoneDropped t.refused
none_dropped {S} keeps k C W K t few r =
    (SomeTurns-keeps keeps Fewest (Fewest-turn keeps) (begin k C W K) t r
    (record { few = subst (λ (n : ℕ). length W + n ≤ most_waiting) (sym (as_many (with_slots W (delivery C K)) ∙ ap length (placing_of C W K))) few; none = λ h i. i })).none where
      as_many : (P : List (ChangeParts × Bool)) → length P ≡ length (changes_of P)
      as_many [] = refl
      as_many (p ∷ P) = ap suc (as_many P)
