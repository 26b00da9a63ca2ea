-- Lists that grow by receiving: they add up, and a result of receiving exists.
use Rattle.tp_receive.proofs.Common.{◌≡◌, ℕ, suc, zero, ◌⊎◌, inl, inr, List, [], ◌∷◌, ◌++◌, length, true, Option, Some, None, IsSome, refl, sym, ap, ◌∙◌, subst, append_assoc, append-nil, arith, length-append, In, AllIn, ChangeParts, hash_of, GraphError, cause, Sound, In-has, In-left, In-right, In-append, Sound-push, Fits-from_cause, EntersAfter, is_refusal, Grows, Receives, Between}
use Rattle.tp_receive.proofs.RefusalLaws.{refused-known, refused-stays, EntersAfter-append, Sound-entered, IsSome-refusal}

pub Grows-none : (C K : List ChangeParts) → Grows C K C []
Grows-none C K = record { begins = sym (append-nil C); fits = tt; came = λ c i. absurd i }

pub Grows-one : (C K : List ChangeParts) (c : ChangeParts) → cause C c ≡ None → In c K → Grows C K (C ++ c ∷ []) (c ∷ [])
Grows-one C K c h i = record { begins = refl; fits = (h, tt); came = λ d j. elim j [ inl e ↦ rw e i | inr n ↦ absurd n ] }

pub Grows-then : (C D E K L M new more : List ChangeParts) → Grows C K D new → Grows D L E more → AllIn K M → AllIn L M → Grows C M E (new ++ more)
Grows-then C D E K L M new more a b f g = record {
  begins = b.begins ∙ ap (λ l. l ++ more) a.begins ∙ append_assoc C new more;
  fits = EntersAfter-append C new more a.fits (subst (λ l. EntersAfter l more) a.begins b.fits);
  came = λ c i. elim (In-append c new more i) [ inl j ↦ f c (a.came c j) | inr j ↦ g c (b.came c j) ];
}

pub Sound-grows : (C K D new : List ChangeParts) → Sound C → Grows C K D new → Sound D
Sound-grows C K D new s g = subst Sound (sym g.begins) (Sound-entered C new s g.fits)

pub refused-grows : (C K D new : List ChangeParts) (c : ChangeParts) → Grows C K D new → is_refusal (cause C c) ≡ true → is_refusal (cause D c) ≡ true
refused-grows C K D new c g h = subst (λ l. is_refusal (cause l c) ≡ true) (sym g.begins) (refused-stays C new c g.fits h)

-- some change of K can enter, with those before and after it
abbrev pub OneEnters : List ChangeParts → List ChangeParts → Type 0
OneEnters C K = (A : List ChangeParts) × (x : ChangeParts) × (B : List ChangeParts) × (K ≡ A ++ x ∷ B) × (cause C x ≡ None)

-- none of K can enter
abbrev pub NoneEnters : List ChangeParts → List ChangeParts → Type 0
NoneEnters C K = (c : ChangeParts) → In c K → IsSome (cause C c)

free_later : (C : List ChangeParts) (k : ChangeParts) (K : List ChangeParts) → NoneEnters C K ⊎ OneEnters C K → (o : Option GraphError) → cause C k ≡ o → NoneEnters C (k ∷ K) ⊎ OneEnters C (k ∷ K)
free_later C k K rest None e = inr ([], k, K, refl, e)
free_later C k K (inl all) (Some f) e = inl (λ c i. elim i [ inl s ↦ rw (s, e) refl | inr j ↦ all c j ])
free_later C k K (inr w) (Some f) e = inr (k ∷ w.0, w.1, w.2, ap (λ l. k ∷ l) w.3, w.4)

first_free : (C K : List ChangeParts) → NoneEnters C K ⊎ OneEnters C K
first_free C [] = inl (λ c i. absurd i)
first_free C (k ∷ K) = free_later C k K (first_free C K) (cause C k) refl

-- a result of receiving exists, with as much fuel as there are changes
exists_by : (n : ℕ) (C K : List ChangeParts) → length K ≡ n → Sound C → (long : List ChangeParts) × Receives C K long
exists_by zero C [] e s = (C, record { sound = s; new = []; entered = Grows-none C []; closed = λ c i. absurd i })
exists_by zero C (k ∷ K) e s = absurd (omega arith)
exists_by (suc n) C K e s =
    elim (first_free C K) [
      | inl all ↦ (C, record { sound = s; new = []; entered = Grows-none C K; closed = all })
      | inr w ↦
          let A = w.0 in let x = w.1 in let B = w.2 in
          let len : length (A ++ B) ≡ n = omega (arith, length-append A B, length-append A (x ∷ B), ap length w.3) in
          let r = exists_by n (C ++ x ∷ []) (A ++ B) len (Sound-push C x s (Fits-from_cause C x w.4)) in
          let inside : AllIn (A ++ B) K = λ c i. subst (In c) (sym w.3) (elim (In-append c A B i) [ inl j ↦ In-left c A (x ∷ B) j | inr j ↦ In-right c A (x ∷ B) (inr j) ]) in
          let there : In x K = subst (In x) (sym w.3) (In-right x A (x ∷ B) (inl refl)) in
          let closed : (c : ChangeParts) → In c K → IsSome (cause r.0 c) = λ c i. elim (In-append c A (x ∷ B) (subst (In c) w.3 i)) [
            | inl j ↦ r.1.closed c (In-left c A B j)
            | inr j ↦ elim j [
              | inl same ↦ IsSome-refusal (cause r.0 c)
                  (refused-grows (C ++ x ∷ []) (A ++ B) r.0 r.1.new c r.1.entered
                  (refused-known (C ++ x ∷ []) c (In-has (C ++ x ∷ []) x (hash_of c) (In-right x C (x ∷ []) (inl refl)) (ap hash_of (sym same)))))
              | inr later ↦ r.1.closed c (In-right c A B later)
            ]
          ] in (
            r.0,
            record {
              sound = r.1.sound;
              new = (x ∷ []) ++ r.1.new;
              entered = Grows-then C (C ++ x ∷ []) r.0 K (A ++ B) K (x ∷ []) r.1.new (Grows-one C K x w.4 there) r.1.entered (λ c i. i) inside;
              closed = closed;
            },
          )
    ]

-- a result of receiving exists
pub receives-exists : (C K : List ChangeParts) → Sound C → (long : List ChangeParts) × Receives C K long
receives-exists C K s = exists_by (length K) C K refl s

-- what grew by changes that came is between the two
pub Between-grown : (C K long new : List ChangeParts) → Sound C → Grows C K long new → Between C K long
Between-grown C K long new s g =
    let r = receives-exists long K (Sound-grows C K long new s g) in
    record {
      begins = (new, g.begins);
      whole = r.0;
      goes_on = (r.1.new, r.1.entered.begins);
      receives = record {
        sound = r.1.sound;
        new = new ++ r.1.new;
        entered = Grows-then C long r.0 K K K new r.1.new g r.1.entered (λ c i. i) (λ c i. i);
        closed = r.1.closed;
      };
    }
