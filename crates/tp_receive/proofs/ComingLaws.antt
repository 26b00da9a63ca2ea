-- The loop that reserves slots.
use Rattle.std.proofs.lemmas.List.{length-take-le}
use Rattle.tp_receive.proofs.Common.{◌≡◌, ℕ, ◌+◌, ◌-◌, ◌⊎◌, inl, inr, List, [], ◌∷◌, ◌++◌, Bool, true, false, not, ◌||◌, cond, refl, sym, ap, ◌∙◌, arith, subst, get_or, take, length, ◌<◌, ◌≤◌, append_assoc, append-nil, take_more, drop, drop_more, Hash, ChangeParts, hash_of, same_hash, has, has_all, has-append, delivery, with_slots, slots, takes_slot, hashes, has_hash, IsHashSetOf, among, held_of, IsNoted, zip}
use Rattle.tp_receive.proofs.HashLaws.{among-hashes}

pub has-both : (C D : List ChangeParts) (H : List Hash) (h : Hash) → IsHashSetOf H D → has (C ++ D) h ≡ (has C h || has_hash H h)
has-both C D H h e = has-append C D h ∙ ap (λ b. has C h || b) (sym (e h))

-- a change and its mark after those that are marked
pub zip_pushed : (K : List ChangeParts) (i : ℕ) (d : ChangeParts) (B : List Bool) (b : Bool) → i < length K → length B ≡ i → zip (take (i + 1) K) (B ++ b ∷ []) ≡ zip (take i K) B ++ (get_or K i d, b) ∷ []
zip_pushed K i d B b small long =
    ap (λ (l : List ChangeParts). zip l (B ++ b ∷ [])) (take_more K i d small) ∙ pushed (take i K) B (length-take-le i K (omega arith) ∙ sym long) where
      pushed : (C : List ChangeParts) (M : List Bool) → length C ≡ length M → zip (C ++ get_or K i d ∷ []) (M ++ b ∷ []) ≡ zip C M ++ (get_or K i d, b) ∷ []
      pushed [] [] e = refl
      pushed [] (m ∷ M) e = absurd (omega arith)
      pushed (c ∷ C) [] e = absurd (omega arith)
      pushed (c ∷ C) (m ∷ M) e = ap (λ (l : List (ChangeParts × Bool)). (c, m) ∷ l) (pushed C M (omega arith))

-- the next change with its mark, before those after it
pub zip_next : (K Q : List ChangeParts) (M : List Bool) (i : ℕ) (c : ChangeParts) (b : Bool) → K ≡ c ∷ Q → i < length M → b ≡ get_or M i b → zip K (drop i M) ≡ (c, b) ∷ zip Q (drop (i + 1) M)
zip_next K Q M i c b is small marked =
    ap (λ (l : List ChangeParts). zip l (drop i M)) is ∙ ap (zip (c ∷ Q)) (drop_more M i b small ∙ ap (λ (m : Bool). m ∷ drop (i + 1) M) (sym marked))

pub slots-append : (P Q : List (ChangeParts × Bool)) → slots (P ++ Q) ≡ slots P + slots Q
slots-append [] Q = omega arith
slots-append (p ∷ P) Q = step p.1 (slots-append P Q) where
  step : (b : Bool) → slots (P ++ Q) ≡ slots P + slots Q → cond b (slots (P ++ Q) + 1) (slots (P ++ Q)) ≡ cond b (slots P + 1) (slots P) + slots Q
  step true e = omega arith
  step false e = e

pub slots_pushed : (P Q : List (ChangeParts × Bool)) (c : ChangeParts) (slot : Bool) (n m : ℕ) → n ≡ slots P → Q ≡ P ++ (c, slot) ∷ [] → ((slot ≡ true) × (m ≡ n + 1)) ⊎ ((slot ≡ false) × (m ≡ n)) → m ≡ slots Q
slots_pushed P Q c slot n m count pushed (inl h) = h.1 ∙ ap (λ (x : ℕ). x + 1) count ∙ sym (ap slots pushed ∙ slots-append P ((c, slot) ∷ []) ∙ ap (λ (b : Bool). slots P + cond b 1 0) h.0)
slots_pushed P Q c slot n m count pushed (inr h) = h.1 ∙ count ∙ sym (ap slots pushed ∙ slots-append P ((c, slot) ∷ []) ∙ ap (λ (b : Bool). slots P + cond b 1 0) h.0 ∙ add_none (slots P)) where
  add_none : (x : ℕ) → x + 0 ≡ x
  add_none x = omega arith

-- one that has a slot is one of those that have one
pub slots_there : (P Q : List (ChangeParts × Bool)) (c : ChangeParts) (slot : Bool) (n : ℕ) → n ≡ slots P → P ≡ (c, slot) ∷ Q → slot ≡ true → 1 ≤ n
slots_there P Q c slot n count is there =
    let all : slots P ≡ slots Q + 1 = ap slots is ∙ ap (λ (b : Bool). cond b (slots Q + 1) (slots Q)) there in
    omega arith

-- the slots after the next that comes
pub slots_after : (P Q : List (ChangeParts × Bool)) (c : ChangeParts) (slot : Bool) (n m : ℕ) → n ≡ slots P → P ≡ (c, slot) ∷ Q → ((slot ≡ true) × (m ≡ n - 1)) ⊎ ((slot ≡ false) × (m ≡ n)) → m ≡ slots Q
slots_after P Q c slot n m count is (inl h) =
    let all : slots P ≡ slots Q + 1 = ap slots is ∙ ap (λ (b : Bool). cond b (slots Q + 1) (slots Q)) h.0 in
    omega (arith, h.1)
slots_after P Q c slot n m count is (inr h) = h.1 ∙ count ∙ ap slots is ∙ ap (λ (b : Bool). cond b (slots Q + 1) (slots Q)) h.0

-- D are the deliverable changes so far and V those with a slot, whose hashes are kept; what is noted so far and what is
-- still to be noted are all.
pub record AreNoted (C W K zs : List ChangeParts) (delivered slotted : List Hash) (noted : List (ChangeParts × Bool)) : Type 0 where
  pub D : List ChangeParts
  pub V : List ChangeParts
  pub delivers : IsHashSetOf delivered D
  pub slots : IsHashSetOf slotted V
  pub whole : noted ++ with_slots V (delivery (C ++ D) zs) ≡ with_slots W (delivery C K)

pub AreNoted-first : (C V W K zs : List ChangeParts) (H G : List Hash) (P : List (ChangeParts × Bool)) → H ≡ [] → IsHashSetOf G V → V ≡ W → P ≡ [] → zs ≡ K → AreNoted C W K zs H G P
AreNoted-first C V W K zs H G P none slotted waits new all = record {
  D = [];
  V = W;
  delivers = subst (λ (l : List Hash). IsHashSetOf l []) (sym none) (λ h. refl);
  slots = subst (IsHashSetOf G) waits slotted;
  whole = rw (new, all, append-nil C) refl;
}

with_one : (C D : List ChangeParts) (c : ChangeParts) (b : Bool) → C ++ cond b (D ++ c ∷ []) D ≡ cond b ((C ++ D) ++ c ∷ []) (C ++ D)
with_one C D c true = sym (append_assoc C D (c ∷ []))
with_one C D c false = refl

pub AreNoted-next : (C W K xs zs : List ChangeParts) (c : ChangeParts) (H G H' G' : List Hash) (P Q : List (ChangeParts × Bool)) (slot : Bool) → (n : AreNoted C W K xs H G P) → xs ≡ c ∷ zs
    → IsNoted n.D n.V (c, has_all (C ++ n.D) c.deps) H' G' slot → Q ≡ P ++ (c, slot) ∷ [] → AreNoted C W K zs H' G' Q
AreNoted-next C W K xs zs c H G H' G' P Q slot n is noted pushed =
    let deliverable_now : List ChangeParts = cond (has_all (C ++ n.D) c.deps) (n.D ++ c ∷ []) n.D in
    let slotted_now : List ChangeParts = cond (takes_slot n.V (c, has_all (C ++ n.D) c.deps)) (n.V ++ c ∷ []) n.V in
    record {
      D = deliverable_now;
      V = slotted_now;
      delivers = noted.delivers;
      slots = noted.slots;
      whole = ap (λ (l : List (ChangeParts × Bool)). l ++ with_slots slotted_now (delivery (C ++ deliverable_now) zs)) pushed ∙ append_assoc P ((c, slot) ∷ []) (with_slots slotted_now (delivery (C ++ deliverable_now) zs))
          ∙ ap (λ (b : Bool). P ++ (c, b) ∷ with_slots slotted_now (delivery (C ++ deliverable_now) zs)) noted.takes
          ∙ ap (λ (l : List ChangeParts). P ++ (c, takes_slot n.V (c, has_all (C ++ n.D) c.deps)) ∷ with_slots slotted_now (delivery l zs)) (with_one C n.D c (has_all (C ++ n.D) c.deps))
          ∙ sym (ap (λ (l : List ChangeParts). P ++ with_slots n.V (delivery (C ++ n.D) l)) is) ∙ n.whole;
    }

pub AreNoted-last : (C W K zs : List ChangeParts) (H G : List Hash) (P : List (ChangeParts × Bool)) → AreNoted C W K zs H G P → zs ≡ [] → P ≡ with_slots W (delivery C K)
AreNoted-last C W K zs H G P n none =
    sym (append-nil P) ∙ sym (ap (λ (l : List ChangeParts). P ++ with_slots n.V (delivery (C ++ n.D) l)) none) ∙ n.whole

-- ---- what is noted of one change

-- the set with the hash of one change more
pub IsHashSetOf-push : (C : List ChangeParts) (c : ChangeParts) (H H' : List Hash) (h : Hash) → IsHashSetOf H C → h ≡ hash_of c
    → ((x : Hash) → has_hash H' x ≡ (same_hash h x || has_hash H x)) → IsHashSetOf H' (C ++ c ∷ [])
IsHashSetOf-push C c H H' h e is added x =
    added x ∙ ap (λ (g : Hash). same_hash g x || has_hash H x) is ∙ ap (λ b. same_hash (hash_of c) x || b) (e x)
    ∙ turned (same_hash (hash_of c) x) (has C x) ∙ sym (has-append C (c ∷ []) x) where
      turned : (a b : Bool) → (a || b) ≡ (b || (a || false))
      turned true true = refl
      turned true false = refl
      turned false true = refl
      turned false false = refl

pub noted_delivers : (D V : List ChangeParts) (c : ChangeParts) (H G H' : List Hash) (h : Hash) → IsHashSetOf H D → IsHashSetOf G V → h ≡ hash_of c
    → ((x : Hash) → has_hash H' x ≡ (same_hash h x || has_hash H x)) → IsNoted D V (c, true) H' G false
noted_delivers D V c H G H' h e f is added = record { delivers = IsHashSetOf-push D c H H' h e is added; takes = refl; slots = f }

pub noted_again : (D V : List ChangeParts) (c : ChangeParts) (H G : List Hash) → IsHashSetOf H D → IsHashSetOf G V → has_hash G (hash_of c) ≡ true → IsNoted D V (c, false) H G false
noted_again D V c H G e f there =
    let takes : takes_slot V (c, false) ≡ false = ap not (sym (f (hash_of c)) ∙ there) in
    record { delivers = e; takes = sym takes; slots = subst (λ b. IsHashSetOf G (cond b (V ++ c ∷ []) V)) (sym takes) f }

pub noted_slots : (D V : List ChangeParts) (c : ChangeParts) (H G G' : List Hash) (h : Hash) → IsHashSetOf H D → IsHashSetOf G V → h ≡ hash_of c → has_hash G (hash_of c) ≡ false
    → ((x : Hash) → has_hash G' x ≡ (same_hash h x || has_hash G x)) → IsNoted D V (c, false) H G' true
noted_slots D V c H G G' h e f is new added =
    let takes : takes_slot V (c, false) ≡ true = ap not (sym (f (hash_of c)) ∙ new) in
    record { delivers = e; takes = sym takes; slots = subst (λ b. IsHashSetOf G' (cond b (V ++ c ∷ []) V)) (sym takes) (IsHashSetOf-push V c G G' h f is added) }

-- ---- the hashes of a list, one after another

pub IsHashSetOf-more : (C : List ChangeParts) (i : ℕ) (d : ChangeParts) (H H' : List Hash) (h : Hash) → i < length C → IsHashSetOf H (take i C) → h ≡ hash_of (get_or C i d)
    → ((x : Hash) → has_hash H' x ≡ (same_hash h x || has_hash H x)) → IsHashSetOf H' (take (i + 1) C)
IsHashSetOf-more C i d H H' h small e is added =
    subst (IsHashSetOf H') (sym (take_more C i d small)) (IsHashSetOf-push (take i C) (get_or C i d) H H' h e is added)

-- of those that came, by a set of their hashes
pub held_of-here : (K : List ChangeParts) (H : List Hash) (c : ChangeParts) (h : Hash) → IsHashSetOf H K → h ≡ hash_of c → has_hash H h ≡ true → held_of (hashes K) (c ∷ []) ≡ h ∷ []
held_of-here K H c h e is there =
    let came : among (hashes K) (hash_of c) ≡ true = among-hashes K (hash_of c) ∙ sym (e (hash_of c)) ∙ ap (has_hash H) (sym is) ∙ there in
    ap (λ b. cond b (hash_of c ∷ []) []) came ∙ ap (λ (x : Hash). x ∷ []) (sym is)

pub held_of-none : (K : List ChangeParts) (H : List Hash) (c : ChangeParts) (h : Hash) → IsHashSetOf H K → h ≡ hash_of c → has_hash H h ≡ false → held_of (hashes K) (c ∷ []) ≡ []
held_of-none K H c h e is new =
    let came : among (hashes K) (hash_of c) ≡ false = among-hashes K (hash_of c) ∙ sym (e (hash_of c)) ∙ ap (has_hash H) (sym is) ∙ new in
    ap (λ b. cond b (hash_of c ∷ []) []) came
