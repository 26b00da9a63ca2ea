-- Any two results of receiving one list have the same members.
use Rattle.tp_receive.proofs.Common.{◌≡◌, ◌<◌, inl, inr, List, [], ◌∷◌, ◌++◌, length, false, None, IsSome, refl, sym, ap, subst, append_assoc, append-nil, In, AllIn, ChangeParts, hash_of, GraphError, has, HashesApart, cause, most_changes, Sound, truth, never, not_true, has-In, In-has, In-left, In-right, In-append, Sound-push, Fits-from_cause, EntersAfter, clashes, Receives, SameMembers, same_actor-same, cause-from_Fits, SeqsApart, Fits-part}
use Rattle.tp_history.proofs.ClashLaws.{clash_of}

-- The changes of a result are of what was there and came.
pub of_both : (C K long : List ChangeParts) → Receives C K long → AllIn long (C ++ K)
of_both C K long r c i =
    elim (In-append c C r.new (subst (In c) r.entered.begins i)) [ inl j ↦ In-left c C K j | inr j ↦ In-right c C K (r.entered.came c j) ]

-- A change that enters after a part of another result is there.
there : (C K P other : List ChangeParts) (x : ChangeParts) → HashesApart (C ++ K) → SeqsApart (C ++ K) → length other < most_changes → Receives C K other
    → Sound P → AllIn P other → In x K → cause P x ≡ None → In x other
there C K P other x apart seqs small r s part came none =
    let here : In x (C ++ K) = In-right x C K came in
    elim (truth (has other (hash_of x))) [
      | inl t ↦
          let w = has-In other (hash_of x) t in
          subst (λ (y : ChangeParts). In y other) (apart w.0 x (of_both C K other r w.0 w.1) here w.2) w.1
      | inr new ↦
          let free : clashes other x ≡ false = not_true (clashes other x) (λ t.
          let w = clash_of other x t in
          let one : w.0 ≡ x = seqs w.0 x (of_both C K other r w.0 w.1) here (same_actor-same w.0.actor x.actor w.2) w.3 in
          never (In-has other w.0 (hash_of x) w.1 (ap hash_of one)) new) in
          let enters : cause other x ≡ None = cause-from_Fits other x (Fits-part P other x s r.sound part (Fits-from_cause P x none) new free) small in
          let closed : IsSome (cause other x) = r.closed x came in
          let no : IsSome {T = GraphError} None = subst IsSome enters closed in
          cc
    ]

-- What enters one after another after a part of another result is there.
all_there : (C K P new other : List ChangeParts) → HashesApart (C ++ K) → SeqsApart (C ++ K) → length other < most_changes → Receives C K other
    → Sound P → AllIn P other → AllIn new K → EntersAfter P new → AllIn (P ++ new) other
all_there C K P [] other apart seqs small r s part came fits = subst (λ l. AllIn l other) (sym (append-nil P)) part
all_there C K P (x ∷ new) other apart seqs small r s part came fits =
    let i = there C K P other x apart seqs small r s part (came x (inl refl)) fits.0 in
    subst (λ l. AllIn l other) (append_assoc P (x ∷ []) new)
    (all_there C K (P ++ x ∷ []) new other apart seqs small r (Sound-push P x s (Fits-from_cause P x fits.0))
    (λ y j. elim (In-append y P (x ∷ []) j) [ inl k ↦ part y k | inr k ↦ elim k [ inl e ↦ rw e i | inr n ↦ absurd n ] ])
    (λ y j. came y (inr j)) fits.1)

within : (C K long other : List ChangeParts) → Sound C → HashesApart (C ++ K) → SeqsApart (C ++ K) → length other < most_changes → Receives C K long → Receives C K other → AllIn long other
within C K long other s apart seqs small r q =
    subst (λ l. AllIn l other) (sym r.entered.begins)
    (all_there C K C r.new other apart seqs small q s (λ c i. subst (In c) (sym q.entered.begins) (In-left c C q.new i)) r.entered.came r.entered.fits)

pub one_set : (C K long other : List ChangeParts) → Sound C → HashesApart (C ++ K) → SeqsApart (C ++ K) → length long < most_changes → length other < most_changes
    → Receives C K long → Receives C K other → SameMembers long other
one_set C K long other s apart seqs few few2 r q = record { there = within C K long other s apart seqs few2 r q; back = within C K other long s apart seqs few q r }
