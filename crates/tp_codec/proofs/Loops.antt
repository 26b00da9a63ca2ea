-- Reading fields one after another, as a loop does.
use Rattle.std.proofs.Common.{◌≡◌, ℕ, zero, suc, ◌-◌, ◌+◌, ◌≤◌, ◌<◌, List, [], ◌∷◌, ◌++◌, Result, Ok, Err, refl, sym, ap, ◌∙◌, append_assoc, append-nil, arith}
use Rattle.tp_codec.specs.Reading.{Reads, give, and_next, and_then, repeat_at}

-- what was read before, and what is still read
abbrev pub with_prefix : {X E : Type 0} → List X → Result (List X × List ℕ) E → Result (List X × List ℕ) E
with_prefix prefix read = and_next read (λ xs. give (prefix ++ xs))

regroup : {X E : Type 0} (prefix : List X) (x : X) (read : Result (List X × List ℕ) E) → with_prefix prefix (and_next read (λ xs. give (x ∷ xs))) ≡ with_prefix (prefix ++ x ∷ []) read
unfolding and_next give
regroup prefix x (Ok y) = ap (λ xs. Ok (xs, y.1)) (sym (append_assoc prefix (x ∷ []) y.0))
regroup prefix x (Err e) = refl

no_prefix : {X E : Type 0} (read : Result (List X × List ℕ) E) → with_prefix [] read ≡ read
unfolding and_next give
no_prefix (Ok x) = refl
no_prefix (Err e) = refl

pub begins : {S X E : Type 0} (field : S → Reads E X) (step : S → X → S) (count : ℕ) (s : S) (bytes : List ℕ) → with_prefix [] (repeat_at field step (count - 0) s bytes) ≡ repeat_at field step count s bytes
begins field step count s bytes =
    let k : count - 0 ≡ count = omega arith in
    ap (λ n. with_prefix [] (repeat_at field step n s bytes)) k ∙ no_prefix (repeat_at field step count s bytes)

pub goes_on : {S X E : Type 0} (field : S → Reads E X) (step : S → X → S) (prefix : List X) (count i : ℕ) (s : S) (bytes : List ℕ) (x : X) (after : List ℕ) (total : Result (List X × List ℕ) E)
    → i < count → field s bytes ≡ Ok (x, after)
    → with_prefix prefix (repeat_at field step (count - i) s bytes) ≡ total → with_prefix (prefix ++ x ∷ []) (repeat_at field step (count - (i + 1)) (step s x) after) ≡ total
unfolding repeat_at and_then and_next
goes_on field step prefix count i s bytes x after total lt h so_far =
    let k : count - i ≡ suc (count - (i + 1)) = omega arith in
    let one : with_prefix prefix (repeat_at field step (count - i) s bytes) ≡ with_prefix (prefix ++ x ∷ []) (repeat_at field step (count - (i + 1)) (step s x) after) = rw (k, h) (regroup prefix x (repeat_at field step (count - (i + 1)) (step s x) after)) in
    sym one ∙ so_far

pub ends : {S X E : Type 0} (field : S → Reads E X) (step : S → X → S) (prefix : List X) (count i : ℕ) (s : S) (bytes : List ℕ) (e : E) (total : Result (List X × List ℕ) E)
    → i < count → field s bytes ≡ Err e
    → with_prefix prefix (repeat_at field step (count - i) s bytes) ≡ total → total ≡ Err e
unfolding repeat_at and_next
ends field step prefix count i s bytes e total lt h so_far =
    let k : count - i ≡ suc (count - (i + 1)) = omega arith in
    let one : with_prefix prefix (repeat_at field step (count - i) s bytes) ≡ Err e = rw (k, h) refl in
    sym so_far ∙ one

pub is_done : {S X E : Type 0} (field : S → Reads E X) (step : S → X → S) (prefix : List X) (count i : ℕ) (s : S) (bytes : List ℕ) (total : Result (List X × List ℕ) E)
    → count ≤ i → with_prefix prefix (repeat_at field step (count - i) s bytes) ≡ total → total ≡ Ok (prefix, bytes)
unfolding repeat_at and_next give
is_done field step prefix count i s bytes total le so_far =
    let k : count - i ≡ zero = omega arith in
    let one : with_prefix prefix (repeat_at field step (count - i) s bytes) ≡ Ok (prefix, bytes) = rw k (ap (λ xs. Ok (xs, bytes)) (append-nil prefix)) in
    sym so_far ∙ one
