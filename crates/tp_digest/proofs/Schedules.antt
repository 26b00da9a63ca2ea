-- The words of one lane, and of the schedule, by index.
use Rattle.std.proofs.Common.{◌≡◌, ◌∙◌, sym, ap, ℕ, zero, suc, ◌+◌, ◌-◌, ◌*◌, ◌<◌, ◌≤◌, List, [], ◌∷◌, length, get_or, refl, arith, length-append, below_more}
use Rattle.std.proofs.lemmas.List.{get_or-map, length-map, get_or_append_left, get_or_push, ext_get_or}
use Rattle.sha2.specs.Sha256.{first_words, schedule, next_word, round, word_at}
use Rattle.tp_digest.specs.Lanes.{HasInLanes, lane_words}

pub lane_word : (ws : List (List ℕ)) (k t : ℕ) → t < length ws
    → get_or (lane_words ws k) t 0 ≡ get_or (get_or ws t []) k 0
lane_word ws k t h = get_or-map (λ w. get_or w k 0) ws t [] 0 h

length-first_words : (b : List ℕ) (n : ℕ) → length (first_words b n) ≡ n
unfolding first_words
length-first_words b zero = refl
length-first_words b (suc n) =
    omega (arith, length-append (first_words b n) (word_at b (4 * n) ∷ []), length-first_words b n)

pub length-schedule : (b : List ℕ) (n : ℕ) → length (schedule b n) ≡ 16 + n
unfolding schedule
length-schedule b zero = length-first_words b 16
length-schedule b (suc n) =
    omega (arith, length-append (schedule b n) (next_word (schedule b n) (n + 16) ∷ []), length-schedule b n)

first_word : (b : List ℕ) (n t : ℕ) → t < n → get_or (first_words b n) t 0 ≡ word_at b (4 * t)
unfolding first_words
first_word b zero t h = absurd (omega arith)
first_word b (suc n) t h =
    let known : (k : ℕ) → k < n → get_or (first_words b (suc n)) k 0 ≡ word_at b (4 * k) =
    λ k l. get_or_append_left (first_words b n) _ 0 k (omega (arith, length-first_words b n)) ∙ first_word b n k l in
    below_more (λ k. get_or (first_words b (suc n)) k 0 ≡ word_at b (4 * k)) n known
    (get_or_push (first_words b n) (word_at b (4 * n)) 0 n (length-first_words b n)) t (omega arith)

-- a longer schedule begins with a shorter one
schedule_begins : (b : List ℕ) (n d t : ℕ) → t < 16 + n → get_or (schedule b (d + n)) t 0 ≡ get_or (schedule b n) t 0
unfolding schedule
schedule_begins b n zero t h = let e : zero + n ≡ n = omega arith in rw e refl
schedule_begins b n (suc d) t h =
    let e : suc d + n ≡ suc (d + n) = omega arith in
    rw e (get_or_append_left (schedule b (d + n)) _ 0 t (omega (arith, length-schedule b (d + n)))
    ∙ schedule_begins b n d t h)

within : (b : List ℕ) (n t : ℕ) → n ≤ 48 → t < 16 + n → get_or (schedule b n) t 0 ≡ get_or (schedule b 48) t 0
within b n t le h =
    let e : (48 - n) + n ≡ 48 = omega arith in
    sym (ap (λ m. get_or (schedule b m) t 0) (sym e) ∙ schedule_begins b n (48 - n) t h)

pub schedule_first : (b : List ℕ) (t : ℕ) → t < 16 → get_or (schedule b 48) t 0 ≡ word_at b (4 * t)
unfolding schedule
schedule_first b t h = sym (within b 0 t (omega arith) (omega arith)) ∙ first_word b 16 t h

pub next_word_alike : (v w : List ℕ) (t : ℕ) → 16 ≤ t → ((s : ℕ) → s < t → get_or v s 0 ≡ get_or w s 0)
    → next_word v t ≡ next_word w t
next_word_alike v w t h same =
    simp (
      same (t - 2) (omega arith),
      same (t - 7) (omega arith),
      same (t - 15) (omega arith),
      same (t - 16) (omega arith),
    )

pub schedule_next : (b : List ℕ) (t : ℕ) → 16 ≤ t → t < 64
    → get_or (schedule b 48) t 0 ≡ next_word (schedule b 48) t
unfolding schedule
schedule_next b t from below =
    let n = t - 16 in
    let long : length (schedule b n) ≡ t = omega (arith, length-schedule b n) in
    let e : n + 16 ≡ t = omega arith in
    let here : get_or (schedule b (suc n)) t 0 ≡ next_word (schedule b n) (n + 16) =
    get_or_push (schedule b n) (next_word (schedule b n) (n + 16)) 0 t long in
    sym (within b (suc n) t (omega arith) (omega arith)) ∙ here ∙ ap (λ s. next_word (schedule b n) s) e
    ∙ next_word_alike (schedule b n) (schedule b 48) t from (λ s l. within b n s (omega arith) (omega arith))

-- the vectors of 64 words hold, lane by lane, the schedules of four blocks
pub lanes_scheduled : (ws bs : List (List ℕ)) → length ws ≡ 64
    → ((t : ℕ) → t < 64 → HasInLanes (get_or ws t []) (λ k. get_or (schedule (get_or bs k []) 48) t 0))
    → (k : ℕ) → k < 4 → lane_words ws k ≡ schedule (get_or bs k []) 48
lanes_scheduled ws bs long known k h =
    let b = get_or bs k [] in
    let longs : length (lane_words ws k) ≡ 64 = length-map ws (λ w. get_or w k 0) ∙ long in
    ext_get_or 0 (lane_words ws k) (schedule b 48) (longs ∙ sym (length-schedule b 48))
    (λ t l. lane_word ws k t (omega arith) ∙ (known t (omega arith)).at k h)

-- the word after those that a lane has
pub next_in_lane : (ws bs : List (List ℕ)) (t k : ℕ) → length ws ≡ 64 → 16 ≤ t → t < 64 → k < 4
    → ((s : ℕ) → s < t → HasInLanes (get_or ws s []) (λ k. get_or (schedule (get_or bs k []) 48) s 0))
    → next_word (lane_words ws k) t ≡ get_or (schedule (get_or bs k []) 48) t 0
next_in_lane ws bs t k long from below h known =
    next_word_alike (lane_words ws k) (schedule (get_or bs k []) 48) t from
    (λ s l. lane_word ws k s (omega arith) ∙ (known s l).at k h)
    ∙ sym (schedule_next (get_or bs k []) t from below)

pub round_alike : (v w : List ℕ) (c x y : ℕ) → v ≡ w → x ≡ y → round v c x ≡ round w c y
round_alike v w c x y p q = ap (λ u. round u c x) p ∙ ap (λ z. round w c z) q
