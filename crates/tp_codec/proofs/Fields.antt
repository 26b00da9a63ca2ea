-- The laws of fields: what is read is spelled so, what is spelled is read again, and a fault stays.
use Rattle.std.proofs.Common.{◌≡◌, ℕ, zero, suc, ◌+◌, ◌^◌, ◌/◌, ◌%◌, ◌<◌, ◌≤◌, Bool, true, false, cond, ltb, List, [], ◌∷◌, ◌++◌, length, get_or, take, drop, Option, Some, None, Result, Ok, Err, refl, sym, ap, subst, ◌∙◌, append_assoc, append-nil, arith, ◌⊎◌, inl, inr}
use Rattle.std.specs.Prelude.{encode_utf8_all}
use Rattle.std.specs.Int.{Width, w16, w32, w64, byte_len, from_be_bytes, to_be_bytes}
use Rattle.std.specs.List.{flat_map}
use Rattle.std.specs.Str.{chars, is_utf8, all_scalars}
use Rattle.std.proofs.lemmas.Bool.{cases_lt, ltb-false, ltb-true, le-ltb, and_parts}
use Rattle.std.proofs.lemmas.List.{take_at, drop_at, take-append-drop, length-append, length-take, get_or-take, get_or_past, get_or-append-add}
use Rattle.std.proofs.lemmas.List.Concat.{flat_map-cons}
use Rattle.std.proofs.lemmas.Nat.{be_bytes_2, be_bytes_4, be_bytes_8, from_be_bytes-to_be_bytes_2, from_be_bytes-to_be_bytes_4, from_be_bytes-to_be_bytes_8}
use Rattle.std.proofs.lemmas.Str.{encodes-chars, scalars-chars, chars-encodes, IsUtf8-from_is_utf8, is_utf8-from_IsUtf8}
use Rattle.tp_codec.specs.Prefix.{byte_at, bytes_at, number_at}
use Rattle.tp_codec.specs.Reading.{Reads, give, fail, and_next, and_then, found_or, or_fail, pass_or_fail, require, repeat_at, characters_at, text_at}
use lib.Utf8.{scalar, encode, scalar_cases}

-- each is a byte
abbrev pub AreBytes : List ℕ → Type 0
AreBytes bytes = (i : ℕ) → get_or bytes i 0 < 256

pub AreBytes-rest : (prefix bytes rest : List ℕ) → bytes ≡ prefix ++ rest → AreBytes bytes → AreBytes rest
AreBytes-rest prefix bytes rest e fits i = rw (← get_or-append-add prefix rest i 0, ← e) (fits (length prefix + i))

pub AreBytes-take : (n : ℕ) (bytes : List ℕ) → AreBytes bytes → AreBytes (take n bytes)
AreBytes-take n bytes h i =
    elim (cases_lt i n) [
      | inl lt ↦ rw (get_or-take n bytes i 0 lt) (h i)
      | inr le ↦ rw (get_or_past (take n bytes) i 0 (omega (arith, length-take n bytes))) (omega arith)
    ]

-- What a field is. Its values that fit are those that have a spelling.
pub record IsField {X E : Type 0} (short : E) (field : Reads E X) (spell : X → List ℕ) (Fits : X → Type 0) : Type 0 where
  -- what is read is spelled so
  pub takes : (bytes : List ℕ) (x : X) (rest : List ℕ) → AreBytes bytes → field bytes ≡ Ok (x, rest) → (bytes ≡ spell x ++ rest) × Fits x
  -- what is spelled is read again, whatever follows
  pub again : (x : X) (rest : List ℕ) → Fits x → field (spell x ++ rest) ≡ Ok (x, rest)
  -- a fault other than missing bytes stays, whatever follows
  pub stays : (bytes more : List ℕ) (e : E) → AreBytes bytes → field bytes ≡ Err e → (e ≡ short → ⊥) → field (bytes ++ more) ≡ Err e

-- What is read stays, whatever follows.
pub reads_more : {X E : Type 0} (short : E) (field : Reads E X) (spell : X → List ℕ) (Fits : X → Type 0) → IsField short field spell Fits
    → (bytes more : List ℕ) (x : X) (rest : List ℕ) → AreBytes bytes → field bytes ≡ Ok (x, rest) → field (bytes ++ more) ≡ Ok (x, rest ++ more)
reads_more short field spell Fits f bytes more x rest fits e =
    let t = f.takes bytes x rest fits e in
    let regrouped : bytes ++ more ≡ spell x ++ (rest ++ more) = ap (λ (b : List ℕ). b ++ more) t.0 ∙ append_assoc (spell x) rest more in
    ap field regrouped ∙ f.again x (rest ++ more) t.1

-- a field by another spelling and another condition for what fits, where they agree with its own
pub as_field : {X E : Type 0} (short : E) (field : Reads E X) (spell spelled : X → List ℕ) (Fits Fit : X → Type 0) → IsField short field spell Fits
    → ((x : X) → Fits x → spell x ≡ spelled x) → ((x : X) → Fits x → Fit x) → ((x : X) → Fit x → Fits x) → IsField short field spelled Fit
as_field short field spell spelled Fits Fit f same there back = record {
  takes = λ bytes x rest fits e. let t = f.takes bytes x rest fits e in (t.0 ∙ ap (λ (s : List ℕ). s ++ rest) (same x t.1), there x t.1);
  again = λ x rest fit. ap (λ (s : List ℕ). field (s ++ rest)) (sym (same x (back x fit))) ∙ f.again x rest (back x fit);
  stays = f.stays;
}

-- ---- steps

next_ok : {X Y E : Type 0} (r : Result (X × List ℕ) E) (next : X → Reads E Y) (y : Y × List ℕ) → and_next r next ≡ Ok y → (x : X × List ℕ) × (r ≡ Ok x) × (next x.0 x.1 ≡ Ok y)
unfolding and_next
next_ok (Ok x) next y e = (x, refl, e)
next_ok (Err d) next y e = absurd cc

next_err : {X Y E : Type 0} (r : Result (X × List ℕ) E) (next : X → Reads E Y) (d : E) → and_next r next ≡ Err d → (r ≡ Err d) ⊎ ((x : X × List ℕ) × (r ≡ Ok x) × (next x.0 x.1 ≡ Err d))
unfolding and_next
next_err (Ok x) next d e = inr (x, refl, e)
next_err (Err f) next d e = inl cc

next_of_ok : {X Y E : Type 0} (r : Result (X × List ℕ) E) (next : X → Reads E Y) (x : X) (rest : List ℕ) (y : Result (Y × List ℕ) E) → r ≡ Ok (x, rest) → next x rest ≡ y → and_next r next ≡ y
unfolding and_next
next_of_ok r next x rest y e f = rw e f

next_of_err : {X Y E : Type 0} (r : Result (X × List ℕ) E) (next : X → Reads E Y) (d : E) → r ≡ Err d → and_next r next ≡ Err d
unfolding and_next
next_of_err r next d e = rw e refl

pair_is : {X Y E : Type 0} (x y : X × Y) → (let r : Result (X × Y) E = Ok x in r) ≡ Ok y → x ≡ y
pair_is x y e = cc

-- ---- fields with no bytes

-- A value that is given: nothing else fits.
pub give_field : {X E : Type 0} (short : E) (x : X) → IsField short (give x) (λ _. []) (λ y. y ≡ x)
unfolding give
give_field {X} {E} short x = record {
  takes = λ bytes y rest fits e. let p : (x, bytes) ≡ (y, rest) = pair_is {E = E} (x, bytes) (y, rest) e in (ap (λ (q : X × List ℕ). q.1) p, sym (ap (λ (q : X × List ℕ). q.0) p));
  again = λ y rest fit. ap (λ (z : X). Ok (z, rest)) (sym fit);
  stays = λ bytes more e fits r apart. absurd cc;
}

-- A fault: nothing fits.
pub fail_field : {X E : Type 0} (short e : E) (spell : X → List ℕ) → IsField short (fail e) spell (λ _. ⊥)
unfolding fail
fail_field short e spell = record {
  takes = λ bytes y rest fits r. absurd cc;
  again = λ y rest fit. absurd fit;
  stays = λ bytes more d fits r apart. r;
}

-- ---- one field and then another

-- get is the first field's value in the whole value.
pub then_field : {X Z E : Type 0} (short : E) (first : Reads E X) (next : X → Reads E Z) (spell_first : X → List ℕ) (FirstFits : X → Type 0) (get : Z → X) (spell_next : Z → List ℕ) (NextFits : X → Z → Type 0)
    → IsField short first spell_first FirstFits → ((x : X) → FirstFits x → IsField short (next x) spell_next (NextFits x)) → ((x : X) (z : Z) → NextFits x z → get z ≡ x)
    → IsField short (and_then first next) (λ z. spell_first (get z) ++ spell_next z) (λ z. FirstFits (get z) × NextFits (get z) z)
unfolding and_then
then_field {X} {Z} {E} short first next spell_first FirstFits get spell_next NextFits f g got = record {
  takes = λ bytes z rest fits e.
      let n = next_ok (first bytes) next (z, rest) e in
      let a = f.takes bytes n.0.0 n.0.1 fits n.1 in
      let b = (g n.0.0 a.1).takes n.0.1 z rest (AreBytes-rest (spell_first n.0.0) bytes n.0.1 a.0 fits) n.2 in
      let same : get z ≡ n.0.0 = got n.0.0 z b.1 in
      let parts : bytes ≡ (spell_first n.0.0 ++ spell_next z) ++ rest = a.0 ∙ ap (λ (r : List ℕ). spell_first n.0.0 ++ r) b.0 ∙ sym (append_assoc (spell_first n.0.0) (spell_next z) rest) in
      subst (λ (x : X). (bytes ≡ (spell_first x ++ spell_next z) ++ rest) × (FirstFits x × NextFits x z)) (sym same) (parts, (a.1, b.1));
  again = λ z rest fit.
      let regrouped : (spell_first (get z) ++ spell_next z) ++ rest ≡ spell_first (get z) ++ (spell_next z ++ rest) = append_assoc (spell_first (get z)) (spell_next z) rest in
      ap (λ (b : List ℕ). and_next (first b) next) regrouped ∙ next_of_ok (first (spell_first (get z) ++ (spell_next z ++ rest))) next (get z) (spell_next z ++ rest) (Ok (z, rest)) (f.again (get z) (spell_next z ++ rest) fit.0) ((g (get z) fit.0).again z rest fit.1);
  stays = λ bytes more e fits r apart.
      elim (next_err (first bytes) next e r) [
        | inl bad ↦ next_of_err (first (bytes ++ more)) next e (f.stays bytes more e fits bad apart)
        | inr n ↦
            let a = f.takes bytes n.0.0 n.0.1 fits n.1 in
            next_of_ok (first (bytes ++ more)) next n.0.0 (n.0.1 ++ more) (Err e) (reads_more short first spell_first FirstFits f bytes more n.0.0 n.0.1 fits n.1)
            ((g n.0.0 a.1).stays n.0.1 more e (AreBytes-rest (spell_first n.0.0) bytes n.0.1 a.0 fits) n.2 apart)
      ];
}

-- a test with no field after it
pub test_field : {E : Type 0} (short : E) (test : Bool) (e : E) → IsField short (require test e) (λ _. []) (λ _. test ≡ true)
unfolding require pass_or_fail
test_field {E} short true e = record {
  takes = λ bytes x rest fits r. (ap (λ (q : Unit {0} × List ℕ). q.1) (pair_is {E = E} (tt, bytes) (x, rest) r), refl);
  again = λ x rest fit. refl;
  stays = λ bytes more d fits r apart. absurd cc;
}
test_field short false e = record {
  takes = λ bytes x rest fits r. absurd cc;
  again = λ x rest fit. absurd (let no : false ≡ true = fit in cc);
  stays = λ bytes more d fits r apart. r;
}

-- a field after a test
pub require_field : {X E : Type 0} (short : E) (test : Bool) (e : E) (next : Reads E X) (spell : X → List ℕ) (Fits : X → Type 0)
    → (test ≡ true → IsField short next spell Fits) → IsField short (and_then (require test e) (λ _. next)) spell (λ x. (test ≡ true) × Fits x)
unfolding and_then require pass_or_fail and_next
require_field short true e next spell Fits f = record {
  takes = λ bytes x rest fits r. let t = (f refl).takes bytes x rest fits r in (t.0, (refl, t.1));
  again = λ x rest fit. (f refl).again x rest fit.1;
  stays = (f refl).stays;
}
require_field short false e next spell Fits f = record {
  takes = λ bytes x rest fits r. absurd cc;
  again = λ x rest fit. absurd (let no : false ≡ true = fit.0 in cc);
  stays = λ bytes more d fits r apart. r;
}

-- ---- what is at the start

found_ok : {X E : Type 0} (short : E) (there : Option (X × List ℕ)) (x : X × List ℕ) → found_or short there ≡ Ok x → there ≡ Some x
unfolding found_or
found_ok short (Some y) x e = cc
found_ok short None x e = absurd cc

found_err : {X E : Type 0} (short : E) (there : Option (X × List ℕ)) (e : E) → found_or short there ≡ Err e → e ≡ short
unfolding found_or
found_err short (Some y) e r = absurd cc
found_err short None e r = cc

-- A field that fails where bytes are missing alone.
pub prefix_field : {X E : Type 0} (short : E) (there : List ℕ → Option (X × List ℕ)) (spell : X → List ℕ) (Fits : X → Type 0)
    → ((bytes : List ℕ) (x : X) (rest : List ℕ) → AreBytes bytes → there bytes ≡ Some (x, rest) → (bytes ≡ spell x ++ rest) × Fits x)
    → ((x : X) (rest : List ℕ) → Fits x → there (spell x ++ rest) ≡ Some (x, rest))
    → IsField short (or_fail short there) spell Fits
unfolding or_fail found_or
prefix_field {X} {E} short there spell Fits takes again = record {
  takes = λ bytes x rest fits e. takes bytes x rest fits (found_ok short (there bytes) (x, rest) e);
  again = λ x rest fit. ap (λ (o : Option (X × List ℕ)). found_or {E = E} short o) (again x rest fit);
  stays = λ bytes more e fits r apart. absurd (apart (found_err short (there bytes) e r));
}

byte_takes : (bytes : List ℕ) (x : ℕ) (rest : List ℕ) → AreBytes bytes → byte_at bytes ≡ Some (x, rest) → (bytes ≡ x ∷ rest) × (x < 256)
unfolding byte_at
byte_takes [] x rest fits e = absurd cc
byte_takes (b ∷ bytes) x rest fits e =
    let p : (b, bytes) ≡ (x, rest) = cc in
    let x-is : b ≡ x = ap (λ (q : ℕ × List ℕ). q.0) p in
    (ap (λ (q : ℕ × List ℕ). q.0 ∷ q.1) p, rw (← x-is) (fits 0))

pub byte_field : {E : Type 0} (short : E) → IsField short (or_fail short byte_at) (λ b. b ∷ []) (λ b. b < 256)
unfolding byte_at
byte_field short =
    prefix_field short byte_at (λ b. b ∷ []) (λ b. b < 256)
    (λ bytes x rest fits e. byte_takes bytes x rest fits e)
    (λ x rest fit. refl)

unless_short : {X : Type 0} (short : Bool) (x y : X) → cond short None (Some x) ≡ Some y → (short ≡ false) × (x ≡ y)
unless_short true x y e = absurd cc
unless_short false x y e = (refl, cc)

-- n bytes
pub record AreSoMany (n : ℕ) (bytes : List ℕ) : Type 0 where
  pub count : length bytes ≡ n
  pub each : AreBytes bytes

pub bytes_field : {E : Type 0} (short : E) (n : ℕ) → IsField short (or_fail short (bytes_at n)) (λ b. b) (AreSoMany n)
unfolding bytes_at
bytes_field short n =
    prefix_field short (bytes_at n) (λ b. b) (AreSoMany n)
    (λ bytes x rest fits e.
    let u = unless_short (ltb (length bytes) n) (take n bytes, drop n bytes) (x, rest) e in
    let long : n ≤ length bytes = ltb-false _ _ u.0 in
    let x-is : take n bytes ≡ x = ap (λ (p : List ℕ × List ℕ). p.0) u.1 in
    let rest-is : drop n bytes ≡ rest = ap (λ (p : List ℕ × List ℕ). p.1) u.1 in
    rw (← x-is, ← rest-is) (sym (take-append-drop n bytes), record { count = omega (arith, length-take n bytes); each = AreBytes-take n bytes fits }))
    (λ x rest fit.
    let long : ltb (length (x ++ rest)) n ≡ false = le-ltb _ _ (omega (arith, length-append x rest, fit.count)) in
    rw (long, take_at x rest n fit.count, drop_at x rest n fit.count) refl)

-- ---- numbers

-- a width in bytes, and what is below all numbers that it holds
pub record IsWide (w : Width) (limit : ℕ) : Type 0 where
  pub len : (n : ℕ) → length (to_be_bytes w n) ≡ byte_len w
  pub back : (bytes : List ℕ) → length bytes ≡ byte_len w → AreBytes bytes → to_be_bytes w (from_be_bytes w bytes) ≡ bytes
  pub again : (n : ℕ) → n < limit → from_be_bytes w (to_be_bytes w n) ≡ n
  pub below : (bytes : List ℕ) → AreBytes bytes → from_be_bytes w bytes < limit

pub wide16 : IsWide w16 (2 ^ 16)
wide16 = record {
  len = λ n. refl;
  back = λ bytes len fits. be_bytes_2 bytes _ len fits refl;
  again = λ n lt. from_be_bytes-to_be_bytes_2 n lt;
  below = λ bytes fits. omega (arith, fits 0, fits 1);
}

pub wide32 : IsWide w32 (2 ^ 32)
wide32 = record {
  len = λ n. refl;
  back = λ bytes len fits. be_bytes_4 bytes _ len fits refl;
  again = λ n lt. from_be_bytes-to_be_bytes_4 n lt;
  below = λ bytes fits. omega (arith, fits 0, fits 1, fits 2, fits 3);
}

pub wide64 : IsWide w64 (2 ^ 64)
wide64 = record {
  len = λ n. refl;
  back = λ bytes len fits. be_bytes_8 bytes _ len fits refl;
  again = λ n lt. from_be_bytes-to_be_bytes_8 n lt;
  below = λ bytes fits. omega (arith, fits 0, fits 1, fits 2, fits 3, fits 4, fits 5, fits 6, fits 7);
}

pub number_field : {E : Type 0} (short : E) (w : Width) (limit : ℕ) → IsWide w limit → IsField short (or_fail short (number_at w)) (to_be_bytes w) (λ n. n < limit)
unfolding number_at
number_field short w limit wide =
    prefix_field short (number_at w) (to_be_bytes w) (λ n. n < limit)
    (λ bytes n rest fits e.
    let u = unless_short (ltb (length bytes) (byte_len w)) (from_be_bytes w (take (byte_len w) bytes), drop (byte_len w) bytes) (n, rest) e in
    let long : byte_len w ≤ length bytes = ltb-false _ _ u.0 in
    let n-is : from_be_bytes w (take (byte_len w) bytes) ≡ n = ap (λ (p : ℕ × List ℕ). p.0) u.1 in
    let rest-is : drop (byte_len w) bytes ≡ rest = ap (λ (p : ℕ × List ℕ). p.1) u.1 in
    let prefix : to_be_bytes w n ≡ take (byte_len w) bytes = rw (← n-is) (wide.back (take (byte_len w) bytes) (omega (arith, length-take (byte_len w) bytes)) (AreBytes-take (byte_len w) bytes fits)) in
    (rw (prefix, ← rest-is) (sym (take-append-drop (byte_len w) bytes)), rw (← n-is) (wide.below (take (byte_len w) bytes) (AreBytes-take (byte_len w) bytes fits))))
    (λ n rest lt.
    let len = wide.len n in
    let long : ltb (length (to_be_bytes w n ++ rest)) (byte_len w) ≡ false = le-ltb _ _ (omega (arith, length-append (to_be_bytes w n) rest)) in
    rw (long, take_at (to_be_bytes w n) rest (byte_len w) len, drop_at (to_be_bytes w n) rest (byte_len w) len, wide.again n lt) refl)

-- ---- repeated fields

-- each value fits in the state that the ones before it make
abbrev pub EachFits : {S X : Type 0} → (S → X → Type 0) → (S → X → S) → S → List X → Type 0
EachFits Fits step s [] = Unit {0}
EachFits Fits step s (x ∷ xs) = Fits s x × EachFits Fits step (step s x) xs

none_again : {S X E : Type 0} (field : S → Reads E X) (step : S → X → S) (spell : X → List ℕ) (s : S) (xs : List X) (rest : List ℕ) → length xs ≡ zero → repeat_at field step zero s (flat_map spell xs ++ rest) ≡ Ok (xs, rest)
unfolding repeat_at
none_again field step spell s [] rest e = refl
none_again field step spell s (x ∷ xs) rest e = absurd (omega arith)

one_again : {S X E : Type 0} (short : E) (field : S → Reads E X) (step : S → X → S) (spell : X → List ℕ) (Fits : S → X → Type 0) (n : ℕ) (s : S)
    → IsField short (field s) spell (Fits s)
    → ((x : X) → IsField short (repeat_at field step n (step s x)) (flat_map spell) (λ xs. (length xs ≡ n) × EachFits Fits step (step s x) xs))
    → (ys : List X) (rest : List ℕ) → length ys ≡ suc n → EachFits Fits step s ys → repeat_at field step (suc n) s (flat_map spell ys ++ rest) ≡ Ok (ys, rest)
unfolding repeat_at and_then give
one_again short field step spell Fits n s f g [] rest e fit = absurd (omega arith)
one_again short field step spell Fits n s f g (x ∷ xs) rest e fit =
    let regrouped : flat_map spell (x ∷ xs) ++ rest ≡ spell x ++ (flat_map spell xs ++ rest) = ap (λ (b : List ℕ). b ++ rest) (flat_map-cons spell x xs) ∙ append_assoc (spell x) (flat_map spell xs) rest in
    ap (λ (b : List ℕ). and_next (field s b) (λ x. and_then (repeat_at field step n (step s x)) (λ xs. give (x ∷ xs)))) regrouped
    ∙ next_of_ok (field s (spell x ++ (flat_map spell xs ++ rest))) (λ x. and_then (repeat_at field step n (step s x)) (λ xs. give (x ∷ xs))) x (flat_map spell xs ++ rest) (Ok (x ∷ xs, rest)) (f.again x (flat_map spell xs ++ rest) fit.0)
    (next_of_ok (repeat_at field step n (step s x) (flat_map spell xs ++ rest)) (λ xs. give (x ∷ xs)) xs rest (Ok (x ∷ xs, rest)) ((g x).again xs rest (omega arith, fit.1)) refl)

repeat_none : {S X E : Type 0} (short : E) (field : S → Reads E X) (step : S → X → S) (spell : X → List ℕ) (Fits : S → X → Type 0) (s : S)
    → IsField short (repeat_at field step zero s) (flat_map spell) (λ xs. (length xs ≡ zero) × EachFits Fits step s xs)
unfolding repeat_at
repeat_none {S} {X} {E} short field step spell Fits s = record {
  takes = λ bytes xs rest fits e. subst (λ (y : List X × List ℕ). (bytes ≡ flat_map spell y.0 ++ y.1) × ((length y.0 ≡ 0) × EachFits Fits step s y.0)) (pair_is {E = E} ([], bytes) (xs, rest) e) (refl, (refl, tt));
  again = λ xs rest fit. none_again field step spell s xs rest fit.0;
  stays = λ bytes more e fits r apart. absurd cc;
}

-- a value and then more, as bytes
spelled_on : {X : Type 0} (spell : X → List ℕ) (x : X) (xs : List X) (bytes mid rest : List ℕ) → bytes ≡ spell x ++ mid → mid ≡ flat_map spell xs ++ rest → bytes ≡ flat_map spell (x ∷ xs) ++ rest
spelled_on spell x xs bytes mid rest e f =
    e ∙ ap (λ (r : List ℕ). spell x ++ r) f ∙ sym (append_assoc (spell x) (flat_map spell xs) rest) ∙ ap (λ (r : List ℕ). r ++ rest) (sym (flat_map-cons spell x xs))

-- the values after the first, and with it
rest_taken : {S X E : Type 0} (short : E) (field : S → Reads E X) (step : S → X → S) (spell : X → List ℕ) (Fits : S → X → Type 0) (n : ℕ) (s : S) (x : X) (bytes mid : List ℕ)
    → bytes ≡ spell x ++ mid → Fits s x → AreBytes mid → IsField short (repeat_at field step n (step s x)) (flat_map spell) (λ xs. (length xs ≡ n) × EachFits Fits step (step s x) xs)
    → (ys : List X) (rest : List ℕ) → (p : List X × List ℕ) × (repeat_at field step n (step s x) mid ≡ Ok p) × (give {E = E} (x ∷ p.0) p.1 ≡ Ok (ys, rest))
    → (bytes ≡ flat_map spell ys ++ rest) × ((length ys ≡ suc n) × EachFits Fits step s ys)
unfolding give
rest_taken {S} {X} {E} short field step spell Fits n s x bytes mid prefix fit fits g ys rest ((xs, back), e, f) =
    let u = g.takes mid xs back fits e in
    subst (λ (y : List X × List ℕ). (bytes ≡ flat_map spell y.0 ++ y.1) × ((length y.0 ≡ suc n) × EachFits Fits step s y.0)) (pair_is {E = E} (x ∷ xs, back) (ys, rest) f)
    (spelled_on spell x xs bytes mid back prefix u.0, (ap suc u.1.0, (fit, u.1.1)))

one_taken : {S X E : Type 0} (short : E) (field : S → Reads E X) (step : S → X → S) (spell : X → List ℕ) (Fits : S → X → Type 0) (n : ℕ) (s : S)
    → IsField short (field s) spell (Fits s)
    → ((x : X) → IsField short (repeat_at field step n (step s x)) (flat_map spell) (λ xs. (length xs ≡ n) × EachFits Fits step (step s x) xs))
    → (bytes : List ℕ) (ys : List X) (rest : List ℕ) → AreBytes bytes
    → (p : X × List ℕ) × (field s bytes ≡ Ok p) × (and_then (repeat_at field step n (step s p.0)) (λ xs. give (p.0 ∷ xs)) p.1 ≡ Ok (ys, rest))
    → (bytes ≡ flat_map spell ys ++ rest) × ((length ys ≡ suc n) × EachFits Fits step s ys)
unfolding and_then
one_taken short field step spell Fits n s f g bytes ys rest fits ((x, mid), e, r) =
    let t = f.takes bytes x mid fits e in
    rest_taken short field step spell Fits n s x bytes mid t.0 t.1 (AreBytes-rest (spell x) bytes mid t.0 fits) (g x) ys rest (next_ok (repeat_at field step n (step s x) mid) (λ xs. give (x ∷ xs)) (ys, rest) r)

-- a fault after the first value
one_stays : {S X E : Type 0} (short : E) (field : S → Reads E X) (step : S → X → S) (spell : X → List ℕ) (Fits : S → X → Type 0) (n : ℕ) (s : S)
    → IsField short (field s) spell (Fits s)
    → ((x : X) → IsField short (repeat_at field step n (step s x)) (flat_map spell) (λ xs. (length xs ≡ n) × EachFits Fits step (step s x) xs))
    → (bytes more : List ℕ) (e : E) → AreBytes bytes → (e ≡ short → ⊥)
    → (p : X × List ℕ) × (field s bytes ≡ Ok p) × (and_then (repeat_at field step n (step s p.0)) (λ xs. give (p.0 ∷ xs)) p.1 ≡ Err e)
    → repeat_at field step (suc n) s (bytes ++ more) ≡ Err e
unfolding repeat_at and_then give
one_stays {S} {X} {E} short field step spell Fits n s f g bytes more e fits apart ((x, mid), read, r) =
    let t = f.takes bytes x mid fits read in
    let after : AreBytes mid = AreBytes-rest (spell x) bytes mid t.0 fits in
    next_of_ok (field s (bytes ++ more)) (λ x. and_then (repeat_at field step n (step s x)) (λ xs. give (x ∷ xs))) x (mid ++ more) (Err e) (reads_more short (field s) spell (Fits s) f bytes more x mid fits read)
    (elim (next_err (repeat_at field step n (step s x) mid) (λ xs. give (x ∷ xs)) e r) [
      | inl bad ↦ next_of_err (repeat_at field step n (step s x) (mid ++ more)) (λ xs. give (x ∷ xs)) e ((g x).stays mid more e after bad apart)
      | inr b ↦ absurd (let no : (let r : Result (List X × List ℕ) E = Ok (x ∷ b.0.0, b.0.1) in r) ≡ Err e = b.2 in cc)
    ])

repeat_one : {S X E : Type 0} (short : E) (field : S → Reads E X) (step : S → X → S) (spell : X → List ℕ) (Fits : S → X → Type 0) (n : ℕ) (s : S)
    → IsField short (field s) spell (Fits s)
    → ((x : X) → IsField short (repeat_at field step n (step s x)) (flat_map spell) (λ xs. (length xs ≡ n) × EachFits Fits step (step s x) xs))
    → IsField short (repeat_at field step (suc n) s) (flat_map spell) (λ xs. (length xs ≡ suc n) × EachFits Fits step s xs)
unfolding repeat_at and_then
repeat_one short field step spell Fits n s f g = record {
  takes = λ bytes ys rest fits e. one_taken short field step spell Fits n s f g bytes ys rest fits (next_ok (field s bytes) (λ x. and_then (repeat_at field step n (step s x)) (λ xs. give (x ∷ xs))) (ys, rest) e);
  again = λ ys rest fit. one_again short field step spell Fits n s f g ys rest fit.0 fit.1;
  stays = λ bytes more e fits r apart.
      elim (next_err (field s bytes) (λ x. and_then (repeat_at field step n (step s x)) (λ xs. give (x ∷ xs))) e r) [
        | inl bad ↦ next_of_err (field s (bytes ++ more)) (λ x. and_then (repeat_at field step n (step s x)) (λ xs. give (x ∷ xs))) e (f.stays bytes more e fits bad apart)
        | inr a ↦ one_stays short field step spell Fits n s f g bytes more e fits apart a
      ];
}

pub repeat_field : {S X E : Type 0} (short : E) (field : S → Reads E X) (step : S → X → S) (spell : X → List ℕ) (Fits : S → X → Type 0)
    → ((s : S) → IsField short (field s) spell (Fits s))
    → (n : ℕ) (s : S) → IsField short (repeat_at field step n s) (flat_map spell) (λ xs. (length xs ≡ n) × EachFits Fits step s xs)
repeat_field short field step spell Fits f zero s = repeat_none short field step spell Fits s
repeat_field short field step spell Fits f (suc n) s = repeat_one short field step spell Fits n s (f s) (λ x. repeat_field short field step spell Fits f n (step s x))

-- ---- texts

AreBytes-nil : AreBytes []
AreBytes-nil i = omega arith

pub AreBytes-cons : (b : ℕ) (bytes : List ℕ) → b < 256 → AreBytes bytes → AreBytes (b ∷ bytes)
AreBytes-cons b bytes lt h zero = lt
AreBytes-cons b bytes lt h (suc i) = h i

pub AreBytes-append : (xs ys : List ℕ) → AreBytes xs → AreBytes ys → AreBytes (xs ++ ys)
AreBytes-append [] ys p q = q
AreBytes-append (x ∷ xs) ys p q = AreBytes-cons x (xs ++ ys) (p 0) (AreBytes-append xs ys (λ i. p (suc i)) q)

either_are : (test : Bool) (xs ys : List ℕ) → (test ≡ true → AreBytes xs) → (test ≡ false → AreBytes ys) → AreBytes (cond test xs ys)
either_are true xs ys p q = p refl
either_are false xs ys p q = q refl

two_bytes : (a b : ℕ) → a < 256 → b < 256 → AreBytes (a ∷ b ∷ [])
two_bytes a b p q = AreBytes-cons a (b ∷ []) p (AreBytes-cons b [] q AreBytes-nil)

AreBytes-encode : (c : ℕ) → c < 1114112 → AreBytes (encode c)
unfolding encode
AreBytes-encode c lt =
    let last : 128 + c % 64 < 256 = omega arith in
    let third : 128 + c / 64 % 64 < 256 = omega arith in
    let second : 128 + c / 4096 % 64 < 256 = omega arith in
    either_are (ltb c 128) _ _ (λ t. let small = ltb-true _ _ t in AreBytes-cons c [] (omega (arith, small)) AreBytes-nil)
    (λ f. either_are (ltb c 2048) _ _ (λ t. let small = ltb-true _ _ t in two_bytes (192 + c / 64) (128 + c % 64) (omega (arith, small)) last)
    (λ g. either_are (ltb c 65536) _ _
    (λ t. let small = ltb-true _ _ t in AreBytes-cons (224 + c / 4096) ((128 + c / 64 % 64) ∷ (128 + c % 64) ∷ []) (omega (arith, small)) (two_bytes (128 + c / 64 % 64) (128 + c % 64) third last))
    (λ h. AreBytes-cons (240 + c / 262144) ((128 + c / 4096 % 64) ∷ (128 + c / 64 % 64) ∷ (128 + c % 64) ∷ []) (omega arith) (AreBytes-cons (128 + c / 4096 % 64) ((128 + c / 64 % 64) ∷ (128 + c % 64) ∷ []) second (two_bytes (128 + c / 64 % 64) (128 + c % 64) third last)))))

scalar_below : (c : ℕ) → scalar c ≡ true → c < 1114112
scalar_below c s = elim (scalar_cases c s) [ inl low ↦ omega arith | inr high ↦ high.1 ]

-- UTF-8 is bytes
pub AreBytes-encodes : (text : List ℕ) → all_scalars text ≡ true → AreBytes (encode_utf8_all text)
AreBytes-encodes [] s = AreBytes-nil
AreBytes-encodes (c ∷ text) s =
    let p = and_parts _ _ s in
    AreBytes-append (encode c) (encode_utf8_all text) (AreBytes-encode c (scalar_below c p.0)) (AreBytes-encodes text p.1)

-- a byte length and the UTF-8 of the characters
abbrev pub spelling_of_text : Width → List ℕ → List ℕ
spelling_of_text w text = to_be_bytes w (length (encode_utf8_all text)) ++ encode_utf8_all text

-- characters whose UTF-8 has fewer bytes than the limit
pub record FitsText (limit : ℕ) (text : List ℕ) : Type 0 where
  pub scalars : all_scalars text ≡ true
  pub bytes : length (encode_utf8_all text) < limit

text_fits : (limit : ℕ) (text : List ℕ) → length (encode_utf8_all text) < limit → is_utf8 (encode_utf8_all text) ≡ true → text ≡ chars (encode_utf8_all text) → FitsText limit text
text_fits limit text lt utf8 same = record { scalars = rw same (scalars-chars (encode_utf8_all text) (IsUtf8-from_is_utf8 (encode_utf8_all text) utf8)); bytes = lt }

text_fitted : (limit : ℕ) (text : List ℕ) → FitsText limit text → (length (encode_utf8_all text) < limit) × (AreSoMany (length (encode_utf8_all text)) (encode_utf8_all text) × ((is_utf8 (encode_utf8_all text) ≡ true) × (text ≡ chars (encode_utf8_all text))))
text_fitted limit text fit = (fit.bytes, (record { count = refl; each = AreBytes-encodes text fit.scalars }, (is_utf8-from_IsUtf8 (encode_utf8_all text) (text, (fit.scalars, refl)), sym (chars-encodes text fit.scalars))))

-- n bytes of UTF-8
pub characters_field : {E : Type 0} (short bad : E) (n : ℕ) → IsField short (characters_at short bad n) (λ text. encode_utf8_all text ++ []) (λ text. AreSoMany n (encode_utf8_all text) × ((is_utf8 (encode_utf8_all text) ≡ true) × (text ≡ chars (encode_utf8_all text))))
unfolding characters_at
characters_field short bad n =
    then_field short (or_fail short (bytes_at n)) (λ bytes. and_then (require (is_utf8 bytes) bad) (λ _. give (chars bytes))) (λ b. b) (AreSoMany n)
    encode_utf8_all (λ _. []) (λ bytes text. (is_utf8 bytes ≡ true) × (text ≡ chars bytes))
    (bytes_field short n)
    (λ bytes fit. require_field short (is_utf8 bytes) bad (give (chars bytes)) (λ _. []) (λ text. text ≡ chars bytes) (λ _. give_field short (chars bytes)))
    (λ bytes text fit. ap encode_utf8_all fit.1 ∙ encodes-chars bytes (IsUtf8-from_is_utf8 bytes fit.0))

pub text_field : {E : Type 0} (short bad : E) (w : Width) (limit : ℕ) → IsWide w limit → IsField short (text_at short bad w) (spelling_of_text w) (FitsText limit)
unfolding text_at
text_field short bad w limit wide =
    let outer = then_field short (or_fail short (number_at w)) (characters_at short bad) (to_be_bytes w) (λ n. n < limit)
    (λ text. length (encode_utf8_all text)) (λ text. encode_utf8_all text ++ []) (λ n text. AreSoMany n (encode_utf8_all text) × ((is_utf8 (encode_utf8_all text) ≡ true) × (text ≡ chars (encode_utf8_all text))))
    (number_field short w limit wide)
    (λ n lt. characters_field short bad n)
    (λ n text fit. fit.0.count) in
    as_field short (text_at short bad w) (λ text. to_be_bytes w (length (encode_utf8_all text)) ++ (encode_utf8_all text ++ [])) (spelling_of_text w) _ (FitsText limit) outer
    (λ text fit. ap (λ (b : List ℕ). to_be_bytes w (length (encode_utf8_all text)) ++ b) (append-nil (encode_utf8_all text)))
    (λ text fit. text_fits limit text fit.0 fit.1.1.0 fit.1.1.1)
    (λ text fit. text_fitted limit text fit)
