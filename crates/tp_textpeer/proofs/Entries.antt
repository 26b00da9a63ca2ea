-- What is at the start of a log, against the pieces that are read of it.
use Rattle.std.proofs.Common.{◌≡◌, ℕ, ◌<◌, ◌≤◌, true, false, eqb, ltb, List, ◌++◌, length, Option, Some, None, Ok, Err, refl, sym, ap, ◌∙◌, subst, append_assoc, append-nil, arith}
use Rattle.std.specs.Prelude.{IfSome}
use Rattle.std.specs.Int.{w32, from_be_bytes, to_be_bytes}
use Rattle.std.specs.Io.KnownBytes.{Consumes, IsAtEnd}
use Rattle.std.proofs.lemmas.Bool.Decides.{nat_tests}
use Rattle.std.proofs.lemmas.List.{take_at, drop_at, length-append}
use Rattle.std.proofs.lemmas.Nat.{from_be_bytes-to_be_bytes_4}
use Rattle.tp_layout.specs.declared.error.ChangeError.TheVariants as change_error
use Rattle.tp_layout.specs.declared.parts.ChangeParts.{ChangeParts}
use Rattle.tp_layout.specs.Limits.{IsChange}
use Rattle.tp_layout.specs.Reading.{change_at}
use Rattle.tp_layout.specs.Spelling.{spelling, framed_change}
use Rattle.tp_layout.proofs.WholeChange.{change_again}
use Rattle.tp_layout.proofs.SpellingLaws.{spelling_bounds}
use Rattle.tp_textpeer.specs.declared.error.ShowFault.{ShowFault}
use Rattle.tp_textpeer.specs.declared.error.ShowFault.TheVariants.{Change}
use Rattle.tp_textpeer.specs.Log.{logged_change_at, sized_entry_at, with_rest, StartsBadly, ReadsLength}

below : (m n : ℕ) → m < n → ltb m n ≡ true
below m n h = grind (arith, nat_tests)

not_below : (m n : ℕ) → n ≤ m → ltb m n ≡ false
not_below m n h = grind (arith, nat_tests)

not_zero : (n : ℕ) → 0 < n → eqb n 0 ≡ false
not_zero n h = grind (arith, nat_tests)

entry_short : (b : List ℕ) → length b < 4 → logged_change_at b ≡ Err (Change change_error.Short)
unfolding logged_change_at
entry_short b h = rw (below (length b) 4 h) refl

-- after a whole length
entry_sized : (prefix rest : List ℕ) (n : ℕ) → length prefix ≡ 4 → n ≡ from_be_bytes w32 prefix → logged_change_at (prefix ++ rest) ≡ sized_entry_at n rest
unfolding logged_change_at
entry_sized prefix rest n four is =
    let whole : 4 ≤ length (prefix ++ rest) = let e = length-append prefix rest in omega arith in
    rw (not_below (length (prefix ++ rest)) 4 whole, take_at prefix rest 4 four, drop_at prefix rest 4 four, sym is) refl

sized_zero : (rest : List ℕ) → sized_entry_at 0 rest ≡ Err (Change change_error.Short)
sized_zero rest = refl

sized_limit : (n : ℕ) (rest : List ℕ) → 4194304 < n → sized_entry_at n rest ≡ Err (Change change_error.Limit)
sized_limit n rest h = rw (not_zero n (omega arith), below 4194304 n h) refl

sized_whole : (n : ℕ) (body more : List ℕ) → 0 < n → n ≤ 4194304 → length body ≡ n → sized_entry_at n (body ++ more) ≡ with_rest (change_at body) more
sized_whole n body more some few is =
    let whole : n ≤ length (body ++ more) = let e = length-append body more in omega arith in
    rw (not_zero n some, not_below 4194304 n few, not_below (length (body ++ more)) n whole, take_at body more n is, drop_at body more n is) refl

-- ---- by the known bytes of a reader, before and after what was read

pub bad_short : (before after : Option (List ℕ)) (prefix : List ℕ) → Consumes before after prefix → IsAtEnd after → 0 < length prefix → length prefix < 4 → StartsBadly before (Change change_error.Short)
bad_short None after prefix took end some few = tt
bad_short (Some b) None prefix took end some few = absurd took
bad_short (Some b) (Some x) prefix took end some few =
    let all : b ≡ prefix = took ∙ ap (λ l. prefix ++ l) end ∙ append-nil prefix in
    subst (λ l. (0 < length l) × (logged_change_at l ≡ Err (Change change_error.Short))) (sym all) (some, entry_short prefix few)

-- a length was read, and what is after it is refused
pub bad_sized : (before after : Option (List ℕ)) (prefix : List ℕ) (n : ℕ) (f : ShowFault) → Consumes before after prefix → length prefix ≡ 4 → n ≡ from_be_bytes w32 prefix
    → IfSome after (λ rest. sized_entry_at n rest ≡ Err f) → StartsBadly before f
bad_sized None after prefix n f took four is bad = tt
bad_sized (Some b) None prefix n f took four is bad = absurd took
bad_sized (Some b) (Some rest) prefix n f took four is bad =
    let some : 0 < length (prefix ++ rest) = let e = length-append prefix rest in omega arith in
    subst (λ l. (0 < length l) × (logged_change_at l ≡ Err f)) (sym took) (some, entry_sized prefix rest n four is ∙ bad)

every : (known : Option (List ℕ)) (P : List ℕ → Type 0) → ((b : List ℕ) → P b) → IfSome known P
every None P h = tt
every (Some b) P h = h b

pub bad_zero : (after : Option (List ℕ)) → IfSome after (λ rest. sized_entry_at 0 rest ≡ Err (Change change_error.Short))
bad_zero after = every after (λ rest. sized_entry_at 0 rest ≡ Err (Change change_error.Short)) sized_zero

pub bad_limit : (after : Option (List ℕ)) (n : ℕ) → 4194304 < n → IfSome after (λ rest. sized_entry_at n rest ≡ Err (Change change_error.Limit))
bad_limit after n h = every after (λ rest. sized_entry_at n rest ≡ Err (Change change_error.Limit)) (λ rest. sized_limit n rest h)

-- a change at the start of the bytes is read, whatever follows
pub entry_again : (c : ChangeParts) (more : List ℕ) → IsChange c → logged_change_at (framed_change c ++ more) ≡ Ok (c, more)
entry_again c more is =
    let bounds = spelling_bounds c is in
    let number : length (spelling c) ≡ from_be_bytes w32 (to_be_bytes w32 (length (spelling c))) = sym (from_be_bytes-to_be_bytes_4 (length (spelling c)) (omega arith)) in
    ap logged_change_at (append_assoc (to_be_bytes w32 (length (spelling c))) (spelling c) more)
    ∙ entry_sized (to_be_bytes w32 (length (spelling c))) (spelling c ++ more) (length (spelling c)) refl number
    ∙ sized_whole (length (spelling c)) (spelling c) more (omega arith) (omega arith) refl
    ∙ ap (λ r. with_rest r more) (change_again c is)

-- a length whose test for 0 failed
pub some_by_test : (m n : ℕ) → false ≡ eqb m 0 → m ≡ n → 0 < n
some_by_test m n e same = grind (arith, nat_tests)

-- a fault after the length, where the length was read before it
pub bad_after : (before between : Option (List ℕ)) (n : ℕ) (f : ShowFault) → ReadsLength before between n → IfSome between (λ rest. sized_entry_at n rest ≡ Err f) → StartsBadly before f
bad_after before between n f read bad =
    bad_sized before between (to_be_bytes w32 n) n f read.bytes refl (let few = read.few in sym (from_be_bytes-to_be_bytes_4 n (omega arith))) bad
