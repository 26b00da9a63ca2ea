-- What a change inserts and deletes, and its message, as they are counted and printed.
use Rattle.std.proofs.Common.{◌≡◌, ◌∙◌, ◌==◌, ◌||◌, ◌⊎◌, inl, inr, cond, ℕ, zero, suc, ◌+◌, List, [], ◌∷◌, ◌++◌, length, Bool, true, false, refl, ap, sym, subst, codes, append_assoc, length-append, eq-eqb, arith}
use Rattle.std.proofs.lemmas.Bool.{eqb-true}
use Rattle.std.proofs.lemmas.List.Sums.{sum_by-cons}
use Rattle.std.proofs.lemmas.Str.{chars-nil}
use Rattle.std.specs.Char.{is_control}
use Rattle.std.specs.Char.Escape.{backslash, escape_default}
use Rattle.std.specs.Fmt.{decimal}
use Rattle.std.specs.List.{flat_map, sum_by}
use Rattle.std.specs.Prelude.{encode_utf8_all, IfOk, Result, Ok}
use Rattle.std.specs.Str.{chars}
use Rattle.tp_opid.specs.declared.actor.Actor.{Actor}
use Rattle.tp_opid.specs.declared.op_id.OpId.{OpId}
use Rattle.tp_opid.specs.declared.op_id.Place.{Place}
use Rattle.tp_opid.specs.declared.op_id.Place.TheVariants.{After}
use Rattle.tp_change.specs.declared.op.Op.{Op}
use Rattle.tp_change.specs.declared.op.Op.TheVariants as op_of
use Rattle.tp_layout.specs.declared.parts.ChangeParts.{ChangeParts}
use Rattle.tp_layout.specs.declared.record.Record.{Record}
use Rattle.tp_layout.specs.declared.record.Record.TheVariants.{Insert, Delete, DeleteRun}
use Rattle.tp_change.specs.Elements.{deletes_in, inserts_in}
use Rattle.tp_change.specs.Operations.{id_of, op_count, deletes_from, ops_from, ops_of, run}
use Rattle.tp_change.proofs.ElementLaws.{deletes_in-append}
use Rattle.tp_change.proofs.OpsLaws.{length-ops_of}
use Rattle.tp_commands.specs.Log.{delete_count, deleted_count, escaped_char, inserted_count, message_part}

-- each operation inserts or deletes
inserts-and-deletes : (ops : List Op) → length (inserts_in ops) + length (deletes_in ops) ≡ length ops
inserts-and-deletes [] = refl
inserts-and-deletes (op_of.Insert id after ch ∷ ops) =
    let e : length (inserts_in ops) + length (deletes_in ops) ≡ length ops = inserts-and-deletes ops in omega arith
inserts-and-deletes (op_of.Delete id target ∷ ops) =
    let e : length (inserts_in ops) + length (deletes_in ops) ≡ length ops = inserts-and-deletes ops in omega arith

-- a change has as many operations as it inserts and deletes
pub counts_are : (c : ChangeParts) → inserted_count c + deleted_count c ≡ op_count c
counts_are c = inserts-and-deletes (ops_of c) ∙ length-ops_of c

-- a run deletes nothing
deletes_in-run : (a : Actor) (n : ℕ) (after : Place) (text : List ℕ) → deletes_in (run a n after text) ≡ []
deletes_in-run a n after [] = refl
deletes_in-run a n after (ch ∷ text) = deletes_in-run a (n + 1) (After (id_of a n)) text

-- a run of deletes has its count of them
length-deletes_from : (a : Actor) (n : ℕ) (target : OpId) (count : ℕ) → length (deletes_in (deletes_from a n target count)) ≡ count
length-deletes_from a n target zero = refl
length-deletes_from a n target (suc count) = ap suc (length-deletes_from a (n + 1) (id_of target.actor (target.counter + 1)) count)

-- the deletes of records are counted record by record
length-deletes_in : (a : Actor) (n : ℕ) (rs : List Record) → length (deletes_in (ops_from a n rs)) ≡ sum_by delete_count rs
length-deletes_in a n [] = refl
length-deletes_in a n (Insert after text ∷ rs) =
    let rest = ops_from a (n + length text) rs in
    let e : length (deletes_in rest) ≡ sum_by delete_count rs = length-deletes_in a (n + length text) rs in
    let f : length (deletes_in (run a n after text ++ rest)) ≡ length (deletes_in rest) =
    ap length (deletes_in-append (run a n after text) rest) ∙ ap (λ l. length (l ++ deletes_in rest)) (deletes_in-run a n after text) in
    let g : sum_by delete_count (Insert after text ∷ rs) ≡ 0 + sum_by delete_count rs = sum_by-cons delete_count (Insert after text) rs in
    omega arith
length-deletes_in a n (Delete target ∷ rs) =
    let e : length (deletes_in (ops_from a (n + 1) rs)) ≡ sum_by delete_count rs = length-deletes_in a (n + 1) rs in
    let g : sum_by delete_count (Delete target ∷ rs) ≡ 1 + sum_by delete_count rs = sum_by-cons delete_count (Delete target) rs in
    omega arith
length-deletes_in a n (DeleteRun first count ∷ rs) =
    let rest = ops_from a (n + count) rs in
    let e : length (deletes_in rest) ≡ sum_by delete_count rs = length-deletes_in a (n + count) rs in
    let f : length (deletes_in (deletes_from a n first count ++ rest)) ≡ count + length (deletes_in rest) =
    ap length (deletes_in-append (deletes_from a n first count) rest) ∙ length-append (deletes_in (deletes_from a n first count)) (deletes_in rest)
    ∙ ap (λ k. k + length (deletes_in rest)) (length-deletes_from a n first count) in
    let g : sum_by delete_count (DeleteRun first count ∷ rs) ≡ count + sum_by delete_count rs = sum_by-cons delete_count (DeleteRun first count) rs in
    omega arith

-- so those of a change are
pub deleted_is : (c : ChangeParts) → deleted_count c ≡ sum_by delete_count c.records
unfolding ops_of
deleted_is c = length-deletes_in c.actor c.start c.records

-- what a call gave that answered Ok
pub given : {A E : Type 0} (r : Result A E) (x : A) (P : A → Type 0) → r ≡ Ok x → IfOk r P → P x
given {A} {E} r x P is h = subst (λ (s : Result A E). IfOk s P) is h

-- the fields, as they are printed one after another
pub joined : (text h a : List ℕ) (s t i d : ℕ) (h' a' : List ℕ) (s' t' i' d' : ℕ)
    → text ≡ h ++ (codes " " ++ (a ++ (codes " " ++ (decimal s ++ (codes " " ++ (decimal t ++ (codes " +" ++ (decimal i ++ (codes " -" ++ decimal d)))))))))
    → h ≡ h' → a ≡ a' → s ≡ s' → t ≡ t' → i ≡ i' → d ≡ d'
    → text ≡ h' ++ codes " " ++ a' ++ codes " " ++ decimal s' ++ codes " " ++ decimal t' ++ codes " +" ++ decimal i' ++ codes " -" ++ decimal d'
joined text h a s t i d h' a' s' t' i' d' spelled hs actors ss ts is ds =
    rw (← hs, ← actors, ← ss, ← ts, ← is, ← ds) (spelled ∙ simp append_assoc)

-- a control character and the backslash are escaped
pub is_escaped : (ch : ℕ) (control : Bool) → control ≡ is_control ch → (control ≡ true) ⊎ ((control ≡ false) × (ch ≡ 92)) → encode_utf8_all (escape_default ch) ≡ escaped_char ch
is_escaped ch control is (inl control_is) =
    sym (ap (λ t. encode_utf8_all (cond (t || ch == backslash) (escape_default ch) (ch ∷ []))) (sym is ∙ control_is))
is_escaped ch control is (inr other) =
    sym (ap (λ t. encode_utf8_all (cond (t || ch == backslash) (escape_default ch) (ch ∷ []))) (sym is ∙ other.0)
    ∙ ap (λ t. encode_utf8_all (cond t (escape_default ch) (ch ∷ []))) (eq-eqb ch 92 other.1))

-- nothing is printed of an empty message
pub message_none : (bs : List ℕ) → (length bs == 0) ≡ true → message_part (chars bs) ≡ []
message_none [] none = ap message_part chars-nil
message_none (b ∷ bs) none = absurd (omega (arith, eqb-true (length (b ∷ bs)) 0 none))

-- what is printed of a message that isn't empty
pub message_given : (cs bs : List ℕ) → encode_utf8_all cs ≡ bs → (length bs == 0) ≡ false → message_part cs ≡ codes " " ++ flat_map escaped_char cs
message_given [] bs spelled some = absurd (let no : (length (encode_utf8_all []) == 0) ≡ false = subst (λ (b : List ℕ). (length b == 0) ≡ false) (sym spelled) some in cc)
message_given (ch ∷ rest) bs spelled some = refl
