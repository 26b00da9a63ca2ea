-- Limits of what a message carries.
use Rattle.tp_sync.proofs.Common.{◌≡◌, ℕ, ◌+◌, List, [], ◌∷◌, ◌++◌, length, false, nat_le, inl, inr, sym, ap, ◌∙◌, arith, nat_tests, neither_left, neither_right, truth, ChangeParts, spelling, MAX_CHANGES, SyncParts, begins_at, message_changes, due_from, take_due, FULL_BYTES, is_message_full}
use Rattle.tp_sync.specs.Room.{TakesAnotherChange, size_of}
use Rattle.tp_sync.proofs.TakeLaws.{take_due-laden, take_due-on}

not_laden : (count bytes : ℕ) → is_message_full count bytes ≡ false → TakesAnotherChange count bytes
not_laden count bytes e =
    let f : nat_le MAX_CHANGES count ≡ false = neither_left (nat_le MAX_CHANGES count) (nat_le FULL_BYTES bytes) e in
    let g : nat_le FULL_BYTES bytes ≡ false = neither_right (nat_le MAX_CHANGES count) (nat_le FULL_BYTES bytes) e in
    record { changes = grind (arith, nat_tests); bytes = grind (arith, nat_tests) }

-- what the first that is taken is, and what is taken after it
record Takes (count bytes : ℕ) (c : ChangeParts) (rest : List ChangeParts) : Type 0 where
  room : TakesAnotherChange count bytes
  left : List ChangeParts
  beyond : rest ≡ take_due (count + 1) (bytes + length (spelling c)) left

takes : (count bytes : ℕ) (D : List ChangeParts) (c : ChangeParts) (rest : List ChangeParts) → take_due count bytes D ≡ c ∷ rest → Takes count bytes c rest
takes count bytes [] c rest e = cc
takes count bytes (d ∷ D) c rest e = elim (truth (is_message_full count bytes)) [
  | inl t ↦ let no : [] ≡ c ∷ rest = sym (take_due-laden count bytes (d ∷ D) t) ∙ e in cc
  | inr f ↦
      let same : d ∷ take_due (count + 1) (bytes + length (spelling d)) D ≡ c ∷ rest = sym (take_due-on count bytes d D f) ∙ e in
      let first : d ≡ c = cc in
      let others : take_due (count + 1) (bytes + length (spelling d)) D ≡ rest = cc in
      record { room = not_laden count bytes f; left = D; beyond = sym others ∙ ap (λ x. take_due (count + 1) (bytes + length (spelling x)) D) first }
]

within : (count bytes : ℕ) (D before : List ChangeParts) (c : ChangeParts) (beyond : List ChangeParts) → take_due count bytes D ≡ before ++ c ∷ beyond → TakesAnotherChange (count + length before) (bytes + size_of before)
within count bytes D [] c beyond e = let w = takes count bytes D c beyond e in record { changes = omega (arith, w.room.changes); bytes = omega (arith, w.room.bytes) }
within count bytes D (b ∷ before) c beyond e =
    let w = takes count bytes D b (before ++ c ∷ beyond) e in
    let rest = within (count + 1) (bytes + length (spelling b)) w.left before c beyond (sym w.beyond) in
    record { changes = omega (arith, rest.changes); bytes = omega (arith, rest.bytes) }

-- each change is taken where there is room after those before it
pub carried_within : (C : List ChangeParts) (s : SyncParts) (before : List ChangeParts) (c : ChangeParts) (beyond : List ChangeParts) → message_changes C s ≡ before ++ c ∷ beyond → TakesAnotherChange (length before) (size_of before)
carried_within C s before c beyond e =
    let w : TakesAnotherChange (0 + length before) (0 + size_of before) = within 0 0 (due_from C s (begins_at C s)) before c beyond e in
    record { changes = omega (arith, w.changes); bytes = omega (arith, w.bytes) }
