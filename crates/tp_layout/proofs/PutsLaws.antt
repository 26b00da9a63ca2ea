-- Bytes put one after another.
use Rattle.std.proofs.Common.{◌≡◌, subst, ℕ, List, ◌++◌, append_assoc, Result, Ok, Err, OnOk}
use Rattle.tp_layout.specs.Puts.{Puts}

-- what was put before, and what after it
pub Puts-then : {S : Type 0} (holds : S → List ℕ → Type 0) (a b c : S) (x y : List ℕ) → Puts holds a b x → Puts holds b c y → Puts holds a c (x ++ y)
Puts-then holds a b c x y p q =
    record { after = λ m h. let two : holds c ((m ++ x) ++ y) = q.after (m ++ x) (p.after m h) in rw append_assoc at two }

-- what was put before, and what the last call put where it went well
pub OnOk-then : {S E : Type 0} (holds : S → List ℕ → Type 0) (a b c : S) (x y : List ℕ) (r : Result (Unit {0}) E) → Puts holds a b x → OnOk r (Puts holds b c y) → OnOk r (Puts holds a c (x ++ y))
OnOk-then holds a b c x y (Ok _) p q = Puts-then holds a b c x y p q
OnOk-then holds a b c x y (Err _) p q = tt

-- what the last call put, by bytes that are equal to these
pub OnOk-as : {S E : Type 0} (holds : S → List ℕ → Type 0) (a b : S) (x y : List ℕ) (r : Result (Unit {0}) E) → x ≡ y → OnOk r (Puts holds a b x) → OnOk r (Puts holds a b y)
OnOk-as holds a b x y r e p = subst (λ bytes. OnOk r (Puts holds a b bytes)) e p
