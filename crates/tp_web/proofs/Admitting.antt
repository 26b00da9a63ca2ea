-- Which claims are let in.
use Rattle.std.proofs.Common.{◌≡◌, ◌∙◌, ℕ, Bool, List, false, true, refl, sym}
use Rattle.std.specs.Prelude.{◌↔◌, IsTrue}

-- one whose code is another one isn't
pub refused : (test : Bool) (said wanted right : List ℕ) → (IsTrue test ↔ (said ≡ wanted)) → wanted ≡ right → test ≡ false
    → (false ≡ true → said ≡ right) × (said ≡ right → false ≡ true)
refused test said wanted right tells is fails = (λ (h : false ≡ true). cc, λ (same : said ≡ right). sym fails ∙ tells.1 (same ∙ sym is))

-- one whose code is the right one is
pub admitted : (test : Bool) (said wanted right : List ℕ) → (IsTrue test ↔ (said ≡ wanted)) → wanted ≡ right → test ≡ true
    → (true ≡ true → said ≡ right) × (said ≡ right → true ≡ true)
admitted test said wanted right tells is holds = (λ (h : true ≡ true). tells.0 holds ∙ is, λ (same : said ≡ right). refl)
