-- A host's name and port, cut at the colon between.
use Rattle.std.proofs.Common.{◌≡◌, ◌∙◌, ℕ, zero, suc, Bool, true, false, [], ◌∷◌, ◌++◌, length, arith, ap, refl, subst, sym, codes, append_assoc, length-append}
use Rattle.std.specs.Prelude.{◌&&◌, ◌==◌}
use Rattle.std.specs.List.{after_first, before_first, list_all, position_or_len}
use Rattle.std.proofs.lemmas.List.{take_all}
use Rattle.clap.proofs.CutLemmas.{Lacks, after_first-at, before_first-at}
use Rattle.clap.specs.Words.{Text}
use Rattle.tp_command_line.specs.Values.{IsHostText, IsPort, is_of_host}

and_both : (a b : Bool) → (a && b) ≡ true → (a ≡ true) × (b ≡ true)
and_both true true e = (refl, refl)
and_both true false e = absurd (cc)
and_both false b e = absurd (cc)

-- no byte of a host's name is a colon
all_lack : (name : Text) → list_all is_of_host name ≡ true → Lacks 58 name
all_lack [] all i below = absurd (omega arith)
all_lack (x ∷ xs) all zero below = λ colon. let bad : is_of_host 58 ≡ true = subst (λ (b : ℕ). is_of_host b ≡ true) colon (and_both _ _ all).0 in absurd (cc)
all_lack (x ∷ xs) all (suc i) below = all_lack xs (and_both _ _ all).1 i (omega arith)

module _ (text name : Text) (port : ℕ) (is : IsHostText text name port) where
  lacks : Lacks 58 name
  lacks = all_lack name (and_both _ _ is.named).0

  cut : text ≡ name ++ 58 ∷ is.port_text
  cut = is.spelled ∙ append_assoc name (codes ":") is.port_text

  -- what is before the first colon is the name
  pub name_before : before_first (λ b. b == 58) text ≡ name
  name_before = ap (before_first (λ b. b == 58)) cut ∙ before_first-at 58 name is.port_text lacks

  -- and what is after it is the port
  pub port_after : IsPort (after_first (λ b. b == 58) text) port
  port_after = subst (λ (t : Text). IsPort t port) (sym (ap (after_first (λ b. b == 58)) cut ∙ after_first-at 58 name is.port_text lacks)) is.port_is

  -- so there is a colon
  pub has_colon : position_or_len (λ b. b == 58) text ≡ length text → ⊥
  has_colon none =
      let whole : before_first (λ b. b == 58) text ≡ text = take_all (position_or_len (λ b. b == 58) text) text (omega (arith, none)) in
      let same : length text ≡ length name = ap length (sym whole ∙ name_before) in
      let long : length text ≡ length (name ++ 58 ∷ is.port_text) = ap length cut in
      absurd (omega (arith, length-append name (58 ∷ is.port_text)))
