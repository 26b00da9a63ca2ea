-- Which change an actor made on some heads, change by change.
use Rattle.std.specs.Prelude.{◌≡◌, ◌↔◌, Bool, IsTrue, List, [], ◌∷◌, ◌++◌, true, false, Option, Some, None}
use Rattle.std.proofs.Common.{inl, inr, refl, subst, sym, ◌∙◌}
use Rattle.tp_change.specs.ChangeHash.{hash_of}
use Rattle.tp_layout.specs.declared.parts.ChangeParts.{ChangeParts}
use Rattle.tp_list.proofs.Members.{In-last, In-left, In-push}
use Rattle.tp_opid.proofs.Orders.{same_actor-apart, same_actor-same}
use Rattle.tp_opid.specs.Same.{same_actor}
use Rattle.tp_opid.specs.declared.actor.Actor.{Actor}
use Rattle.tp_opid.specs.declared.hash.Hash.{Hash}
use Rattle.tp_window.specs.Windows.{IsMadeOn, MadeOn}

-- two tests tell it
pub made_test : (who : Actor) (H : List Hash) (c : ChangeParts) (t : Bool) → same_actor c.actor who ≡ true → (IsTrue t ↔ (c.deps ≡ H)) → IsTrue t ↔ IsMadeOn who H c
made_test who H c t same on =
    (λ is. record { actor = same_actor-same c.actor who same; deps = on.0 is }, λ made. on.1 made.deps)

pub made_otherwise : (who : Actor) (H : List Hash) (c : ChangeParts) (t : Bool) → t ≡ same_actor c.actor who → t ≡ false → IsTrue t ↔ IsMadeOn who H c
made_otherwise who H c t is fails =
    (λ yes. let wrong : false ≡ true = subst IsTrue fails yes in absurd (cc), λ made. absurd (same_actor-apart c.actor who (sym is ∙ fails) made.actor))

-- the change that comes next is one
pub made_here : (who : Actor) (H : List Hash) (C : List ChangeParts) (c : ChangeParts) → IsMadeOn who H c → MadeOn who H (C ++ c ∷ []) (Some (hash_of c))
made_here who H C c is = (c, In-last c C, is, refl)

-- or it isn't
pub made_before : (who : Actor) (H : List Hash) (C : List ChangeParts) (c : ChangeParts) (made : Option Hash) → (IsMadeOn who H c → ⊥) → MadeOn who H C made → MadeOn who H (C ++ c ∷ []) made
made_before who H C c None other none = λ d i is. elim (In-push d C c i) [ inl old ↦ none d old is | inr new ↦ other (subst (IsMadeOn who H) new is) ]
made_before who H C c (Some h) other some = (some.0, In-left some.0 C (c ∷ []) some.1, some.2, some.3)
