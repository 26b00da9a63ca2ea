-- The room for a change stays where growths are made for another one.
use Rattle.tp_ancestry.proofs.Common.{◌≡◌, ◌⊎◌, inl, inr, ℕ, List, length, Option, Some, None, sym, ap, ◌∙◌, subst, Hash, ChangeParts, IsNotedAt}
use Rattle.tp_ancestry.specs.declared.ancestry.Ancestry.TheInside.{Inside}
use Rattle.tp_ancestry.specs.Kept.{IsReserved, IsReservedIf}
use Rattle.tp_ancestry.specs.Lists.{HasRoom, HasSameItems}

-- the room that was made for a change with the hash
pub room_of : (g : Inside) (o : Option Hash) (h : Hash) → o ≡ Some h → IsReservedIf o g → IsReserved h g
room_of g o h e k = subst (λ p. IsReservedIf p g) e k

pub room_stays : (a b : Inside) (o : Option Hash) → HasSameItems a.lists b.lists → (HasRoom a.lists → HasRoom b.lists) → b.index ≡ a.index
    → (b.by_actor.listed ≡ a.by_actor.listed) ⊎ (b.by_actor.listed ≡ length a.lists.changes.items) → IsReservedIf o a → IsReservedIf o b
room_stays a b None same room notes listed k = tt
room_stays a b (Some h) same room notes listed k = record {
  noted = subst (λ (n : ℕ). IsNotedAt b.index h n) (ap (λ (C : List ChangeParts). length C) (sym same.changes)) (subst (λ n. IsNotedAt n h (length a.lists.changes.items)) (sym notes) k.noted);
  listed = counted listed ∙ ap (λ (C : List ChangeParts). length C) (sym same.changes);
  lists = room k.lists;
} where
  counted : (b.by_actor.listed ≡ a.by_actor.listed) ⊎ (b.by_actor.listed ≡ length a.lists.changes.items) → b.by_actor.listed ≡ length a.lists.changes.items
  counted (inl e) = e ∙ k.listed
  counted (inr e) = e
