-- Laws of what dependencies say of a change.
use Rattle.tp_ancestry.proofs.Common.{MatchOption, ◌≡◌, ◌∙◌, ℕ, ◌+◌, ◌<◌, List, length, get_or, take, Option, Some, None, false, arith, sym, ap, subst, drop_all, take_all, Hash, ChangeParts, has_all, heads, place_from, Sound, VersionVector, IsKnown, HasJoined, IsBehind, IsJoined}
use Rattle.tp_ancestry.specs.declared.deps.Behind.{Behind}
use Rattle.tp_ancestry.proofs.EndLaws.{latest_end-past, end-last}
use Rattle.tp_ancestry.proofs.VectorLaws.{IsVectorOf-known}

-- the step over one of the hashes, which a change has
pub IsKnown-joined : (C : List ChangeParts) (H : List Hash) (n : ℕ) (h : Hash) (q : ℕ) (old new : Option VersionVector)
    → Sound C → n < length H → IsKnown C (take n H) old → Some q ≡ place_from 0 C (get_or H n h) → HasJoined C q old new → IsKnown C (take (n + 1) H) new
IsKnown-joined C H n h q o None s small w at j = tt
IsKnown-joined C H n h q None (Some e) s small w at j = absurd j
IsKnown-joined C H n h q (Some e) (Some f) s small w at j = IsVectorOf-known C H n h q e j.own f s small w at j.known j.placed j.held

IsBehind-joined : (C : List ChangeParts) (H : List Hash) (b : Behind) → Sound C → (H ≡ heads C → ⊥) → IsJoined C H (length H) b → IsBehind C H b
IsBehind-joined C H b s other w = record {
  there = sym w.there ∙ ap (has_all C) (drop_all (length H) H (omega arith));
  start = end-last C H (length H) b.start (omega arith) w.some w.start ∙ latest_end-past C H s;
  past = subst (λ l. IsKnown C l b.past) (take_all (length H) H (omega arith)) w.past;
  heads = λ e. absurd (other e);
}

-- what is known once all hashes are joined
pub after-joined : (C : List ChangeParts) (H : List Hash) → Sound C → (H ≡ heads C → ⊥) → (o : Option Behind)
    → MatchOption o (has_all C H ≡ false) (IsJoined C H (length H)) → MatchOption o (has_all C H ≡ false) (IsBehind C H)
after-joined C H s other None missing = missing
after-joined C H s other (Some b) w = IsBehind-joined C H b s other w
