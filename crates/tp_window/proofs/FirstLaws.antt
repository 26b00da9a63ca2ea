-- The heads of the first changes.
use Rattle.std.proofs.Common.{arith, ap, subst, sym, ◌≡◌, ◌∙◌, ℕ, ◌+◌, ◌<◌, ◌≤◌, List, [], ◌∷◌, ◌++◌, length, take, drop, get_or, drop-cons, add-one, take-append-drop, Option, Some, None, String}
use Rattle.std.specs.Prelude.{◌↔◌, Vec}
use Rattle.std.specs.declared.alloc.Global.{Global}
use Rattle.std.proofs.Math.Seq.{take-append_seam}
use Rattle.std.proofs.lemmas.List.{length-append, take_more}
use Rattle.tp_change.specs.ChangeHash.{hash_of}
use Rattle.tp_history.proofs.HeadsLaws.{heads-push}
use Rattle.tp_history.proofs.SoundLaws.{Fits-at, Sound-prefix}
use Rattle.tp_history.specs.Heads.{heads, without}
use Rattle.tp_history.specs.Sound.{Sound}
use Rattle.tp_layout.specs.declared.parts.ChangeParts.{ChangeParts}
use Rattle.tp_list.specs.Rising.{put}
use Rattle.tp_opid.specs.Order.{hash_cmp}
use Rattle.tp_opid.specs.declared.hash.Hash.{Hash}
use Rattle.tp_window.specs.Outcomes.{IsMadeBy}
use Rattle.tp_window.specs.Requests.{AreFirstHeads, SpellHashes}
use Rattle.tp_window.specs.declared.outcome.Resumed.{Resumed}
use Rattle.tp_window.proofs.MeaningLaws.{one_list}

-- the heads of one more of the changes
pub heads_more : (C : List ChangeParts) (i : ℕ) (x : ChangeParts) (H new : List Hash) → Sound C → i < length C → x ≡ get_or C i x
    → H ≡ heads (take i C) → new ≡ put hash_cmp (hash_of x) (without x.deps H) → new ≡ heads (take (i + 1) C)
heads_more C i x H new s lt is at step =
    let split : C ≡ take i C ++ x ∷ drop (i + 1) C =
    sym (take-append-drop i C) ∙ ap (λ l. take i C ++ l) (rw (add-one) (drop-cons C i x lt) ∙ ap (λ (y : ChangeParts). y ∷ drop (i + 1) C) (sym is)) in
    let whole : Sound (take i C ++ x ∷ drop (i + 1) C) = subst Sound split s in
    step
    ∙ ap (λ (K : List Hash). put hash_cmp (hash_of x) (without x.deps K)) at
    ∙ sym (heads-push (take i C) x (Sound-prefix (take i C) (x ∷ drop (i + 1) C) whole) (Fits-at (take i C) x (drop (i + 1) C) whole))
    ∙ ap heads (ap (λ (y : ChangeParts). take i C ++ y ∷ []) is ∙ sym (take_more C i x lt))

-- the first changes fit as all do
pub first_sound : (C D : List ChangeParts) (n : ℕ) → Sound C → D ≡ C → Sound (take n D)
first_sound C D n s is = Sound-prefix (take n D) (drop n D) (subst Sound (sym (take-append-drop n D ∙ is)) s)

-- those of all that there were, whatever entered since
pub first_of_more : (C D : List ChangeParts) → AreFirstHeads (C ++ D) (length C) (heads C)
first_of_more C D = record { there = omega (arith, length-append C D); heads = ap heads (sym (take-append_seam C D)) }

one_first : (C D : List ChangeParts) (H : List Hash) → AreFirstHeads (C ++ D) (length C) H → H ≡ heads C
one_first C D H are = are.heads ∙ ap heads (take-append_seam C D)

pub resumed_alike : (C D : List ChangeParts) (texts : Vec (String Global) Global) → SpellHashes texts.items (heads C)
    → (who : List ℕ) (resumed : Resumed) → IsMadeBy who None (Some (length C)) (C ++ D) resumed ↔ IsMadeBy who (Some texts) None (C ++ D) resumed
resumed_alike C D texts spelled who resumed = (
  λ is. record { who = is.who; spelled = is.spelled; at = subst (λ (H : List Hash). SpellHashes texts.items H) (sym (one_first C D resumed.heads.items is.at)) spelled; is = is.is },
  λ is. record { who = is.who; spelled = is.spelled; at = subst (λ (H : List Hash). AreFirstHeads (C ++ D) (length C) H) (one_list texts.items (heads C) resumed.heads.items spelled is.at) (first_of_more C D); is = is.is },
)
