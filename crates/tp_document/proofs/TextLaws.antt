-- Laws of the texts of sets and of pasts.
use Rattle.tp_document.proofs.Common.{◌≡◌, ◌↔◌, ℕ, List, ◌++◌, true, refl, sym, ap, ◌∙◌, subst, In, Hash, ChangeParts, hash_of, inserts, deletes, visible_of, chars_of, IsTextOf, has_all, past, Sound, deps_first, sound_pasts, inserts_tree, AllIn, SameMembers, order_exists, order_of_set, shown_of_set, inserts-more, past-heads, Sound-before}
use Rattle.tp_history.specs.Heads as head
use Rattle.tp_history.proofs.SetLaws.{heads_decide}
use Rattle.tp_snapshot.proofs.PastElements.{In-deletes, deletes-In}
use Rattle.tp_snapshot.proofs.ShowingLaws.{one_text}

deletes-more : (C D : List ChangeParts) → AllIn C D → AllIn (deletes C) (deletes D)
deletes-more C D more r i = let w = deletes-In C r i in In-deletes D w.0 r (more w.0 w.1) w.2

text_moves : (C D : List ChangeParts) (t : List ℕ) → SameMembers C D → IsTextOf C t → IsTextOf D t
text_moves C D t same text = record {
  elements = text.elements;
  order = order_of_set (inserts C) (inserts D) text.elements (record { there = inserts-more C D same.there; back = inserts-more D C same.back }) text.order;
  spells =
      text.spells
      ∙ ap chars_of (shown_of_set (deletes C) (deletes D) text.elements (record { there = deletes-more C D same.there; back = deletes-more D C same.back }));
}

pub text_of_a_set : (C D : List ChangeParts) (t : List ℕ) → SameMembers C D → IsTextOf C t ↔ IsTextOf D t
text_of_a_set C D t same = (text_moves C D t same, text_moves D C t (record { there = same.back; back = same.there }))

-- equal lists have one text
same_list : (C D : List ChangeParts) (t : List ℕ) → C ≡ D → IsTextOf C t ↔ IsTextOf D t
same_list C D t e = (subst (λ l. IsTextOf l t) e, subst (λ l. IsTextOf l t) (sym e))

pub text_at_all_heads : (C : List ChangeParts) (t : List ℕ) → Sound C → IsTextOf (past C (head.heads C)) t ↔ IsTextOf C t
text_at_all_heads C t s = same_list (past C (head.heads C)) C t (past-heads C (deps_first C s))

pub equal_heads_equal_texts : (C D : List ChangeParts) (s t : List ℕ) → Sound C → Sound D → ((c d : ChangeParts) → In c C → In d D → hash_of c ≡ hash_of d → c ≡ d)
    → head.heads C ≡ head.heads D → IsTextOf C s → IsTextOf D t → s ≡ t
equal_heads_equal_texts C D s t sound other apart same a b =
    let set : SameMembers C D = record {
      there = heads_decide C D sound other apart same;
      back = heads_decide D C other sound (λ d c i j e. sym (apart c d j i (sym e))) (sym same);
    } in
    one_text D s t other (text_moves C D s set a) b

pub each_past_has_a_text : (C : List ChangeParts) (H : List Hash) → Sound C → (t : List ℕ) × IsTextOf (past C H) t
each_past_has_a_text C H s =
    let P = past C H in
    let found = order_exists (inserts P) (inserts_tree P (sound_pasts C s H)) in
    (chars_of (visible_of (deletes P) found.0), record { elements = found.0; order = found.1; spells = refl })

pub later_changes_leave_the_text_at_heads : (C D : List ChangeParts) (H : List Hash) (t : List ℕ) → has_all C H ≡ true → Sound (C ++ D) → IsTextOf (past (C ++ D) H) t ↔ IsTextOf (past C H) t
later_changes_leave_the_text_at_heads C D H t all s = same_list (past (C ++ D) H) (past C H) t (Sound-before C D H all s)
