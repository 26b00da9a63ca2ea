-- Heads that are searched by halves, and what is printed of the graph of changes.
use Rattle.std.proofs.Common.{◌≡◌, ◌∙◌, ℕ, ◌+◌, ◌<◌, List, [], ◌∷◌, ◌++◌, length, get_or, Result, Ok, Err, zero, suc, ap, sym, codes, append_assoc, add-one, ⊎_elim, arith}
use Rattle.std.specs.List.Sorted.{IsBinarySearchResult, IsSearchInRange, IsSortedBy}
use Rattle.std.specs.Ordering.{is_eq, is_lt, ordering_reverse}
use Rattle.std.specs.declared.cmp.Ordering.TheVariants.{Less}
use Rattle.std.specs.Prelude.{is_ok}
use Rattle.std.proofs.lemmas.Bool.{cases_lt}
use Rattle.std.proofs.lemmas.List.Folds.{list_any_at, list_any_none}
use Rattle.std.proofs.lemmas.List.Sorted.{searchable_from_sorted}
use Rattle.tp_list.specs.Rising.{IsRising}
use Rattle.tp_opid.specs.declared.hash.Hash.{Hash}
use Rattle.tp_opid.specs.Order.{hash_cmp}
use Rattle.tp_opid.specs.Same.{same_hash}
use Rattle.tp_opid.proofs.Orders.{hash_total}
use Rattle.tp_history.specs.Named.{among}

-- each hash is below the next
next_above : (hs : List Hash) (k : ℕ) (d : Hash) → IsRising hash_cmp hs → k + 1 < length hs → hash_cmp (get_or hs k d) (get_or hs (suc k) d) ≡ Less
next_above [] k d rises lt = absurd (omega arith)
next_above (x ∷ []) k d rises lt = absurd (omega arith)
next_above (x ∷ y ∷ hs) zero d rises lt = rises.0.0
next_above (x ∷ y ∷ hs) (suc k) d rises lt = next_above (y ∷ hs) k d rises.1 (omega arith)

-- so they are sorted, as a search by halves wants them
sorted : (hs : List Hash) → IsRising hash_cmp hs → IsSortedBy (λ a b. is_lt (hash_cmp a b)) hs
sorted hs rises k d low lt =
    rw (add-one k) (ap is_lt (hash_total.antisymm (get_or hs (suc k) d) (get_or hs k d) ∙ ap ordering_reverse (next_above hs k d rises lt)))

-- the search finds just the hashes that are among them
pub found_among : (hs : List Hash) (h : Hash) (r : Result ℕ ℕ) → IsRising hash_cmp hs → IsSearchInRange r (length hs)
    → IsBinarySearchResult (λ y. hash_cmp y h) hs r → is_ok r ≡ among hs h
unfolding same_hash
found_among hs h (Ok i) rises lt equal = sym (list_any_at (λ g. same_hash g h) hs i h lt (ap is_eq (equal h)))
found_among hs h (Err i) rises le parted =
    let around = parted (searchable_from_sorted hash_total (λ x. x) hs h (sorted hs rises)) in
    sym (list_any_none (λ g. same_hash g h) hs (λ k d lt. ⊎_elim (λ below. ap is_eq (around.0 k d (omega arith) below)) (λ above. ap is_eq (around.1 k d above lt)) (cases_lt k i)))

regrouped : (a b c d e f : List ℕ) → a ++ (b ++ (c ++ (d ++ (e ++ f)))) ≡ a ++ b ++ c ++ d ++ e ++ f
regrouped a b c d e f = simp append_assoc

-- the line of a node, as it is printed one part after another
pub node_joined : (text n l b n' l' b' : List ℕ)
    → text ≡ codes "  " ++ (n ++ (codes " [label=\"" ++ (l ++ (codes "\"" ++ (b ++ codes "];\n")))))
    → n ≡ n' → l ≡ l' → b ≡ b'
    → text ≡ codes "  " ++ n' ++ codes " [label=\"" ++ l' ++ codes "\"" ++ b' ++ codes "];\n"
node_joined text n l b n' l' b' spelled names labels borders =
    rw (← names, ← labels, ← borders) (spelled ∙ ap (λ bs. codes "  " ++ bs) (regrouped n (codes " [label=\"") l (codes "\"") b (codes "];\n")))
