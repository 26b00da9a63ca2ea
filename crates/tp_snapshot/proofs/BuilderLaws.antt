-- What a builder of differences takes, step by step.
use Rattle.std.proofs.lemmas.Str.{chars-append}
use Rattle.std.proofs.lemmas.Option.{slice_get-get_or}
use Rattle.std.specs.Str.{IsUtf8}
use Rattle.tp_snapshot.proofs.Common.{◌≡◌, ℕ, zero, suc, ◌+◌, ◌-◌, ◌<◌, ◌≤◌, ◌==◌, take, visible_of, is_removed, List, [], ◌∷◌, ◌++◌, length, drop, Bool, true, false, not, ◌&&◌, cond, Some, sym, ap, ◌∙◌, arith, nat_tests, append-nil, slice_get, option_map, chars, all_scalars, encode_utf8, chars-encodes, OpId, Insert, seen_of, seen_at}
use Rattle.tp_rga.specs.declared.walk.Seen.{Seen}
use Rattle.tp_rga.proofs.Indexing.{left_from}
use Rattle.tp_snapshot.proofs.DifferenceLaws.{difference}
use Rattle.tp_snapshot.specs.declared.differences.Difference.{Difference}
use Rattle.tp_snapshot.specs.declared.views.View.{View}
use Rattle.tp_snapshot.specs.declared.window.Window.{Window}
use Rattle.tp_snapshot.specs.Windows.{TellsOf}
use Rattle.tp_snapshot.specs.Views.{view_test, is_in_view}
use Rattle.tp_snapshot.specs.Differences.{BuilderState, all_differences, count_up_to, difference_if_any, TakesElement}

-- ---- its text

one_char : (ch : ℕ) → all_scalars (ch ∷ []) ≡ true → chars (encode_utf8 ch) ≡ ch ∷ []
one_char ch s = ap chars (sym (append-nil (encode_utf8 ch))) ∙ chars-encodes (ch ∷ []) s

pub chars_pushed : (B N : List ℕ) (ch : ℕ) (b : Bool) → IsUtf8 B → all_scalars (ch ∷ []) ≡ true → N ≡ cond b (B ++ encode_utf8 ch) B → chars N ≡ cond b (chars B ++ ch ∷ []) (chars B)
chars_pushed B N ch true u s e = ap chars e ∙ chars-append B (encode_utf8 ch) u ∙ ap (λ l. chars B ++ l) (one_char ch s)
chars_pushed B N ch false u s e = ap chars e

-- a state of its parts
abbrev pub state : ℕ → ℕ → List ℕ → List Difference → BuilderState
state at del text found = record { at = at; del = del; text = text; found = found }

pub state_same : (at at' del : ℕ) (text text' : List ℕ) (found found' : List Difference) → at ≡ at' → text ≡ text' → found ≡ found' → state at del text found ≡ state at' del text' found'
state_same at at' del text text' found found' a t f = cc

-- where something grows, it becomes a difference
pub grows_into : (at del count : ℕ) (text : List ℕ) → count ≡ length text → (del ≡ 0 → count ≡ 0 → ⊥) → difference_if_any at del text ≡ difference at del text ∷ []
grows_into at del count text c some = ap (λ b. cond b [] (difference at del text ∷ [])) (tests del (length text) (λ d e. some d (c ∙ e))) where
  tests : (m n : ℕ) → (m ≡ 0 → n ≡ 0 → ⊥) → ((m == 0) && (n == 0)) ≡ false
  tests m n h = grind (arith, nat_tests)

-- ---- a walk

view_at : (v : View) (R : List (OpId × OpId)) (L : List Insert) (w : Window) (k : ℕ) (x : Seen) (e : Insert) (b : Bool) → TellsOf v R L w → w.from ≤ k → k < w.to → slice_get L k ≡ Some e → x ≡ seen_of R e → b ≡ view_test v x → is_in_view v R e ≡ b
view_at v R L w k x e b tells from to at is h = sym (h ∙ ap (view_test v) is ∙ tells k e from to at)

-- an element of the window, and those that are left of it
part_next : (L : List Insert) (k to : ℕ) (e : Insert) → k < to → drop k L ≡ e ∷ drop (k + 1) L → take (to - k) (drop k L) ≡ e ∷ take (to - (k + 1)) (drop (k + 1) L)
part_next L k to e lt left =
    let more : to - k ≡ suc (to - (k + 1)) = omega arith in
    ap (take (to - k)) left ∙ ap (λ n. take n (e ∷ drop (k + 1) L)) more

pub builder_next : (v u : View) (R : List (OpId × OpId)) (L : List Insert) (w : Window) (k : ℕ) (x : Seen) (b b' : BuilderState) (shown shows : Bool) → TellsOf v R L w → TellsOf u R L w → w.from ≤ k → k < w.to
    → Some x ≡ option_map (seen_of R) (slice_get L k) → shown ≡ view_test v x → shows ≡ view_test u x → TakesElement b b' shown shows x.ch
    → all_differences (is_in_view v R) (is_in_view u R) b' (take (w.to - (k + 1)) (drop (k + 1) L)) ≡ all_differences (is_in_view v R) (is_in_view u R) b (take (w.to - k) (drop k L))
builder_next v u R L w k x b b' shown shows of on from to h old new takes =
    let p = seen_at R L k x h in
    let e = p.0 in
    let at : slice_get L k ≡ Some e = slice_get-get_or L k e p.1 ∙ ap Some p.2 in
    sym (ap (all_differences (is_in_view v R) (is_in_view u R) b) (part_next L k w.to e to (left_from L k e p.1 p.2))
    ∙ takes (is_in_view v R) (is_in_view u R) e (take (w.to - (k + 1)) (drop (k + 1) L)) (view_at v R L w k x e shown of from to at p.3 old) (view_at u R L w k x e shows on from to at p.3 new) (sym (ap (λ (y : Seen). y.ch) p.3)))

-- of the first n elements at most n are shown
pub shown_few : (R : List (OpId × OpId)) (L : List Insert) (n : ℕ) → length (visible_of R (take n L)) ≤ n
shown_few R [] zero = omega arith
shown_few R [] (suc n) = omega arith
shown_few R (x ∷ L) zero = omega arith
shown_few R (x ∷ L) (suc n) = one (not (is_removed R x.id)) (visible_of R (take n L)) (shown_few R L n) where
  one : (b : Bool) (M : List Insert) → length M ≤ n → length (cond b (x ∷ M) M) ≤ suc n
  one true M le = omega arith
  one false M le = omega arith

-- a builder where no element was taken yet
pub builder_start : (b : BuilderState) (R : List (OpId × OpId)) (L : List Insert) (at from i : ℕ) → b ≡ state at 0 [] [] → at ≡ length (visible_of R (take from L)) → i ≡ from → count_up_to b ≤ i
builder_start b R L at from i is size same =
    let few = shown_few R L from in
    let none : count_up_to b ≡ at + 0 + 0 = ap count_up_to is in
    omega arith
