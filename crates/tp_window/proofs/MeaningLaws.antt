-- A number means the heads of its answer.
use Rattle.std.proofs.Common.{arith, inl, inr, refl, sym, ap, subst, ◌≡◌, ◌⊎◌, ◌∙◌, ℕ, ◌/◌, ◌%◌, List, [], ◌∷◌, Option, Some, None, String}
use Rattle.std.specs.Prelude.{◌↔◌, Vec}
use Rattle.std.specs.List.{AllZip}
use Rattle.std.specs.String.{string_bytes}
use Rattle.std.specs.declared.alloc.Global.{Global}
use Rattle.tp_layout.specs.declared.parts.ChangeParts.{ChangeParts}
use Rattle.tp_opid.specs.HexText.{IsHexOf}
use Rattle.tp_opid.specs.declared.hash.Hash.{Hash}
use Rattle.tp_peer.specs.PeerState.{PeerState}
use Rattle.tp_window.specs.Numbers.{HadHeads}
use Rattle.tp_window.specs.Outcomes.{IsNewsSince, IsTypedEdit}
use Rattle.tp_window.specs.Requests.{MayEditAs, SpellHashes, MeansHeads, by_number, by_texts}
use Rattle.tp_window.specs.declared.memory.Memory.{Memory}
use Rattle.tp_window.specs.declared.news.News.{News}
use Rattle.tp_window.specs.declared.request.TypedSplice.{TypedSplice}
use Rattle.tp_window.specs.declared.window.Edited.{Edited}
use Rattle.tp_window.specs.declared.window.Window.{Window}
use Rattle.tp_window.proofs.NumberLaws.{one_heads}

-- digits spell one list of bytes
one_spelling : (text a b : List ℕ) → IsHexOf text a → IsHexOf text b → a ≡ b
one_spelling [] [] [] h k = refl
one_spelling [] [] (y ∷ b) h k = absurd k
one_spelling [] (x ∷ a) b h k = absurd h
one_spelling (c ∷ []) a b h k = absurd h
one_spelling (c ∷ d ∷ text) [] b h k = absurd h
one_spelling (c ∷ d ∷ text) (x ∷ a) [] h k = absurd k
one_spelling (c ∷ d ∷ text) (x ∷ a) (y ∷ b) h k =
    let high : x / 16 ≡ y / 16 = cc in
    let low : x % 16 ≡ y % 16 = cc in
    let same : x ≡ y = omega arith in
    let rest : a ≡ b = one_spelling text a b h.2 k.2 in
    cc

same_hash : (h k : Hash) → h.0 ≡ k.0 → h ≡ k
same_hash h k e = ap (λ (bytes : List ℕ). let hash : Hash = record { 0 = bytes } in hash) e

-- texts spell one list of hashes
pub one_list : (texts : List (String Global)) (H K : List Hash) → SpellHashes texts H → SpellHashes texts K → H ≡ K
one_list [] [] [] h k = refl
one_list [] [] (y ∷ K) h k = absurd k
one_list [] (x ∷ H) K h k = absurd h
one_list (t ∷ texts) [] K h k = absurd h
one_list (t ∷ texts) (x ∷ H) [] h k = absurd k
one_list (t ∷ texts) (x ∷ H) (y ∷ K) h k =
    let here : x ≡ y = same_hash x y (one_spelling (string_bytes t) x.0 y.0 h.0 k.0) in
    let rest : H ≡ K = one_list texts H K h.1 k.1 in
    cc

module _ (memory : Memory) (number : ℕ) (H : List Hash) (texts : Vec (String Global) Global) (has : HadHeads memory number H) (spelled : SpellHashes texts.items H) where
  to_texts : (K : List Hash) → MeansHeads memory None (Some number) K → MeansHeads memory (Some texts) None K
  to_texts K here = subst (λ (L : List Hash). SpellHashes texts.items L) (one_heads memory number H K has here) spelled

  to_number : (K : List Hash) → MeansHeads memory (Some texts) None K → MeansHeads memory None (Some number) K
  to_number K here = subst (λ (L : List Hash). HadHeads memory number L) (one_list texts.items H K spelled here) has

  pub news_alike : (C : List ChangeParts) (news : News) → IsNewsSince memory None (Some number) C news ↔ IsNewsSince memory (Some texts) None C news
  news_alike C news =
      (λ is. record { hashes = is.hashes; means = to_texts is.hashes is.means; is = is.is }, λ is. record { hashes = is.hashes; means = to_number is.hashes is.means; is = is.is })

module _ (window : Window) (number : ℕ) (H : List Hash) (texts : Vec (String Global) Global) (splices : Vec TypedSplice Global)
    (has : HadHeads window.memory number H) (spelled : SpellHashes texts.items H) where
  pub edits_alike : (time : ℕ) (p p' : PeerState) → MayEditAs window (by_number number splices) time p p' ↔ MayEditAs window (by_texts texts splices) time p p'
  edits_alike time p p' = (
    λ may. elim may [ inl same ↦ inl same | inr did ↦ inr (did.0, (did.1.0, did.1.1, to_texts window.memory number H texts has spelled did.1.0 did.1.2, did.1.3, did.1.4)) ],
    λ may. elim may [ inl same ↦ inl same | inr did ↦ inr (did.0, (did.1.0, did.1.1, to_number window.memory number H texts has spelled did.1.0 did.1.2, did.1.3, did.1.4)) ],
  )

  pub edited_alike : (time : ℕ) (p p' : PeerState) (edited : Edited) → IsTypedEdit window (by_number number splices) time p p' edited ↔ IsTypedEdit window (by_texts texts splices) time p p' edited
  edited_alike time p p' edited = (
    λ is. record { hashes = is.hashes; splices = is.splices; means = to_texts window.memory number H texts has spelled is.hashes is.means; typed_as = is.typed_as; steps = is.steps; page = is.page },
    λ is. record { hashes = is.hashes; splices = is.splices; means = to_number window.memory number H texts has spelled is.hashes is.means; typed_as = is.typed_as; steps = is.steps; page = is.page },
  )
