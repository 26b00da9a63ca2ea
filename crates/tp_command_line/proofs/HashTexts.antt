-- Hashes as text, one after another, and texts that are none.
use Rattle.std.proofs.Common.{◌≡◌, ◌<◌, ◌+◌, ◌∙◌, ℕ, List, [], ◌∷◌, ◌++◌, length, length-append, map, take, get_or, arith, inl, inr, refl, subst, sym, Bool, true, false, codes}
use Rattle.std.proofs.lemmas.List.{get_or-append-add, get_or-map, get_or_append_left, length-map, map_more}
use Rattle.std.proofs.lemmas.Slice.Eq.{bytes_eq-Decides}
use Rattle.std.specs.Borrow.{Bor}
use Rattle.std.specs.Str.{bytes_eq}
use Rattle.std.specs.Prelude.{◌⊎◌, ◌||◌, Any, Result, Ok, Err}
use Rattle.clap.specs.Words.{Row, Text}
use Rattle.tp_opid.specs.HexText.{IsHexOf}
use Rattle.tp_opid.specs.declared.hash.Hash.{Hash}
use Rattle.tp_opid.specs.declared.hex_text.HexError.{HexError}
use Rattle.tp_command_line.specs.LineError.{RefusesValue}
use Rattle.tp_command_line.specs.Values.{AreHexOf, IsNoHash, all_hashes, given_hashes, is_of_hashes}
use Rattle.tp_command_line.specs.declared.error.ValueError.{ValueError}
use Rattle.tp_command_line.specs.declared.error.ValueError.TheVariants.{BadHex, OutOfMemory}

-- the texts behind references
abbrev pub texts_of : List (Bor Text) → List Text
texts_of ts = map (λ (t : Bor Text). t.now) ts

-- one more text, and its hash
AreHexOf-push : (ts : List Text) (hs : List Hash) (t : Text) (h : Hash) → AreHexOf ts hs → IsHexOf t h.0 → AreHexOf (ts ++ t ∷ []) (hs ++ h ∷ [])
AreHexOf-push [] [] t h are is = (is, tt)
AreHexOf-push [] (x ∷ hs) t h are is = absurd are
AreHexOf-push (y ∷ ts) [] t h are is = absurd are
AreHexOf-push (y ∷ ts) (x ∷ hs) t h are is = (are.0, AreHexOf-push ts hs t h are.1 is)

-- one more of the first texts of a list, and its hash
pub AreHexOf-more : (ts : List (Bor Text)) (i : ℕ) (hs new : List Hash) (text : Text) (t : Bor Text) (h : Hash) → i < length ts
    → text ≡ (get_or ts i t).now → AreHexOf (texts_of (take i ts)) hs → IsHexOf text h.0 → new ≡ hs ++ h ∷ [] → AreHexOf (texts_of (take (i + 1) ts)) new
AreHexOf-more ts i hs new text t h lt at are is pushed =
    rw (map_more (λ (x : Bor Text). x.now) ts i t lt, pushed)
    (AreHexOf-push (texts_of (take i ts)) hs (get_or ts i t).now h are (subst (λ (s : Text). IsHexOf s h.0) at is))

-- a text is no hash that is refused where each text of a hash would give it
pub IsNoHash-refused : (text : Text) (r : Result Hash HexError) (e : HexError) → ((x : Hash) → length x.0 ≡ 32 → IsHexOf text x.0 → r ≡ Ok x) → r ≡ Err e
    → IsNoHash text
IsNoHash-refused text r e only is bytes long spelled = let given : r ≡ Ok (record { 0 = bytes }) = only (record { 0 = bytes }) long spelled in cc

-- so one of the texts is none
pub Any-IsNoHash : (ts : List (Bor Text)) (i : ℕ) (text : Text) (t : Bor Text) → i < length ts → text ≡ (get_or ts i t).now → IsNoHash text → Any IsNoHash (texts_of ts)
Any-IsNoHash ts i text t lt at none =
    let now : Bor Text → Text = λ x. x.now in
    let long : i < length (texts_of ts) = omega (arith, length-map ts now) in
    (i, text, long, get_or-map now ts i t text lt ∙ sym at, none)

-- one of a list is one of a longer one
any_left : (P : Text → Type 0) (xs ys : List Text) → Any P xs → Any P (xs ++ ys)
any_left P xs ys any =
    (any.0, any.1, (let l = length-append xs ys in omega (arith, any.2)), get_or_append_left xs ys any.1 any.0 any.2 ∙ any.3, any.4)

any_right : (P : Text → Type 0) (xs ys : List Text) → Any P ys → Any P (xs ++ ys)
any_right P xs ys any =
    (length xs + any.0, any.1, (let l = length-append xs ys in omega (arith, any.2)), get_or-append-add xs ys any.0 any.1 ∙ any.3, any.4)

-- one of the hashes of an argument is one of all
among_all : (id : Text) (rows : List Row) → is_of_hashes id ≡ true → Any IsNoHash (given_hashes id rows) → Any IsNoHash (all_hashes rows)
among_all id rows of any = go (bytes_eq (codes "HASH") id) (bytes_eq (codes "to") id) (bytes_eq (codes "since") id) refl refl refl of
  where
    heads : List Text
    heads = given_hashes (codes "HASH") rows

    later : List Text
    later = given_hashes (codes "to") rows

    earlier : List Text
    earlier = given_hashes (codes "since") rows

    named : (name : Text) → bytes_eq name id ≡ true → Any IsNoHash (given_hashes name rows)
    named name same = subst (λ (x : Text). Any IsNoHash (given_hashes x rows)) (sym ((bytes_eq-Decides name id).0 same)) any

    go : (b d s : Bool) → bytes_eq (codes "HASH") id ≡ b → bytes_eq (codes "to") id ≡ d → bytes_eq (codes "since") id ≡ s → (b || (d || s)) ≡ true → Any IsNoHash (all_hashes rows)
    go true d s first second third either = any_left IsNoHash heads (later ++ earlier) (named (codes "HASH") first)
    go false true s first second third either = any_right IsNoHash heads (later ++ earlier) (any_left IsNoHash later earlier (named (codes "to") second))
    go false false true first second third either = any_right IsNoHash heads (later ++ earlier) (any_right IsNoHash later earlier (named (codes "since") third))
    go false false false first second third either = absurd (cc)

-- why the hashes that an argument was given weren't read
pub unread : (id : Text) (ts : List (Bor Text)) (rows : List Row) (e : ValueError) → is_of_hashes id ≡ true → texts_of ts ≡ given_hashes id rows
    → (e ≡ OutOfMemory) ⊎ ((e ≡ BadHex) × Any IsNoHash (texts_of ts)) → RefusesValue rows e
unread id ts rows e of same (inl memory) = subst (RefusesValue rows) (sym memory) tt
unread id ts rows e of same (inr bad) =
    subst (RefusesValue rows) (sym bad.0) (inl (among_all id rows of (subst (λ (xs : List Text). Any IsNoHash xs) same bad.1)))
