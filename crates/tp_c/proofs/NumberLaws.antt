-- Numbers of differences, written one after another; how much a change inserts; and hashes, read one after another.
use Rattle.std.proofs.Common.{◌≡◌, ℕ, ◌+◌, ◌<◌, ◌≤◌, min, List, [], ◌∷◌, ◌++◌, length, map, get_or, set, take, drop, sym, ap, ◌∙◌, arith, append_assoc, take-append-drop}
use Rattle.std.proofs.lemmas.List.{drop_min, drop_more, flat_map_more, length-map, length-take, map_more, set_at, take_min}
use Rattle.tp_layout.specs.Counts.{count_of}
use Rattle.tp_change.specs.Operations.{op_count}
use Rattle.tp_layout.specs.declared.parts.ChangeParts.{ChangeParts}
use Rattle.tp_layout.specs.declared.record.Record.{Record}
use Rattle.tp_layout.specs.declared.record.Record.TheVariants as record_of
use Rattle.tp_opid.specs.declared.hash.Hash.{Hash}
use Rattle.tp_snapshot.specs.declared.differences.Difference.{Difference}
use Rattle.tp_c.specs.Changes.{inserted_in}
use Rattle.tp_c.specs.Earlier.{numbers_of_difference, text_bytes, with_numbers}
use Rattle.tp_c.specs.Heads.{hash_bytes}
use Rattle.tp_c.specs.declared.splices.FlatSplice.{FlatSplice}

-- the first n places are written
abbrev pub with_first : List Difference → List FlatSplice → ℕ → List FlatSplice
with_first ds places n = map numbers_of_difference (take n ds) ++ drop n places

-- one more
pub first_more : (ds : List Difference) (places : List FlatSplice) (i : ℕ) (x : Difference) (n : ℕ) → i < length ds → i < length places → x ≡ get_or ds i x → n ≡ length (text_bytes x)
    → set (with_first ds places i) i (record { at = x.at; del = x.del; len = n }) ≡ with_first ds places (i + 1)
first_more ds places i x n lt room is len =
    let front : List FlatSplice = map numbers_of_difference (take i ds) in
    let rest : List FlatSplice = drop (i + 1) places in
    let v : FlatSplice = numbers_of_difference (get_or ds i x) in
    let long : length front ≡ i = length-map (take i ds) numbers_of_difference ∙ omega (arith, length-take i ds) in
    ap (λ (m : ℕ). set (with_first ds places i) i (record { at = x.at; del = x.del; len = m })) len
    ∙ ap (λ (y : Difference). set (with_first ds places i) i (numbers_of_difference y)) is
    ∙ ap (λ (l : List FlatSplice). set (front ++ l) i v) (drop_more places i v room)
    ∙ set_at front _ _ v i long
    ∙ sym (append_assoc front (v ∷ []) rest)
    ∙ ap (λ (l : List FlatSplice). l ++ rest) (sym (map_more numbers_of_difference ds i x lt))

-- all that there is room for
pub first_all : (ds : List Difference) (places : List FlatSplice) (n : ℕ) → n ≡ min (length ds) (length places) → with_first ds places n ≡ with_numbers ds places
first_all ds places n is =
    let turned : n ≡ min (length places) (length ds) = omega (arith, is) in
    ap (λ (l : List Difference). map numbers_of_difference l ++ drop n places) (ap (λ k. take k ds) turned ∙ take_min (length places) ds)
    ∙ ap (λ (l : List FlatSplice). map numbers_of_difference (take (length places) ds) ++ l) (ap (λ k. drop k places) is ∙ drop_min (length ds) places)

-- no more characters are inserted than there are operations
inserted_among : (rs : List Record) → inserted_in rs ≤ count_of rs
inserted_among [] = omega arith
inserted_among (record_of.Insert after text ∷ rs) = omega (arith, inserted_among rs)
inserted_among (record_of.Delete target ∷ rs) = omega (arith, inserted_among rs)
inserted_among (record_of.DeleteRun first count ∷ rs) = omega (arith, inserted_among rs)

pub inserted_most : (rs : List Record) (n m : ℕ) → n ≡ inserted_in rs → count_of rs ≤ m → n ≤ m
inserted_most rs n m is le = omega (arith, inserted_among rs)

pub inserted_ops : (c : ChangeParts) (n m : ℕ) → n ≡ inserted_in c.records → m ≡ op_count c → n ≤ m
unfolding op_count
inserted_ops c n m is all = omega (arith, inserted_among c.records, is, all)

-- a hash more of bytes that begin with hashes
pub hash_more : (bytes : List ℕ) (before : List Hash) (rest : List ℕ) (h : Hash) (beyond : List ℕ) → bytes ≡ hash_bytes before ++ rest → h.0 ≡ take 32 rest → beyond ≡ drop 32 rest
    → bytes ≡ hash_bytes (before ++ h ∷ []) ++ beyond
hash_more bytes before rest h beyond is front back =
    let of_hash : Hash → List ℕ = λ x. x.0 in
    is ∙ ap (λ (l : List ℕ). hash_bytes before ++ l) (sym (take-append-drop 32 rest) ∙ ap (λ (l : List ℕ). l ++ drop 32 rest) (sym front) ∙ ap (λ (l : List ℕ). h.0 ++ l) (sym back))
    ∙ sym (append_assoc (hash_bytes before) h.0 beyond)
    ∙ ap (λ (l : List ℕ). l ++ beyond) (flat_map_more of_hash [] before h)
