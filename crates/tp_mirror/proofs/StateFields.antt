-- The fields of the state file: what is read is spelled so, and what is spelled is read again.
use Rattle.std.proofs.Common.{◌≡◌, ℕ, zero, suc, ◌^◌, ◌<◌, Bool, true, false, cond, eqb, ltb, List, [], ◌∷◌, ◌++◌, length, Result, Ok, Err, refl, sym, ap, ◌∙◌, append-nil, arith, eqb-true, ltb-true, lit<}
use Rattle.std.specs.Int.{w64, to_be_bytes}
use Rattle.std.specs.List.{flat_map, AllByRecursion}
use Rattle.std.proofs.lemmas.List.{nil_from_length}
use Rattle.tp_list.specs.Bytes.{IsBytes}
use Rattle.tp_codec.specs.Prefix.{byte_at, bytes_at, number_at}
use Rattle.tp_codec.specs.Reading.{Reads, give, and_then, or_fail, require}
use Rattle.tp_codec.proofs.Fields.{AreBytes, IsField, as_field, give_field, then_field, require_field, test_field, byte_field, bytes_field, AreSoMany, number_field, repeat_field, EachFits, wide64}
use Rattle.tp_opid.specs.declared.actor.Actor.{Actor}
use Rattle.tp_opid.specs.declared.doc_id.DocId.{DocId}
use Rattle.tp_opid.specs.declared.hash.Hash.{Hash}
use Rattle.tp_mirror.specs.declared.known.Digest.{Digest}
use Rattle.tp_mirror.specs.declared.known.Known.{Known}
use Rattle.tp_mirror.specs.declared.known.TextAt.{TextAt}
use Rattle.tp_mirror.specs.declared.state.Author.{Author}
use Rattle.tp_mirror.specs.declared.state.Moved.{Moved}
use Rattle.tp_mirror.specs.declared.state.Name.{Name}
use Rattle.tp_mirror.specs.declared.state.State.{State}
use Rattle.tp_mirror.specs.declared.state_error.StateError.{StateError}
use Rattle.tp_mirror.specs.declared.state_error.StateError.TheVariants.{BadFlag, BadMagic, Trailing, Truncated}
use Rattle.tp_mirror.specs.declared.state_file.TheConstants.{MAGIC}
use Rattle.tp_mirror.specs.StateFile.{list_bytes, head_bytes, text_heads_bytes, known_bytes, moved_bytes, author_bytes, flag_byte, state_bytes, HashIsTyped, TextIsTyped, KnownIsTyped, MovedIsTyped, AuthorIsTyped, StateIsTyped, wrapped_at, as_hash, state_hash_at, items_at, list_at, as_digest, text_heads_at, known_text_at, as_name, moved_at, as_actor, state_author_at, flag_at, magic_at, as_document, fields_at, end_of_state, state_at}

-- ---- bytes as a value

bytes_are : (n : ℕ) (bytes : List ℕ) → AreSoMany n bytes → IsBytes n bytes
bytes_are n bytes h = record { count = h.count; each = h.each }

are_bytes : (n : ℕ) (bytes : List ℕ) → IsBytes n bytes → AreSoMany n bytes
are_bytes n bytes h = record { count = h.count; each = h.each }

wrapped_field : {X : Type 0} (n : ℕ) (wrap : List ℕ → X) (unwrap : X → List ℕ) → ((b : List ℕ) → unwrap (wrap b) ≡ b) → ((x : X) → x ≡ wrap (unwrap x))
    → IsField Truncated (wrapped_at n wrap) unwrap (λ x. IsBytes n (unwrap x))
unfolding wrapped_at
wrapped_field {X} n wrap unwrap back again =
    as_field Truncated (wrapped_at n wrap) (λ x. unwrap x ++ []) unwrap (λ x. AreSoMany n (unwrap x) × (x ≡ wrap (unwrap x))) (λ x. IsBytes n (unwrap x))
    (then_field Truncated (or_fail Truncated (bytes_at n)) (λ bytes. give (wrap bytes)) (λ b. b) (AreSoMany n) unwrap (λ _. []) (λ bytes x. x ≡ wrap bytes)
    (bytes_field Truncated n)
    (λ bytes fit. give_field Truncated (wrap bytes))
    (λ bytes x e. ap unwrap e ∙ back bytes))
    (λ x fit. append-nil (unwrap x)) (λ x fit. bytes_are n (unwrap x) fit.0) (λ x fit. (are_bytes n (unwrap x) fit, again x))

hash_field : IsField Truncated state_hash_at head_bytes HashIsTyped
hash_field = wrapped_field 32 as_hash (λ (h : Hash). h.0) (λ b. refl) (λ h. refl)

digest_field : IsField Truncated (wrapped_at 32 as_digest) (λ (d : Digest). d.0) (λ d. IsBytes 32 d.0)
digest_field = wrapped_field 32 as_digest (λ (d : Digest). d.0) (λ b. refl) (λ d. refl)

name_field : IsField Truncated (wrapped_at 16 as_name) (λ (n : Name). n.0) (λ n. IsBytes 16 n.0)
name_field = wrapped_field 16 as_name (λ (n : Name). n.0) (λ b. refl) (λ n. refl)

actor_field : IsField Truncated (wrapped_at 16 as_actor) (λ (a : Actor). a.0) (λ a. IsBytes 16 a.0)
actor_field = wrapped_field 16 as_actor (λ (a : Actor). a.0) (λ b. refl) (λ a. refl)

document_field : IsField Truncated (wrapped_at 16 as_document) (λ (d : DocId). d.0) (λ d. IsBytes 16 d.0)
document_field = wrapped_field 16 as_document (λ (d : DocId). d.0) (λ b. refl) (λ d. refl)

-- ---- lists

abbrev AllFit : {X : Type 0} → (X → Type 0) → List X → Type 0
AllFit Fits xs = EachFits (λ (_ : Unit {0}) x. Fits x) (λ s _. s) tt xs

each_all : {X : Type 0} (Fits : X → Type 0) (xs : List X) → AllFit Fits xs → AllByRecursion Fits xs
each_all Fits [] fit = tt
each_all Fits (x ∷ xs) fit = (fit.0, each_all Fits xs fit.1)

all_each : {X : Type 0} (Fits : X → Type 0) (xs : List X) → AllByRecursion Fits xs → AllFit Fits xs
all_each Fits [] fit = tt
all_each Fits (x ∷ xs) fit = (fit.0, all_each Fits xs fit.1)

abbrev IsList : {X : Type 0} → (X → Type 0) → List X → Type 0
IsList Fits xs = (length xs < 2 ^ 64) × AllByRecursion Fits xs

list_field : {X : Type 0} (item : Reads StateError X) (spell : X → List ℕ) (Fits : X → Type 0) → IsField Truncated item spell Fits
    → IsField Truncated (list_at item) (list_bytes spell) (IsList Fits)
unfolding list_at list_bytes
list_field {X} item spell Fits f =
    as_field Truncated (list_at item) (list_bytes spell) (list_bytes spell) (λ xs. (length xs < 2 ^ 64) × ((length xs ≡ length xs) × AllFit Fits xs)) (IsList Fits)
    (then_field Truncated (or_fail Truncated (number_at w64)) (λ count. items_at item count) (to_be_bytes w64) (λ n. n < 2 ^ 64)
    (λ (xs : List X). length xs) (flat_map spell) (λ count xs. (length xs ≡ count) × AllFit Fits xs)
    (number_field Truncated w64 (2 ^ 64) wide64)
    (λ count lt. repeat_field Truncated (λ (_ : Unit {0}). item) (λ s _. s) spell (λ _ x. Fits x) (λ _. f) count tt)
    (λ count xs fit. fit.0))
    (λ xs fit. refl)
    (λ xs fit. (fit.0, each_all Fits xs fit.1.1))
    (λ xs fit. (fit.0, (refl, all_each Fits xs fit.1)))

-- ---- a value of two fields

two_fields : {X Y Z : Type 0} (a : Reads StateError X) (b : Reads StateError Y) (make : X → Y → Z) (spell : X → List ℕ) (spelled : Y → List ℕ) (Fits : X → Type 0) (Fit : Y → Type 0)
    (first : Z → X) (second : Z → Y) → IsField Truncated a spell Fits → IsField Truncated b spelled Fit
    → ((x : X) (y : Y) → first (make x y) ≡ x) → ((x : X) (y : Y) → second (make x y) ≡ y) → ((z : Z) → z ≡ make (first z) (second z))
    → IsField Truncated (and_then a (λ x. and_then b (λ y. give (make x y)))) (λ z. spell (first z) ++ spelled (second z)) (λ z. Fits (first z) × Fit (second z))
two_fields {X} {Y} {Z} a b make spell spelled Fits Fit first second f g one two again =
    as_field Truncated (and_then a (λ x. and_then b (λ y. give (make x y)))) (λ z. spell (first z) ++ (spelled (second z) ++ [])) (λ z. spell (first z) ++ spelled (second z))
    (λ z. Fits (first z) × (Fit (second z) × (z ≡ make (first z) (second z)))) (λ z. Fits (first z) × Fit (second z))
    (then_field Truncated a (λ x. and_then b (λ y. give (make x y))) spell Fits
    first (λ z. spelled (second z) ++ []) (λ x z. Fit (second z) × (z ≡ make x (second z)))
    f
    (λ x fit. then_field Truncated b (λ y. give (make x y)) spelled Fit
    second (λ _. []) (λ y z. z ≡ make x y)
    g (λ y fits. give_field Truncated (make x y)) (λ y z e. ap second e ∙ two x y))
    (λ x z fit. ap first fit.1 ∙ one x (second z)))
    (λ z fit. ap (λ (r : List ℕ). spell (first z) ++ r) (append-nil (spelled (second z))))
    (λ z fit. (fit.0, fit.1.0))
    (λ z fit. (fit.0, (fit.1, again z)))

text_field : IsField Truncated text_heads_at text_heads_bytes TextIsTyped
unfolding text_heads_at
text_field =
    as_field Truncated text_heads_at text_heads_bytes text_heads_bytes (λ t. IsBytes 32 t.digest.0 × IsList HashIsTyped t.heads) TextIsTyped
    (two_fields (wrapped_at 32 as_digest) (list_at state_hash_at) (λ digest heads. record { digest = digest; heads = heads }) (λ (d : Digest). d.0) (list_bytes head_bytes) (λ d. IsBytes 32 d.0) (IsList HashIsTyped)
    (λ (t : TextAt). t.digest) (λ t. t.heads) digest_field (list_field state_hash_at head_bytes HashIsTyped hash_field) (λ x y. refl) (λ x y. refl) (λ z. refl))
    (λ t fit. refl) (λ t fit. record { digest = fit.0; heads = fit.1.1; count = fit.1.0 }) (λ t fit. (fit.digest, (fit.count, fit.heads)))

known_field : IsField Truncated known_text_at known_bytes KnownIsTyped
unfolding known_text_at
known_field =
    as_field Truncated known_text_at known_bytes known_bytes (λ k. (k.generation < 2 ^ 64) × TextIsTyped k.text) KnownIsTyped
    (two_fields (or_fail Truncated (number_at w64)) text_heads_at (λ generation text. record { generation = generation; text = text }) (to_be_bytes w64) text_heads_bytes (λ n. n < 2 ^ 64) TextIsTyped
    (λ (k : Known). k.generation) (λ k. k.text) (number_field Truncated w64 (2 ^ 64) wide64) text_field (λ x y. refl) (λ x y. refl) (λ z. refl))
    (λ k fit. refl) (λ k fit. record { generation = fit.0; text = fit.1 }) (λ k fit. (fit.generation, fit.text))

moved_field : IsField Truncated moved_at moved_bytes MovedIsTyped
unfolding moved_at
moved_field =
    as_field Truncated moved_at moved_bytes moved_bytes (λ m. IsBytes 16 m.name.0 × KnownIsTyped m.known) MovedIsTyped
    (two_fields (wrapped_at 16 as_name) known_text_at (λ name known. record { name = name; known = known }) (λ (n : Name). n.0) known_bytes (λ n. IsBytes 16 n.0) KnownIsTyped
    (λ (m : Moved). m.name) (λ m. m.known) name_field known_field (λ x y. refl) (λ x y. refl) (λ z. refl))
    (λ m fit. refl) (λ m fit. record { name = fit.0; known = fit.1 }) (λ m fit. (fit.name, fit.known))

author_field : IsField Truncated state_author_at author_bytes AuthorIsTyped
unfolding state_author_at
author_field =
    as_field Truncated state_author_at author_bytes author_bytes (λ a. IsBytes 16 a.actor.0 × (a.seq < 2 ^ 64)) AuthorIsTyped
    (two_fields (wrapped_at 16 as_actor) (or_fail Truncated (number_at w64)) (λ actor seq. record { actor = actor; seq = seq }) (λ (a : Actor). a.0) (to_be_bytes w64) (λ a. IsBytes 16 a.0) (λ n. n < 2 ^ 64)
    (λ (a : Author). a.actor) (λ a. a.seq) actor_field (number_field Truncated w64 (2 ^ 64) wide64) (λ x y. refl) (λ x y. refl) (λ z. refl))
    (λ a fit. refl) (λ a fit. record { actor = fit.0; seq = fit.1 }) (λ a fit. (fit.actor, fit.seq))

-- ---- a flag, and the magic

flag_back : (byte : ℕ) (f : Bool) → ltb byte 2 ≡ true → f ≡ eqb byte 1 → cond f 1 0 ≡ byte
flag_back zero f small e = rw e refl
flag_back (suc zero) f small e = rw e refl
flag_back (suc (suc n)) f small e = absurd (omega (arith, ltb-true (suc (suc n)) 2 small))

flag_fits : (f : Bool) → (cond f 1 0 < 256) × ((ltb (cond f 1 0) 2 ≡ true) × (f ≡ eqb (cond f 1 0) 1))
flag_fits true = (omega arith, (refl, refl))
flag_fits false = (omega arith, (refl, refl))

flag_field : IsField Truncated flag_at flag_byte (λ (_ : Bool). Unit {0})
unfolding flag_at
flag_field =
    as_field Truncated flag_at (λ f. (cond f 1 0 ∷ []) ++ []) flag_byte (λ f. (cond f 1 0 < 256) × ((ltb (cond f 1 0) 2 ≡ true) × (f ≡ eqb (cond f 1 0) 1))) (λ (_ : Bool). Unit {0})
    (then_field Truncated (or_fail Truncated byte_at) (λ byte. and_then (require (ltb byte 2) BadFlag) (λ _. give (eqb byte 1))) (λ b. b ∷ []) (λ b. b < 256)
    (λ (f : Bool). cond f 1 0) (λ _. []) (λ byte f. (ltb byte 2 ≡ true) × (f ≡ eqb byte 1))
    (byte_field Truncated)
    (λ byte lt. require_field Truncated (ltb byte 2) BadFlag (give (eqb byte 1)) (λ _. []) (λ f. f ≡ eqb byte 1) (λ _. give_field Truncated (eqb byte 1)))
    (λ byte f fit. flag_back byte f fit.0 fit.1))
    (λ f fit. refl) (λ f fit. tt) (λ f fit. flag_fits f)

magic_field : IsField Truncated magic_at (λ (_ : Unit {0}). to_be_bytes w64 MAGIC) (λ (_ : Unit {0}). Unit {0})
unfolding magic_at
magic_field =
    as_field Truncated magic_at (λ (_ : Unit {0}). to_be_bytes w64 MAGIC ++ []) (λ (_ : Unit {0}). to_be_bytes w64 MAGIC) (λ _. (MAGIC < 2 ^ 64) × (eqb MAGIC MAGIC ≡ true)) (λ (_ : Unit {0}). Unit {0})
    (then_field Truncated (or_fail Truncated (number_at w64)) (λ magic. require (eqb magic MAGIC) BadMagic) (to_be_bytes w64) (λ n. n < 2 ^ 64)
    (λ (_ : Unit {0}). MAGIC) (λ _. []) (λ magic _. eqb magic MAGIC ≡ true)
    (number_field Truncated w64 (2 ^ 64) wide64)
    (λ magic lt. test_field Truncated (eqb magic MAGIC) BadMagic)
    (λ magic u fit. sym (eqb-true magic MAGIC fit)))
    (λ u fit. append-nil (to_be_bytes w64 MAGIC)) (λ u fit. tt) (λ u fit. (lit< tt, refl))

-- ---- all fields

texts_field : IsField Truncated (list_at known_text_at) (list_bytes known_bytes) (IsList KnownIsTyped)
texts_field = list_field known_text_at known_bytes KnownIsTyped known_field

moved_list_field : IsField Truncated (list_at moved_at) (list_bytes moved_bytes) (IsList MovedIsTyped)
moved_list_field = list_field moved_at moved_bytes MovedIsTyped moved_field

abbrev made : DocId → Author → Bool → ℕ → List Known → List Moved → State
made document author is_away begun texts moved = record { document = document; author = author; is_away = is_away; begun = begun; texts = texts; moved = moved }

abbrev from_moved : DocId → Author → Bool → ℕ → List Known → Reads StateError State
from_moved document author is_away begun texts = and_then (list_at moved_at) (λ moved. give (made document author is_away begun texts moved))

abbrev from_texts : DocId → Author → Bool → ℕ → Reads StateError State
from_texts document author is_away begun = and_then (list_at known_text_at) (λ texts. from_moved document author is_away begun texts)

abbrev from_begun : DocId → Author → Bool → Reads StateError State
from_begun document author is_away = and_then (or_fail Truncated (number_at w64)) (λ begun. from_texts document author is_away begun)

abbrev from_is_away : DocId → Author → Reads StateError State
from_is_away document author = and_then (flag_at) (λ is_away. from_begun document author is_away)

abbrev from_author : DocId → Reads StateError State
from_author document = and_then (state_author_at) (λ author. from_is_away document author)

abbrev from_document : Reads StateError State
from_document = and_then (wrapped_at 16 as_document) (λ document. from_author document)

abbrev from_magic : Reads StateError State
from_magic = and_then (magic_at) (λ magic. from_document)

moved_read : (document : DocId) (author : Author) (is_away : Bool) (begun : ℕ) (texts : List Known) → IsField Truncated (from_moved document author is_away begun texts) (λ s. (list_bytes moved_bytes s.moved ++ [])) (λ s. (IsList MovedIsTyped s.moved × (s ≡ made document author is_away begun texts s.moved)))
moved_read document author is_away begun texts =
    then_field Truncated (list_at moved_at) (λ moved. give (made document author is_away begun texts moved)) (list_bytes moved_bytes) (IsList MovedIsTyped)
    (λ (s : State). s.moved) (λ s. []) (λ moved s. (s ≡ made document author is_away begun texts moved))
    moved_list_field (λ moved fit. give_field Truncated (made document author is_away begun texts moved)) (λ moved s fit. ap (λ (x : State). x.moved) fit)

texts_read : (document : DocId) (author : Author) (is_away : Bool) (begun : ℕ) → IsField Truncated (from_texts document author is_away begun) (λ s. (list_bytes known_bytes s.texts ++ (list_bytes moved_bytes s.moved ++ []))) (λ s. (IsList KnownIsTyped s.texts × (IsList MovedIsTyped s.moved × (s ≡ made document author is_away begun s.texts s.moved))))
texts_read document author is_away begun =
    then_field Truncated (list_at known_text_at) (λ texts. from_moved document author is_away begun texts) (list_bytes known_bytes) (IsList KnownIsTyped)
    (λ (s : State). s.texts) (λ s. (list_bytes moved_bytes s.moved ++ [])) (λ texts s. (IsList MovedIsTyped s.moved × (s ≡ made document author is_away begun texts s.moved)))
    texts_field (λ texts fit. moved_read document author is_away begun texts) (λ texts s fit. ap (λ (x : State). x.texts) fit.1)

begun_read : (document : DocId) (author : Author) (is_away : Bool) → IsField Truncated (from_begun document author is_away) (λ s. (to_be_bytes w64 s.begun ++ (list_bytes known_bytes s.texts ++ (list_bytes moved_bytes s.moved ++ [])))) (λ s. ((s.begun < 2 ^ 64) × (IsList KnownIsTyped s.texts × (IsList MovedIsTyped s.moved × (s ≡ made document author is_away s.begun s.texts s.moved)))))
begun_read document author is_away =
    then_field Truncated (or_fail Truncated (number_at w64)) (λ begun. from_texts document author is_away begun) (to_be_bytes w64) (λ (n : ℕ). n < 2 ^ 64)
    (λ (s : State). s.begun) (λ s. (list_bytes known_bytes s.texts ++ (list_bytes moved_bytes s.moved ++ []))) (λ begun s. (IsList KnownIsTyped s.texts × (IsList MovedIsTyped s.moved × (s ≡ made document author is_away begun s.texts s.moved))))
    (number_field Truncated w64 (2 ^ 64) wide64) (λ begun fit. texts_read document author is_away begun) (λ begun s fit. ap (λ (x : State). x.begun) fit.1.1)

is_away_read : (document : DocId) (author : Author) → IsField Truncated (from_is_away document author) (λ s. (flag_byte s.is_away ++ (to_be_bytes w64 s.begun ++ (list_bytes known_bytes s.texts ++ (list_bytes moved_bytes s.moved ++ []))))) (λ s. (Unit {0} × ((s.begun < 2 ^ 64) × (IsList KnownIsTyped s.texts × (IsList MovedIsTyped s.moved × (s ≡ made document author s.is_away s.begun s.texts s.moved))))))
is_away_read document author =
    then_field Truncated (flag_at) (λ is_away. from_begun document author is_away) flag_byte (λ (_ : Bool). Unit {0})
    (λ (s : State). s.is_away) (λ s. (to_be_bytes w64 s.begun ++ (list_bytes known_bytes s.texts ++ (list_bytes moved_bytes s.moved ++ [])))) (λ is_away s. ((s.begun < 2 ^ 64) × (IsList KnownIsTyped s.texts × (IsList MovedIsTyped s.moved × (s ≡ made document author is_away s.begun s.texts s.moved)))))
    flag_field (λ is_away fit. begun_read document author is_away) (λ is_away s fit. ap (λ (x : State). x.is_away) fit.1.1.1)

author_read : (document : DocId) → IsField Truncated (from_author document) (λ s. (author_bytes s.author ++ (flag_byte s.is_away ++ (to_be_bytes w64 s.begun ++ (list_bytes known_bytes s.texts ++ (list_bytes moved_bytes s.moved ++ [])))))) (λ s. (AuthorIsTyped s.author × (Unit {0} × ((s.begun < 2 ^ 64) × (IsList KnownIsTyped s.texts × (IsList MovedIsTyped s.moved × (s ≡ made document s.author s.is_away s.begun s.texts s.moved)))))))
author_read document =
    then_field Truncated (state_author_at) (λ author. from_is_away document author) author_bytes AuthorIsTyped
    (λ (s : State). s.author) (λ s. (flag_byte s.is_away ++ (to_be_bytes w64 s.begun ++ (list_bytes known_bytes s.texts ++ (list_bytes moved_bytes s.moved ++ []))))) (λ author s. (Unit {0} × ((s.begun < 2 ^ 64) × (IsList KnownIsTyped s.texts × (IsList MovedIsTyped s.moved × (s ≡ made document author s.is_away s.begun s.texts s.moved))))))
    author_field (λ author fit. is_away_read document author) (λ author s fit. ap (λ (x : State). x.author) fit.1.1.1.1)

document_read : IsField Truncated (from_document) (λ s. (s.document.0 ++ (author_bytes s.author ++ (flag_byte s.is_away ++ (to_be_bytes w64 s.begun ++ (list_bytes known_bytes s.texts ++ (list_bytes moved_bytes s.moved ++ []))))))) (λ s. (IsBytes 16 s.document.0 × (AuthorIsTyped s.author × (Unit {0} × ((s.begun < 2 ^ 64) × (IsList KnownIsTyped s.texts × (IsList MovedIsTyped s.moved × (s ≡ made s.document s.author s.is_away s.begun s.texts s.moved))))))))
document_read =
    then_field Truncated (wrapped_at 16 as_document) (λ document. from_author document) (λ (d : DocId). d.0) (λ (d : DocId). IsBytes 16 d.0)
    (λ (s : State). s.document) (λ s. (author_bytes s.author ++ (flag_byte s.is_away ++ (to_be_bytes w64 s.begun ++ (list_bytes known_bytes s.texts ++ (list_bytes moved_bytes s.moved ++ [])))))) (λ document s. (AuthorIsTyped s.author × (Unit {0} × ((s.begun < 2 ^ 64) × (IsList KnownIsTyped s.texts × (IsList MovedIsTyped s.moved × (s ≡ made document s.author s.is_away s.begun s.texts s.moved)))))))
    document_field (λ document fit. author_read document) (λ document s fit. ap (λ (x : State). x.document) fit.1.1.1.1.1)

magic_read : IsField Truncated (from_magic) (λ s. (to_be_bytes w64 MAGIC ++ (s.document.0 ++ (author_bytes s.author ++ (flag_byte s.is_away ++ (to_be_bytes w64 s.begun ++ (list_bytes known_bytes s.texts ++ (list_bytes moved_bytes s.moved ++ [])))))))) (λ s. (Unit {0} × (IsBytes 16 s.document.0 × (AuthorIsTyped s.author × (Unit {0} × ((s.begun < 2 ^ 64) × (IsList KnownIsTyped s.texts × (IsList MovedIsTyped s.moved × (s ≡ made s.document s.author s.is_away s.begun s.texts s.moved)))))))))
magic_read =
    then_field Truncated (magic_at) (λ magic. from_document) (λ (_ : Unit {0}). to_be_bytes w64 MAGIC) (λ (_ : Unit {0}). Unit {0})
    (λ (s : State). tt) (λ s. (s.document.0 ++ (author_bytes s.author ++ (flag_byte s.is_away ++ (to_be_bytes w64 s.begun ++ (list_bytes known_bytes s.texts ++ (list_bytes moved_bytes s.moved ++ []))))))) (λ magic s. (IsBytes 16 s.document.0 × (AuthorIsTyped s.author × (Unit {0} × ((s.begun < 2 ^ 64) × (IsList KnownIsTyped s.texts × (IsList MovedIsTyped s.moved × (s ≡ made s.document s.author s.is_away s.begun s.texts s.moved))))))))
    magic_field (λ magic fit. document_read) (λ magic s fit. refl)

pub fields_field : IsField Truncated fields_at state_bytes StateIsTyped
unfolding fields_at state_bytes
fields_field =
    as_field Truncated fields_at (λ s. (to_be_bytes w64 MAGIC ++ (s.document.0 ++ (author_bytes s.author ++ (flag_byte s.is_away ++ (to_be_bytes w64 s.begun ++ (list_bytes known_bytes s.texts ++ (list_bytes moved_bytes s.moved ++ [])))))))) state_bytes (λ s. (Unit {0} × (IsBytes 16 s.document.0 × (AuthorIsTyped s.author × (Unit {0} × ((s.begun < 2 ^ 64) × (IsList KnownIsTyped s.texts × (IsList MovedIsTyped s.moved × (s ≡ made s.document s.author s.is_away s.begun s.texts s.moved))))))))) StateIsTyped magic_read
    (λ s fit. ap (λ (b : List ℕ). to_be_bytes w64 MAGIC ++ (s.document.0 ++ (author_bytes s.author ++ (flag_byte s.is_away ++ (to_be_bytes w64 s.begun ++ (list_bytes known_bytes s.texts ++ b)))))) (append-nil (list_bytes moved_bytes s.moved)))
    (λ s fit. record { document = fit.1.0; author = fit.1.1.0; begun = fit.1.1.1.1.0; texts = fit.1.1.1.1.1.0.1; text_count = fit.1.1.1.1.1.0.0; moved = fit.1.1.1.1.1.1.0.1; moved_count = fit.1.1.1.1.1.1.0.0 })
    (λ s fit. (tt, (fit.document, (fit.author, (tt, (fit.begun, ((fit.text_count, fit.texts), ((fit.moved_count, fit.moved), refl))))))))

-- ---- the whole

ended_ok : (r : Result (State × List ℕ) StateError) (s : State) → end_of_state r ≡ Ok s → r ≡ Ok (s, [])
unfolding end_of_state
ended_ok (Ok x) s e = by_test (eqb (length x.1) 0) refl e
  where
    by_test : (b : Bool) → eqb (length x.1) 0 ≡ b → cond b (Ok x.0) (Err Trailing) ≡ Ok s → (let t : Result (State × List ℕ) StateError = Ok x in t) ≡ Ok (s, [])
    by_test true h e =
        let none : x.1 ≡ [] = nil_from_length x.1 (eqb-true _ _ h) in
        let same : x.0 ≡ s = cc in
        ap (λ (p : State × List ℕ). Ok p) (ap (λ (q : State). (q, x.1)) same ∙ ap (λ (q : List ℕ). (s, q)) none)
    by_test false h e = absurd cc
ended_ok (Err d) s e = absurd cc

ended_all : (r : Result (State × List ℕ) StateError) (s : State) → r ≡ Ok (s, []) → end_of_state r ≡ Ok s
unfolding end_of_state
ended_all r s e = rw e refl

-- What is read is a state, and the bytes are its.
pub state_takes : (bytes : List ℕ) (s : State) → AreBytes bytes → state_at bytes ≡ Ok s → StateIsTyped s × (bytes ≡ state_bytes s)
unfolding state_at
state_takes bytes s fits e =
    let t = fields_field.takes bytes s [] fits (ended_ok (fields_at bytes) s e) in
    (t.1, t.0 ∙ append-nil (state_bytes s))

-- The bytes of a state are read as it.
pub state_again : (s : State) → StateIsTyped s → state_at (state_bytes s) ≡ Ok s
unfolding state_at
state_again s is = ended_all (fields_at (state_bytes s)) s (ap fields_at (sym (append-nil (state_bytes s))) ∙ fields_field.again s [] is)
