-- The fields of a message: what is read is spelled so, and what is spelled is read again.
use Rattle.tp_message.proofs.Common.{◌≡◌, ◌⊎◌, ℕ, ◌^◌, ◌<◌, ◌≤◌, ◌||◌, true, eqb, leb, List, [], ◌∷◌, ◌++◌, length, Option, None, Result, Ok, Err, refl, sym, ap, subst, ◌∙◌, append-nil, append_assoc, arith, eqb-true, le-leb, leb-true, inl, inr, w32, flat_map, le-ltb, Hash, or_cases, Reads, ChangeError, ChangeParts, rises, next_before, change_at, SyncError, BadMessage, MessageParts, IsMessage, each_entry, stay, to_be_bytes, take_at, drop_at, length-append, byte_at, number_at, spelling_of_hashes, require, repeat_at, IsField, as_field, give_field, then_field, require_field, byte_field, bytes_field, AreSoMany, number_field, repeat_field, EachFits, wide32, IsChange, AreHashes, TellsKnown, spelling_of_changes}
use Rattle.tp_layout.specs.Spelling.{spelling, framed_change}
use Rattle.tp_list.specs.Members.{In}
use Rattle.tp_codec.specs.Prefix.{bytes_at}
use Rattle.tp_codec.specs.Reading.{give, fail, and_next, and_then, or_fail, found_or}
use Rattle.tp_layout.proofs.ChangeFields.{DepFits, rising_all, hashes_all, fit_all}
use Rattle.tp_layout.proofs.WholeChange.{change_takes, change_again}
use Rattle.tp_message.specs.Spelling.{spelling_of_known, message_spelling}
use Rattle.tp_message.specs.Reading.{message_version_at, next_hash_at, hashes_at, known_at, change_or_fail, framed_change_at, changes_at, message_parts_at}

-- a version that there is
abbrev pub IsVersion : ℕ → Type 0
IsVersion v = (eqb v 1 || eqb v 2) ≡ true

-- there are two of them
two_versions : (v : ℕ) → IsVersion v → (v ≡ 1) ⊎ (v ≡ 2)
two_versions v is = elim (or_cases (eqb v 1) (eqb v 2) is) [ inl e ↦ inl (eqb-true v 1 e) | inr e ↦ inr (eqb-true v 2 e) ]

version_fits : (v : ℕ) → IsVersion v → v < 256
version_fits v is = elim (two_versions v is) [ inl e ↦ omega (arith, e) | inr e ↦ omega (arith, e) ]

version_field : IsField BadMessage message_version_at (λ v. v ∷ []) IsVersion
unfolding message_version_at
version_field =
    as_field BadMessage message_version_at (λ v. (v ∷ []) ++ []) (λ v. v ∷ []) (λ v. (v < 256) × (IsVersion v × (v ≡ v))) IsVersion
    (then_field BadMessage (or_fail BadMessage byte_at) (λ b. and_then (require (eqb b 1 || eqb b 2) BadMessage) (λ _. give b)) (λ b. b ∷ []) (λ b. b < 256)
    (λ (v : ℕ). v) (λ _. []) (λ b v. IsVersion b × (v ≡ b))
    (byte_field BadMessage)
    (λ b lt. require_field BadMessage (eqb b 1 || eqb b 2) BadMessage (give b) (λ _. []) (λ v. v ≡ b) (λ _. give_field BadMessage b))
    (λ b v fit. fit.1))
    (λ v fit. refl) (λ v fit. fit.1.0) (λ v fit. (version_fits v fit, (fit, refl)))

-- ---- hashes

abbrev hash_with : List ℕ → Hash
hash_with bytes = record { 0 = bytes }

hash_field : (before : Option Hash) → IsField BadMessage (next_hash_at before) (λ h. h.0) (DepFits before)
unfolding next_hash_at
hash_field before =
    as_field BadMessage (next_hash_at before) (λ (h : Hash). h.0 ++ []) (λ h. h.0) (λ h. AreSoMany 32 h.0 × ((rises before (hash_with h.0) ≡ true) × (h ≡ hash_with h.0))) (DepFits before)
    (then_field BadMessage (or_fail BadMessage (bytes_at 32)) (λ bytes. and_then (require (rises before (hash_with bytes)) BadMessage) (λ _. give (hash_with bytes))) (λ b. b) (AreSoMany 32)
    (λ (h : Hash). h.0) (λ _. []) (λ bytes h. (rises before (hash_with bytes) ≡ true) × (h ≡ hash_with bytes))
    (bytes_field BadMessage 32)
    (λ bytes fit. require_field BadMessage (rises before (hash_with bytes)) BadMessage (give (hash_with bytes)) (λ _. []) (λ h. h ≡ hash_with bytes) (λ _. give_field BadMessage (hash_with bytes)))
    (λ bytes h fit. ap (λ (x : Hash). x.0) fit.1))
    (λ h fit. append-nil h.0)
    (λ h fit. (record { count = fit.0.count; each = fit.0.each }, fit.1.0))
    (λ h fit. (record { count = fit.0.count; each = fit.0.each }, (fit.1, refl)))

hashes_field : (limit : ℕ) → limit < 2 ^ 32 → IsField BadMessage (hashes_at limit) spelling_of_hashes (AreHashes limit)
unfolding hashes_at
hashes_field limit small =
    as_field BadMessage (hashes_at limit) spelling_of_hashes spelling_of_hashes (λ hs. (length hs < 2 ^ 32) × ((leb (length hs) limit ≡ true) × ((length hs ≡ length hs) × EachFits DepFits next_before None hs))) (AreHashes limit)
    (then_field BadMessage (or_fail BadMessage (number_at w32)) (λ count. and_then (require (leb count limit) BadMessage) (λ _. repeat_at next_hash_at next_before count None)) (to_be_bytes w32) (λ n. n < 2 ^ 32)
    (λ (hs : List Hash). length hs) (flat_map (λ (h : Hash). h.0)) (λ count hs. (leb count limit ≡ true) × ((length hs ≡ count) × EachFits DepFits next_before None hs))
    (number_field BadMessage w32 (2 ^ 32) wide32)
    (λ count lt. require_field BadMessage (leb count limit) BadMessage (repeat_at next_hash_at next_before count None) (flat_map (λ (h : Hash). h.0)) (λ hs. (length hs ≡ count) × EachFits DepFits next_before None hs)
    (λ _. repeat_field BadMessage next_hash_at next_before (λ h. h.0) DepFits hash_field count None))
    (λ count hs fit. fit.1.0))
    (λ hs fit. refl)
    (λ hs fit. record { each = hashes_all None hs fit.1.1.1; rise = rising_all hs fit.1.1.1; few = leb-true (length hs) limit fit.1.0 })
    (λ hs fit. (omega (arith, fit.few, small), (le-leb (length hs) limit fit.few, (refl, fit_all hs fit.each fit.rise))))

heads_field : IsField BadMessage (hashes_at 65535) spelling_of_hashes (AreHashes 65535)
heads_field = hashes_field 65535 (omega arith)

-- version 1 has no known hashes
none_field : IsField BadMessage (known_at 1) (spelling_of_known 1) (TellsKnown 1)
unfolding known_at spelling_of_known
none_field =
    as_field BadMessage (known_at 1) (λ _. []) (spelling_of_known 1) (λ hs. hs ≡ []) (TellsKnown 1) (give_field BadMessage [])
    (λ hs fit. refl)
    (λ hs fit. inl (refl, fit))
    (λ hs fit. elim fit [ inl e ↦ e.1 | inr e ↦ absurd (let no : 1 ≡ 2 = e.0 in cc) ])

-- version 2 has them
some_field : IsField BadMessage (known_at 2) (spelling_of_known 2) (TellsKnown 2)
unfolding known_at spelling_of_known
some_field =
    as_field BadMessage (known_at 2) spelling_of_hashes (spelling_of_known 2) (AreHashes 32) (TellsKnown 2) (hashes_field 32 (omega arith))
    (λ hs fit. refl)
    (λ hs fit. inr (refl, fit))
    (λ hs fit. elim fit [ inl e ↦ absurd (let no : 2 ≡ 1 = e.0 in cc) | inr e ↦ e.1 ])

known_field : (version : ℕ) → IsVersion version → IsField BadMessage (known_at version) (spelling_of_known version) (TellsKnown version)
known_field version is = elim (two_versions version is) [
  | inl e ↦ subst (λ v. IsField BadMessage (known_at v) (spelling_of_known v) (TellsKnown v)) (sym e) none_field
  | inr e ↦ subst (λ v. IsField BadMessage (known_at v) (spelling_of_known v) (TellsKnown v)) (sym e) some_field
]

version_of_known : (version : ℕ) (known : List Hash) → TellsKnown version known → IsVersion version
version_of_known version known (inl t) = rw t.0 refl
version_of_known version known (inr t) = rw t.0 refl

-- ---- changes

decoded_ok : (r : Result ChangeParts ChangeError) (bytes : List ℕ) (c : ChangeParts) (rest : List ℕ) → change_or_fail r bytes ≡ Ok (c, rest) → (r ≡ Ok c) × (bytes ≡ rest)
unfolding change_or_fail give fail
decoded_ok (Ok d) bytes c rest e =
    let pair : (d, bytes) ≡ (c, rest) = cc in
    (ap (λ (x : ChangeParts × List ℕ). Ok x.0) pair, ap (λ (x : ChangeParts × List ℕ). x.1) pair)
decoded_ok (Err d) bytes c rest e = absurd cc

decoded_of_ok : (r : Result ChangeParts ChangeError) (c : ChangeParts) (rest : List ℕ) → r ≡ Ok c → change_or_fail r rest ≡ Ok (c, rest)
unfolding change_or_fail give
decoded_of_ok r c rest e = rw e refl

decoded_stays : (r : Result ChangeParts ChangeError) (bytes more : List ℕ) (e : SyncError) → change_or_fail r bytes ≡ Err e → change_or_fail r (bytes ++ more) ≡ Err e
unfolding change_or_fail give fail
decoded_stays (Ok d) bytes more e h = absurd cc
decoded_stays (Err d) bytes more e h = h

-- the bytes are a change's
abbrev SpellsChange : List ℕ → ChangeParts → Type 0
SpellsChange bytes c = (change_at bytes ≡ Ok c) × (IsChange c × (spelling c ≡ bytes))

decoded_field : (len : ℕ) (bytes : List ℕ) → AreSoMany len bytes → IsField BadMessage (change_or_fail (change_at bytes)) (λ _. []) (SpellsChange bytes)
decoded_field len bytes fit = record {
  takes = λ before c rest fits e.
      let d = decoded_ok (change_at bytes) before c rest e in
      let t = change_takes bytes c fit.each d.0 in
      (d.1, (d.0, (t.0, sym t.1)));
  again = λ c rest is. decoded_of_ok (change_at bytes) c rest is.0;
  stays = λ before more e fits h apart. decoded_stays (change_at bytes) before more e h;
}

abbrev EntryFits : ChangeParts → Type 0
EntryFits c = (length (spelling c) < 2 ^ 32) × (AreSoMany (length (spelling c)) (spelling c) × SpellsChange (spelling c) c)

-- what is read of an entry
entry_read : IsField BadMessage framed_change_at (λ c. to_be_bytes w32 (length (spelling c)) ++ (spelling c ++ [])) EntryFits
unfolding framed_change_at
entry_read =
    then_field BadMessage (or_fail BadMessage (number_at w32)) (λ len. and_then (or_fail BadMessage (bytes_at len)) (λ bytes. change_or_fail (change_at bytes))) (to_be_bytes w32) (λ n. n < 2 ^ 32)
    (λ (c : ChangeParts). length (spelling c)) (λ c. spelling c ++ []) (λ len c. AreSoMany len (spelling c) × SpellsChange (spelling c) c)
    (number_field BadMessage w32 (2 ^ 32) wide32)
    (λ len lt. then_field BadMessage (or_fail BadMessage (bytes_at len)) (λ bytes. change_or_fail (change_at bytes)) (λ b. b) (AreSoMany len)
    spelling (λ _. []) SpellsChange
    (bytes_field BadMessage len)
    (λ bytes fit. decoded_field len bytes fit)
    (λ bytes c fit. fit.1.1))
    (λ len c fit. fit.0.count)

-- bytes of a given number are found again
bytes_again : (bytes rest : List ℕ) → or_fail {E = SyncError} BadMessage (bytes_at (length bytes)) (bytes ++ rest) ≡ Ok (bytes, rest)
unfolding or_fail found_or bytes_at
bytes_again bytes rest =
    let long = le-ltb (length (bytes ++ rest)) (length bytes) (omega (arith, length-append bytes rest)) in
    rw (long, take_at bytes rest (length bytes) refl, drop_at bytes rest (length bytes) refl) refl

-- an entry is read again
entry_again : (c : ChangeParts) (rest : List ℕ) → IsChange c → framed_change_at (framed_change c ++ rest) ≡ Ok (c, rest)
unfolding framed_change_at and_then and_next
entry_again c rest is =
    let len = length (spelling c) in
    let small : len < 2 ^ 32 = omega (arith, is.size) in
    ap framed_change_at (append_assoc (to_be_bytes w32 len) (spelling c) rest)
    ∙ rw ((number_field {E = SyncError} BadMessage w32 (2 ^ 32) wide32).again len (spelling c ++ rest) small, bytes_again (spelling c) rest) (decoded_of_ok (change_at (spelling c)) c rest (change_again c is))

entry_field : IsField BadMessage framed_change_at framed_change IsChange
entry_field = record {
  takes = λ bytes c rest fits e.
      let t = entry_read.takes bytes c rest fits e in
      (t.0 ∙ ap (λ (s : List ℕ). (to_be_bytes w32 (length (spelling c)) ++ s) ++ rest) (append-nil (spelling c)), t.1.1.1.1.0);
  again = entry_again;
  stays = entry_read.stays;
}

abbrev ChangeFits : Unit {0} → ChangeParts → Type 0
ChangeFits s c = IsChange c

all_changes : (changes : List ChangeParts) → EachFits ChangeFits stay tt changes → (c : ChangeParts) → In c changes → IsChange c
all_changes [] fit = λ c i. absurd i
all_changes (d ∷ changes) fit = λ c i. elim i [ inl e ↦ subst IsChange (sym e) fit.0 | inr j ↦ all_changes changes fit.1 c j ]

each_fits : (changes : List ChangeParts) → ((c : ChangeParts) → In c changes → IsChange c) → EachFits ChangeFits stay tt changes
each_fits [] all = tt
each_fits (d ∷ changes) all = (all d (inl refl), each_fits changes (λ c i. all c (inr i)))

record FitsChanges (changes : List ChangeParts) : Type 0 where
  each : (c : ChangeParts) → In c changes → IsChange c
  few : length changes ≤ 1024

changes_field : IsField BadMessage changes_at spelling_of_changes FitsChanges
unfolding changes_at
changes_field =
    as_field BadMessage changes_at spelling_of_changes spelling_of_changes (λ cs. (length cs < 2 ^ 32) × ((leb (length cs) 1024 ≡ true) × ((length cs ≡ length cs) × EachFits ChangeFits stay tt cs))) FitsChanges
    (then_field BadMessage (or_fail BadMessage (number_at w32)) (λ count. and_then (require (leb count 1024) BadMessage) (λ _. repeat_at each_entry stay count tt)) (to_be_bytes w32) (λ n. n < 2 ^ 32)
    (λ (cs : List ChangeParts). length cs) (flat_map framed_change) (λ count cs. (leb count 1024 ≡ true) × ((length cs ≡ count) × EachFits ChangeFits stay tt cs))
    (number_field BadMessage w32 (2 ^ 32) wide32)
    (λ count lt. require_field BadMessage (leb count 1024) BadMessage (repeat_at each_entry stay count tt) (flat_map framed_change) (λ cs. (length cs ≡ count) × EachFits ChangeFits stay tt cs)
    (λ _. repeat_field BadMessage each_entry stay framed_change ChangeFits (λ s. entry_field) count tt))
    (λ count cs fit. fit.1.0))
    (λ cs fit. refl)
    (λ cs fit. record { each = all_changes cs fit.1.1.1; few = leb-true (length cs) 1024 fit.1.0 })
    (λ cs fit. (omega (arith, fit.few), (le-leb (length cs) 1024 fit.few, (refl, each_fits cs fit.each))))

-- ---- the message

abbrev made : ℕ → List Hash → List Hash → List Hash → List ChangeParts → MessageParts
made version heads wants known changes = record { version = version; heads = heads; wants = wants; known = known; changes = changes }

abbrev spell_changes : MessageParts → List ℕ
spell_changes m = spelling_of_changes m.changes ++ []

abbrev spell_known : MessageParts → List ℕ
spell_known m = spelling_of_known m.version m.known ++ spell_changes m

abbrev spell_wants : MessageParts → List ℕ
spell_wants m = spelling_of_hashes m.wants ++ spell_known m

abbrev spell_lists : MessageParts → List ℕ
spell_lists m = spelling_of_hashes m.heads ++ spell_wants m

abbrev ChangesFit : ℕ → List Hash → List Hash → List Hash → MessageParts → Type 0
ChangesFit version heads wants known m = FitsChanges m.changes × (m ≡ made version heads wants known m.changes)

abbrev KnownFit : ℕ → List Hash → List Hash → MessageParts → Type 0
KnownFit version heads wants m = TellsKnown version m.known × ChangesFit version heads wants m.known m

abbrev WantsFit : ℕ → List Hash → MessageParts → Type 0
WantsFit version heads m = AreHashes 65535 m.wants × KnownFit version heads m.wants m

abbrev ListsFit : ℕ → MessageParts → Type 0
ListsFit version m = AreHashes 65535 m.heads × WantsFit version m.heads m

abbrev changes_after : ℕ → List Hash → List Hash → List Hash → Reads SyncError MessageParts
changes_after version heads wants known = and_then changes_at (λ changes. give (made version heads wants known changes))

abbrev known_after : ℕ → List Hash → List Hash → Reads SyncError MessageParts
known_after version heads wants = and_then (known_at version) (λ known. changes_after version heads wants known)

abbrev wants_after : ℕ → List Hash → Reads SyncError MessageParts
wants_after version heads = and_then (hashes_at 65535) (λ wants. known_after version heads wants)

abbrev lists_after : ℕ → Reads SyncError MessageParts
lists_after version = and_then (hashes_at 65535) (λ heads. wants_after version heads)

known_read : (version : ℕ) (heads wants : List Hash) → IsVersion version → IsField BadMessage (known_after version heads wants) spell_known (KnownFit version heads wants)
known_read version heads wants is =
    as_field BadMessage (known_after version heads wants) (λ m. spelling_of_known version m.known ++ spell_changes m) spell_known (KnownFit version heads wants) (KnownFit version heads wants)
    (then_field BadMessage (known_at version) (λ known. changes_after version heads wants known) (spelling_of_known version) (TellsKnown version)
    (λ (m : MessageParts). m.known) spell_changes (ChangesFit version heads wants)
    (known_field version is)
    (λ known are. then_field BadMessage changes_at (λ changes. give (made version heads wants known changes)) spelling_of_changes FitsChanges
    (λ (m : MessageParts). m.changes) (λ _. []) (λ changes m. m ≡ made version heads wants known changes)
    changes_field
    (λ changes fit. give_field BadMessage (made version heads wants known changes))
    (λ changes m e. ap (λ (x : MessageParts). x.changes) e))
    (λ known m fit. ap (λ (x : MessageParts). x.known) fit.1))
    (λ m fit. ap (λ (v : ℕ). spelling_of_known v m.known ++ spell_changes m) (sym (ap (λ (x : MessageParts). x.version) fit.1.1)))
    (λ m fit. fit) (λ m fit. fit)

lists_field : (version : ℕ) → IsVersion version → IsField BadMessage (lists_after version) spell_lists (ListsFit version)
lists_field version is =
    then_field BadMessage (hashes_at 65535) (λ heads. wants_after version heads) spelling_of_hashes (AreHashes 65535)
    (λ (m : MessageParts). m.heads) spell_wants (WantsFit version)
    heads_field
    (λ heads have. then_field BadMessage (hashes_at 65535) (λ wants. known_after version heads wants) spelling_of_hashes (AreHashes 65535)
    (λ (m : MessageParts). m.wants) spell_known (KnownFit version heads)
    heads_field
    (λ wants are. known_read version heads wants is)
    (λ wants m fit. ap (λ (x : MessageParts). x.wants) fit.1.1))
    (λ heads m fit. ap (λ (x : MessageParts). x.heads) fit.1.1.1)

pub parts_field : IsField BadMessage message_parts_at message_spelling IsMessage
unfolding message_parts_at message_spelling
parts_field =
    as_field BadMessage message_parts_at (λ m. (m.version ∷ []) ++ spell_lists m) message_spelling (λ m. IsVersion m.version × ListsFit m.version m) IsMessage
    (then_field BadMessage message_version_at lists_after (λ v. v ∷ []) IsVersion
    (λ (m : MessageParts). m.version) spell_lists ListsFit
    version_field
    lists_field
    (λ v m fit. ap (λ (x : MessageParts). x.version) fit.1.1.1.1))
    (λ m fit. ap (λ (b : List ℕ). m.version ∷ (spelling_of_hashes m.heads ++ (spelling_of_hashes m.wants ++ (spelling_of_known m.version m.known ++ b)))) (append-nil (spelling_of_changes m.changes)))
    (λ m fit. record { heads = fit.1.0; wants = fit.1.1.0; known = fit.1.1.1.0; changes = fit.1.1.1.1.0.each; few = fit.1.1.1.1.0.few })
    (λ m is. (version_of_known m.version m.known is.known, (is.heads, (is.wants, (is.known, (record { each = is.changes; few = is.few }, refl))))))
