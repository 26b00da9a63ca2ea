-- The laws of the whole: the bytes of a message are read as it, and what is read is a message that the bytes spell.
use Rattle.tp_message.proofs.Common.{◌≡◌, ℕ, Bool, true, false, cond, eqb, List, [], ◌++◌, length, Result, Ok, Err, refl, sym, ap, ◌∙◌, ◌∷◌, append-nil, append_assoc, eqb-true, w32, flat_map, nil_from_length, AreBytes, Hash, ChangeParts, SyncError, BadMessage, BadChange, MessageParts, IsMessage, to_be_bytes, spelling_of_hashes, ◌↔◌, spelling_of_known}
use Rattle.tp_message.specs.Spelling.{message_spelling}
use Rattle.tp_message.specs.Reading.{message_parts_at, end_or_fail, message_at}
use Rattle.tp_message.proofs.MessageFields.{parts_field}
use Rattle.tp_layout.specs.Spelling.{framed_change}

ended_ok : {X : Type 0} (r : Result (X × List ℕ) SyncError) (m : X) → end_or_fail r ≡ Ok m → r ≡ Ok (m, [])
unfolding end_or_fail
ended_ok {X} (Ok x) m e = by_test (eqb (length x.1) 0) refl e
  where
    by_test : (b : Bool) → eqb (length x.1) 0 ≡ b → (let t : Result X SyncError = cond b (Ok x.0) (Err BadMessage) in t) ≡ Ok m → (let t : Result (X × List ℕ) SyncError = Ok x in t) ≡ Ok (m, [])
    by_test true h e =
        let m-is : x.0 ≡ m = cc in
        let none : x.1 ≡ [] = nil_from_length x.1 (eqb-true _ _ h) in
        ap (λ (p : X × List ℕ). Ok p) (ap (λ (q : X). (q, x.1)) m-is ∙ ap (λ (q : List ℕ). (m, q)) none)
    by_test false h e = absurd cc
ended_ok (Err d) m e = absurd cc

ended_of_ok : {X : Type 0} (r : Result (X × List ℕ) SyncError) (m : X) → r ≡ Ok (m, []) → end_or_fail r ≡ Ok m
unfolding end_or_fail
ended_of_ok r m e = rw e refl

-- What is read is a message, and the bytes spell it.
pub message_takes : (bytes : List ℕ) (m : MessageParts) → AreBytes bytes → message_at bytes ≡ Ok m → IsMessage m × (bytes ≡ message_spelling m)
unfolding message_at
message_takes bytes m fits e =
    let t = parts_field.takes bytes m [] fits (ended_ok (message_parts_at bytes) m e) in
    (t.1, t.0 ∙ append-nil (message_spelling m))

-- The bytes of a message are read as it.
pub message_again : (m : MessageParts) → IsMessage m → message_at (message_spelling m) ≡ Ok m
unfolding message_at
message_again m is =
    ended_of_ok (message_parts_at (message_spelling m)) m (ap message_parts_at (sym (append-nil (message_spelling m))) ∙ parts_field.again m [] is)

pub one_spelling_is : (m n : MessageParts) → IsMessage m → IsMessage n → message_spelling m ≡ message_spelling n → m ≡ n
one_spelling_is m n is also same =
    let read : (let r : Result MessageParts SyncError = Ok m in r) ≡ Ok n = sym (message_again m is) ∙ ap message_at same ∙ message_again n also in
    cc

pub spelled_alone : (bytes : List ℕ) (m : MessageParts) → AreBytes bytes → (message_at bytes ≡ Ok m) ↔ (IsMessage m × (bytes ≡ message_spelling m))
spelled_alone bytes m fits = (message_takes bytes m fits, λ p. ap message_at p.1 ∙ message_again m p.0)

ended_bad : {X : Type 0} (r : Result (X × List ℕ) SyncError) → end_or_fail r ≡ Err BadChange → r ≡ Err BadChange
unfolding end_or_fail
ended_bad {X} (Ok x) e = absurd (by_test (eqb (length x.1) 0) e)
  where
    by_test : (b : Bool) → (let t : Result X SyncError = cond b (Ok x.0) (Err BadMessage) in t) ≡ Err BadChange → ⊥
    by_test true e = cc
    by_test false e = cc
ended_bad (Err d) e = let same : d ≡ BadChange = cc in ap (λ (f : SyncError). Err f) same

pub ended_of_err : {X : Type 0} (r : Result (X × List ℕ) SyncError) (e : SyncError) → r ≡ Err e → end_or_fail r ≡ Err e
unfolding end_or_fail
ended_of_err r e h = rw h refl

-- Bytes that are no change's stay so, whatever follows.
pub bad_change_stays : (bytes more : List ℕ) → AreBytes bytes → message_at bytes ≡ Err BadChange → message_at (bytes ++ more) ≡ Err BadChange
unfolding message_at
bad_change_stays bytes more fits h =
    ended_of_err (message_parts_at (bytes ++ more)) BadChange (parts_field.stays bytes more BadChange fits (ended_bad (message_parts_at bytes) h) (λ same. cc))

pub bad_change_bars : (bytes more : List ℕ) (m : MessageParts) → AreBytes bytes → message_at bytes ≡ Err BadChange → IsMessage m → bytes ++ more ≡ message_spelling m → ⊥
bad_change_bars bytes more m fits h is same =
    let stays = bad_change_stays bytes more fits h in
    let read : message_at (bytes ++ more) ≡ Ok m = ap message_at same ∙ message_again m is in
    cc

regroup : (v : ℕ) (hs ws ks n cs : List ℕ) → (((((v ∷ []) ++ hs) ++ ws) ++ ks) ++ n) ++ cs ≡ v ∷ (hs ++ (ws ++ (ks ++ (n ++ cs))))
regroup v hs ws ks n cs = simp append_assoc

-- What is written field by field is the bytes of the message.
pub written : (m : MessageParts) (version : ℕ) (heads wants known : List Hash) (changes : List ChangeParts) (a b d e f bytes : List ℕ)
    → version ≡ m.version → heads ≡ m.heads → wants ≡ m.wants → known ≡ m.known → changes ≡ m.changes
    → a ≡ version ∷ [] → b ≡ a ++ spelling_of_hashes heads → d ≡ b ++ spelling_of_hashes wants → e ≡ d ++ spelling_of_known version known
    → f ≡ e ++ to_be_bytes w32 (length changes) → bytes ≡ f ++ flat_map framed_change changes
    → bytes ≡ message_spelling m
unfolding message_spelling
written m version heads wants known changes a b d e f bytes v hs ws ks cs one two three four five six =
    rw (six, five, four, three, two, one, v, hs, ws, ks, cs)
    (regroup m.version (spelling_of_hashes m.heads) (spelling_of_hashes m.wants) (spelling_of_known m.version m.known) (to_be_bytes w32 (length m.changes)) (flat_map framed_change m.changes))
