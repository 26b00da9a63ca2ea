-- Whether a change that came is one of those that were made.
use Rattle.tp_world.proofs.Common.{◌≡◌, ℕ, List, [], ◌+◌, ◌<◌, ◌≤◌, length, take, drop, get_or, true, false, Bool, Result, Ok, Err, inl, inr, refl, sym, ap, ◌∙◌, subst, IfOk, MatchBool, drop_all, take_all, take_more, In, AllIn, never, ChangeParts, hash_of, HashesApart, has, In-has, changes_in, decoded_changes, WorldError}
use Rattle.tp_opid.specs.declared.hash.Hash.{Hash}
use Rattle.tp_layout.specs.Spelling.{spelling}
use Rattle.std.specs.Bool.{Decides}
use Rattle.tp_list.proofs.Members.{In-get_or, In-push}
use Rattle.tp_layout.specs.Limits.{IsChange}
use Rattle.tp_layout.proofs.SpellingLaws.{one_spelling_is}
use Rattle.tp_message.specs.declared.error.SyncError.{SyncError}
use Rattle.tp_message.specs.declared.error.SyncError.TheVariants.{BadMessage, BadChange, TooManyHeads, PendingFull, OutOfMemory, OtherDocument, NotKept}
use Rattle.tp_codec.specs.Gives.{FailsWith}
use Rattle.tp_message.specs.Message.{MessageParts}
use Rattle.tp_message.specs.Reading.{message_at}

item-In : (xs : List ChangeParts) (i : ℕ) (x : ChangeParts) → i < length xs → x ≡ get_or xs i x → In x xs
item-In xs i x less at = subst (λ y. In y xs) (sym at) (In-get_or xs i x less)

-- the bytes decide it
pub same_by_bytes : (c d : ChangeParts) (xs ys : List ℕ) (b : Bool) → IsChange c → IsChange d → xs ≡ spelling c → ys ≡ spelling d → Decides b (xs ≡ ys) → MatchBool b (c ≡ d) (c ≡ d → ⊥)
same_by_bytes c d xs ys true f g x y is = one_spelling_is c d f g (sym x ∙ is.0 refl ∙ y)
same_by_bytes c d xs ys false f g x y is = λ e. absurd (let t : false ≡ true = is.1 (x ∙ ap spelling e ∙ sym y) in cc)

-- where one of those that were made has its hash, that one decides it
pub made_if_same : (made : List ChangeParts) (c d : ChangeParts) (i : ℕ) (r : Result Bool WorldError) → HashesApart made → i < length made → d ≡ get_or made i d → hash_of d ≡ hash_of c
    → IfOk r (λ same. MatchBool same (d ≡ c) (d ≡ c → ⊥)) → IfOk r (λ is. MatchBool is (In c made) (In c made → ⊥))
made_if_same made c d i (Ok true) apart less at hash same = subst (λ x. In x made) same (item-In made i d less at)
made_if_same made c d i (Ok false) apart less at hash other = λ there. other (apart d c (item-In made i d less at) there hash)
made_if_same made c d i (Err e) apart less at hash h = tt

-- where none has its hash, it isn't one of them
pub not_made : (made : List ChangeParts) (c : ChangeParts) (h : Hash) (i : ℕ) → h ≡ hash_of c → length made ≤ i → has (drop i made) h ≡ has made h → In c made → ⊥
not_made made c h i is past rest there =
    let none : has made h ≡ false = sym rest ∙ ap (λ l. has l h) (drop_all i made past) in
    never (In-has made c h there (sym is)) none

-- ---- one change after another

pub all_more : (made changes : List ChangeParts) (i : ℕ) (c : ChangeParts) (known : Bool) → i < length changes → c ≡ get_or changes i c → MatchBool known (In c made) (In c made → ⊥) → known ≡ true
    → AllIn (take i changes) made → AllIn (take (i + 1) changes) made
all_more made changes i c true less at there t all d j =
    elim (In-push d (take i changes) (get_or changes i c) (subst (λ l. In d l) (take_more changes i c less) j)) [
      | inl old ↦ all d old
      | inr last ↦ subst (λ x. In x made) (at ∙ sym last) there
    ]
all_more made changes i c false less at there t all d j = absurd cc

pub not_all : (made changes : List ChangeParts) (i : ℕ) (c : ChangeParts) (known : Bool) → i < length changes → c ≡ get_or changes i c → MatchBool known (In c made) (In c made → ⊥) → known ≡ false → AllIn changes made → ⊥
not_all made changes i c true less at there f all = absurd cc
not_all made changes i c false less at none f all = none (all c (item-In changes i c less at))

pub all_of : (made changes : List ChangeParts) (i : ℕ) → length changes ≤ i → AllIn (take i changes) made → AllIn changes made
all_of made changes i past all = subst (λ l. AllIn l made) (take_all i changes past) all

-- ---- what bytes carry

-- those of the message that they are
pub carries_changes : (bytes : List ℕ) (m : MessageParts) → message_at bytes ≡ Ok m → changes_in bytes ≡ m.changes
carries_changes bytes m is = ap decoded_changes is

-- none, where they are no message
pub carries_none : (bytes : List ℕ) (e : SyncError) → (e ≡ OutOfMemory → ⊥) → FailsWith OutOfMemory e (message_at bytes) → changes_in bytes ≡ []
carries_none bytes e other is = ap decoded_changes (is other)
