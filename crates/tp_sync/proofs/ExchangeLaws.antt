-- What an exchange leaves, where nothing waited and nothing was left out or refused.
use Rattle.tp_sync.proofs.Common.{◌≡◌, inl, inr, List, [], ◌++◌, false, Some, Option, refl, sym, ap, ◌∙◌, subst, append-nil, filter, Result, Ok, Err, IfOk, IfErr, IsSomeAnd, In, In-left, In-right, In-append, In-filter, neither_left, neither_right, Hash, ChangeParts, heads, Sound, SyncError, BadMessage, BadChange, OutOfMemory, SyncParts, declared_hashes, due_of, is_due, is_truncated, ExchangeStops, AllIn, SameMembers, GraphError, Known, HashesApart, Intake, OtherDocument, new_sync_state, known_hashes, Exchanged, Exchanges, PassesMessage, RefusesReply, side, SameMembers-trans, hashes_apart, heads_decide, SomeTurns, IsIntakeDone, begin, intake, DocState, TooManyHeads, PendingFull, NotKept, IsOtherOnly, RefusesPass, RefusesKnownAlone, Side}
use Rattle.tp_opid.specs.declared.doc_id.DocId.{DocId}
use Rattle.tp_receive.specs.declared.intake.Applied.{Applied}
use Rattle.tp_receive.specs.declared.keeper.NoKeeper.{NoKeeper}
use Rattle.tp_receive.specs.Delivery.{is_full}
use Rattle.tp_receive.specs.Outcome.{ReceivesAlone, Stopped, keeps_nothing}
use Rattle.tp_receive.proofs.ResultLaws.{results}
use Rattle.tp_receive.proofs.RunLaws.{progress}
use Rattle.tp_document.specs.Applying.{kept_by_none}
use Rattle.tp_sync.specs.Receiving.{receive_error_of}
use Rattle.tp_sync.proofs.KnownLaws.{has_all-declared}
use Rattle.tp_sync.proofs.TakeLaws.{all_carried}
use Rattle.tp_sync.proofs.UnionLaws.{Arrived, Delivered, came_due, delivered, no_member, twins_of}

-- ---- one message

-- nobody
abbrev nobody : NoKeeper
nobody = record {}

apart_within : (C : List ChangeParts) (F : List ChangeParts) → AllIn F C → HashesApart C → HashesApart F
apart_within C F of apart c d i j e = apart c d (of c i) (of d j) e

arrived : (D W K : List ChangeParts) (t : Intake NoKeeper) → Sound D → HashesApart K → W ≡ [] → is_full D W K ≡ false
    → SomeTurns keeps_nothing (begin nobody D W K) t → IsIntakeDone t → ((h : Hash) (e : GraphError) → In (h, e) t.refused → e ≡ Known) → Arrived keeps_nothing nobody D K t
arrived D W K t sound apart idle space run ends known =
    let first : SomeTurns keeps_nothing (begin nobody D [] K) t = subst (λ V. SomeTurns keeps_nothing (begin nobody D V K) t) idle run in
    let room : is_full D [] K ≡ false = subst (λ V. is_full D V K ≡ false) idle space in
    record {
      progress = progress keeps_nothing nobody D [] K t first;
      results = results keeps_nothing nobody D [] K t sound apart room first ends;
      known = known;
    }

-- the hashes of changes that a document with these declares to have
abbrev tells : List ChangeParts → List Hash
tells C = heads C ++ known_hashes C

-- Who received a message knows what its sender has.
declares : (from : Side) (declared : SyncParts) (to to' : Side) (r : Applied) → PassesMessage from declared to to' r → declared_hashes to'.state ≡ Some (tells from.document.applied)
declares from declared to to' r p =
    let C : List ChangeParts = from.document.applied in
    ap declared_hashes p.hears ∙ ap (λ (hs : List Hash). Some (hs ++ p.message.known)) p.says.heads ∙ ap (λ (ks : List Hash). Some (heads C ++ ks)) p.says.known

-- A message that leaves out nothing that is due, to a document that declared what it has and in which nothing waits,
-- delivers the sender's changes.
passed : (from : Side) (declared : SyncParts) (to to' : Side) (r : Applied) → PassesMessage from declared to to' r → Sound from.document.applied → Sound to.document.applied
    → HashesApart (to.document.applied ++ from.document.applied) → to.document.waiting ≡ [] → declared_hashes from.state ≡ Some (tells to.document.applied)
    → is_truncated from.document.applied from.state ≡ false → RefusesKnownAlone r
    → Delivered from.document.applied to.document.applied to'.document.applied to'.document.waiting
passed from declared to to' r p sound held apart idle theirs whole known =
    let C : List ChangeParts = from.document.applied in
    let D : List ChangeParts = to.document.applied in
    let H : List Hash = tells D in
    let F : List ChangeParts = filter (is_due C H from.state.wants) C in
    let sends : p.message.changes ≡ F = p.says.changes ∙ all_carried C from.state whole ∙ ap (λ o. due_of C o from.state.wants C) theirs in
    let t : Intake NoKeeper = intake nobody to'.document.applied to'.document.waiting [] r.applied.items r.refused.items in
    let mine : AllIn F C = λ c i. (In-filter (is_due C H from.state.wants) C c i).0 in
    delivered keeps_nothing nobody C D F t sound apart mine (came_due C D H from.state.wants held (has_all-declared D) (twins_of D C apart))
    (arrived D to.document.waiting F t held (apart_within C F mine (hashes_apart C sound)) idle
    (subst (λ K. is_full D to.document.waiting K ≡ false) sends p.takes.space)
    (subst (λ K. SomeTurns keeps_nothing (begin nobody D to.document.waiting K) t) sends p.takes.run) p.takes.ends known)

-- The first message leaves the other as it is, where nothing waits there.
begun_still : (D : List ChangeParts) (t : Intake NoKeeper) → SomeTurns keeps_nothing (begin nobody D [] []) t → (t.applied ≡ D) × (t.waiting ≡ [])
begun_still D t run =
    let p = progress keeps_nothing nobody D [] [] t run in
    let none : p.new ≡ [] = no_member p.new (λ c i. p.grows.came c i) in (
      p.grows.begins ∙ ap (λ l. D ++ l) none ∙ append-nil D,
      no_member t.waiting (λ c i. p.waits c i),
    )

-- ---- the whole

-- the other order of two lists
flip : (A B : List ChangeParts) → SameMembers (A ++ B) (B ++ A)
flip A B = record { there = turn A B; back = turn B A } where
  turn : (A B : List ChangeParts) → AllIn (A ++ B) (B ++ A)
  turn A B c i = elim (In-append c A B i) [ inl j ↦ In-right c B A j | inr j ↦ In-left c B A j ]

-- what is a list and another that has it is the other
absorbed : (A B E : List ChangeParts) → SameMembers E (A ++ B) → SameMembers (B ++ E) (A ++ B)
absorbed A B E w = record {
  there = λ c i. elim (In-append c B E i) [ inl j ↦ In-right c A B j | inr j ↦ w.there c j ];
  back = λ c i. In-right c B E (w.back c i);
}

apart_of : (A B E : List ChangeParts) → HashesApart (A ++ B) → SameMembers E (A ++ B) → HashesApart (B ++ E)
apart_of A B E apart w = apart_within (A ++ B) (B ++ E) (absorbed A B E w).there apart

heads_of_same : (C D : List ChangeParts) → Sound C → Sound D → HashesApart (D ++ C) → heads C ≡ heads D → SameMembers C D
heads_of_same C D s t apart e = record {
  there = heads_decide C D s t (twins_of D C apart) e;
  back = heads_decide D C t s (twins_of C D (apart_within (D ++ C) (C ++ D) (flip C D).there apart)) (sym e);
}

pub one_set : (a b a' b' : DocState) (r : Exchanged) → Sound a.applied → Sound b.applied → HashesApart (a.applied ++ b.applied)
    → a.waiting ≡ [] → b.waiting ≡ [] → Exchanges a b a' b' r → r.cut ≡ false → RefusesKnownAlone r.into_a → RefusesKnownAlone r.into_b
    → SameMembers a'.applied (a.applied ++ b.applied) × SameMembers b'.applied (a.applied ++ b.applied)
one_set a b a' b' r sa sb apart ia ib x whole ka kb =
    let A : List ChangeParts = a.applied in
    let B : List ChangeParts = b.applied in
    let begun : Intake NoKeeper = intake nobody x.asked.document.applied x.asked.document.waiting [] x.begun.applied.items x.begun.refused.items in
    let run : SomeTurns keeps_nothing (begin nobody B b.waiting x.first.message.changes) begun = x.first.takes.run in
    let none_sent : x.first.message.changes ≡ [] = x.first.says.changes in
    let still = begun_still B begun (subst (λ K. SomeTurns keeps_nothing (begin nobody B [] K) begun) none_sent (subst (λ W. SomeTurns keeps_nothing (begin nobody B W x.first.message.changes) begun) ib run)) in
    let B_is : x.asked.document.applied ≡ B = still.0 in
    let sasked : Sound x.asked.document.applied = subst Sound (sym B_is) sb in
    let to_a : declared_hashes x.asked.state ≡ Some (tells A) = declares (side a new_sync_state) x.declared (side b new_sync_state) x.asked x.begun x.first in
    let lefts = sym whole ∙ x.replies.left_out in
    let second = passed x.asked x.replies.answered (side a x.declared) (side a' x.replies.knows) r.into_a x.replies.second sasked sa (subst (λ l. HashesApart (A ++ l)) (sym B_is) apart) ia to_a
    (neither_left (is_truncated x.asked.document.applied x.asked.state) (is_truncated a'.applied x.replies.knows) (sym lefts)) ka in
    let here : SameMembers a'.applied (A ++ B) = subst (λ l. SameMembers a'.applied (A ++ l)) B_is second.members in
    let to_b : x.replies.knows.theirs ≡ Some (heads x.asked.document.applied) = ap (λ (s : SyncParts). s.theirs) x.replies.second.hears ∙ ap Some x.replies.second.says.heads in
    let declared_b : declared_hashes x.replies.knows ≡ Some (tells x.asked.document.applied) = declares x.asked x.replies.answered (side a x.declared) (side a' x.replies.knows) r.into_a x.replies.second in
    let apart_b : HashesApart (x.asked.document.applied ++ a'.applied) = subst (λ l. HashesApart (l ++ a'.applied)) (sym B_is) (apart_of A B a'.applied apart here) in
    let there : SameMembers b'.applied (x.asked.document.applied ++ a'.applied) = elim x.replies.third [
      | inl p ↦
          (passed (side a' x.replies.knows) p.0 (side x.asked.document x.replies.answered) (side b' x.replies.ends) r.into_b p.1 second.sound sasked apart_b still.1 declared_b
          (neither_right (is_truncated x.asked.document.applied x.asked.state) (is_truncated a'.applied x.replies.knows) (sym lefts)) kb).members
      | inr q ↦
          let heads_are : heads x.asked.document.applied ≡ heads a'.applied = some_is _ _ (sym to_b ∙ q.quiet.even.theirs) in
          let same = heads_of_same a'.applied x.asked.document.applied second.sound sasked apart_b (sym heads_are) in
          subst (λ (l : List ChangeParts). SameMembers l (x.asked.document.applied ++ a'.applied)) (sym (ap (λ (s : Side). s.document.applied) q.stays))
          (record {
            there = λ c i. In-left c x.asked.document.applied a'.applied i;
            back = λ c i. elim (In-append c x.asked.document.applied a'.applied i) [ inl j ↦ j | inr j ↦ same.there c j ];
          })
    ] in (
      here,
      SameMembers-trans b'.applied (B ++ a'.applied) (A ++ B) (subst (λ l. SameMembers b'.applied (l ++ a'.applied)) B_is there) (absorbed A B a'.applied here),
    ) where
      some_is : (g h : List Hash) → (let p : Option (List Hash) = Some g in p) ≡ (let q : Option (List Hash) = Some h in q) → g ≡ h
      some_is g h e = cc

-- ---- refusals

pub if_ok : {T E : Type 0} (P Q : T → Type 0) (r : Result T E) → ((x : T) → P x → Q x) → IfOk r P → IfOk r Q
if_ok P Q (Ok x) f h = f x h
if_ok P Q (Err e) f h = h

pub if_err : {T E : Type 0} (P Q : E → Type 0) (r : Result T E) → ((e : E) → P e → Q e) → IfErr r P → IfErr r Q
if_err P Q (Ok x) f h = h
if_err P Q (Err e) f h = f e h

pass_not_other : (from : Side) (to to' : DocState) (e : SyncError) → RefusesPass from to e to' → e ≡ OtherDocument → ⊥
pass_not_other from to to' e (inl w) o = elim w.0 [
  | inl x ↦ let no : TooManyHeads ≡ OtherDocument = sym x.0 ∙ o in cc
  | inr x ↦ let no : OutOfMemory ≡ OtherDocument = sym x ∙ o in cc
]
pass_not_other from to to' e (inr w) o =
    let no : IsSomeAnd (receive_error_of OtherDocument) (λ why. ReceivesAlone (kept_by_none to) w.0.changes (kept_by_none to') (Stopped why)) =
    subst (λ (x : SyncError). IsSomeAnd (receive_error_of x) (λ why. ReceivesAlone (kept_by_none to) w.0.changes (kept_by_none to') (Stopped why))) o w.3 in
    no

reply_not_other : (a b : Side) (a' b' : DocState) (e : SyncError) → RefusesReply a b e a' b' → e ≡ OtherDocument → ⊥
reply_not_other a b a' b' e (inl w) o = pass_not_other b a.document a' e w.1 o
reply_not_other a b a' b' e (inr w) o = pass_not_other (side a' w.knows) b.document b' e w.fails o

pub stops_not_other : (a b a' b' : DocState) (e : SyncError) → ExchangeStops a b a' b' e → e ≡ OtherDocument → ⊥
stops_not_other a b a' b' e (inl w) o = pass_not_other (side a new_sync_state) b b' e w.1 o
stops_not_other a b a' b' e (inr w) o = reply_not_other (side a w.declared) w.asked a' b' e w.fails o

pub only_other : {T : Type 0} (r : Result T SyncError) (a b : DocId) → a ≡ b → IfErr r (λ e. e ≡ OtherDocument → ⊥) → IsOtherOnly r a b
only_other (Ok x) a b e h = e
only_other (Err BadMessage) a b e h = e
only_other (Err BadChange) a b e h = e
only_other (Err TooManyHeads) a b e h = e
only_other (Err PendingFull) a b e h = e
only_other (Err OutOfMemory) a b e h = e
only_other (Err OtherDocument) a b e h = absurd (h refl)
only_other (Err NotKept) a b e h = e
