-- A peer of a world joins, or changes.
use Rattle.tp_headline.proofs.Common.{◌≡◌, ◌⊎◌, inl, inr, ℕ, List, [], ◌∷◌, ◌++◌, map-append, slice_set, false, Some, refl, sym, ap, ◌∙◌, subst, append-nil, slice_get, In, AllIn, In-left, In-append, In-last, In-push, Actor, Hash, ChangeParts, AllChanges, Sound, no_device, IsDocId, IsHistory, PeerState, arming, opened_peer, Act, ActStep, Lists, add_change, add_list, WireEntry, World, HasPeer, lists_of, with_entry, with_made, with_new_peer, with_read, with_used, with_peer, WorldInvariant, IsCarried, IsMessageOf, LivesApart}
use Rattle.tp_headline.specs.Headline.{MayMake, Nothing, Make, Strand, Take}
use Rattle.tp_headline.proofs.ActLaws.{step_coheres}
use Rattle.tp_headline.proofs.PlaceLaws.{map-slice_set, slice_get-set, slice_get-left, slice_get-push}
use Rattle.tp_headline.proofs.Lasting.{Carries, Grows, adds, begins-In, carried_stays, has_list, lists_are, message_stays, set_still}

-- ---- actors

-- nothing else changes where an actor is named
pub actor_is_used : (w : World) (actor : Actor) → WorldInvariant w → Carries w Nothing (with_used w actor)
actor_is_used w actor h =
    adds w w.peers (w.used ++ actor ∷ []) w.wire w.reads Nothing h (λ a i. In-left a w.used (actor ∷ []) i) (λ n e i. i) refl (λ n p i. inl i) h.lives (λ e i. inl i)

-- ---- the wire

-- a message of changes that were made goes on the wire
pub entry_is_sent : (w : World) (n : ℕ) (bytes : List ℕ) → WorldInvariant w → IsMessageOf w.made bytes → Carries w Nothing (with_entry w n bytes)
entry_is_sent w n bytes h is =
    let new : WireEntry = record { sender = n; bytes = bytes } in
    adds w w.peers w.used (w.wire ++ new ∷ []) w.reads Nothing h (λ a i. i) (λ m e i. slice_get-left w.wire (new ∷ []) m e i) refl (λ m p i. inl i) h.lives
    (λ e i. elim (In-push e w.wire new i) [ inl old ↦ inl old | inr last ↦ inr (subst (λ (x : WireEntry). IsMessageOf w.made x.bytes) (sym last) is) ])

-- ---- reads

-- a text was read
pub text_is_read : (w : World) (n : ℕ) (H : List Hash) (text : List ℕ) (a : Act) → WorldInvariant w → ActStep (lists_of w) a (lists_of (with_read w n H text)) → Carries w a (with_read w n H text)
text_is_read w n H text a h step =
    adds w w.peers w.used w.wire (with_read w n H text).reads a h (λ b i. i) (λ m e i. i) step (λ m p i. inl i) h.lives (λ e i. inl i)

-- ---- a peer joins

-- its list is there besides
lists_with : (w : World) (p : PeerState) (actor : Actor) → lists_of (with_used (with_new_peer w p) actor) ≡ add_list (lists_of w) p.applied
lists_with w p actor =
    let s = lists_of w in
    ap (λ (l : List (List ChangeParts)). record s { lists = l }) (map-append (λ (x : PeerState). x.applied) w.peers (p ∷ []))

-- a peer joins under an actor that wasn't named, with changes that were made
pub peer_joins : (w : World) (actor : Actor) (C : List ChangeParts) (a : Act) → WorldInvariant w → (In actor w.used → ⊥) → IsHistory C → AllIn C w.made
    → ((s : Lists) → s ≡ add_list (lists_of w) C → ActStep (lists_of w) a s) → Carries w a (with_used (with_new_peer w (opened_peer w.id actor C no_device)) actor)
peer_joins w actor C a h fresh history made step =
    let p = opened_peer w.id actor C no_device in
    let w' = with_used (with_new_peer w p) actor in
    let new : IsCarried w' p = record {
      id = refl;
      history = history;
      applied = made;
      waiting = λ c i. absurd i;
      used = In-last actor w.used;
      calm = refl;
      live = λ runs. record { journal = refl; own = λ c i by. absurd (fresh (subst (λ a. In a w.used) by (h.used c i))) };
      dead = λ stopped. cc;
    } in
    adds w (w.peers ++ p ∷ []) (w.used ++ actor ∷ []) w.wire w.reads a h (λ a i. In-left a w.used (actor ∷ []) i) (λ n e i. i) (step (lists_of w') (lists_with w p actor))
    (λ n q i. elim (slice_get-push w.peers p q n i) [ inl last ↦ inr (subst (λ x. IsCarried w' x) (sym last.1) new) | inr old ↦ inl old ])
    (λ n m q s i j run_q run_s same. elim (slice_get-push w.peers p q n i) [
      | inl last_q ↦ elim (slice_get-push w.peers p s m j) [
        | inl last_s ↦ last_q.0 ∙ sym last_s.0
        | inr old_s ↦ absurd (fresh (subst (λ a. In a w.used) (sym same ∙ ap (λ (x : PeerState). x.actor) last_q.1) (h.peers m s old_s).used))
      ]
      | inr old_q ↦ elim (slice_get-push w.peers p s m j) [
        | inl last_s ↦ absurd (fresh (subst (λ a. In a w.used) (same ∙ ap (λ (x : PeerState). x.actor) last_s.1) (h.peers n q old_q).used))
        | inr old_s ↦ h.lives n m q s old_q old_s run_q run_s same
      ]
    ])
    (λ e i. inl i)

-- ---- a peer changes

-- From w to w' the peer numbered n came to be p', and changes were made.
pub record Moves (w w' : World) (n : ℕ) (p' : PeerState) (new : List ChangeParts) : Type 0 where
  pub id : w'.id ≡ w.id
  pub peers : w'.peers ≡ slice_set w.peers n p'
  pub made : w'.made ≡ w.made ++ new
  pub used : AllIn w.used w'.used
  pub wire : w'.wire ≡ w.wire
  pub reads : w'.reads ≡ w.reads

pub moves_grow : (w w' : World) (n : ℕ) (p' : PeerState) (new : List ChangeParts) → Moves w w' n p' new → Grows w w'
moves_grow w w' n p' new moves = record {
  id = moves.id;
  made = (new, moves.made);
  used = moves.used;
  wire = λ m e i. subst (λ l. slice_get l m ≡ Some e) (sym moves.wire) i;
}

-- The changes were made by the peer p, which runs.
pub record AreBy (p : PeerState) (new : List ChangeParts) : Type 0 where
  pub runs : (c : ChangeParts) → In c new → p.stopped ≡ false
  pub actor : (c : ChangeParts) → In c new → c.actor ≡ p.actor
  pub limits : AllChanges new

-- A running peer p' lives the life of p, or a new one.
abbrev pub LivesOn : World → PeerState → PeerState → Type 0
LivesOn w p p' = p'.stopped ≡ false → ((p.stopped ≡ false) × (p'.actor ≡ p.actor)) ⊎ (In p'.actor w.used → ⊥)

-- What is known where a peer changes: the world before is carried, and so is the peer afterwards; and what was made with
-- it is by that peer alone.
pub record Changes (w w' : World) (n : ℕ) (p p' : PeerState) (new : List ChangeParts) : Type 0 where
  pub old : WorldInvariant w
  pub present : HasPeer w n p
  pub moves : Moves w w' n p' new
  pub by : AreBy p new
  pub carried : IsCarried w' p'
  pub life : LivesOn w p p'

old_or_new : (w w' : World) (n : ℕ) (p' : PeerState) (new : List ChangeParts) → Moves w w' n p' new → (m : ℕ) (q : PeerState) → HasPeer w' m q
    → ((m ≡ n) × (q ≡ p')) ⊎ ((m ≡ n → ⊥) × HasPeer w m q)
old_or_new w w' n p' new moves m q i = slice_get-set w.peers n m p' q (subst (λ l. slice_get l m ≡ Some q) moves.peers i)

made_before : (w w' : World) (n : ℕ) (p' : PeerState) (new : List ChangeParts) → Moves w w' n p' new → (c : ChangeParts) → In c w'.made → In c w.made ⊎ In c new
made_before w w' n p' new moves c i = In-append c w.made new (subst (λ l. In c l) moves.made i)

-- another running peer made nothing of the new
others_own : (w w' : World) (n : ℕ) (p p' : PeerState) (new : List ChangeParts) → Changes w w' n p p' new → (m : ℕ) (q : PeerState) → (m ≡ n → ⊥) → HasPeer w m q → q.stopped ≡ false
    → (d : ChangeParts) → In d w'.made → d.actor ≡ q.actor → In d w.made
others_own w w' n p p' new c m q other i runs d j mine = elim (made_before w w' n p' new c.moves d j) [
  | inl old ↦ old
  | inr fresh ↦ absurd (other (c.old.lives m n q p i c.present runs (c.by.runs d fresh) (sym mine ∙ c.by.actor d fresh)))
]

-- the peer that changed and another running one don't have one actor
not_the_other : (w w' : World) (n : ℕ) (p p' : PeerState) (new : List ChangeParts) → Changes w w' n p p' new → (m : ℕ) (q : PeerState) → (m ≡ n → ⊥) → HasPeer w m q → p'.stopped ≡ false
    → q.stopped ≡ false → q.actor ≡ p'.actor → ⊥
not_the_other w w' n p p' new c m q other i runs runs_q same = elim (c.life runs) [
  | inl on ↦ other (c.old.lives m n q p i c.present runs_q on.0 (same ∙ on.1))
  | inr fresh ↦ fresh (subst (λ a. In a w.used) same (c.old.peers m q i).used)
]

running_as : (q p' : PeerState) → q ≡ p' → q.stopped ≡ false → p'.stopped ≡ false
running_as q p' is runs = subst (λ (x : PeerState). x.stopped ≡ false) is runs

actor_as : (q p' : PeerState) → q ≡ p' → q.actor ≡ p'.actor
actor_as q p' is = ap (λ (x : PeerState). x.actor) is

lives_changed : (w w' : World) (n : ℕ) (p p' : PeerState) (new : List ChangeParts) → Changes w w' n p p' new → LivesApart w'
lives_changed w w' n p p' new c k m q s i j run_q run_s same = elim (old_or_new w w' n p' new c.moves k q i) [
  | inl this_q ↦ elim (old_or_new w w' n p' new c.moves m s j) [
    | inl this_s ↦ this_q.0 ∙ sym this_s.0
    | inr old_s ↦ absurd (not_the_other w w' n p p' new c m s old_s.0 old_s.1 (running_as q p' this_q.1 run_q) run_s (sym same ∙ actor_as q p' this_q.1))
  ]
  | inr old_q ↦ elim (old_or_new w w' n p' new c.moves m s j) [
    | inl this_s ↦ absurd (not_the_other w w' n p p' new c k q old_q.0 old_q.1 (running_as s p' this_s.1 run_s) run_q (same ∙ actor_as s p' this_s.1))
    | inr old_s ↦ c.old.lives k m q s old_q.1 old_s.1 run_q run_s same
  ]
]

pub peer_changes : (w w' : World) (n : ℕ) (p p' : PeerState) (new : List ChangeParts) (a : Act) → ActStep (lists_of w) a (lists_of w') → Changes w w' n p p' new → Carries w a w'
peer_changes w w' n p p' new a step c =
    let h = c.old in
    let moves = c.moves in
    let grows = moves_grow w w' n p' new moves in
    record {
      grows = grows;
      step = step;
      carried = record {
        is_id = subst IsDocId (sym moves.id) h.is_id;
        coherent = step_coheres (lists_of w) a (lists_of w') h.coherent step;
        limits = λ d i. elim (made_before w w' n p' new moves d i) [ inl old ↦ h.limits d old | inr fresh ↦ c.by.limits d fresh ];
        used = λ d i. elim (made_before w w' n p' new moves d i) [
          | inl old ↦ moves.used d.actor (h.used d old)
          | inr fresh ↦ subst (λ a. In a w'.used) (sym (c.by.actor d fresh)) (moves.used p.actor (h.peers n p c.present).used)
        ];
        peers = λ m q i. elim (old_or_new w w' n p' new moves m q i) [
          | inl this ↦ subst (λ x. IsCarried w' x) (sym this.1) c.carried
          | inr old ↦ carried_stays w w' q grows (others_own w w' n p p' new c m q old.0 old.1) (h.peers m q old.1)
        ];
        lives = lives_changed w w' n p p' new c;
        wire = λ e i. message_stays w.made w'.made e.bytes (begins-In w.made w'.made grows.made) (h.wire e (subst (λ l. In e l) moves.wire i));
      };
    }

-- ---- a peer that enters changes

-- what a peer did by whose list n got the changes `new`, while those of `made` were made
abbrev pub act_by : ℕ → List ChangeParts → List ChangeParts → Act
act_by n [] [] = Nothing
act_by n (c ∷ new) [] = Take n (c ∷ new)
act_by n [] (d ∷ made) = Strand n d
act_by n (c ∷ new) (d ∷ made) = Make n d

-- Of the new changes of the peer p these were made: the one new change, which p may make; or none, where all were made before.
abbrev pub IsMaking : World → PeerState → List ChangeParts → List ChangeParts → Type 0
IsMaking w p new [] = AllIn new w.made
IsMaking w p new (c ∷ made) = (made ≡ []) × (new ≡ c ∷ []) × MayMake (lists_of w) p.applied c

one_alone : (c d : ChangeParts) (new more : List ChangeParts) → (c ∷ new) ++ more ≡ d ∷ [] → c ∷ new ≡ d ∷ []
one_alone c d [] more e = cc
one_alone c d (b ∷ new) more e = absurd cc

-- that is the act by which the lists changed
pub enters_by : (w : World) (n : ℕ) (p p' : PeerState) (new more made : List ChangeParts) → HasPeer w n p → p'.applied ≡ p.applied ++ new → Sound (p.applied ++ new) → IsMaking w p (new ++ more) made
    → ActStep (lists_of w) (act_by n new made) (lists_of (with_made (with_peer w n p') made))
enters_by w n p p' [] more [] present applied sound is =
    lists_are w n p' [] p.applied w.made (applied ∙ append-nil p.applied) (append-nil w.made) ∙ set_still w n p present
enters_by w n p p' (c ∷ new) more [] present applied sound is = (
  p.applied,
  has_list w n p present,
  (λ d i. is d (In-left d (c ∷ new) more i)),
  sound,
  lists_are w n p' [] (p.applied ++ c ∷ new) w.made applied (append-nil w.made),
)
enters_by w n p p' [] more (d ∷ made) present applied sound is = (
  p.applied,
  has_list w n p present,
  is.2,
  lists_are w n p' (d ∷ made) p.applied (w.made ++ d ∷ []) (applied ∙ append-nil p.applied) (ap (λ l. w.made ++ d ∷ l) is.0)
      ∙ ap (λ s. add_change s d) (set_still w n p present),
)
enters_by w n p p' (c ∷ new) more (d ∷ made) present applied sound is = (
  p.applied,
  has_list w n p present,
  is.2,
  lists_are w n p' (d ∷ made) (p.applied ++ d ∷ []) (w.made ++ d ∷ []) (applied ∙ ap (λ l. p.applied ++ l) (one_alone c d new more is.1)) (ap (λ l. w.made ++ d ∷ l) is.0),
)

-- ---- a device is to fail

-- the peer stays carried
armed_is_carried : (w w' : World) (p : PeerState) (kept : ℕ) → w'.id ≡ w.id → w'.made ≡ w.made → w'.used ≡ w.used → IsCarried w p → IsCarried w' (arming p kept)
armed_is_carried w w' p kept id made used q = record {
  id = q.id ∙ sym id;
  history = q.history;
  applied = subst (λ l. AllIn p.applied l) (sym made) q.applied;
  waiting = subst (λ l. AllIn p.waiting l) (sym made) q.waiting;
  used = subst (λ l. In p.actor l) (sym used) q.used;
  calm = q.calm;
  live = λ runs. let l = q.live runs in record { journal = l.journal; own = λ c i by. l.own c (subst (λ x. In c x) made i) by };
  dead = λ stopped.
      let d = q.dead stopped in
      record { more = d.more; few = d.few; were_made = subst (λ l. AllIn d.more l) (sym made) d.were_made; keep = d.keep; recovers = d.recovers };
}

pub peer_is_armed : (w : World) (n : ℕ) (p : PeerState) (kept : ℕ) → WorldInvariant w → HasPeer w n p → Carries w Nothing (with_peer w n (arming p kept))
peer_is_armed w n p kept h present =
    let p' = arming p kept in
    let w' = with_peer w n p' in
    let s = lists_of w in
    let same : lists_of w' ≡ lists_of w =
    ap (λ (l : List (List ChangeParts)). record s { lists = l }) (map-slice_set (λ (x : PeerState). x.applied) w.peers n p') ∙ set_still w n p present in
    peer_changes w w' n p p' [] Nothing same (record {
      old = h;
      present = present;
      moves = record { id = refl; peers = refl; made = sym (append-nil w.made); used = λ a i. i; wire = refl; reads = refl };
      by = record { runs = λ c i. absurd i; actor = λ c i. absurd i; limits = λ c i. absurd i };
      carried = armed_is_carried w w' p kept refl refl refl (h.peers n p present);
      life = λ runs. inl (runs, refl);
    })
