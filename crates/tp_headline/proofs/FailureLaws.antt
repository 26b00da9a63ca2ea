-- What an edit makes in which the device fails.
use Rattle.tp_headline.proofs.Common.{◌≡◌, ◌⊎◌, inl, inr, ℕ, ◌++◌, true, false, refl, sym, ap, ◌∙◌, subst, append-nil, Recovers, PeerState, step_keeps, Alone, made_by, WorldInvariant, MakesUnanswered, Call, Next, Answered, World, HasPeer}
use Rattle.tp_peer.specs.declared.error.PeerError.TheVariants.{JournalFailed}
use Rattle.tp_peer.specs.PeerStep as peer
use Rattle.tp_headline.specs.declared.error.WorldError.TheVariants as world
use Rattle.tp_headline.proofs.FollowLaws.{did, present_after}
use Rattle.tp_headline.proofs.MakingLaws.{Left, kept_is, left_of, nothing_left, one_cut}

-- a call on a device that failed has stopped its peer
fails_stopped : (p : PeerState) (made : peer.Call) (p' : PeerState) → peer.PeerStep p made (peer.Refused JournalFailed) p' → p'.stopped ≡ true
fails_stopped p made p' s = elim (step_keeps p made (peer.Refused JournalFailed) p' s).journal [
  | inl appends ↦ absurd (appends.answered refl)
  | inr tears ↦ tears.stopped
]

-- what it tried to make is whole in the journal, or it isn't
made_unanswered : (w w' : World) (n : ℕ) (p p' : PeerState) (made : peer.Call) (l : Left p made p') → HasPeer w n p → p.stopped ≡ false → HasPeer w' n p' → p'.stopped ≡ true → w'.made ≡ w.made ++ made_by made l.whole
    → (w'.made ≡ w.made) ⊎ MakesUnanswered w w' n made
made_unanswered w w' n p p' (peer.Edit ss time message) l present runs after stopped added = elim l.may [
  | inl none ↦ inl (added ∙ ap (λ C. w.made ++ C) (nothing_left l.whole l.others (sym none ∙ l.split)) ∙ append-nil w.made)
  | inr one ↦
      let c = one.0 in
      elim (one_cut c l.whole l.others (sym one.2 ∙ l.split)) [
        | inl none ↦ inl (added ∙ ap (λ C. w.made ++ C) none ∙ append-nil w.made)
        | inr is ↦ inr (record {
          change = c;
          is = record { peer = p; present = present; runs = runs; edited = one.1 };
          added = added ∙ ap (λ C. w.made ++ C) is;
          after = p';
          present = after;
          stopped = stopped;
          keep = l.keep;
          recovers = subst (λ C. Recovers p'.journal p'.id (p.applied ++ C) l.keep) is l.recovers;
        })
      ]
]
made_unanswered w w' n p p' made l present runs after stopped added = inl (added ∙ append-nil w.made)

pub edit_fails : (w : World) (n : ℕ) (made : peer.Call) (w' : World) → WorldInvariant w → Next w (Call n (Alone made)) (Answered (peer.Refused JournalFailed)) w' → (w'.made ≡ w.made) ⊎ MakesUnanswered w w' n made
edit_fails w n made w' h (inl refused) = absurd (let replied = refused.replied in cc)
edit_fails w n made w' h (inr does) =
    let reply = peer.Refused JournalFailed in
    let d = did w n (Alone made) reply w' (inr does) in
    let c = d.calls in
    let p = c.before in
    let p' = c.after in
    let runs = does.may world.Stopped n p (inl refl) c.present in
    let steps : peer.PeerStep p made reply p' = subst (λ m. peer.PeerStep p m reply p') c.is.0 d.steps in
    let l = left_of w p made reply p' h (h.peers n p c.present) runs steps in
    let added : w'.made ≡ w.made ++ made_by made l.whole =
    ap (λ (x : World). x.made) d.left ∙ ap (λ m. w.made ++ made_by m c.kept) c.is.0 ∙ ap (λ C. w.made ++ made_by made C) (kept_is p made p' c.kept c.keep l c.recovers) in
    made_unanswered w w' n p p' made l c.present runs (present_after w n (Alone made) (Answered reply) w' c) (fails_stopped p made p' steps) added
