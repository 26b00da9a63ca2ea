-- How the answers to bytes that come follow one another.
use Rattle.std.proofs.Common.{◌≡◌, ℕ, List, [], ◌++◌, false, sym, ap, subst, ◌∙◌}
use Rattle.std.proofs.lemmas.List.Concat.{flat_map-append}
use Rattle.std.specs.List.{flat_map}
use Rattle.tp_frame.specs.Frame.{frame_spelling}
use Rattle.tp_frame.specs.Reading.{IsUnfinishedFrame}
use Rattle.tp_peer.specs.PeerStep.{Reply}
use Rattle.tp_session.specs.declared.conversation.Next.{Next}
use Rattle.tp_session.specs.declared.conversation.Next.TheVariants.{Waits, GoesOn, Ended}
use Rattle.tp_session.specs.Conversation.{Goes}
use Rattle.tp_session.specs.HostCalls.{HostCall}
use Rattle.tp_session.specs.Laws.{is_over}
use Rattle.tp_session.specs.SessionState.{SessionState}
use Rattle.tp_session.proofs.Transcripts.{has_ended, takes_none, takes_turn}
use Rattle.tp_editor.specs.Meeting.{AnswersAll}

module _ {H : Type 0} (steps : H → HostCall → Reply → H → Type 0) where
  -- no frame was answered yet
  pub answers_none : (a : SessionState × H) (held sent : List ℕ) → sent ≡ [] → AnswersAll steps a held sent a held
  answers_none a held sent none = ([], takes_none steps a held, none)

  rests : (b : SessionState × H) (held : List ℕ) (next : Next) (send : List ℕ) (k : SessionState × H) (rest : List ℕ) → Goes steps b held next send k rest → next ≡ Waits → IsUnfinishedFrame rest
  rests b held Waits send k rest g waits = subst IsUnfinishedFrame (sym g.3) g.0
  rests b held GoesOn send k rest g waits = absurd (cc)
  rests b held Ended send k rest g waits = absurd (cc)

  -- a call that feeds more
  pub answers_turn : (a : SessionState × H) (came more sent held : List ℕ) (b : SessionState × H) (next : Next) (send : List ℕ) (k : SessionState × H) (rest after : List ℕ)
      → is_over b.0.phase ≡ false → AnswersAll steps a came sent b held → Goes steps b (held ++ more) next send k rest → after ≡ sent ++ send
      → AnswersAll steps a (came ++ more) after k rest × (is_over k.0.phase ≡ has_ended next) × (next ≡ Waits → IsUnfinishedFrame rest)
  answers_turn a came more sent held b next send k rest after going all g is =
      let t = takes_turn steps a came all.0 held more b next send k rest going all.1 g in
      let both = is ∙ ap (λ (l : List ℕ). l ++ send) all.2 ∙ ap (λ (l : List ℕ). flat_map frame_spelling all.0 ++ l) t.1 ∙ sym (flat_map-append frame_spelling all.0 t.0) in
      ((all.0 ++ t.0, t.2, both), t.3, rests b (held ++ more) next send k rest g)
