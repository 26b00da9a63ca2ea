-- How a transcript begins and goes on.
use Rattle.tp_session.proofs.Common.{◌≡◌, ℕ, ◌<◌, List, [], ◌∷◌, ◌++◌, length, refl, ap, ◌∙◌, append_assoc, append-nil, arith, Bool, true, false, Option, Some, option_to_list, flat_map_more, map-append, Frame, IsFrame, frame_spelling, Reply, Next, Waits, Turn, AnswersFrame, Goes, LeavesUnsent, AnswersNextFrame, frame_bytes, is_over, HostCall, SessionState}
use Rattle.std.specs.List.{AllByRecursion, flat_map}
use Rattle.tp_list.proofs.TraceLaws.{trace_push}
use Rattle.tp_frame.specs.Stream.{BeginsWith}
use Rattle.tp_session.specs.declared.conversation.Next.TheVariants.{GoesOn, Ended}
use Rattle.tp_session.specs.Transcript.{IsFrameAnswered, AnsweredFrame, TakesAll, frames_of}

-- whether the session has ended, by how it goes on
abbrev pub has_ended : Next → Bool
has_ended Waits = false
has_ended GoesOn = false
has_ended Ended = true

-- a frame that has bytes
pub some_frame : (o : Option Frame) → 0 < length (frame_bytes o) → (f : Frame) × (o ≡ Some f)
some_frame o some = grind arith

all_on : (frames : List Frame) (f : Frame) → AllByRecursion IsFrame frames → IsFrame f → AllByRecursion IsFrame (frames ++ f ∷ [])
all_on [] f all is = (is, tt)
all_on (g ∷ frames) f all is = (all.0, all_on frames f all.1 is)

pub sent_alone : (o : Option Frame) → frame_bytes o ≡ flat_map frame_spelling (option_to_list o)
sent_alone o = grind (arith, append-nil)

-- what is held is a frame and a rest
begins_on : (read : List ℕ) (frames : List Frame) (held : List ℕ) (f : Frame) (rest : List ℕ) → BeginsWith read frames held → IsFrame f → held ≡ frame_spelling f ++ rest → BeginsWith read (frames ++ f ∷ []) rest
begins_on read frames held f rest b is front = record {
  each = all_on frames f b.each is;
  spelled = grind (arith, append_assoc, flat_map_more frame_spelling [] frames f);
}

module _ {H : Type 0} (steps : H → HostCall → Reply → H → Type 0) (a : SessionState × H) where
  -- nothing came
  pub takes_none : (came : List ℕ) → TakesAll steps a came [] came a
  takes_none came = record { transcript = []; trace = refl; frames = record { each = tt; spelled = refl }; answers = refl }

  -- more bytes come
  pub takes_more : (came more : List ℕ) (sent : List Frame) (held : List ℕ) (b : SessionState × H) → TakesAll steps a came sent held b → TakesAll steps a (came ++ more) sent (held ++ more) b
  takes_more came more sent held b t = grind (arith, append_assoc)

  -- the next frame is taken
  pub takes_on : (came : List ℕ) (sent : List Frame) (held : List ℕ) (b : SessionState × H) (turn : Turn) (rest : List ℕ) (k : SessionState × H)
      → TakesAll steps a came sent held b → AnswersNextFrame steps b held turn rest k → TakesAll steps a came (sent ++ option_to_list turn.send) rest k
  takes_on came sent held b turn rest k all t =
      let x : AnsweredFrame = record { frame = t.frame; turn = turn } in
      record {
        transcript = all.transcript ++ x ∷ [];
        trace = trace_push (IsFrameAnswered steps) a all.transcript b x k all.trace t.step;
        frames = rw (map-append (λ (y : AnsweredFrame). y.frame) all.transcript (x ∷ [])) (begins_on came (frames_of all.transcript) held t.frame rest all.frames t.is_frame t.front);
        answers = ap (λ (l : List Frame). l ++ option_to_list turn.send) all.answers ∙ flat_map_more (λ (y : AnsweredFrame). option_to_list y.turn.send) [] all.transcript x;
      }

  takes_answer : (came : List ℕ) (sent : List Frame) (held : List ℕ) (b : SessionState × H) (ended : Bool) (send : List ℕ) (k : SessionState × H) (rest : List ℕ)
      → TakesAll steps a came sent held b → AnswersFrame steps b held ended send k rest
      → (frames : List Frame) × (send ≡ flat_map frame_spelling frames) × TakesAll steps a came (sent ++ frames) rest k × (is_over k.0.phase ≡ ended)
  takes_answer came sent held b ended send k rest all g =
      (option_to_list g.turn.send, g.sent ∙ sent_alone g.turn.send, takes_on came sent held b g.turn rest k all g.takes, g.over)

  -- by one call, once more bytes came
  pub takes_turn : (came : List ℕ) (sent : List Frame) (held more : List ℕ) (b : SessionState × H) (next : Next) (send : List ℕ) (k : SessionState × H) (rest : List ℕ)
      → is_over b.0.phase ≡ false → TakesAll steps a came sent held b → Goes steps b (held ++ more) next send k rest
      → (frames : List Frame) × (send ≡ flat_map frame_spelling frames) × TakesAll steps a (came ++ more) (sent ++ frames) rest k × (is_over k.0.phase ≡ has_ended next)
  takes_turn came sent held more b Waits send k rest going all g = ([], g.1, grind (arith, append-nil, takes_more came more sent held b all), grind arith)
  takes_turn came sent held more b GoesOn send k rest going all g = takes_answer (came ++ more) sent (held ++ more) b false send k rest (takes_more came more sent held b all) g
  takes_turn came sent held more b Ended send k rest going all g = takes_answer (came ++ more) sent (held ++ more) b true send k rest (takes_more came more sent held b all) g

  unsent_answer : (held : List ℕ) (ended : Bool) (send : List ℕ) (b : SessionState × H) (rest : List ℕ) → AnswersFrame steps a held ended send b rest → 0 < length send → LeavesUnsent steps a held b.1
  unsent_answer held ended send b rest g some =
      let f = some_frame g.turn.send (rw g.sent at some) in
      record { turn = g.turn; rest = rest; session = b.0; answer = f.0; takes = g.takes; to_send = f.1 }

  -- what is to be sent isn't
  pub unsent : (held : List ℕ) (next : Next) (send : List ℕ) (b : SessionState × H) (rest : List ℕ) → Goes steps a held next send b rest → 0 < length send → LeavesUnsent steps a held b.1
  unsent held Waits send b rest g some = absurd (omega (arith, ap length g.1))
  unsent held GoesOn send b rest g some = unsent_answer held false send b rest g some
  unsent held Ended send b rest g some = unsent_answer held true send b rest g some
