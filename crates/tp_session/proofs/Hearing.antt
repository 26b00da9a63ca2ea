-- What the parts of a frame come to, one after another.
use Rattle.tp_session.proofs.Common.{◌≡◌, ℕ, ◌≤◌, List, [], ◌++◌, length, take, drop, replicate, false, true, Option, Some, None, Ok, Err, ap, ◌∙◌, append-nil, append_assoc, arith, length-append, get_or-replicate, get_or_past, length-replicate, length-take, take-append-drop, AreBytes, AreBytes-append, AreBytes-rest, reads_more, Frame, Sync, Part, Begin, Piece, End, Whole, IsFrame, frame_spelling, GivesPart, IsInside, PartsBefore, OpenedFrame, IsPartStateOf, with_more, frame_at, Reply, NetError, Turn, Ended, EndsBy, HasCome, IsAmid, MayBeNext, AnswersNextFrame, at_frame, is_last, HostCall, is_over, refusal_of, Awaits, SessionPartStep, and_given, none_of, SessionState, SessionStep}
use Rattle.tp_frame.specs.PartState.{PartState}
use Rattle.tp_frame.proofs.FrameFields.{frame_field}
use Rattle.tp_frame.proofs.PartLaws.{inside_ends, inside_waits}
use Rattle.tp_session.proofs.StepFacts.{is_due, reading_stays}

-- more bytes come
pub come_more : (came bytes : List ℕ) (now : SessionState) (before after : PartState) → AreBytes bytes → ((led : PartsBefore) → IsPartStateOf led before → IsPartStateOf (with_more led bytes) after)
    → HasCome came now before → HasCome (came ++ bytes) now after
come_more came bytes now before after fits fed is = (is.0, grind (arith, AreBytes-append, fed (record { came = came; opened = is.0 })))

-- ---- sync frames that have begun

zeros : (n : ℕ) → AreBytes (replicate n 0)
zeros n i = grind (arith, get_or-replicate, get_or_past, length-replicate)

-- more bytes come
inside_more : (frame : OpenedFrame) (came : List ℕ) (left : ℕ) (held more : List ℕ) → IsInside frame came left held → IsInside frame (came ++ more) left (held ++ more)
inside_more frame came left held more is = grind (arith, append_assoc)

-- the rest of the frame is there
inside_all : (frame : OpenedFrame) (came : List ℕ) (left : ℕ) (held : List ℕ) → IsInside frame came left held → left ≤ length held → IsInside (and_given frame (take left held)) came 0 (drop left held)
inside_all frame came left held is le = grind (arith, length-append, length-take, take-append-drop, append_assoc)

-- What is read there is a sync frame that begins so.
inside_read : (frame : OpenedFrame) (came : List ℕ) (left : ℕ) (held : List ℕ) (f : Frame) (rest : List ℕ) → IsInside frame came left held → frame_at came ≡ Ok (f, rest)
    → (more : List ℕ) × (length (frame.given ++ more) ≡ frame.len) × (Sync (frame.given ++ more) ≡ f)
inside_read frame came left held f rest is read =
    let le : left ≤ length held = grind (arith, inside_waits frame came left held is) in
    let all = inside_all frame came left held is le in
    let ends = inside_ends (and_given frame (take left held)) came (drop left held) all in
    (take left held, omega (arith, all.count), grind arith)

-- Some frame begins so.
inside_next : (frame : OpenedFrame) (came : List ℕ) (left : ℕ) (held : List ℕ) → AreBytes came → IsInside frame came left held → (f : Frame) × MayBeNext came f
inside_next frame came left held fits is =
    let more = replicate left (let z : ℕ = 0 in z) in
    let all = inside_all frame (came ++ more) left (held ++ more) (inside_more frame came left held more is) (simp (length-append, length-replicate) (omega arith)) in
    let f = Sync (frame.given ++ take left (held ++ more)) in
    let t = frame_field.takes (came ++ more) f (drop left (held ++ more)) (AreBytes-append came more fits (zeros left)) (inside_ends (and_given frame (take left (held ++ more))) (came ++ more) (drop left (held ++ more)) all) in
    (f, (t.1, more, drop left (held ++ more), t.0))

inside_of : (frame : OpenedFrame) (came : List ℕ) (s : PartState) → IsPartStateOf (record { came = came; opened = Some frame }) s → (left : ℕ) × IsInside frame came left s.held
inside_of frame came s is = grind arith

-- what is held reads as a frame that may be next
next_read : (held : List ℕ) (f : Frame) → (next : MayBeNext held f) → frame_at (held ++ next.1) ≡ Ok (f, next.2)
next_read held f next = ap frame_at next.3 ∙ frame_field.again f next.2 next.0

-- ---- a part comes

module _ {H : Type 0} (steps : H → HostCall → Reply → H → Type 0) (a : SessionState × H) where
  -- The frame goes on, and the host wasn't asked.
  pub part_on : (led after : PartsBefore) (part : Part) (s : PartState) (turn : Turn) (b : SessionState × H) → is_last part ≡ false → AreBytes led.came → GivesPart led part after → IsPartStateOf after s → SessionPartStep steps a led.opened part (Ok turn) b
      → ((opened : Option OpenedFrame) × IsAmid a.0 (record { came = led.came; opened = opened }) b.0 s) × (b.1 ≡ a.1)
  part_on led after part s turn b last fits gives is step = grind arith

  taken : (f : Frame) (came rest : List ℕ) (s : PartState) (turn : Turn) (b : SessionState × H) → a.0.reading ≡ None → AreBytes came → frame_at came ≡ Ok (f, rest) → IsPartStateOf (record { came = rest; opened = None }) s → SessionStep steps a f (Ok turn) b
      → AnswersNextFrame steps a came turn rest (at_frame b.0, b.1) × HasCome rest b.0 s
  taken f came rest s turn b idle fits read is step =
      let t = frame_field.takes came f rest fits read in
      let stays = reading_stays steps a b f (Ok turn) step in
      let fit = AreBytes-rest (frame_spelling f) came rest t.0 fits in
      (grind arith, grind arith)

  -- The frame was taken.
  pub part_ends : (led after : PartsBefore) (part : Part) (s : PartState) (turn : Turn) (b : SessionState × H) → is_last part ≡ true → a.0.reading ≡ None → AreBytes led.came → GivesPart led part after → IsPartStateOf after s → SessionPartStep steps a led.opened part (Ok turn) b
      → AnswersNextFrame steps a led.came turn after.came (at_frame b.0, b.1) × HasCome after.came b.0 s
  part_ends led after End s turn b last idle fits gives is step = taken (Sync gives.0.given) led.came after.came s turn b idle fits gives.3 (rw gives.4 at is) ((rw gives.1 at step) gives.2)
  part_ends led after (Whole f) s turn b last idle fits gives is step = taken f led.came after.came s turn b idle fits gives.2 (rw gives.3 at is) (rw gives.0 at step)
  part_ends led after _ s turn b last idle fits gives is step = absurd cc

  -- A step that ends the session for an error, where the refusal that is due is sent.
  due : (f : Frame) (ended : Ended) (e : NetError) (b : SessionState × H) → is_over a.0.phase ≡ false → e ≡ ended.error → SessionStep steps a f (Err ended) b → SessionStep steps a f (Err (record { error = e; send = refusal_of e })) b
  due f ended e b going is step =
      let due = is_due steps a b f ended going step in
      let same : ended ≡ record { error = e; send = refusal_of e } = cc in
      rw same at step

  -- The frame was read.
  ends_read : (x : Frame) (came rest : List ℕ) (ended : Ended) (e : NetError) (b : SessionState × H) → is_over a.0.phase ≡ false → e ≡ ended.error → AreBytes came → frame_at came ≡ Ok (x, rest) → SessionStep steps a x (Err ended) b → EndsBy steps a came e b.1
  ends_read x came rest ended e b going is fits read step =
      let t = frame_field.takes came x rest fits read in
      record {
        frame = x;
        next = (t.1, [], rest, append-nil came ∙ t.0);
        session = b.0;
        each = λ f next.
            let same : x ≡ f = grind (arith, reads_more _ frame_at frame_spelling IsFrame frame_field came next.1 x rest fits read, next_read came f next) in
            due f ended e b going is (rw same at step);
      }

  -- A part of it came.
  ends_inside : (frame : OpenedFrame) (came : List ℕ) (left : ℕ) (held : List ℕ) (ended : Ended) (e : NetError) (b : SessionState × H) → is_over a.0.phase ≡ false → e ≡ ended.error → AreBytes came → IsInside frame came left held → Awaits steps a frame (Err ended) b → EndsBy steps a came e b.1
  ends_inside frame came left held ended e b going is fits inside awaits =
      let some = inside_next frame came left held fits inside in
      record {
        frame = some.0;
        next = some.1;
        session = b.0;
        each = λ f next.
            let read = inside_read frame (came ++ next.1) left (held ++ next.1) f next.2 (inside_more frame came left held next.1 inside) (next_read came f next) in
            due f ended e b going is (rw read.2 at (awaits read.0 read.1));
      }

  -- The part ends the session for an error.
  pub part_refuses : (led after : PartsBefore) (part : Part) (s : PartState) (ended : Ended) (e : NetError) (b : SessionState × H) → is_over a.0.phase ≡ false → e ≡ ended.error → AreBytes led.came → GivesPart led part after → IsPartStateOf after s
      → SessionPartStep steps a led.opened part (Err ended) b → EndsBy steps a led.came e b.1
  part_refuses led after (Begin len) s ended e b going is fits gives present step =
      let i = inside_of (none_of len) led.came s (rw gives.1 at present) in
      ends_inside (none_of len) led.came i.0 s.held ended e b going is fits i.1 (rw gives.0 at step)
  part_refuses led after (Piece bytes) s ended e b going is fits gives present step =
      let i = inside_of (and_given gives.0 bytes) led.came s (rw gives.3 at present) in
      ends_inside (and_given gives.0 bytes) led.came i.0 s.held ended e b going is fits i.1 ((rw gives.1 at step) (omega (arith, i.1.count)))
  part_refuses led after End s ended e b going is fits gives present step = ends_read (Sync gives.0.given) led.came after.came ended e b going is fits gives.3 ((rw gives.1 at step) gives.2)
  part_refuses led after (Whole f) s ended e b going is fits gives present step = ends_read f led.came after.came ended e b going is fits gives.2 (rw gives.0 at step)
