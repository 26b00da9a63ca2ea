-- What a framer of parts keeps of what led to it, and the frames that its parts make.
use Rattle.std.proofs.Common.{◌≡◌, ℕ, zero, suc, ◌+◌, ◌-◌, ◌<◌, ◌≤◌, ◌⊎◌, inl, inr, List, [], ◌∷◌, ◌++◌, length, take, drop, Option, Some, None, Result, Ok, Err, refl, sym, ap, subst, ◌∙◌, append_assoc, append-nil, arith, length-append}
use Rattle.std.specs.Int.{w32, to_be_bytes}
use Rattle.std.proofs.lemmas.Bool.{cases_lt}
use Rattle.std.proofs.lemmas.List.{take_at, drop_at}
use Rattle.tp_codec.proofs.Fields.{AreBytes, AreBytes-rest}
use Rattle.tp_frame.specs.declared.error.FrameError.{FrameError}
use Rattle.tp_frame.specs.declared.error.FrameError.TheVariants.{TooLong, BadKind, BadHello, OutOfMemory}
use Rattle.tp_frame.specs.declared.frame.Frame.{Frame}
use Rattle.tp_frame.specs.declared.frame.Frame.TheVariants.{Sync}
use Rattle.tp_frame.specs.declared.parts.Part.{Part}
use Rattle.tp_frame.specs.declared.parts.Part.TheVariants.{Begin, Piece, End, Whole}
use Rattle.tp_frame.specs.declared.parts.Stage.{Stage}
use Rattle.tp_frame.specs.declared.parts.Stage.TheVariants.{Front, Inside, Refused}
use Rattle.tp_frame.specs.declared.reading.Head.{Head}
use Rattle.tp_frame.specs.Openings.{IsNotSync, IsDue}
use Rattle.tp_frame.specs.PartState.{PartState}
use Rattle.tp_frame.specs.Parts.{OpenedFrame, PartsBefore, at_first, with_more, with_opened, IsInside, StandsIn, IsPartStateOf, PartAnswers, InsideAnswers, JoinedFrom, Parts, PartStep, Fed, Gave, all_fed, all_given, PartsLead}
use Rattle.tp_frame.specs.Reading.{head_at, frame_at, IsUnfinishedFrame, ShowsFault}
use Rattle.tp_frame.specs.Frame.{frame_spelling}
use Rattle.tp_frame.specs.Stream.{BeginsWith, Frames}
use Rattle.tp_frame.proofs.FrameFields.{IsHead, head_field, frame_field, made}
use Rattle.tp_frame.proofs.FrontSteps.{sync_read}
use Rattle.tp_frame.proofs.Openings.{waits_after, body_there, content_long}
use Rattle.tp_frame.proofs.StreamLaws.{AreBytes-begin, begins_on, fault_stays}

abbrev at : Stage → List ℕ → PartState
at stage held = record { stage = stage; held = held }

-- ---- inside a sync frame

head_came : (frame : OpenedFrame) (came : List ℕ) (left : ℕ) (held : List ℕ) → IsInside frame came left held → head_at came ≡ Ok (record { kind = 1; len = frame.len }, frame.given ++ held)
head_came frame came left held is =
    let h : Head = record { kind = 1; len = frame.len } in
    let head : IsHead h = record { kind = omega arith; size = omega (arith, is.size) } in
    ap head_at (is.spelled ∙ sym (append_assoc (to_be_bytes w32 (frame.len + 1)) (1 ∷ []) (frame.given ++ held))) ∙ head_field.again h (frame.given ++ held) head

-- Less than the whole frame came.
pub inside_waits : (frame : OpenedFrame) (came : List ℕ) (left : ℕ) (held : List ℕ) → IsInside frame came left held → length held < left → IsUnfinishedFrame came
inside_waits frame came left held is lt = waits_after came (record { kind = 1; len = frame.len }) (frame.given ++ held) (head_came frame came left held is) (omega (arith, is.count, length-append frame.given held))

-- All of the frame was given.
pub inside_ends : (frame : OpenedFrame) (came held : List ℕ) → IsInside frame came 0 held → frame_at came ≡ Ok (Sync frame.given, held)
inside_ends frame came held is =
    let count : length frame.given ≡ frame.len = omega (arith, is.count) in
    let there = content_long frame.len (frame.given ++ held) (omega (arith, length-append frame.given held)) in
    let exact = rw (take_at frame.given held frame.len count, drop_at frame.given held frame.len count) at there in
    sync_read came (made 1 frame.given) held (body_there came (record { kind = 1; len = frame.len }) (frame.given ++ held) frame.given held (head_came frame came 0 held is) exact) refl

-- The whole frame came.
pub inside_there : (frame : OpenedFrame) (came : List ℕ) (left : ℕ) (held : List ℕ) → IsInside frame came left held → left ≤ length held → (body : List ℕ) × (rest : List ℕ) × (frame_at came ≡ Ok (Sync body, rest))
inside_there frame came left held is le =
    let all = frame.given ++ held in
    let body = take frame.len all in let rest = drop frame.len all in
    let there = content_long frame.len all (omega (arith, is.count, length-append frame.given held)) in
    (body, rest, sync_read came (made 1 body) rest (body_there came (record { kind = 1; len = frame.len }) all body rest (head_came frame came left held is) there) refl)

inside_given : (frame : OpenedFrame) (came : List ℕ) (left : ℕ) (bytes rest : List ℕ) → IsInside frame came left (bytes ++ rest) → length bytes ≤ left → IsInside (record { len = frame.len; given = frame.given ++ bytes }) came (left - length bytes) rest
inside_given frame came left bytes rest is le = record {
  spelled = is.spelled ∙ ap (λ (b : List ℕ). to_be_bytes w32 (frame.len + 1) ++ 1 ∷ b) (sym (append_assoc frame.given bytes rest));
  count = omega (arith, is.count, length-append frame.given bytes);
  size = is.size;
}

-- ---- a part is given

-- inside a sync frame
answers_inside : (led : PartsBefore) (frame : OpenedFrame) (left : ℕ) (held : List ℕ) (r : Result (Option Part) FrameError) (s : PartState) → led.opened ≡ Some frame → IsInside frame led.came left held → InsideAnswers left held r s → PartAnswers led r s
answers_inside led frame left held (Ok (Some (Begin len))) s opened is answers = absurd answers
answers_inside led frame left held (Ok (Some (Piece bytes))) s opened is answers =
    let after = with_opened led frame.len (frame.given ++ bytes) in
    let inside = inside_given frame led.came left bytes s.held (subst (λ (b : List ℕ). IsInside frame led.came left b) answers.2 is) answers.1 in
    (after, (frame, opened, answers.0, refl), subst (λ (t : Stage). StandsIn after.opened led.came t s.held) (sym answers.3) inside, ends_or_all answers.4)
  where
    ends_or_all : (length bytes ≡ left) ⊎ (s.held ≡ []) → (s.stage ≡ Inside 0) ⊎ (s.held ≡ [])
    ends_or_all (inl same) = inl (answers.3 ∙ ap Inside (omega arith))
    ends_or_all (inr none) = inr none
answers_inside led frame left held (Ok (Some End)) s opened is answers =
    let ended = inside_ends frame led.came held (subst (λ (n : ℕ). IsInside frame led.came n held) answers.0 is) in
    (record { came = held; opened = None }, (frame, opened, omega (arith, is.count, answers.0), ended, refl), subst (λ (t : PartState). IsPartStateOf (record { came = held; opened = None }) t) (sym answers.1) refl, tt)
answers_inside led frame left held (Ok (Some (Whole f))) s opened is answers = absurd answers
answers_inside led frame left held (Ok None) s opened is answers =
    let none : length held ≡ 0 = ap length answers.1 in
    let present : IsPartStateOf led (at (Inside left) held) = subst (λ (o : Option OpenedFrame). StandsIn o led.came (Inside left) held) (sym opened) is in
    (inside_waits frame led.came left held is (omega (arith, answers.0, none)), subst (λ (t : PartState). IsPartStateOf led t) (sym answers.2) present, subst (λ (t : PartState). length t.held ≤ 21) (sym answers.2) (omega (arith, none)))
answers_inside led frame left held (Err e) s opened is answers =
    let present : IsPartStateOf led (at (Inside left) held) = subst (λ (o : Option OpenedFrame). StandsIn o led.came (Inside left) held) (sym opened) is in
    subst (λ (d : FrameError). PartAnswers led (Err d) s) (sym answers.0)
    (frame, opened, omega (arith, is.count, answers.1), subst (λ (t : PartState). IsPartStateOf led t) (sym answers.2) present)

pub from_inside : (led : PartsBefore) (stage : Stage) (left : ℕ) (held : List ℕ) (r : Result (Option Part) FrameError) (s : PartState) → stage ≡ Inside left → IsPartStateOf led (at stage held) → InsideAnswers left held r s → PartAnswers led r s
from_inside led stage left held r s inside before answers = by_opened led.opened refl (subst (λ (t : Stage). IsPartStateOf led (at t held)) inside before)
  where
    by_opened : (opened : Option OpenedFrame) → led.opened ≡ opened → StandsIn opened led.came (Inside left) held → PartAnswers led r s
    by_opened None none never = absurd never
    by_opened (Some frame) some is = answers_inside led frame left held r s some is answers

-- at a frame that is refused
pub from_due : (came : List ℕ) (left : ℕ) (e : FrameError) (r : Result (Option Part) FrameError) → IsDue came left e → (0 < left → r ≡ Ok None) → (left ≡ 0 → r ≡ Err e) → PartAnswers (record { came = came; opened = None }) r (at (Refused left e) [])
from_due came zero e r due waits shows = subst (λ (a : Result (Option Part) FrameError). PartAnswers (record { came = came; opened = None }) a (at (Refused 0 e) [])) (sym (shows refl)) (by_error e due)
  where
    by_error : (e : FrameError) → IsDue came 0 e → PartAnswers (record { came = came; opened = None }) (Err e) (at (Refused 0 e) [])
    by_error TooLong due = (refl, subst (λ (b : List ℕ). ShowsFault b TooLong) (append-nil came) (due.shows [] (omega arith)), (due, refl))
    by_error BadKind due = (refl, subst (λ (b : List ℕ). ShowsFault b BadKind) (append-nil came) (due.shows [] (omega arith)), (due, refl))
    by_error BadHello due = (refl, subst (λ (b : List ℕ). ShowsFault b BadHello) (append-nil came) (due.shows [] (omega arith)), (due, refl))
    by_error OutOfMemory due = absurd (due.memory refl)
from_due came (suc n) e r due waits shows =
    subst (λ (a : Result (Option Part) FrameError). PartAnswers (record { came = came; opened = None }) a (at (Refused (suc n) e) [])) (sym (waits (omega arith)))
    (subst IsUnfinishedFrame (append-nil came) (due.waits [] (omega arith)), (due, refl), omega arith)

-- ---- what is found at the front

-- A sync frame begins.
pub begins : (held : List ℕ) (len : ℕ) → (5 ≤ length held) × (len < 16777216) × (held ≡ to_be_bytes w32 (len + 1) ++ 1 ∷ drop 5 held) → PartAnswers (with_more at_first held) (Ok (Some (Begin len))) (at (Inside len) (drop 5 held))
begins held len found =
    (record { came = held; opened = Some (record { len = len; given = [] }) }, (refl, refl), record { spelled = found.2; count = omega arith; size = found.1 }, tt)

-- Another frame is whole.
pub gives_whole : (held : List ℕ) (f : Frame) (len : ℕ) → (len ≤ length held) × (frame_at held ≡ Ok (f, drop len held)) × IsNotSync f → PartAnswers (with_more at_first held) (Ok (Some (Whole f))) (at Front (drop len held))
gives_whole held f len found =
    (record { came = drop len held; opened = None }, (refl, found.2, found.1, refl), refl, tt)

pub whole_given : (own items seen rest : List ℕ) (f : Frame) (len : ℕ) (stage : Stage) → items ≡ own → seen ≡ items → stage ≡ Front → rest ≡ drop len items → (len ≤ length seen) × (frame_at seen ≡ Ok (f, drop len seen)) × IsNotSync f
    → PartAnswers (with_more at_first own) (Ok (Some (Whole f))) (at stage rest)
whole_given own items seen rest f len stage own-is seen-is front rest-is found =
    let back : rest ≡ drop len own = rest-is ∙ ap (λ (b : List ℕ). drop len b) own-is in
    let there = subst (λ (b : List ℕ). (len ≤ length b) × (frame_at b ≡ Ok (f, drop len b)) × IsNotSync f) (seen-is ∙ own-is) found in
    subst (λ (t : Stage). PartAnswers (with_more at_first own) (Ok (Some (Whole f))) (at t rest)) (sym front)
    (subst (λ (b : List ℕ). PartAnswers (with_more at_first own) (Ok (Some (Whole f))) (at Front b)) (sym back) (gives_whole own f len there))

pub refused_given : (own seen : List ℕ) (left : ℕ) (e : FrameError) (r : Result (Option Part) FrameError) (s : PartState) → seen ≡ own → IsDue seen left e → (0 < left → r ≡ Ok None) → (left ≡ 0 → r ≡ Err e) → s ≡ at (Refused left e) []
    → PartAnswers (with_more at_first own) r s
refused_given own seen left e r s same due waits shows state =
    subst (λ (t : PartState). PartAnswers (with_more at_first own) r t) (sym state)
    (from_due own left e r (subst (λ (b : List ℕ). IsDue b left e) same due) waits shows)

-- ---- the frames that parts make

run_joins : (before : PartsBefore) (steps : List PartStep) (after : PartsBefore) → AreBytes (before.came ++ all_fed steps) → PartsLead before steps after
    → (frames : List Frame) × JoinedFrom before.opened (all_given steps) frames after.opened × BeginsWith (before.came ++ all_fed steps) frames after.came
run_joins before [] after fits leads = ([], ap (λ (l : PartsBefore). l.opened) leads, record { each = tt; spelled = append-nil before.came ∙ ap (λ (l : PartsBefore). l.came) leads })
run_joins before (Fed bytes ∷ steps) after fits leads =
    let same : (before.came ++ bytes) ++ all_fed steps ≡ before.came ++ (bytes ++ all_fed steps) = append_assoc before.came bytes (all_fed steps) in
    let r = run_joins (with_more before bytes) steps after (rw same fits) leads in
    (r.0, r.1, subst (λ (b : List ℕ). BeginsWith b r.0 after.came) same r.2)
run_joins before (Gave (Begin len) ∷ steps) after fits leads =
    let r = run_joins (with_opened before len []) steps after fits (subst (λ (l : PartsBefore). PartsLead l steps after) leads.1.1 leads.2) in
    (r.0, (leads.1.0, r.1), r.2)
run_joins before (Gave (Piece bytes) ∷ steps) after fits leads =
    let frame = leads.1.0 in
    let r = run_joins (with_opened before frame.len (frame.given ++ bytes)) steps after fits (subst (λ (l : PartsBefore). PartsLead l steps after) leads.1.3 leads.2) in
    (r.0, (frame, leads.1.1, leads.1.2, r.1), r.2)
run_joins before (Gave End ∷ steps) after fits leads =
    let frame = leads.1.0 in let f : Frame = Sync frame.given in let rest = leads.0.came in
    let t = frame_field.takes before.came f rest (AreBytes-begin before.came (all_fed steps) fits) leads.1.3 in
    let whole : before.came ++ all_fed steps ≡ frame_spelling f ++ (rest ++ all_fed steps) = ap (λ (b : List ℕ). b ++ all_fed steps) t.0 ∙ append_assoc (frame_spelling f) rest (all_fed steps) in
    let r = run_joins leads.0 steps after (AreBytes-rest (frame_spelling f) (before.came ++ all_fed steps) (rest ++ all_fed steps) whole fits) leads.2 in (
      f ∷ r.0,
      (frame, leads.1.1, leads.1.2, refl, subst (λ (o : Option OpenedFrame). JoinedFrom o (all_given steps) r.0 after.opened) leads.1.4 r.1),
      begins_on f (before.came ++ all_fed steps) (rest ++ all_fed steps) r.0 after.came t.1 whole r.2,
    )
run_joins before (Gave (Whole f) ∷ steps) after fits leads =
    let rest = leads.0.came in
    let t = frame_field.takes before.came f rest (AreBytes-begin before.came (all_fed steps) fits) leads.1.2 in
    let whole : before.came ++ all_fed steps ≡ frame_spelling f ++ (rest ++ all_fed steps) = ap (λ (b : List ℕ). b ++ all_fed steps) t.0 ∙ append_assoc (frame_spelling f) rest (all_fed steps) in
    let r = run_joins leads.0 steps after (AreBytes-rest (frame_spelling f) (before.came ++ all_fed steps) (rest ++ all_fed steps) whole fits) leads.2 in (
      f ∷ r.0,
      (leads.1.0, leads.1.1, refl, subst (λ (o : Option OpenedFrame). JoinedFrom o (all_given steps) r.0 after.opened) leads.1.3 r.1),
      begins_on f (before.came ++ all_fed steps) (rest ++ all_fed steps) r.0 after.came t.1 whole r.2,
    )

pub parts_begin : (steps : List PartStep) (led : PartsBefore) → AreBytes (all_fed steps) → PartsLead at_first steps led
    → (frames : List Frame) × Parts (all_given steps) frames led.opened × BeginsWith (all_fed steps) frames led.came
parts_begin = run_joins at_first

pub parts_all : (steps : List PartStep) (led : PartsBefore) → AreBytes (all_fed steps) → PartsLead at_first steps led → IsUnfinishedFrame led.came
    → (frames : List Frame) × Parts (all_given steps) frames led.opened × Frames (all_fed steps) frames led.came
parts_all steps led fits leads rest =
    let r = parts_begin steps led fits leads in
    (r.0, r.1, record { begins = r.2; ends = rest })

-- ---- a refusal stays

-- What came of a sync frame shows no fault.
inside_apart : (frame : OpenedFrame) (came : List ℕ) (left : ℕ) (held : List ℕ) (e : FrameError) → IsInside frame came left held → ShowsFault came e → ⊥
inside_apart frame came left held e is shows =
    elim (cases_lt (length held) left) [
      | inl lt ↦ (let waits = inside_waits frame came left held is lt in cc)
      | inr le ↦ (let there = inside_there frame came left held is le in let read = there.2 in cc)
    ]

opened_apart : (frame : OpenedFrame) (came : List ℕ) (stage : Stage) (held : List ℕ) (e : FrameError) → StandsIn (Some frame) came stage held → ShowsFault came e → ⊥
opened_apart frame came Front held e present shows = present
opened_apart frame came (Inside left) held e present shows = inside_apart frame came left held e present shows
opened_apart frame came (Refused left d) held e present shows = present

same_fault : (came : List ℕ) (d e : FrameError) → ShowsFault came d → ShowsFault came e → (let r : Result (Option Part) FrameError = Err d in r) ≡ Err e
same_fault came d e p q = let same : d ≡ e = cc in ap (λ (x : FrameError). Err x) same

pub none_some : (o : Option OpenedFrame) (frame : OpenedFrame) → o ≡ None → o ≡ Some frame → ⊥
none_some o frame none some = cc

again : (led : PartsBefore) (e : FrameError) (r : Result (Option Part) FrameError) (s : PartState) → led.opened ≡ None → ShowsFault led.came e → PartAnswers led r s → r ≡ Err e
again led e (Ok None) s none shows answers = absurd (let rest = answers.0 in cc)
again led e (Ok (Some (Begin len))) s none shows answers =
    let present = subst (λ (l : PartsBefore). IsPartStateOf l s) answers.1.1 answers.2 in
    absurd (opened_apart (record { len = len; given = [] }) led.came s.stage s.held e present shows)
again led e (Ok (Some (Piece bytes))) s none shows answers = absurd (none_some led.opened answers.1.0 none answers.1.1)
again led e (Ok (Some End)) s none shows answers = absurd (none_some led.opened answers.1.0 none answers.1.1)
again led e (Ok (Some (Whole f))) s none shows answers = absurd (let read = answers.1.2 in cc)
again led e (Err TooLong) s none shows answers = same_fault led.came TooLong e answers.1 shows
again led e (Err BadKind) s none shows answers = same_fault led.came BadKind e answers.1 shows
again led e (Err BadHello) s none shows answers = same_fault led.came BadHello e answers.1 shows
again led e (Err OutOfMemory) s none shows answers = absurd (none_some led.opened answers.0 none answers.1)

pub refused_again : (led : PartsBefore) (more : List ℕ) (e : FrameError) (r : Result (Option Part) FrameError) (s : PartState) → AreBytes led.came → led.opened ≡ None → ShowsFault led.came e → PartAnswers (with_more led more) r s → r ≡ Err e
refused_again led more e r s fits none shows answers = again (with_more led more) e r s none (fault_stays led.came more e fits shows) answers
