-- The laws of streams: what a run of calls gives, and that no bytes are two lists of frames.
use Rattle.std.proofs.Common.{◌≡◌, ℕ, List, [], ◌∷◌, ◌++◌, length, Result, Ok, Err, refl, sym, ap, subst, ◌∙◌, append_assoc, append-nil, ◌<◌, arith, length-append}
use Rattle.std.specs.List.{flat_map}
use Rattle.std.specs.Prelude.{◌↔◌}
use Rattle.std.proofs.lemmas.List.{take_at}
use Rattle.std.proofs.lemmas.List.Concat.{flat_map-cons}
use Rattle.tp_list.specs.Traces.{Trace}
use Rattle.tp_codec.proofs.Fields.{AreBytes, AreBytes-rest, AreBytes-take}
use Rattle.tp_frame.specs.declared.error.FrameError.{FrameError}
use Rattle.tp_frame.specs.declared.frame.Frame.{Frame}
use Rattle.tp_frame.specs.declared.reading.NoFrame.{NoFrame}
use Rattle.tp_frame.specs.declared.reading.NoFrame.TheVariants.{Missing, Fault}
use Rattle.tp_frame.specs.Frame.{frame_spelling, IsFrame}
use Rattle.tp_frame.specs.Reading.{frame_at, IsUnfinishedFrame, ShowsFault}
use Rattle.tp_frame.specs.Stream.{BeginsWith, Frames, Step, Fed, Gave, fed_in, given_in, Makes}
use Rattle.tp_frame.proofs.FrameFields.{frame_field}

pub AreBytes-begin : (xs ys : List ℕ) → AreBytes (xs ++ ys) → AreBytes xs
AreBytes-begin xs ys fits = rw (← take_at xs ys (length xs) refl) (AreBytes-take (length xs) (xs ++ ys) fits)

-- a frame and then what begins with frames
pub begins_on : (f : Frame) (bytes rest : List ℕ) (frames : List Frame) (held : List ℕ) → IsFrame f → bytes ≡ frame_spelling f ++ rest → BeginsWith rest frames held → BeginsWith bytes (f ∷ frames) held
begins_on f bytes rest frames held is e b = record {
  each = (is, b.each);
  spelled = e ∙ ap (λ (r : List ℕ). frame_spelling f ++ r) b.spelled ∙ sym (append_assoc (frame_spelling f) (flat_map frame_spelling frames) held) ∙ ap (λ (r : List ℕ). r ++ held) (sym (flat_map-cons frame_spelling f frames));
}

run_begins : (before : List ℕ) (steps : List Step) (held : List ℕ) → AreBytes (before ++ fed_in steps) → Trace Makes before steps held → BeginsWith (before ++ fed_in steps) (given_in steps) held
run_begins before [] held fits leads = record { each = tt; spelled = append-nil before ∙ sym leads }
run_begins before (Fed bytes ∷ steps) held fits leads =
    let same : leads.0 ++ fed_in steps ≡ before ++ (bytes ++ fed_in steps) = ap (λ (b : List ℕ). b ++ fed_in steps) leads.1 ∙ append_assoc before bytes (fed_in steps) in
    subst (λ (b : List ℕ). BeginsWith b (given_in steps) held) same (run_begins leads.0 steps held (rw same fits) leads.2)
run_begins before (Gave f ∷ steps) held fits leads =
    let t = frame_field.takes before f leads.0 (AreBytes-begin before (fed_in steps) fits) leads.1 in
    let whole : before ++ fed_in steps ≡ frame_spelling f ++ (leads.0 ++ fed_in steps) = ap (λ (b : List ℕ). b ++ fed_in steps) t.0 ∙ append_assoc (frame_spelling f) leads.0 (fed_in steps) in
    begins_on f (before ++ fed_in steps) (leads.0 ++ fed_in steps) (given_in steps) held t.1 whole
    (run_begins leads.0 steps held (AreBytes-rest (frame_spelling f) (before ++ fed_in steps) (leads.0 ++ fed_in steps) whole fits) leads.2)

pub begins_of_run : (steps : List Step) (held : List ℕ) → AreBytes (fed_in steps) → Trace Makes [] steps held → BeginsWith (fed_in steps) (given_in steps) held
begins_of_run = run_begins []

pub frames_of_run : (steps : List Step) (held : List ℕ) → AreBytes (fed_in steps) → Trace Makes [] steps held → IsUnfinishedFrame held → Frames (fed_in steps) (given_in steps) held
frames_of_run steps held fits leads rest = record { begins = begins_of_run steps held fits leads; ends = rest }

-- What begins with a frame is read as it, with the frames after it.
read_first : (f : Frame) (bytes : List ℕ) (frames : List Frame) (rest : List ℕ) → Frames bytes (f ∷ frames) rest → frame_at bytes ≡ Ok (f, flat_map frame_spelling frames ++ rest)
read_first f bytes frames rest b =
    let whole : bytes ≡ frame_spelling f ++ (flat_map frame_spelling frames ++ rest) = b.begins.spelled ∙ ap (λ (r : List ℕ). r ++ rest) (flat_map-cons frame_spelling f frames) ∙ append_assoc (frame_spelling f) (flat_map frame_spelling frames) rest in
    ap frame_at whole ∙ frame_field.again f (flat_map frame_spelling frames ++ rest) b.begins.each.0

-- the frames after the first
after_first : (f : Frame) (bytes : List ℕ) (frames : List Frame) (rest : List ℕ) → Frames bytes (f ∷ frames) rest → Frames (flat_map frame_spelling frames ++ rest) frames rest
after_first f bytes frames rest b = record { begins = record { each = b.begins.each.1; spelled = refl }; ends = b.ends }

-- nothing is read where no frame is
no_more : (f : Frame) (bytes : List ℕ) (frames : List Frame) (rest tail : List ℕ) → Frames bytes [] rest → Frames bytes (f ∷ frames) tail → ⊥
no_more f bytes frames rest tail none some =
    let waits : frame_at bytes ≡ Err Missing = ap frame_at none.begins.spelled ∙ none.ends in
    let read = read_first f bytes frames tail some in
    cc

pub one_list : (bytes : List ℕ) (frames others : List Frame) (rest tail : List ℕ) → Frames bytes frames rest → Frames bytes others tail → (frames ≡ others) × (rest ≡ tail)
one_list bytes [] [] rest tail p q = (refl, sym p.begins.spelled ∙ q.begins.spelled)
one_list bytes [] (g ∷ others) rest tail p q = absurd (no_more g bytes others rest tail p q)
one_list bytes (f ∷ frames) [] rest tail p q = absurd (no_more f bytes frames tail rest q p)
one_list bytes (f ∷ frames) (g ∷ others) rest tail p q =
    let read : (let r : Result (Frame × List ℕ) NoFrame = Ok (f, flat_map frame_spelling frames ++ rest) in r) ≡ Ok (g, flat_map frame_spelling others ++ tail) = sym (read_first f bytes frames rest p) ∙ read_first g bytes others tail q in
    let pair : (f, flat_map frame_spelling frames ++ rest) ≡ (g, flat_map frame_spelling others ++ tail) = cc in
    let beyond : flat_map frame_spelling frames ++ rest ≡ flat_map frame_spelling others ++ tail = ap (λ (x : Frame × List ℕ). x.1) pair in
    let same = one_list (flat_map frame_spelling frames ++ rest) frames others rest tail (after_first f bytes frames rest p)
    (subst (λ (b : List ℕ). Frames b others tail) (sym beyond) (after_first g bytes others tail q)) in
    let first : f ≡ g = ap (λ (x : Frame × List ℕ). x.0) pair in
    (ap (λ (x : Frame). x ∷ frames) first ∙ ap (λ (xs : List Frame). g ∷ xs) same.0, same.1)

pub read_alone : (bytes : List ℕ) (f : Frame) (rest : List ℕ) → AreBytes bytes → (frame_at bytes ≡ Ok (f, rest)) ↔ (IsFrame f × (bytes ≡ frame_spelling f ++ rest))
read_alone bytes f rest fits =
    (λ e. let t = frame_field.takes bytes f rest fits e in (t.1, t.0), λ p. ap frame_at p.1 ∙ frame_field.again f rest p.0)

pub fault_stays : (bytes more : List ℕ) (e : FrameError) → AreBytes bytes → ShowsFault bytes e → ShowsFault (bytes ++ more) e
fault_stays bytes more e fits shows = frame_field.stays bytes more (Fault e) fits shows (λ same. cc)

pub fault_bars : (bytes more : List ℕ) (e : FrameError) (f : Frame) (rest : List ℕ) → AreBytes bytes → ShowsFault bytes e → IsFrame f → bytes ++ more ≡ frame_spelling f ++ rest → ⊥
fault_bars bytes more e f rest fits shows is same =
    let stays = fault_stays bytes more e fits shows in
    let read : frame_at (bytes ++ more) ≡ Ok (f, rest) = ap frame_at same ∙ frame_field.again f rest is in
    cc

-- What a frame begins with is less than a whole frame, and shows no fault.
pub part_waits : (f : Frame) (begin more : List ℕ) → AreBytes begin → IsFrame f → frame_spelling f ≡ begin ++ more → 0 < length more → IsUnfinishedFrame begin
part_waits f begin more fits is e some = by_read (frame_at begin) refl
  where
    by_read : (r : Result (Frame × List ℕ) NoFrame) → frame_at begin ≡ r → frame_at begin ≡ Err Missing
    by_read (Ok x) h =
        let t = frame_field.takes begin x.0 x.1 fits h in
        let whole : frame_spelling f ++ [] ≡ frame_spelling x.0 ++ (x.1 ++ more) = append-nil (frame_spelling f) ∙ e ∙ ap (λ (b : List ℕ). b ++ more) t.0 ∙ append_assoc (frame_spelling x.0) x.1 more in
        let read : (let r : Result (Frame × List ℕ) NoFrame = Ok (f, []) in r) ≡ Ok (x.0, x.1 ++ more) = sym (frame_field.again f [] is) ∙ ap frame_at whole ∙ frame_field.again x.0 (x.1 ++ more) t.1 in
        let pair : (f, []) ≡ (x.0, x.1 ++ more) = cc in
        let none : [] ≡ x.1 ++ more = ap (λ (p : Frame × List ℕ). p.1) pair in
        absurd (omega (arith, ap length none, length-append x.1 more))
    by_read (Err Missing) h = h
    by_read (Err (Fault d)) h = absurd (fault_bars begin more d f [] fits h is (sym e ∙ sym (append-nil (frame_spelling f))))
