-- What the calls of a reader make of its state.
use Rattle.tp_message.proofs.Common.{◌≡◌, inl, inr, ℕ, ◌+◌, ◌-◌, ◌<◌, ◌≤◌, List, [], ◌∷◌, ◌++◌, length, take, drop, true, Result, Ok, Err, refl, sym, ap, subst, ◌∙◌, append_assoc, append-nil, arith, length-append, take-append-drop, nil_from_length, AreBytes, MAX_BYTES, SyncError, OutOfMemory, Stage, Version, Body, Whole, Failed, MessageParts, IsMessage, is_whole, need, Steps, ReaderState, EndsAtField, FailsWith, length-take-le, Moves, IsWithinField, RefusesPiece, TakesPiece, drop-drop, take_all, AreBytes-append, AreBytes-take, ReadsPiece, IsLed, IsReader}
use Rattle.std.proofs.lemmas.List.{length-drop}
use Rattle.tp_codec.specs.Reading.{fail, give}
use Rattle.tp_message.specs.Reading.{end_or_fail, message_at, message_parts_at}
use Rattle.tp_message.specs.Stages.{changes_from, heads_from, known_from, rest_at, wants_from}
use Rattle.tp_message.specs.ReaderState.{reads}
use Rattle.tp_message.proofs.JudgeLaws.{moves_fault, present_held, present_open, present_whole}
use Rattle.tp_message.proofs.WholeMessage.{message_takes}

-- ---- at first

abbrev pub nothing : MessageParts
nothing = record { version = 0; heads = []; wants = []; known = []; changes = [] }

abbrev pub begun : ℕ → ReaderState
begun total = record { stage = Version; parts = nothing; held = []; left = total }

pub begun_reads : (total : ℕ) (bytes : List ℕ) → reads (begun total) bytes ≡ message_at bytes
unfolding reads message_at message_parts_at rest_at heads_from wants_from known_from changes_from
begun_reads total bytes = refl

pub begun_is : (total : ℕ) → 1 ≤ total → IsReader (begun total)
begun_is total le = record {
  few = omega arith;
  present = (omega arith, omega (arith, le), omega arith);
  led = record { bytes = []; small = λ i. omega arith; same = λ rest len. sym (begun_reads total rest) };
}

-- ---- bytes that are taken

-- all of a piece that ends within a field
pub part_taken : (s t : ReaderState) (piece : List ℕ) → t.stage ≡ s.stage → t.parts ≡ s.parts → t.held ≡ s.held ++ piece → t.left + length piece ≡ s.left → 0 < s.left → TakesPiece s piece (length piece) t
unfolding reads
part_taken s t piece same-stage same-parts more left some =
    let all : take (length piece) piece ≡ piece = take_all (length piece) piece (omega arith) in
    record {
      few = omega arith;
      left = left;
      same = λ rest.
          let bytes : s.held ++ (take (length piece) piece ++ rest) ≡ t.held ++ rest = ap (λ (p : List ℕ). s.held ++ (p ++ rest)) all ∙ sym (append_assoc s.held piece rest) ∙ ap (λ (h : List ℕ). h ++ rest) (sym more) in
          ap (λ (b : List ℕ). end_or_fail (rest_at s.stage s.parts b)) bytes
          ∙ ap (λ (x : Stage). end_or_fail (rest_at x s.parts (t.held ++ rest))) (sym same-stage)
          ∙ ap (λ (x : MessageParts). end_or_fail (rest_at t.stage x (t.held ++ rest))) (sym same-parts);
      some = λ e. inl (nil_from_length piece e);
      whole = λ e. absurd (omega (arith, e, some));
    }

-- the rest of a field
pub field_taken : (s t : ReaderState) (piece : List ℕ) (count : ℕ) → count ≤ length piece → t.left + count ≡ s.left → 0 < count → t.held ≡ []
    → Steps s.stage s.parts (s.held ++ take count piece) (Ok t.stage) t.parts → TakesPiece s piece count t
unfolding reads
field_taken s t piece count few left some none steps = record {
  few = few;
  left = left;
  same = λ rest.
      ap (λ (b : List ℕ). end_or_fail (rest_at s.stage s.parts b)) (sym (append_assoc s.held (take count piece) rest))
      ∙ ap (λ r. end_or_fail r) (steps rest)
      ∙ ap (λ (h : List ℕ). end_or_fail (rest_at t.stage t.parts (h ++ rest))) (sym none);
  some = λ e. absurd (omega (arith, e, some));
  whole = λ e. absurd (omega (arith, e, left, some));
}

-- ---- refusals

pub field_refused : (s t : ReaderState) (piece : List ℕ) (count : ℕ) (e : SyncError) → count ≤ length piece → t.left + count ≡ s.left → t.stage ≡ Failed e
    → ((rest : List ℕ) → length rest ≡ t.left → end_or_fail (rest_at s.stage s.parts ((s.held ++ take count piece) ++ rest)) ≡ Err e) → RefusesPiece s piece e t
unfolding reads
field_refused s t piece count e few left stays every = record {
  count = count;
  few = few;
  left = left;
  every = λ rest len. ap (λ (b : List ℕ). end_or_fail (rest_at s.stage s.parts b)) (sym (append_assoc s.held (take count piece) rest)) ∙ every rest len;
  stays = stays;
}

failed_at : (e : SyncError) (m : MessageParts) (bytes : List ℕ) → end_or_fail (rest_at (Failed e) m bytes) ≡ Err e
unfolding rest_at fail end_or_fail
failed_at e m bytes = refl

failed_reads : (s : ReaderState) (e : SyncError) → s.stage ≡ Failed e → (bytes : List ℕ) → reads s bytes ≡ Err e
unfolding reads
failed_reads s e failed bytes = ap (λ (x : Stage). end_or_fail (rest_at x s.parts (s.held ++ bytes))) failed ∙ failed_at e s.parts (s.held ++ bytes)

pub refused_again : (s : ReaderState) (piece : List ℕ) (e : SyncError) → s.stage ≡ Failed e → RefusesPiece s piece e s
refused_again s piece e failed = record {
  count = 0;
  few = omega arith;
  left = omega arith;
  every = λ rest len. failed_reads s e failed (take 0 piece ++ rest);
  stays = failed;
}

pub answers_refusal : (s : ReaderState) (piece : List ℕ) (e : SyncError) (t : ReaderState) → (e ≡ OutOfMemory → ⊥) → RefusesPiece s piece e t → ReadsPiece s piece (Err e) t
answers_refusal s piece OutOfMemory t apart r = absurd (apart refl)
answers_refusal s piece e t apart r = r

pub answers_again : (s : ReaderState) (piece : List ℕ) (e : SyncError) → s.stage ≡ Failed e → ReadsPiece s piece (Err e) s
answers_again s piece OutOfMemory failed = refl
answers_again s piece e failed = refused_again s piece e failed

-- ---- what holds of every reader

led_on : (s t : ReaderState) (piece : List ℕ) (count : ℕ) → IsLed s → AreBytes piece → count ≤ length piece → t.left + count ≡ s.left
    → ((rest : List ℕ) → length rest ≡ t.left → reads s (take count piece ++ rest) ≡ reads t rest) → IsLed t
led_on s t piece count led fits few left same = record {
  bytes = led.bytes ++ take count piece;
  small = AreBytes-append led.bytes (take count piece) led.small (AreBytes-take count piece fits);
  same = λ rest len.
      ap message_at (append_assoc led.bytes (take count piece) rest)
      ∙ led.same (take count piece ++ rest) (length-append (take count piece) rest ∙ omega (arith, length-take-le count piece few, len, left))
      ∙ same rest len;
}

pub reader_on : (s t : ReaderState) (piece : List ℕ) (count : ℕ) → IsReader s → AreBytes piece → TakesPiece s piece count t → length t.held ≤ MAX_BYTES → IsWithinField t.stage (length t.held) t.left → IsReader t
reader_on s t piece count is fits takes few present = record {
  few = few;
  present = present;
  led = led_on s t piece count is.led fits takes.few takes.left (λ rest len. takes.same rest);
}

pub reader_refused : (s t : ReaderState) (piece : List ℕ) (e : SyncError) → IsReader s → AreBytes piece → RefusesPiece s piece e t → length t.held ≤ MAX_BYTES → IsReader t
reader_refused s t piece e is fits refuses few = record {
  few = few;
  present = subst (λ (x : Stage). IsWithinField x (length t.held) t.left) (sym refuses.stays) tt;
  led = led_on s t piece refuses.count is.led fits refuses.few refuses.left (λ rest len. refuses.every rest len ∙ sym (failed_reads t e refuses.stays rest));
}

-- ---- a call

-- a field comes next
abbrev pub IsOpen : ReaderState → Type 0
IsOpen s = (s.stage ≡ Whole → ⊥) × ((e : SyncError) → s.stage ≡ Failed e → ⊥)

-- All of a piece that ends within the field is taken.
pub part_ends : (s : ReaderState) (piece : List ℕ) → length piece < need s.stage - length s.held → EndsAtField s piece (length piece)
part_ends s piece lt = (omega (arith, lt), inr refl)

-- The rest of the field is taken.
pub field_ends : (s : ReaderState) (piece : List ℕ) (count : ℕ) → IsReader s → IsOpen s → count ≡ need s.stage - length s.held → EndsAtField s piece count
field_ends s piece count is (w, f) size =
    let o = present_open s.stage (length s.held) s.left is.present w f in
    (omega (arith, o.0, size), inl (omega (arith, o.0, size)))

-- Of a whole message nothing is taken.
pub whole_ends : (s : ReaderState) (piece : List ℕ) → IsReader s → s.stage ≡ Whole → EndsAtField s piece 0
whole_ends s piece is whole =
    let t = present_whole s.stage (length s.held) s.left (ap is_whole whole) is.present in
    let none : need s.stage ≡ 0 = ap need whole in
    (omega (arith, t.1, none), inl (omega (arith, t.1, none)))

pub part_read : (s t : ReaderState) (piece : List ℕ) → IsReader s → AreBytes piece → IsOpen s → length piece < need s.stage - length s.held
    → t.stage ≡ s.stage → t.parts ≡ s.parts → t.held ≡ s.held ++ piece → t.left ≡ s.left - length piece → TakesPiece s piece (length piece) t × IsReader t
part_read s t piece is fits (w, f) lt same-stage same-parts more less =
    let o = present_open s.stage (length s.held) s.left is.present w f in
    let held : length t.held ≡ length s.held + length piece = ap length more ∙ length-append s.held piece in
    let needs : need t.stage ≡ need s.stage = ap need same-stage in
    let taken = part_taken s t piece same-stage same-parts more (omega (arith, o.1, lt, less)) (omega (arith, o.0, o.1)) in
    (taken, reader_on s t piece (length piece) is fits taken (omega (arith, held, lt, o.2)) (present_held t.stage (length t.held) t.left (omega (arith, held, needs, lt)) (omega (arith, held, needs, o.1, less, lt)) (omega (arith, needs, o.2))))

pub field_read : (s t : ReaderState) (piece last : List ℕ) (count : ℕ) → IsReader s → AreBytes piece → IsOpen s → count ≡ need s.stage - length s.held → count ≤ length piece → last ≡ take count piece
    → t.left ≡ s.left - count → t.held ≡ [] → Moves s.stage s.parts (s.held ++ last) t.left (Ok t.stage) t.parts → TakesPiece s piece count t × IsReader t
field_read s t piece last count is fits (w, f) size few end less none moves =
    let o = present_open s.stage (length s.held) s.left is.present w f in
    let held : length t.held ≡ 0 = ap length none in
    let steps : Steps s.stage s.parts (s.held ++ take count piece) (Ok t.stage) t.parts = subst (λ (l : List ℕ). Steps s.stage s.parts (s.held ++ l) (Ok t.stage) t.parts) end moves.0 in
    let taken = field_taken s t piece count few (omega (arith, o.0, o.1, size, less)) (omega (arith, o.0, size)) none steps in
    (taken, reader_on s t piece count is fits taken (omega (arith, held)) (subst (λ (n : ℕ). IsWithinField t.stage n t.left) (sym held) moves.1))

pub field_failed : (s t : ReaderState) (piece last : List ℕ) (count : ℕ) (e : SyncError) (after : MessageParts) → IsReader s → AreBytes piece → IsOpen s → count ≡ need s.stage - length s.held → count ≤ length piece → last ≡ take count piece
    → t.left ≡ s.left - count → t.stage ≡ Failed e → length t.held ≤ length s.held → (e ≡ OutOfMemory → ⊥) → Moves s.stage s.parts (s.held ++ last) t.left (Err e) after → RefusesPiece s piece e t × IsReader t
field_failed s t piece last count e after is fits (w, f) size few end less failed short apart moves =
    let o = present_open s.stage (length s.held) s.left is.present w f in
    let every : (rest : List ℕ) → length rest ≡ t.left → end_or_fail (rest_at s.stage s.parts ((s.held ++ take count piece) ++ rest)) ≡ Err e = subst (λ (l : List ℕ). (rest : List ℕ) → length rest ≡ t.left → end_or_fail (rest_at s.stage s.parts ((s.held ++ l) ++ rest)) ≡ Err e) end (moves_fault s.stage s.parts (s.held ++ last) t.left e after apart moves) in
    let refused = field_refused s t piece count e few (omega (arith, o.0, o.1, size, less)) failed every in
    (refused, reader_refused s t piece e is fits refused (omega (arith, short, is.few)))

-- ---- a change that the piece begins with, where no byte of it is held

body_open : (stage : Stage) (len more : ℕ) → stage ≡ Body len more → (stage ≡ Whole → ⊥) × ((e : SyncError) → stage ≡ Failed e → ⊥)
body_open stage len more at = (λ w. absurd cc, λ e f. absurd cc)

body_moves : (s : ReaderState) (len more left : ℕ) (piece : List ℕ) (result : Result Stage SyncError) (after : MessageParts) → s.stage ≡ Body len more → s.held ≡ [] → len ≤ length piece
    → Moves (Body (length (take len piece)) more) s.parts (take len piece) left result after → Moves s.stage s.parts (s.held ++ take len piece) left result after
body_moves s len more left piece result after at none few moves =
    let body : s.stage ≡ Body (length (take len piece)) more = at ∙ ap (λ (n : ℕ). Body n more) (sym (length-take-le len piece few)) in
    subst (λ (h : List ℕ). Moves s.stage s.parts (h ++ take len piece) left result after) (sym none)
    (subst (λ (x : Stage). Moves x s.parts (take len piece) left result after) (sym body) moves)

body_size : (s : ReaderState) (len more : ℕ) → s.stage ≡ Body len more → s.held ≡ [] → len ≡ need s.stage - length s.held
body_size s len more at none = let size : need s.stage ≡ len = ap need at in let held : length s.held ≡ 0 = ap length none in omega (arith, size, held)

-- All of the change is taken.
pub change_ends : (s : ReaderState) (len more : ℕ) (piece : List ℕ) → s.stage ≡ Body len more → s.held ≡ [] → EndsAtField s piece len
change_ends s len more piece at none =
    let size : need s.stage ≡ len = ap need at in
    let held : length s.held ≡ 0 = ap length none in
    (omega (arith, size, held), inl (omega (arith, size, held)))

pub change_read : (s t : ReaderState) (len more : ℕ) (piece : List ℕ) → IsReader s → AreBytes piece → s.stage ≡ Body len more → s.held ≡ [] → len ≤ length piece → t.left ≡ s.left - len → t.held ≡ []
    → Moves (Body (length (take len piece)) more) s.parts (take len piece) t.left (Ok t.stage) t.parts → TakesPiece s piece len t × IsReader t
change_read s t len more piece is fits at none few less empty moves =
    field_read s t piece (take len piece) len is fits (body_open s.stage len more at) (body_size s len more at none) few refl less empty
    (body_moves s len more t.left piece (Ok t.stage) t.parts at none few moves)

pub change_failed : (s t : ReaderState) (len more : ℕ) (piece : List ℕ) (e : SyncError) (after : MessageParts) → IsReader s → AreBytes piece → s.stage ≡ Body len more → s.held ≡ [] → len ≤ length piece → t.left ≡ s.left - len
    → t.stage ≡ Failed e → t.held ≡ [] → (e ≡ OutOfMemory → ⊥) → Moves (Body (length (take len piece)) more) s.parts (take len piece) t.left (Err e) after → RefusesPiece s piece e t × IsReader t
change_failed s t len more piece e after is fits at none few less failed empty apart moves =
    let short : length t.held ≡ 0 = ap length empty in
    field_failed s t piece (take len piece) len e after is fits (body_open s.stage len more at) (body_size s len more at none) few refl less failed (omega (arith, short)) apart
    (body_moves s len more t.left piece (Err e) after at none few moves)

-- ---- all of the bytes

pub taken_on : (s t : ReaderState) (bytes piece : List ℕ) (at count : ℕ) → piece ≡ drop at bytes → TakesPiece s piece count t → reads s (drop at bytes) ≡ message_at bytes → reads t (drop (at + count) bytes) ≡ message_at bytes
taken_on s t bytes piece at count is taken so_far =
    let rest : drop count piece ≡ drop (at + count) bytes = ap (λ (p : List ℕ). drop count p) is ∙ drop-drop count at bytes in
    ap (reads t) (sym rest) ∙ sym (taken.same (drop count piece)) ∙ ap (reads s) (take-append-drop count piece ∙ is) ∙ so_far

pub refused_on : (s t : ReaderState) (bytes piece : List ℕ) (at : ℕ) (e : SyncError) → piece ≡ drop at bytes → at + s.left ≡ length bytes → RefusesPiece s piece e t → reads s (drop at bytes) ≡ message_at bytes → message_at bytes ≡ Err e
refused_on s t bytes piece at e is size refused so_far =
    let whole : length piece ≡ s.left = ap length is ∙ length-drop at bytes ∙ omega (arith, size) in
    let rest : length (drop refused.count piece) ≡ t.left = length-drop refused.count piece ∙ omega (arith, whole, refused.left) in
    sym so_far ∙ ap (reads s) (sym (take-append-drop refused.count piece ∙ is)) ∙ refused.every (drop refused.count piece) rest

pub fails_of_answers : (s t : ReaderState) (bytes piece : List ℕ) (at : ℕ) (e : SyncError) → piece ≡ drop at bytes → at + s.left ≡ length bytes → ReadsPiece s piece (Err e) t → reads s (drop at bytes) ≡ message_at bytes → FailsWith OutOfMemory e (message_at bytes)
fails_of_answers s t bytes piece at OutOfMemory is size a so_far = λ other. absurd (other refl)
fails_of_answers s t bytes piece at e is size a so_far = λ _. refused_on s t bytes piece at e is size a so_far

-- ---- the end

whole_at : (m : MessageParts) (held : List ℕ) → length held ≡ 0 → end_or_fail (rest_at Whole m (held ++ [])) ≡ Ok m
unfolding rest_at give end_or_fail
whole_at m [] e = refl
whole_at m (b ∷ held) e = absurd (omega (arith, e))

pub whole_reads : (s : ReaderState) → IsReader s → is_whole s.stage ≡ true → reads s [] ≡ Ok s.parts
unfolding reads
whole_reads s is w =
    let t = present_whole s.stage (length s.held) s.left w is.present in
    ap (λ (x : Stage). end_or_fail (rest_at x s.parts (s.held ++ []))) t.0 ∙ whole_at s.parts s.held t.1

pub whole_is_message : (s : ReaderState) → IsReader s → is_whole s.stage ≡ true → IsMessage s.parts
whole_is_message s is w =
    let t = present_whole s.stage (length s.held) s.left w is.present in
    let read : message_at (is.led.bytes ++ []) ≡ Ok s.parts = is.led.same [] (sym t.2) ∙ whole_reads s is w in
    (message_takes (is.led.bytes ++ []) s.parts (subst AreBytes (sym (append-nil is.led.bytes)) is.led.small) read).0
