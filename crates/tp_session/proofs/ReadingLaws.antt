-- What the pieces of a sync frame make of a reader, and of the session that reads.
use Rattle.tp_session.proofs.Common.{◌≡◌, inl, inr, ℕ, ◌+◌, ◌<◌, ◌≤◌, List, ◌++◌, length, take, drop, Result, Ok, Err, refl, sym, ap, append_assoc, length-append, arith, ◌↔◌, IfOk, IsOkUnless, drop-drop, length-drop, take-append-drop, AreBytes, OpenedFrame, ReaderState, reads, Reply, Peer, Exchanges, None, Turn, Ended, Awaits, ContinuesReading, ReadsGiven, and_given, none_of, SessionState, HostCall, Receive, RefusesSessionStep, AnswersReceived, AnswersSync}
use Rattle.tp_message.specs.declared.error.SyncError.{SyncError}
use Rattle.tp_message.specs.declared.error.SyncError.TheVariants.{BadMessage, OutOfMemory}
use Rattle.tp_codec.specs.Gives.{FailsWith}
use Rattle.tp_message.specs.Message.{MessageParts}
use Rattle.tp_message.specs.Reading.{message_at}
use Rattle.tp_message.specs.ReaderState.{ReadsPiece, TakesPiece}
use Rattle.tp_message.specs.Spelling.{message_spelling}
use Rattle.tp_message.proofs.ShortLaws.{message_short}
use Rattle.tp_message.proofs.WholeMessage.{message_takes}
use Rattle.tp_peer.specs.PeerError.{refusal_of_sync}
use Rattle.tp_peer.specs.PeerStep.{RefusesDecoding}
use Rattle.tp_peer.proofs.ReceivingLaws.{decoding_refused}

-- ---- the reader

-- nothing was read
pub reads_none : (len : ℕ) (r : Result ReaderState SyncError) → IfOk r (λ s. (s.left ≡ len) × ((bytes : List ℕ) → reads s bytes ≡ message_at bytes)) → ((r ≡ Err BadMessage) ↔ (len < 13)) → IsOkUnless r BadMessage
    → ReadsGiven (none_of len) r
reads_none len (Ok s) ok short err = (omega (arith, ok.0), λ i. omega arith, λ rest. sym (ok.1 rest))
reads_none len (Err e) ok short err = λ more is other.
    let few : len < 13 = short.0 (ap (λ (d : SyncError). (let r : Result ReaderState SyncError = Err d in r)) err) in
    rw err (message_short more (omega (arith, few, is)))

-- The first bytes of the piece, `at` of them, were taken since.
pub record ReadsOn (before : ReaderState) (piece : List ℕ) (at : ℕ) (now : ReaderState) : Type 0 where
  pub few : at ≤ length piece
  pub left : now.left + at ≡ before.left
  pub same : (rest : List ℕ) → reads before (piece ++ rest) ≡ reads now (drop at piece ++ rest)

-- bytes, and more after them, where `count` of the former come first
parts : (count : ℕ) (bytes more : List ℕ) → bytes ++ more ≡ take count bytes ++ (drop count bytes ++ more)
parts count bytes more = rw (← append_assoc, take-append-drop)

pub reads_step : (before now then : ReaderState) (piece rest_of : List ℕ) (at count : ℕ) → rest_of ≡ drop at piece → ReadsOn before piece at now → TakesPiece now rest_of count then → ReadsOn before piece (at + count) then
reads_step before now then piece rest_of at count is on takes = grind (arith, length-drop, drop-drop, parts count rest_of)

-- some of it is refused
pub reads_refused : (before now then : ReaderState) (piece rest_of : List ℕ) (at : ℕ) (frame : OpenedFrame) (e : SyncError) → rest_of ≡ drop at piece → ReadsOn before piece at now → ReadsPiece now rest_of (Err e) then → ReadsGiven frame (Ok before)
    → ReadsGiven (and_given frame piece) (let r : Result ReaderState SyncError = Err e in r)
reads_refused before now then piece rest_of at frame OutOfMemory is on a r = λ more len other. absurd (other refl)
reads_refused before now then piece rest_of at frame e is on a r = λ more len other.
    grind (arith, length-append, length-drop, append_assoc frame.given piece more, r.2 (piece ++ more), on.same more, parts a.count rest_of more, a.every (drop a.count rest_of ++ more))

-- ---- the session

module _ {H : Type 0} (steps : H → HostCall → Reply → H → Type 0) where
  -- reading that goes on, or was refused, as the answer to a part
  pub awaits : (s : SessionState) (h : H) (frame : OpenedFrame) (read : Result ReaderState SyncError) (answer : Result Turn Ended) (s' : SessionState) → s.phase ≡ Exchanges → s.reading ≡ None → ReadsGiven frame read → ContinuesReading s read answer s'
      → Awaits steps (s, h) frame answer (s', h)
  awaits s h frame (Ok reader) answer s' at none r goes = grind (arith)
  awaits s h frame (Err e) answer s' at none r goes =
      let refused : (more : List ℕ) → length (frame.given ++ more) ≡ frame.len → RefusesDecoding (frame.given ++ more) (refusal_of_sync e) = λ more len. decoding_refused (frame.given ++ more) e (r more len) in
      grind (arith, refused)

  -- the message was received
  pub hears_message : (s : SessionState) (bytes : List ℕ) (m : MessageParts) (h mid : H) (reply : Reply) (answer : Result Turn Ended) (b : SessionState × H) → AreBytes bytes → message_at bytes ≡ Ok m → steps h (Receive (message_spelling m)) reply mid
      → AnswersReceived steps reply (s, mid) answer b → AnswersSync steps bytes (s, h) answer b
  hears_message s bytes m h mid reply answer b fits is received heard = inl (reply, mid, rw (message_takes bytes m fits is).1 received, heard)

  -- or it is none
  pub hears_none : (s : SessionState) (bytes : List ℕ) (e : SyncError) (h : H) (answer : Result Turn Ended) (s' : SessionState) → FailsWith OutOfMemory e (message_at bytes) → RefusesSessionStep s (Peer (refusal_of_sync e)) answer s' → AnswersSync steps bytes (s, h) answer (s', h)
  hears_none s bytes e h answer s' fails over = inr (refusal_of_sync e, decoding_refused bytes e fails, over, refl)
