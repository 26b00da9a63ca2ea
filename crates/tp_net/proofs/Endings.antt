-- How a session over a stream goes on and ends.
use Rattle.tp_net.proofs.Common.{◌≡◌, ℕ, ◌<◌, List, [], ◌++◌, length, None, Some, inl, inr, refl, false, append-nil, append_assoc, arith, Option, option_to_list, Appends, Appends-trans, flat_map, frame_spelling, Frame, Reply, NetError, Io, HostCall, is_over, SessionState, first_frame_of, Comes, Traffic, frame_bytes, Goes, StopsAtTurn, StopsFor, CantSend}
use Rattle.std.proofs.lemmas.List.Concat.{flat_map-append}
use Rattle.tp_session.specs.declared.conversation.Next.{Next}
use Rattle.tp_session.proofs.Transcripts.{has_ended, some_frame, takes_more, takes_none, takes_on, takes_turn}

-- frames after frames
pub sends_more : (a b c : Option (List ℕ)) (xs ys : List Frame) → Appends a b (flat_map frame_spelling xs) → Appends b c (flat_map frame_spelling ys) → Appends a c (flat_map frame_spelling (xs ++ ys))
sends_more a b c xs ys first then = rw flat_map-append (Appends-trans a b c (flat_map frame_spelling xs) (flat_map frame_spelling ys) first then)

module _ {H : Type 0} (steps : H → HostCall → Reply → H → Type 0) (a : SessionState × H) where
  pub comes_begin : Comes steps a (record { read = []; sent = option_to_list (first_frame_of a.0.role a.0.id) }) [] a
  comes_begin = record { answers = []; takes = takes_none steps a []; sent = grind (arith, append-nil) }

  -- a turn was taken
  pub comes_turn : (w : Traffic) (held more : List ℕ) (b : SessionState × H) (next : Next) (send : List ℕ) (k : SessionState × H) (rest : List ℕ)
      → is_over b.0.phase ≡ false → Comes steps a w held b → Goes steps b (held ++ more) next send k rest
      → (frames : List Frame) × (send ≡ flat_map frame_spelling frames) × Comes steps a (record { read = w.read ++ more; sent = w.sent ++ frames }) rest k × (is_over k.0.phase ≡ has_ended next)
  comes_turn w held more b next send k rest going c g =
      let t = takes_turn steps a w.read c.answers held more b next send k rest going c.takes g in
      (t.0, t.1, record { answers = c.answers ++ t.0; takes = t.2; sent = grind (arith, append_assoc) }, t.3)

  -- the first frame can't be sent
  pub stops_at_first : (f : Frame) (e : NetError) → first_frame_of a.0.role a.0.id ≡ Some f → CantSend e → StopsFor steps a (record { read = []; sent = [] }) e a.1
  stops_at_first f e is cant = record { unsent = Some f; held = []; side = a; comes = rw is at comes_begin; cause = (cant, refl) }

  -- nor can its bytes
  pub stops_at_bytes : 0 < length (frame_bytes (first_frame_of a.0.role a.0.id)) → StopsFor steps a (record { read = []; sent = [] }) Io a.1
  stops_at_bytes some = let f = some_frame (first_frame_of a.0.role a.0.id) some in stops_at_first f.0 Io f.1 (inl refl)

  -- no frame comes, the next one ends it, or its answer can't be sent
  pub stops_at_turn : (w : Traffic) (held more : List ℕ) (b : SessionState × H) (e : NetError) (h' : H) → Comes steps a w held b → StopsAtTurn steps b (held ++ more) e h' → StopsFor steps a (record { read = w.read ++ more; sent = w.sent }) e h'
  stops_at_turn w held more b e h' c stops =
      let all = takes_more steps a w.read more c.answers held b c.takes in
      elim stops [
        | inl none ↦ record { unsent = None; held = held ++ more; side = b; comes = grind (arith, append-nil); cause = inl none }
        | inr (inl by) ↦ record { unsent = None; held = held ++ more; side = b; comes = grind (arith, append-nil); cause = inr by }
        | inr (inr (t, cant)) ↦ record {
          unsent = Some t.answer;
          held = t.rest;
          side = (t.session, h');
          comes = record {
            answers = c.answers ++ option_to_list t.turn.send;
            takes = takes_on steps a (w.read ++ more) c.answers (held ++ more) b t.turn t.rest (t.session, h') all t.takes;
            sent = grind (arith, append_assoc);
          };
          cause = (cant, refl);
        }
      ]
