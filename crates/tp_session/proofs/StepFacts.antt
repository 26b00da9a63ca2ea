-- What every step of a session keeps, and what its answer tells.
use Rattle.tp_session.proofs.Common.{◌≡◌, false, Ok, Err, Result, arith, Frame, Reply, NetError, Turn, Ended, HostCall, is_over, refusal_of, SessionState, SessionStep}

module _ {H : Type 0} (steps : H → HostCall → Reply → H → Type 0) where
  pub reading_stays : (a b : SessionState × H) (f : Frame) (answer : Result Turn Ended) → SessionStep steps a f answer b → b.0.reading ≡ a.0.reading
  reading_stays a b f answer step = grind arith

  pub turn_tells : (a b : SessionState × H) (f : Frame) (turn : Turn) → SessionStep steps a f (Ok turn) b → turn.ended ≡ is_over b.0.phase
  turn_tells a b f turn step = grind arith

  -- an error comes with the refusal that is due for it
  pub is_due : (a b : SessionState × H) (f : Frame) (ended : Ended) → is_over a.0.phase ≡ false → SessionStep steps a f (Err ended) b → (e : NetError) × (ended ≡ record { error = e; send = refusal_of e })
  is_due a b f ended going step = grind arith
