use Rattle.std.proofs.Common.{◌∙◌, ◌≡◌, ◌<◌, sym, ap, arith, length}
use Rattle.std.proofs.lemmas.List.{get_or-map}
use Rattle.std.proofs.lemmas.Slice.Eq.{bytes_eq-Decides}
use Rattle.sha2.specs.Sha256.{sha256}
use Rattle.tp_digest.proofs.ahead.Ahead.digest.Goals as goal

-- the piece is the bytes, so what is ready for it is their digest
pub returns-then-take : goal.returns-then-take
returns-then-take c =
    let self = c.take.new.self in
    let same : self.next ≡ c.args.self.now.next = c.take.ensures.next c.if-take.true in
    let within : self.next < length self.pieces = omega (arith, same, c.if-self-lt4.true) in
    self.ready (c.take.ensures.taken c.if-take.true) self.next (omega (arith, same, c.if-self-lt4.true))
    ∙ get_or-map (λ piece. sha256 piece.now) self.pieces self.next _ _ within
    ∙ ap (λ m. sha256 m) (rw (← c.take.ensures.pieces) at (rw (← same) at ((bytes_eq-Decides _ c.args.bytes.now).0 (sym c.eq.ensures ∙ c.if-eq.true))))
