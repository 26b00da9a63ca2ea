use Rattle.std.proofs.Common.{subst, sym}
use Rattle.tp_served.specs.Seats.{SeatState}
use Rattle.tp_web.specs.Visiting.{Attends}
use Rattle.tp_web.proofs.Attending.{joins}
use Rattle.tp_web.proofs.windowing.show.Goals as goal
use Rattle.tp_web.proofs.windowing.show.Goals.{in-None, in-Some+then-not-answer_next}

pub returns : goal.returns
returns g c =
    let before : SeatState = c.args.seat.now in
    elim c.match-next.branch [
      | in-None w ↦ subst (λ (s : SeatState). Attends before s) (sym w.seat-is) c.loop.invariant.attends
      | in-Some+then-not-answer_next w ↦
          subst (λ (s : SeatState). Attends before s) (sym w.seat-is) (joins before c.loop.seat w.answer_next.new.seat c.loop.invariant.attends w.answer_next.ensures)
    ]
