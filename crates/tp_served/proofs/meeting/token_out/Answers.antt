use Rattle.tp_served.proofs.Common.{ap, ◌∙◌, Badge, ViewState, idle_seat}
use Rattle.tp_served.proofs.TokenLaws.{token_is}
use Rattle.tp_served.proofs.meeting.token_out.Goals as goal

pub returns-clause-table : goal.returns-clause-table
returns-clause-table g c = c.into_seat.ensures.0 ∙ ap (λ (b : Badge ViewState). b.table_id) c.replace.ensures.value

pub returns-clause-seat : goal.returns-clause-seat
returns-clause-seat g c = λ t is. token_is (idle_seat t) c.into_seat.result.me c.replace.result.views c.into_seat.ensures.2 (ap (λ (b : Badge ViewState). b.views) c.replace.ensures.value ∙ is) c.into_seat.ensures.3
