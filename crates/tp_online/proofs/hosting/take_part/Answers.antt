use Rattle.std.proofs.Common.{◌≡◌}
use Rattle.std.proofs.lemmas.Result.{IfOk-at_ok}
use Rattle.tp_online.specs.Showing.{AllTakePart}
use Rattle.tp_online.proofs.PartLaws.{all_three, parts_of}
use Rattle.tp_online.proofs.hosting.take_part.Goals as goal

pub returns-clause-went : goal.returns-clause-went
returns-clause-went g c =
    let hosting = c.args.hosting.now in
    let id = c.args.served.now.opened.id in
    let shares = c.in_ok-windows.field-0 in
    all_three hosting id c.args.seats.items c.in_ok-gather.field-0.items shares.windows.items shares.sessions.items shares.following.items
    c.in_ok-shown.field-0.items c.in_ok-held.field-0.items c.in_ok-followed.field-0.items
    c.in_ok-windows.ensures.all
    c.in_ok-gather.ensures
    (IfOk-at_ok (λ back. AllTakePart hosting id shares.windows.items back.items) c.in_ok-shown.was c.join-shown.ensures.first)
    (IfOk-at_ok (λ back. AllTakePart hosting id shares.sessions.items back.items) c.in_ok-held.was c.join-shown.ensures.second.0)
    (IfOk-at_ok (λ back. AllTakePart hosting id shares.following.items back.items) c.in_ok-followed.was c.join-shown.ensures.second.1)

pub returns-clause-of : goal.returns-clause-of
returns-clause-of g c =
    let hosting = c.args.hosting.now in
    let id = c.args.served.now.opened.id in
    let shares = c.in_ok-windows.field-0 in
    let went : AllTakePart hosting id c.args.seats.items c.in_ok-gather.field-0.items =
    all_three hosting id c.args.seats.items c.in_ok-gather.field-0.items shares.windows.items shares.sessions.items shares.following.items
    c.in_ok-shown.field-0.items c.in_ok-held.field-0.items c.in_ok-followed.field-0.items
    c.in_ok-windows.ensures.all
    c.in_ok-gather.ensures
    (IfOk-at_ok (λ back. AllTakePart hosting id shares.windows.items back.items) c.in_ok-shown.was c.join-shown.ensures.first)
    (IfOk-at_ok (λ back. AllTakePart hosting id shares.sessions.items back.items) c.in_ok-held.was c.join-shown.ensures.second.0)
    (IfOk-at_ok (λ back. AllTakePart hosting id shares.following.items back.items) c.in_ok-followed.was c.join-shown.ensures.second.1)
    in
    parts_of hosting id c.args.served.now.served c.args.seats.items c.in_ok-gather.field-0.items c.requires.of went
