use Rattle.tp_graph.proofs.Common.{◌≡◌, ◌+◌, ◌<◌, set, true, ◌∷◌, ◌++◌, [], length, ap, sym, ◌∙◌, subst, arith, Insert, count_in, Marks}
use Rattle.tp_graph.proofs.BeforeLaws.{marks-insert, marks-delete, marks-run}
use Rattle.tp_graph.proofs.before.put.Goals as goal

pub returns-in-Insert-clause-marks : goal.returns-in-Insert-clause-marks
returns-in-Insert-clause-marks c = λ first rs h.
    let e : c.char_count.result ≡ length c.in-Insert.text = c.char_count.ensures.count ∙ ap length c.as_str.ensures.chars in
    subst (λ r. Marks c.args.deletes.now first (c.args.count + c.char_count.result) (rs ++ r ∷ [])) (sym c.in-Insert.is)
    (subst (λ m. Marks c.args.deletes.now first (c.args.count + m) (rs ++ Insert c.in-Insert.after c.in-Insert.text ∷ [])) (sym e)
    (marks-insert c.args.deletes.now first c.args.count rs c.in-Insert.after c.in-Insert.text h))

pub returns-in-Delete-clause-marks : goal.returns-in-Delete-clause-marks
returns-in-Delete-clause-marks c = λ first rs h.
    let one : count_in c.args.entry.now ≡ 1 = ap count_in c.in-Delete.is in
    let room = c.requires in
    let small : c.args.count < length c.args.deletes.now = omega arith in
    subst (λ r. Marks (set c.args.deletes.now c.args.count true) first (c.args.count + 1) (rs ++ r ∷ [])) (sym c.in-Delete.is)
    (marks-delete c.args.deletes.now first c.args.count rs c.in-Delete.target small h)

pub mark_all-requires : goal.mark_all-requires
mark_all-requires c =
    let more : count_in c.args.entry.now ≡ c.in-DeleteRun.more = ap count_in c.in-DeleteRun.is in
    let room = c.requires in
    record { order = omega arith; room = omega arith }

pub returns-in-DeleteRun-clause-marks : goal.returns-in-DeleteRun-clause-marks
returns-in-DeleteRun-clause-marks c = λ first rs h.
    subst (λ r. Marks c.mark_all.new.deletes first (c.args.count + c.in-DeleteRun.more) (rs ++ r ∷ [])) (sym c.in-DeleteRun.is)
    (marks-run c.args.deletes.now c.mark_all.new.deletes first c.args.count c.in-DeleteRun.more rs _ c.mark_all.ensures.marks h)
