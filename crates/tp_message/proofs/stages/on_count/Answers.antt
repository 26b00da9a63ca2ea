use Rattle.tp_message.proofs.Common.{◌∙◌, ◌≤◌, ◌<◌, subst, ℕ, parts_in, limit_of}
use Rattle.tp_message.proofs.StepLaws.{count_step, count_fault}
use Rattle.tp_message.proofs.stages.on_count.Goals as goal

pub returns-then-count-limit : goal.returns-then-count-limit
returns-then-count-limit c = λ rest.
    let n : limit_of c.args.list < c.number_in-count.result = subst (λ (x : ℕ). x < c.number_in-count.result) c.limit.ensures c.if-count-limit.true in
    count_fault c.args.list (parts_in c.args.lists.now) c.number_in-count.result c.args.field.now rest c.requires c.number_in-count.ensures n

pub returns : goal.returns
returns c = λ rest.
    let n : c.number_in-count.result ≤ limit_of c.args.list = subst (λ (x : ℕ). c.number_in-count.result ≤ x) c.limit.ensures c.if-count-limit.false in
    count_step c.args.list (parts_in c.args.lists.now) c.number_in-count.result c.args.field.now rest c.requires c.number_in-count.ensures n
    ∙ c.hashes_left.ensures rest
