use Rattle.tp_message.proofs.Common.{◌∙◌, ap, sym, Some, parts_in, MessageParts, hashes_from}
use Rattle.tp_message.proofs.StepLaws.{hash_step, hash_fault}
use Rattle.tp_message.proofs.stages.on_hash.Goals as goal

pub returns-then-not-follows : goal.returns-then-not-follows
returns-then-not-follows c = λ rest.
    hash_fault c.args.list c.args.before c.args.more (parts_in c.args.lists.now) c.hash_in-hash.result c.args.field.now rest c.requires c.hash_in-hash.ensures
    (sym c.follows.ensures ∙ c.if-not-follows.true)

pub returns : goal.returns
returns c = λ rest.
    hash_step c.args.list c.args.before c.args.more (parts_in c.args.lists.now) c.hash_in-hash.result c.args.field.now rest c.requires c.hash_in-hash.ensures
    (sym c.follows.ensures ∙ c.if-not-follows.false)
    ∙ ap (λ (m : MessageParts). hashes_from c.args.list (Some c.hash_in-hash.result) c.args.more m rest) (sym c.in_ok-put_hash.ensures.ok)
    ∙ c.hashes_left.ensures rest
