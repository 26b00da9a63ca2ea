use Rattle.tp_sync.proofs.Common.{◌∙◌, ap, map, refl, Some, Hash, List}
use Rattle.tp_sync.proofs.SayLaws.{heads_fit, wants_fit, known_fit, changes_fit, says_it}
use Rattle.tp_sync.proofs.generating.make_message.Goals as goal

pub new-message-requires-clause-heads : goal.new-message-requires-clause-heads
new-message-requires-clause-heads g c =
    heads_fit c.args.document.now.applied c.args.document.now.waiting c.args.state.now c.args.saying c.args.saying.heads.items c.requires refl

pub new-message-requires-clause-wants : goal.new-message-requires-clause-wants
new-message-requires-clause-wants g c =
    wants_fit c.args.document.now.applied c.args.document.now.waiting c.args.state.now c.args.saying c.args.saying.wants.items c.requires refl

pub new-message-requires-clause-known : goal.new-message-requires-clause-known
new-message-requires-clause-known g c =
    known_fit c.args.document.now.applied c.args.document.now.waiting c.args.state.now c.args.saying c.args.saying.known.items c.requires refl

pub new-message-requires-clause-changes : goal.new-message-requires-clause-changes
new-message-requires-clause-changes g c =
    changes_fit c.args.document.now.applied c.args.document.now.waiting c.args.state.now c.args.saying c.in_ok-changes.changes.items c.changes-changes.ensures.limits c.requires
    (c.in_ok-changes.ensures.copied ∙ ap (map (λ c. c.now)) c.deref.ensures.value)

pub returns-clause-says : goal.returns-clause-says
returns-clause-says g c =
    says_it c.args.document.now.applied c.args.document.now.waiting c.args.state.now c.args.saying c.new-message.result c.tell.new.self c.requires
    c.new-message.ensures.version c.new-message.ensures.heads c.new-message.ensures.wants c.new-message.ensures.known
    (c.new-message.ensures.changes ∙ c.in_ok-changes.ensures.copied ∙ ap (map (λ c. c.now)) c.deref.ensures.value)
    (c.tell.ensures ∙ ap (λ (declared : List Hash). record c.args.state.now { declared = Some declared; next = c.args.saying.load.next; again = c.args.saying.load.again }) (c.in_ok-declared.ensures.items ∙ c.deref-2.ensures.value))
