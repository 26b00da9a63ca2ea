use Rattle.tp_receive.proofs.Common.{◌∙◌, ◌++◌, ◌∷◌, [], ap, sym, append_assoc, List, Hash, has_hash}
use Rattle.tp_receive.proofs.HashLaws.{has_hash-push}
use Rattle.tp_receive.proofs.hashes.HashSet.add.Goals as goal

pub returns : goal.returns
returns c = λ x.
    ap (λ (l : List Hash). has_hash l x)
    (ap (λ (l : List Hash). c.self.inside.sorted.keys ++ l) c.in_ok-push.ensures.items
    ∙ sym (append_assoc c.self.inside.sorted.keys c.self.inside.late.items (c.args.hash ∷ []))
    ∙ ap (λ (l : List Hash). l ++ c.args.hash ∷ []) c.self.view_is)
    ∙ has_hash-push c.args.self.now c.args.hash x
