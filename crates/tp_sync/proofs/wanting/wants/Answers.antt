use Rattle.tp_sync.proofs.Common.{◌∙◌, ◌++◌, List, take, filter, ap, flat_map, rising, Hash, hash_cmp, ChangeParts, MAX_HASHES, is_absent}
use Rattle.tp_sync.proofs.WantLaws.{wanted_is}
use Rattle.tp_sync.proofs.wanting.wants.Goals as goal

pub returns-clause-wants : goal.returns-clause-wants
returns-clause-wants c =
    let C : List ChangeParts = c.args.graph.now.applied in
    let W : List ChangeParts = c.args.graph.now.waiting in
    let all : List Hash → List Hash = λ l. take MAX_HASHES (rising hash_cmp (filter (is_absent C W) (l ++ flat_map (λ (d : ChangeParts). d.deps) W))) in
    c.truncate.ensures.items
    ∙ ap (take MAX_HASHES) (wanted_is C W c.declared_heads.result.now c.in-Ok.missing.items c.put_absent.new.found.items c.in-Ok.ensures.there c.in_ok-put_absent.ensures)
    ∙ ap all c.declared_heads.ensures
